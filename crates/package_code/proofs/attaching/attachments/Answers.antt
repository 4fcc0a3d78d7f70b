use Rattle.std.proofs.Common.{◌≡◌, ◌+◌, ◌-◌, ◌++◌, suc, arith, sym, ap, ◌∙◌}
use Rattle.std.proofs.lemmas.List.{append-nil}
use Rattle.base.specs.declared.limits.TheConstants.{CHANNELS}
use Rattle.ada_tree.specs.ProgramTree.{program_tree}
use Rattle.expr_soundness.specs.meaning.specs.Programs.{program_of}
use Rattle.package_code.specs.Handlers.{attachments_from}
use Rattle.package_code.proofs.HandlerSearch.{attached_next, attached_past}
use Rattle.package_code.proofs.attaching.attachments.Goals as goal
use Rattle.package_code.proofs.attaching.attachments.Goals.{in-Some+in_ok-push, in_default}

pub loop-channel-preserved : goal.loop-channel-preserved
loop-channel-preserved c =
    let t = program_tree c.args.accepted.now in
    let s = (program_of t).scope in
    let d = c.args.directory.now in
    let l = c.loop-channel in
    let left = CHANNELS + 1 - (l.channel + 1) in
    let more : CHANNELS + 1 - l.channel ≡ suc (CHANNELS + 1 - (l.channel + 1)) = omega (arith, c.loop-channel-test.true) in
    let before = ap (λ m. l.attachments.items ++ attachments_from s d t.package_ l.channel m) (sym more) ∙ l.invariant in
    elim c.match-handler_number.branch [
      | in-Some+in_ok-push w ↦
          ap (λ x. x.items ++ attachments_from s d t.package_ (l.channel + 1) left) w.attachments-is
          ∙ ap (λ done. done ++ attachments_from s d t.package_ (l.channel + 1) left) w.in_ok-push.ensures.items
          ∙ attached_next s d t.package_ l.attachments.items l.channel left w.in-Some.subprogram (sym c.handler_number.ensures ∙ w.in-Some.is)
          ∙ before
      | in_default w ↦
          ap (λ x. x.items ++ attachments_from s d t.package_ (l.channel + 1) left) w.attachments-is
          ∙ attached_past s d t.package_ l.attachments.items l.channel left (sym c.handler_number.ensures ∙ w.in_default.is)
          ∙ before
    ]

pub returns-clause-attachments : goal.returns-clause-attachments
returns-clause-attachments c =
    let t = program_tree c.args.accepted.now in
    let l = c.loop-channel in
    let none : CHANNELS + 1 - l.channel ≡ 0 = omega (arith, c.loop-channel-test.false) in
    sym (append-nil l.attachments.items)
    ∙ ap (λ m. l.attachments.items ++ attachments_from (program_of t).scope c.args.directory.now t.package_ l.channel m) (sym none)
    ∙ l.invariant
