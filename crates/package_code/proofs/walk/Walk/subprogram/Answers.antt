use Rattle.std.proofs.Common.{◌≡◌, suc, ◌+◌, length, Some, ap, refl, rules, sym, ◌∙◌, subst}
use Rattle.ada_tree.specs.StatementTree.{subprogram_tree}
use Rattle.ada_tree.specs.ProgramTree.{body_tree, program_tree}
use Rattle.expr_soundness.specs.meaning.specs.Programs.{program_of}
use Rattle.program_soundness.specs.Fronts.{front}
use Rattle.expr_code.specs.Code.{here}
use Rattle.step_simulation.specs.part_code.specs.Providing.{HasWhatCodeNeeds}
use Rattle.package_code.specs.Bodies.{bodies_before, of_subprogram}
use Rattle.package_code.specs.Stopping.{IsHalt}
use Rattle.package_code.proofs.AsTold.{body_halts, entries_next, number_there, seen_there, subprogram_told}
use Rattle.package_code.proofs.Told.{Grows, subprogram_grows}
use Rattle.package_code.proofs.ItemsTold.{plus_none}
use Rattle.package_code.proofs.Walked.{body_goes, may_be_added}
use Rattle.package_code.proofs.walk.Walk.subprogram.Goals as goal

pub body-requires-clause-added : goal.body-requires-clause-added
body-requires-clause-added c =
    may_be_added (program_tree c.args.accepted.now) c.args.directory.now c.args.self.now (subprogram_tree c.args.subprogram.now)
    (body_tree c.args.body.now) c.declare_subprogram.new.scope c.scope.result.now c.tell.new.visible c.requires.walked c.requires.at
    c.in_ok-declare_subprogram.ensures.ok c.scope.ensures c.in_ok-tell.ensures.tells
    (c.requires.covered
    (of_subprogram (front (program_tree c.args.accepted.now) (suc c.args.self.now.place)) (subprogram_tree c.args.subprogram.now) (body_tree c.args.body.now))
    (record { place = c.args.self.now.place; item = _; index = 0; at = c.requires.at; coded = refl })).added

pub body-requires-clause-covered : goal.body-requires-clause-covered
body-requires-clause-covered c =
    let t = program_tree c.args.accepted.now in
    let d = subprogram_tree c.args.subprogram.now in
    let b = body_tree c.args.body.now in
    let seen = seen_there t c.args.directory.now c.requires.directory c.args.self.now d b c.declare_subprogram.new.scope c.scope.result.now c.tell.new.visible
    c.requires.told c.requires.at c.in_ok-declare_subprogram.ensures.ok c.scope.ensures c.in_ok-tell.ensures.tells in
    subst (λ e. HasWhatCodeNeeds e c.tell.new.visible) (sym c.requires.walked.exceptions)
    (subst (HasWhatCodeNeeds (program_of t).exceptions) (sym seen)
    (c.requires.covered (of_subprogram (front t (suc c.args.self.now.place)) d b)
    (record { place = c.args.self.now.place; item = _; index = 0; at = c.requires.at; coded = refl })).names)

pub returns-in-Ok-clause-walked : goal.returns-in-Ok-clause-walked
returns-in-Ok-clause-walked c =
    body_goes (program_tree c.args.accepted.now) c.args.directory.now c.args.self.now (subprogram_tree c.args.subprogram.now)
    (body_tree c.args.body.now) c.declare_subprogram.new.scope c.scope.result.now c.tell.new.visible c.requires.walked c.requires.at
    c.in_ok-declare_subprogram.ensures.ok c.scope.ensures c.in_ok-tell.ensures.tells
    _ c.body.new.self _ refl refl refl c.in-Ok.ensures.adds (ap (λ n. n + 1) c.in-Ok.ensures.adds.place) refl refl refl

pub tell-requires : goal.tell-requires
tell-requires c =
    record {
      next =
          entries_next c.args.self.now.visible (record c.args.self.now.visible { scope = c.declare_subprogram.new.scope }) (subprogram_tree c.args.subprogram.now).name.name c.requires.walked.told.entries
          (subst (Grows c.args.self.now.visible.scope (subprogram_tree c.args.subprogram.now).name.name) (sym c.in_ok-declare_subprogram.ensures.ok)
          (subprogram_grows c.args.self.now.visible.scope (subprogram_tree c.args.subprogram.now))) refl refl;
    }

pub body-requires-clause-numbered : goal.body-requires-clause-numbered
body-requires-clause-numbered c =
    number_there (program_tree c.args.accepted.now) c.args.directory.now c.requires.directory c.args.self.now (subprogram_tree c.args.subprogram.now)
    (body_tree c.args.body.now) c.declare_subprogram.new.scope c.scope.result.now c.tell.new.visible c.requires.told c.requires.at
    c.in_ok-declare_subprogram.ensures.ok c.scope.ensures c.in_ok-tell.ensures.tells
    (length c.args.self.now.subprograms.items)
    ((c.bodies_are_numbered.ensures (program_tree c.args.accepted.now) c.requires.legal c.requires.restricted c.args.self.now.place _ 0 _ c.requires.at refl).0
    ∙ ap Some (plus_none (bodies_before (program_tree c.args.accepted.now) c.args.self.now.place) ∙ sym c.requires.walked.many))

pub returns-in-Ok-clause-told : goal.returns-in-Ok-clause-told
returns-in-Ok-clause-told c =
    let t = program_tree c.args.accepted.now in
    let d = subprogram_tree c.args.subprogram.now in
    let b = body_tree c.args.body.now in
    subprogram_told t c.args.directory.now c.args.self.now d b c.requires.told c.requires.at _ c.body.new.self _
    (seen_there t c.args.directory.now c.requires.directory c.args.self.now d b c.declare_subprogram.new.scope c.scope.result.now c.tell.new.visible
    c.requires.told c.requires.at c.in_ok-declare_subprogram.ensures.ok c.scope.ensures c.in_ok-tell.ensures.tells)
    refl c.in-Ok.ensures.adds c.in-Ok.ensures.told (ap (λ n. n + 1) c.in-Ok.ensures.adds.place) refl refl

pub returns-in-Err-clause-halts : goal.returns-in-Err-clause-halts
returns-in-Err-clause-halts c =
    let t = program_tree c.args.accepted.now in
    let d = subprogram_tree c.args.subprogram.now in
    let b = body_tree c.args.body.now in
    let before : c.len-before.result ≡ here c.args.self.now.draft.code = search rules in
    let seen = seen_there t c.args.directory.now c.requires.directory c.args.self.now d b c.declare_subprogram.new.scope c.scope.result.now c.tell.new.visible
    c.requires.told c.requires.at c.in_ok-declare_subprogram.ensures.ok c.scope.ensures c.in_ok-tell.ensures.tells in
    subst (IsHalt t) (sym c.halt_for.ensures)
    (body_halts t c.args.directory.now c.args.self.now _ (of_subprogram (front t (suc c.args.self.now.place)) d b) c.tell.new.visible c.requires.walked
    c.requires.told c.requires.at refl seen c.len-before.result before c.in-Err.why c.in-Err.ensures.refused)
