use Rattle.std.proofs.Common.{◌≡◌, suc, ◌+◌, length, Some, ap, refl, rules, sym, ◌∙◌, subst}
use Rattle.ada_tree.specs.ProgramTree.{body_tree, program_tree}
use Rattle.expr_soundness.specs.meaning.specs.Programs.{program_of}
use Rattle.program_soundness.specs.Fronts.{front}
use Rattle.expr_code.specs.Code.{here}
use Rattle.step_simulation.specs.part_code.specs.Providing.{HasWhatCodeNeeds}
use Rattle.package_code.specs.Bodies.{bodies_before, of_task}
use Rattle.package_code.specs.Stopping.{IsHalt}
use Rattle.package_code.specs.Walking.{AddsBody}
use Rattle.package_code.proofs.AsTold.{body_halts, body_told, task_number, task_seen}
use Rattle.package_code.proofs.ItemsTold.{plus_none}
use Rattle.package_code.proofs.Walked.{task_goes, task_may_be_added}
use Rattle.package_code.proofs.walk.Walk.task.Goals as goal

pub task_body-requires-clause-added : goal.task_body-requires-clause-added
task_body-requires-clause-added c =
    task_may_be_added (program_tree c.args.accepted.now) c.args.directory.now c.args.self.now c.args.name.now (body_tree c.args.body.now) c.requires.walked
    c.requires.at
    (c.requires.covered (of_task (front (program_tree c.args.accepted.now) (suc c.args.self.now.place)) c.args.name.now (body_tree c.args.body.now))
    (record { place = c.args.self.now.place; item = _; index = 0; at = c.requires.at; coded = refl })).added

pub task_body-requires-clause-covered : goal.task_body-requires-clause-covered
task_body-requires-clause-covered c =
    let t = program_tree c.args.accepted.now in
    let name = c.args.name.now in
    let b = body_tree c.args.body.now in
    subst (λ e. HasWhatCodeNeeds e c.args.self.now.visible) (sym c.requires.walked.exceptions)
    (subst (HasWhatCodeNeeds (program_of t).exceptions) (sym (task_seen t c.args.self.now name b c.requires.told c.requires.at))
    (c.requires.covered (of_task (front t (suc c.args.self.now.place)) name b)
    (record { place = c.args.self.now.place; item = _; index = 0; at = c.requires.at; coded = refl })).names)

pub task_body-requires-clause-numbered : goal.task_body-requires-clause-numbered
task_body-requires-clause-numbered c =
    let t = program_tree c.args.accepted.now in
    let told = c.bodies_are_numbered.ensures t c.requires.legal c.requires.restricted c.args.self.now.place _ 0 _ c.requires.at refl in
    task_number t c.args.directory.now c.requires.directory c.args.name.now.name (told.1 refl)
    (length c.args.self.now.subprograms.items)
    (told.0 ∙ ap Some (plus_none (bodies_before t c.args.self.now.place) ∙ sym c.requires.walked.many))

pub returns-in-Ok-clause-walked : goal.returns-in-Ok-clause-walked
returns-in-Ok-clause-walked c =
    task_goes (program_tree c.args.accepted.now) c.args.directory.now c.args.self.now c.args.name.now (body_tree c.args.body.now) c.requires.walked
    c.requires.at c.task_body.new.self _ c.in-Ok.ensures.adds (ap (λ n. n + 1) c.in-Ok.ensures.adds.place) refl refl refl

pub returns-in-Ok-clause-told : goal.returns-in-Ok-clause-told
returns-in-Ok-clause-told c =
    let t = program_tree c.args.accepted.now in
    let name = c.args.name.now in
    let b = body_tree c.args.body.now in
    let seen = task_seen t c.args.self.now name b c.requires.told c.requires.at in
    let scope = ap (λ v. v.scope) seen in
    body_told t c.args.directory.now c.args.self.now _ (of_task (front t (suc c.args.self.now.place)) name b) c.requires.told c.requires.at refl
    c.args.self.now c.task_body.new.self _ seen scope refl
    (subst (λ s. AddsBody t c.args.directory.now (of_task s name b) c.args.self.now c.task_body.new.self) scope c.in-Ok.ensures.adds)
    c.in-Ok.ensures.told (ap (λ n. n + 1) c.in-Ok.ensures.adds.place) refl refl

pub returns-in-Err-clause-halts : goal.returns-in-Err-clause-halts
returns-in-Err-clause-halts c =
    let t = program_tree c.args.accepted.now in
    let name = c.args.name.now in
    let b = body_tree c.args.body.now in
    let before : c.len-before.result ≡ here c.args.self.now.draft.code = search rules in
    subst (IsHalt t) (sym c.halt_for.ensures)
    (body_halts t c.args.directory.now c.args.self.now _ (of_task (front t (suc c.args.self.now.place)) name b) c.args.self.now.visible c.requires.walked
    c.requires.told c.requires.at refl (task_seen t c.args.self.now name b c.requires.told c.requires.at) c.len-before.result before c.in-Err.why
    c.in-Err.ensures.refused)
