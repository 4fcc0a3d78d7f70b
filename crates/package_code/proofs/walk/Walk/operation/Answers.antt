use Rattle.std.proofs.Common.{◌≡◌, sym, ◌∙◌, refl, subst}
use Rattle.std.proofs.lemmas.Result.{on_ok_weaker}
use Rattle.ada_tree.specs.ProgramTree.{program_tree, protected_item_tree}
use Rattle.expr_soundness.specs.meaning.specs.Programs.{program_of}
use Rattle.step_simulation.specs.part_code.specs.Emitting.{HasEntries}
use Rattle.step_simulation.specs.part_code.specs.Providing.{HasWhatCodeNeeds}
use Rattle.package_code.specs.Bodies.{of_object}
use Rattle.package_code.specs.Walking.{AddsBody, behind_operation, first_visible, operation_visible}
use Rattle.package_code.proofs.SeenInside.{operation_entries}
use Rattle.package_code.proofs.WalkedInside.{front_there}
use Rattle.package_code.proofs.walk.Walk.operation.Goals as goal

pub inside_body-requires-clause-entries : goal.inside_body-requires-clause-entries
inside_body-requires-clause-entries c =
    let whole = (program_of (program_tree c.args.accepted.now)).scope in
    let directory = c.args.directory.now in
    let components = c.args.components.now in
    let i = protected_item_tree c.args.item.now in
    let v = c.args.self.now.visible in
    let seen : c.see_operation.new.visible ≡ operation_visible whole directory c.args.object components i v =
    c.in_ok-see_operation.ensures.seen ∙ (λ j. operation_visible (c.scope-whole.ensures j) directory (c.from-inside.ensures j) components i v) in
    subst HasEntries (sym seen) (operation_entries whole directory c.args.object components i v c.requires.entries)

pub inside_body-requires-clause-covered : goal.inside_body-requires-clause-covered
inside_body-requires-clause-covered c =
    let whole = (program_of (program_tree c.args.accepted.now)).scope in
    let directory = c.args.directory.now in
    let components = c.args.components.now in
    let i = protected_item_tree c.args.item.now in
    let v = c.args.self.now.visible in
    let seen : c.see_operation.new.visible ≡ operation_visible whole directory c.args.object components i v =
    c.in_ok-see_operation.ensures.seen ∙ (λ j. operation_visible (c.scope-whole.ensures j) directory (c.from-inside.ensures j) components i v) in
    subst (HasWhatCodeNeeds c.args.self.now.draft.exceptions.items) (sym seen) c.requires.covered

pub returns-clause-adds : goal.returns-clause-adds
returns-clause-adds c =
    let t = program_tree c.args.accepted.now in
    let whole = (program_of t).scope in
    let directory = c.args.directory.now in
    let o = c.args.object in
    let components = c.args.components.now in
    let i = protected_item_tree c.args.item.now in
    let v = c.args.self.now.visible in
    let seen : c.see_operation.new.visible ≡ operation_visible whole directory o components i v =
    c.in_ok-see_operation.ensures.seen ∙ (λ j. operation_visible (c.scope-whole.ensures j) directory (c.from-inside.ensures j) components i v) in
    let after = c.inside_body.new.self in
    on_ok_weaker c.see_behind.result
    (λ behind. record {
      after = after;
      adds = subst (λ s. AddsBody t directory (of_object o s i) (record c.args.self.now { visible = operation_visible whole directory o components i v }) after)
          (front_there whole directory o components i v)
          (subst (λ z. AddsBody t directory (of_object o z.scope i) (record c.args.self.now { visible = z }) after) seen c.in_ok-inside_body.ensures.adds);
      told = c.in_ok-inside_body.ensures.told;
      visible = behind
          ∙ (λ j. behind_operation (c.scope-whole.ensures j) directory (c.from-inside.ensures j) i
          (first_visible (c.len-len.ensures.value j) ((c.in_ok-inside_body.ensures.adds.visible ∙ seen) j)));
      draft = refl;
      subprograms = refl;
      place = c.in_ok-inside_body.ensures.adds.place;
    })
    c.see_behind.ensures.seen
