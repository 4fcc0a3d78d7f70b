use Rattle.std.proofs.Common.{sym, ap, ◌∙◌}
use Rattle.ada_tree.specs.StatementTree.{optional_tree}
use Rattle.ada_tree.specs.ProgramTree.{package_tree, program_tree}
use Rattle.program_soundness.specs.Fronts.{start_in}
use Rattle.package_code.specs.Directory.{operations_told}
use Rattle.package_code.proofs.AsTold.{begins_told}
use Rattle.package_code.proofs.Declared.{body_stands, declared_many, specification_stands}
use Rattle.package_code.proofs.Stops.{none_declared}
use Rattle.package_code.proofs.Walked.{walk_begins}
use Rattle.package_code.proofs.walk.walk_package.Goals as goal

pub declarations-requires-clause-walked : goal.declarations-requires-clause-walked
declarations-requires-clause-walked c =
    walk_begins (program_tree c.args.accepted.now) c.args.directory.now c.in_ok-inside_scope.field-0 c.in_ok-operations.operations _ c.in_ok-walk.walk
    c.in_ok-walk.ensures.begins (c.in_ok-inside_scope.ensures ∙ ap (λ o. start_in (optional_tree package_tree o)) (sym c.requires.is))
    (c.in_ok-operations.ensures.numbers ∙ ap (λ s. operations_told s c.args.directory.now) c.scope.ensures) c.requires.exceptions

pub declarations-requires-clause-at : goal.declarations-requires-clause-at
declarations-requires-clause-at c =
    specification_stands c.args.accepted.now.package_ c.args.package_.now c.deref.result.now c.in_ok-walk.walk.place c.requires.is c.deref.ensures.value
    c.in_ok-walk.ensures.begins.place

pub bodies-requires-clause-at : goal.bodies-requires-clause-at
bodies-requires-clause-at c =
    body_stands c.args.accepted.now.package_ c.args.package_.now c.deref.result.now c.deref-2.result.now c.in_ok-walk.walk.place
    c.declarations.new.self.place c.requires.is c.deref.ensures.value c.deref-2.ensures.value c.in_ok-walk.ensures.begins.place c.in_ok-declarations.ensures.place

pub returns-clause-whole : goal.returns-clause-whole
returns-clause-whole c =
    declared_many c.args.accepted.now.package_ c.args.package_.now c.deref.result.now c.deref-2.result.now c.in_ok-walk.walk.place
    c.declarations.new.self.place c.bodies.new.self.place c.requires.is c.deref.ensures.value c.deref-2.ensures.value c.in_ok-walk.ensures.begins.place
    c.in_ok-declarations.ensures.place c.in_ok-bodies.ensures.place

pub declarations-requires-clause-told : goal.declarations-requires-clause-told
declarations-requires-clause-told c =
    begins_told (program_tree c.args.accepted.now) c.args.directory.now c.requires.directory c.in_ok-inside_scope.field-0 c.in_ok-operations.operations _
    c.in_ok-walk.walk c.in_ok-walk.ensures.begins
    (c.in_ok-inside_scope.ensures ∙ ap (λ o. start_in (optional_tree package_tree o)) (sym c.requires.is))
    (c.in_ok-operations.ensures.numbers ∙ ap (λ s. operations_told s c.args.directory.now) c.scope.ensures)

pub bodies-requires-clause-few : goal.bodies-requires-clause-few
bodies-requires-clause-few c =
    none_declared c.args.accepted.now.package_ c.args.package_.now c.deref.result.now c.declarations.new.self c.in_ok-walk.walk.place c.requires.is
    c.deref.ensures.value c.in_ok-walk.ensures.begins.place c.in_ok-declarations.ensures.place c.in_ok-declarations.ensures.told.rows
