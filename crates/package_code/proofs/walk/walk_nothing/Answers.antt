use Rattle.std.proofs.Common.{length, sym, ap, ◌∙◌}
use Rattle.ada_tree.specs.StatementTree.{optional_tree}
use Rattle.ada_tree.specs.ProgramTree.{package_tree, program_tree}
use Rattle.program_soundness.specs.Fronts.{declared_in, start_in}
use Rattle.package_code.specs.Directory.{operations_told}
use Rattle.package_code.proofs.AsTold.{begins_told}
use Rattle.package_code.proofs.Walked.{walk_begins}
use Rattle.package_code.proofs.walk.walk_nothing.Goals as goal

pub returns-clause-walked : goal.returns-clause-walked
returns-clause-walked c =
    walk_begins (program_tree c.args.accepted.now) c.args.directory.now c.in_ok-standard.field-0 c.in_ok-operations.operations _ c.in_ok-walk.walk
    c.in_ok-walk.ensures.begins (c.in_ok-standard.ensures ∙ ap (λ o. start_in (optional_tree package_tree o)) (sym c.requires.is))
    (c.in_ok-operations.ensures.numbers ∙ ap (λ s. operations_told s c.args.directory.now) c.scope.ensures) c.requires.exceptions

pub returns-clause-whole : goal.returns-clause-whole
returns-clause-whole c =
    c.in_ok-walk.ensures.begins.place ∙ ap (λ o. length (declared_in (optional_tree package_tree o))) (sym c.requires.is)

pub returns-clause-told : goal.returns-clause-told
returns-clause-told c =
    begins_told (program_tree c.args.accepted.now) c.args.directory.now c.requires.directory c.in_ok-standard.field-0 c.in_ok-operations.operations _
    c.in_ok-walk.walk c.in_ok-walk.ensures.begins (c.in_ok-standard.ensures ∙ ap (λ o. start_in (optional_tree package_tree o)) (sym c.requires.is))
    (c.in_ok-operations.ensures.numbers ∙ ap (λ s. operations_told s c.args.directory.now) c.scope.ensures)
