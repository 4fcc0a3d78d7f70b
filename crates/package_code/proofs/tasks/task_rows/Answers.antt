use Rattle.std.proofs.Common.{sym, ap, ◌∙◌, subst}
use Rattle.ada_tree.specs.StatementTree.{optional_tree}
use Rattle.ada_tree.specs.ProgramTree.{package_tree, program_tree}
use Rattle.expr_soundness.specs.meaning.specs.Programs.{package_items}
use Rattle.package_code.specs.Tasks.{AreKnownTasks}
use Rattle.package_code.proofs.tasks.task_rows.Goals as goal

pub add_package-requires-clause-known : goal.add_package-requires-clause-known
add_package-requires-clause-known c =
    let t = program_tree c.args.accepted.now in
    subst (λ o. AreKnownTasks t (package_items (optional_tree package_tree o)))
    (sym (ap (λ p. p.package_) c.program.ensures.same) ∙ c.in-Some.is)
    (c.tasks_have_bodies.ensures t c.program.ensures.legal c.program.ensures.restricted)
