use Rattle.std.proofs.Common.{◌≡◌, drop, map}
use Rattle.ada_tree.specs.StatementTree.{declaration_tree}
use Rattle.expr_rules.specs.Findings.{noted}
use Rattle.body_restrictions.specs.BodyRules.{locals_faults}
use Rattle.body_restrictions.proofs.bodies.locals_faults.Given as goal

abbrev pub invariant-loop-declaration : goal.invariant-loop-declaration
invariant-loop-declaration l =
    noted l.found (locals_faults (map declaration_tree (drop l.declaration-index l.declarations)))
    ≡ noted l.fn.found (locals_faults (map declaration_tree l.declarations))
