use Rattle.std.proofs.Common.{◌≡◌, drop, map}
use Rattle.ada_tree.specs.StatementTree.{declaration_tree}
use Rattle.expr_rules.specs.Findings.{noted}
use Rattle.declaration_rules.specs.LocalRules.{locals_faults, locals_scope}
use Rattle.declaration_rules.proofs.locals.check_locals.Given as goal

abbrev pub invariant-loop-declaration : goal.invariant-loop-declaration
invariant-loop-declaration l =
    (noted l.found (locals_faults l.scope (map declaration_tree (drop l.declaration-index l.declarations))) ≡ noted l.fn.found (locals_faults l.fn.scope (map declaration_tree l.declarations)))
    × (locals_scope l.scope (map declaration_tree (drop l.declaration-index l.declarations)) ≡ locals_scope l.fn.scope (map declaration_tree l.declarations))
