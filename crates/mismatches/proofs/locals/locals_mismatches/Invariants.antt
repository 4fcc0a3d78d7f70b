use Rattle.std.proofs.Common.{◌≡◌, drop, map}
use Rattle.ada_tree.specs.StatementTree.{declaration_tree}
use Rattle.declaration_rules.specs.LocalRules.{locals_scope}
use Rattle.mismatches.specs.Conflicts.{noted}
use Rattle.mismatches.specs.StatementMismatches.{locals_mismatches}
use Rattle.mismatches.proofs.locals.locals_mismatches.Given as goal

abbrev pub invariant-loop-declaration : goal.invariant-loop-declaration
invariant-loop-declaration l =
    (noted l.search (locals_mismatches l.scope l.is_fixed (map declaration_tree (drop l.declaration-index l.declarations)))
    ≡ noted l.fn.search (locals_mismatches l.fn.scope l.is_fixed (map declaration_tree l.declarations)))
    × (locals_scope l.scope (map declaration_tree (drop l.declaration-index l.declarations)) ≡ locals_scope l.fn.scope (map declaration_tree l.declarations))
