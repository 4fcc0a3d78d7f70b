use Rattle.std.proofs.Common.{◌≡◌, ◌++◌, drop, map}
use Rattle.ada_tree.specs.StatementTree.{declaration_tree}
use Rattle.size_rules.specs.BodySizes.{locals_things}
use Rattle.size_rules.proofs.body.push_locals.Given as goal

abbrev pub invariant-loop-declaration : goal.invariant-loop-declaration
invariant-loop-declaration l =
    l.things.items ++ locals_things l.scope (map declaration_tree (drop l.declaration-index l.declarations))
    ≡ l.fn.things.items ++ locals_things l.scope (map declaration_tree l.declarations)
