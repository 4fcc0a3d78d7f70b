use Rattle.std.proofs.Common.{◌≡◌, drop, map}
use Rattle.ada_tree.specs.StatementTree.{declaration_tree}
use Rattle.diagnostics.specs.counterparts.Nested.{has_local}
use Rattle.diagnostics.proofs.counterparts.nested.has_local.Given as goal

-- what is left decides
abbrev pub invariant-loop-declaration : goal.invariant-loop-declaration
invariant-loop-declaration l =
    has_local l.fn.place (map declaration_tree (drop l.declaration-index l.fn.declarations))
    ≡ has_local l.fn.place (map declaration_tree l.fn.declarations)
