use Rattle.std.proofs.Common.{◌≡◌, drop, map}
use Rattle.ada_tree.specs.StatementTree.{declaration_tree}
use Rattle.diagnostics.specs.counterparts.Fronts.{first_local}
use Rattle.diagnostics.proofs.counterparts.fronts.first_local.Given as goal

-- what is left decides
abbrev pub invariant-loop-declaration : goal.invariant-loop-declaration
invariant-loop-declaration l =
    first_local l.fn.name l.fn.place (map declaration_tree (drop l.declaration-index l.fn.declarations))
    ≡ first_local l.fn.name l.fn.place (map declaration_tree l.fn.declarations)
