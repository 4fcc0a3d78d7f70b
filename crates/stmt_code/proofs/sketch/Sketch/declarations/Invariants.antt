use Rattle.std.proofs.Common.{drop, map}
use Rattle.ada_tree.specs.StatementTree.{declaration_tree}
use Rattle.stmt_code.proofs.DeclarationsMade.{DeclaresRest}
use Rattle.stmt_code.proofs.sketch.Sketch.declarations.Given as goal

abbrev pub invariant-loop-declaration : goal.invariant-loop-declaration
invariant-loop-declaration l =
    DeclaresRest l.fn.visible l.taken l.fn.self (map declaration_tree l.all) l.visible l.more l.self (map declaration_tree (drop l.declaration-index l.all))
