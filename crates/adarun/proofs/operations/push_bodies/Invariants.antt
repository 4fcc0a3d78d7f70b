use Rattle.std.proofs.Common.{◌≡◌, ◌++◌, map, take}
use Rattle.compiler.specs.ada_tree.specs.ProgramTree.{body_item_tree}
use Rattle.adarun.specs.Operations.{body_names}
use Rattle.adarun.proofs.operations.push_bodies.Given as goal

abbrev pub invariant-loop-item : goal.invariant-loop-item
invariant-loop-item l = l.names.items ≡ l.fn.names.items ++ body_names (map body_item_tree (take l.item-index l.items))
