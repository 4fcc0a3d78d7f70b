use Rattle.std.proofs.Common.{◌≡◌, ◌++◌, map, take}
use Rattle.compiler.specs.ada_tree.specs.ProgramTree.{protected_item_tree}
use Rattle.compiler.specs.package_code.specs.Bodies.{own_name}
use Rattle.adarun.proofs.operations.push_operations.Given as goal

abbrev pub invariant-loop-item : goal.invariant-loop-item
invariant-loop-item l = l.names.items ≡ l.fn.names.items ++ map own_name (map protected_item_tree (take l.item-index l.items))
