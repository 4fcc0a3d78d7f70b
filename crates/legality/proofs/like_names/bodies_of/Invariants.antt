use Rattle.std.proofs.Common.{◌≡◌, ◌+◌, ◌-◌, drop, length, map}
use Rattle.ada_tree.specs.ProgramTree.{body_item_tree}
use Rattle.legality.specs.OpenParts.{bodies_from, object_ends}
use Rattle.legality.proofs.like_names.bodies_of.Given as goal

abbrev pub invariant-loop-behind : goal.invariant-loop-behind
invariant-loop-behind l =
    let n = length l.items - l.behind in
    (l.first ≡ bodies_from (n + 1) (map body_item_tree (drop n l.items)))
    × (l.ends.items ≡ object_ends l.whole (n + 1) (map body_item_tree (drop n l.items)))
