-- Nodes that lie between two places.
use Rattle.std.proofs.Common.{arith, ◌≡◌, ℕ, ◌≤◌, List, [], ◌∷◌, ◌++◌, map, refl, ap}
use Rattle.ada2012_tree.specs.Spans.{SpanTree, SpanTrees, NoTrees, MoreTrees, LieBetween, end_of, joined, only, trees_of}

-- from an earlier place
lie_from : (trees : SpanTrees) (from at to : ℕ) → LieBetween at to trees → from ≤ at → LieBetween from to trees
lie_from NoTrees from at to h before = tt
lie_from (MoreTrees tree trees) from at to h before = (omega (arith, h.0, before), h.1, h.2, h.3)

-- two rows of nodes, one after the other
pub lie_joined : (trees more : SpanTrees) (from mid at to : ℕ) → LieBetween from mid trees → LieBetween at to more → from ≤ at → mid ≤ at → mid ≤ to
    → LieBetween from to (joined trees more)
lie_joined NoTrees more from mid at to h after before between behind = lie_from more from at to after before
lie_joined (MoreTrees tree trees) more from mid at to h after before between behind =
    (h.0, omega (arith, h.1, behind), h.2, lie_joined trees more (end_of tree) mid at to h.3 after (omega (arith, h.1, between)) between behind)

-- up to a later place
pub lie_to : (trees : SpanTrees) (from mid to : ℕ) → LieBetween from mid trees → mid ≤ to → LieBetween from to trees
lie_to NoTrees from mid to h after = tt
lie_to (MoreTrees tree trees) from mid to h after = (h.0, omega (arith, h.1, after), h.2, lie_to trees (end_of tree) mid to h.3 after)

-- one more at the end of a list
pub trees_more : {A : Type 0} (view : A → SpanTree) (xs : List A) (x : A) → trees_of (map view (xs ++ x ∷ [])) ≡ joined (trees_of (map view xs)) (only (view x))
trees_more view [] x = refl
trees_more view (y ∷ xs) x = ap (MoreTrees (view y)) (trees_more view xs x)
