-- The spans of a tree: that of each node, with those of the nodes in it in the order of the text.
use Rattle.std.specs.Prelude.{ℕ, ◌≤◌, List, [], ◌∷◌}
use Rattle.ada2012_lexer.specs.declared.token.Span.{Span}

mutual
  -- the span of a node, and the trees of the nodes in it, in their order
  pub data SpanTree : Type 0 where
    Node : Span → SpanTrees → SpanTree

  pub data SpanTrees : Type 0 where
    NoTrees : SpanTrees
    MoreTrees : SpanTree → SpanTrees → SpanTrees

-- the one tree
abbrev pub only : SpanTree → SpanTrees
only tree = MoreTrees tree NoTrees

abbrev pub trees_of : List SpanTree → SpanTrees
trees_of [] = NoTrees
trees_of (tree ∷ trees) = MoreTrees tree (trees_of trees)

-- those of two lists, one after the other
abbrev pub joined : SpanTrees → SpanTrees → SpanTrees
joined NoTrees after = after
joined (MoreTrees tree trees) after = MoreTrees tree (joined trees after)

-- where a node begins and ends
abbrev pub start_of : SpanTree → ℕ
start_of (Node span parts) = span.start

abbrev pub end_of : SpanTree → ℕ
end_of (Node span parts) = span.end_

abbrev mutual
  -- a node doesn't end before it begins, and the nodes in it lie in its span, one after the other
  pub Nested : SpanTree → Type 0
  Nested (Node span parts) = (span.start ≤ span.end_) × LieBetween span.start span.end_ parts

  -- nodes lie between two places, one after the other, and the nodes in each of them lie in it
  pub LieBetween : (from to : ℕ) → SpanTrees → Type 0
  LieBetween from to NoTrees = Unit {0}
  LieBetween from to (MoreTrees tree trees) = (from ≤ start_of tree) × (end_of tree ≤ to) × Nested tree × LieBetween (end_of tree) to trees
