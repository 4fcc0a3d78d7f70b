-- Trees of spans that are nested, and some that aren't.
use Rattle.std.proofs.Common.{arith, rules, ℕ}
use Rattle.ada2012_lexer.specs.declared.token.Span.{Span}
use Rattle.ada2012_tree.specs.Spans.{SpanTree, Node, NoTrees, MoreTrees, Nested, only}

abbrev between : (start end_ : ℕ) → Span
between start end_ = record { start = start; end_ = end_ }

abbrev leaf_at : (start end_ : ℕ) → SpanTree
leaf_at start end_ = Node (between start end_) NoTrees

-- A + F (1): the chain, its first operand, and the operator with the call after it
abbrev sum_of_name_and_call : SpanTree
sum_of_name_and_call =
    Node (between 0 9) (MoreTrees (leaf_at 0 1) (only (Node (between 2 9) (only (Node (between 4 9) (MoreTrees (leaf_at 4 5) (only (leaf_at 6 9))))))))

sum_is_nested : Nested sum_of_name_and_call
sum_is_nested = search rules

-- parts that overlap
overlapping_parts : Nested (Node (between 0 9) (MoreTrees (leaf_at 0 5) (only (leaf_at 4 9)))) → ⊥
overlapping_parts h = absurd (omega (arith, h))

-- a part that ends after its node
part_beyond : Nested (Node (between 0 9) (only (leaf_at 4 10))) → ⊥
part_beyond h = absurd (omega (arith, h))

-- parts in another order than that of the text
parts_exchanged : Nested (Node (between 0 9) (MoreTrees (leaf_at 5 9) (only (leaf_at 0 5)))) → ⊥
parts_exchanged h = absurd (omega (arith, h))

-- a node that ends before it begins
turned_over : Nested (leaf_at 5 4) → ⊥
turned_over h = absurd (omega (arith, h))
