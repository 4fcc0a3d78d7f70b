-- The span of a whole text.
use Rattle.std.proofs.Common.{arith, ◌≡◌, ℕ, ◌≤◌, [], ap, subst, sym}
use Rattle.ada2012_lexer.specs.declared.token.Span.{Span}
use Rattle.ada2012_tree.specs.Spans.{SpanTrees, LieBetween, Nested, Node}
use Rattle.ada2012_parser.specs.declared.parser.Parser.{Parser}
use Rattle.ada2012_parser.specs.Reading.{Reads, here, next_start}
use Rattle.ada2012_parser.proofs.Between.{lie_to}

-- the units of a text, up to its end
pub whole_nested : (units : SpanTrees) (p q : Parser) (span : Span) → Reads (here p) p q units → q.rest.now ≡ [] → span.start ≡ here p → q.last ≤ span.end_
    → Nested (Node span units)
whole_nested units p q span h all starts ends = (
  omega (arith, h.onwards, ap next_start all, starts, ends),
  subst (λ (f : ℕ). LieBetween f span.end_ units) (sym starts) (lie_to units (here p) q.last span.end_ h.between ends),
)
