-- The spans of what stands in vectors.
use Rattle.std.proofs.Common.{rules, ◌≡◌, refl, ap, ◌∙◌, map}
use Rattle.ada2012_lexer.specs.declared.token.Span.{Span}
use Rattle.ada2012_tree.specs.declared.expression.ExprKind.{Row_of-Selector, end_of-Selector, more_of-Selector, items-the_row-Selector, Row_of-Association, end_of-Association, more_of-Association, items-the_row-Association, Row_of-Choice, end_of-Choice, more_of-Choice, items-the_row-Choice, Row_of-Condition, end_of-Condition, more_of-Condition, items-the_row-Condition, Row_of-Operand, end_of-Operand, more_of-Operand, items-the_row-Operand}
use Rattle.ada2012_tree.specs.declared.expression.ExprKind as kinds
use Rattle.ada2012_tree.specs.declared.expression.Selector as selectors
use Rattle.ada2012_tree.specs.Spans.{SpanTree, SpanTrees, Node, NoTrees, MoreTrees, joined, only, trees_of}
use Rattle.ada2012_tree.specs.ExpressionSpans.{expr_spans, kind_spans, selectors_of_row, selector_spans, associations_of_row, association_spans, choices_of_row, choice_spans, conditions_of_row, condition_spans, operands_of_row, operand_spans, name_spans}

pub row_selectors : (n : _) (k : Row_of-Selector n) → selectors_of_row k ≡ trees_of (map selector_spans (items-the_row-Selector n k))
row_selectors n end_of-Selector = refl
row_selectors n (more_of-Selector {n = m} one rest) = ap (MoreTrees (selector_spans one)) (row_selectors m rest)

pub row_choices : (n : _) (k : Row_of-Choice n) → choices_of_row k ≡ trees_of (map choice_spans (items-the_row-Choice n k))
row_choices n end_of-Choice = refl
row_choices n (more_of-Choice {n = m} one rest) = ap (MoreTrees (choice_spans one)) (row_choices m rest)

pub row_associations : (n : _) (k : Row_of-Association n) → associations_of_row k ≡ trees_of (map association_spans (items-the_row-Association n k))
row_associations n end_of-Association = refl
row_associations n (more_of-Association {n = m} span shape choices value_span value rest) = search (rules, row_choices, row_associations m rest, kinds.the_lemmas)

pub row_conditions : (n : _) (k : Row_of-Condition n) → conditions_of_row k ≡ trees_of (map condition_spans (items-the_row-Condition n k))
row_conditions n end_of-Condition = refl
row_conditions n (more_of-Condition {n = m} span condition_span condition value_span value rest) = search (rules, row_conditions m rest, kinds.the_lemmas)

pub row_operands : (n : _) (k : Row_of-Operand n) → operands_of_row k ≡ trees_of (map operand_spans (items-the_row-Operand n k))
row_operands n end_of-Operand = refl
row_operands n (more_of-Operand {n = m} span operator value_span value rest) = search (rules, row_operands m rest, kinds.the_lemmas)
