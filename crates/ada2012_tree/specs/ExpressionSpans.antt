-- The spans of expressions and names.
use Rattle.std.specs.Prelude.{List, [], ◌∷◌, ◌++◌, map}
use Rattle.ada2012_lexer.specs.declared.token.Span.{Span}
use Rattle.ada2012_tree.specs.declared.expression.Identifier.{Identifier}
use Rattle.ada2012_tree.specs.declared.expression.Name.{Name}
use Rattle.ada2012_tree.specs.declared.expression.Selector.{Selector}
use Rattle.ada2012_tree.specs.declared.expression.Selector as selector
use Rattle.ada2012_tree.specs.declared.expression.AttributeName.{AttributeName}
use Rattle.ada2012_tree.specs.declared.expression.AttributeName.TheVariants as attribute
use Rattle.ada2012_tree.specs.declared.expression.Association.{Association}
use Rattle.ada2012_tree.specs.declared.expression.Choice.{Choice}
use Rattle.ada2012_tree.specs.declared.expression.Choice as choice
use Rattle.ada2012_tree.specs.declared.expression.Range.{Range}
use Rattle.ada2012_tree.specs.declared.expression.Condition.{Condition}
use Rattle.ada2012_tree.specs.declared.expression.Operand.{Operand}
use Rattle.ada2012_tree.specs.declared.expression.Expr.{Expr}
use Rattle.ada2012_tree.specs.declared.expression.ExprKind.{ExprKind, Row_of-Selector, end_of-Selector, more_of-Selector, Row_of-Association, end_of-Association, more_of-Association, Row_of-Choice, end_of-Choice, more_of-Choice, Row_of-Condition, end_of-Condition, more_of-Condition, Row_of-Operand, end_of-Operand, more_of-Operand}
use Rattle.ada2012_tree.specs.declared.expression.ExprKind as kind
use Rattle.ada2012_tree.specs.Spans.{SpanTree, SpanTrees, Node, NoTrees, MoreTrees, joined, only, trees_of}

abbrev pub leaf : Span → SpanTree
leaf span = Node span NoTrees

abbrev pub identifier_spans : Identifier → SpanTree
identifier_spans identifier = leaf identifier.span

abbrev pub attribute_spans : AttributeName → SpanTree
attribute_spans (attribute.Identifier identifier) = identifier_spans identifier
attribute_spans (attribute.Word word span) = leaf span

abbrev mutual
  -- the nodes in an expression, in their order
  pub kind_spans : ExprKind → SpanTrees
  kind_spans (kind.Integer value) = NoTrees
  kind_spans kind.Real = NoTrees
  kind_spans (kind.Character c) = NoTrees
  kind_spans kind.StringLiteral = NoTrees
  kind_spans (kind.Name' span prefix shape selectors) = only (Node span (MoreTrees (identifier_spans prefix) (selectors_of_row selectors)))
  kind_spans (kind.Parenthesized' p span inner) = only (Node span (kind_spans inner))
  kind_spans (kind.Aggregate' shape associations) = associations_of_row associations
  kind_spans (kind.Conditional' shape conditions p span value) = joined (conditions_of_row conditions) (only (Node span (kind_spans value)))
  kind_spans (kind.Unary' operator p span operand) = only (Node span (kind_spans operand))
  kind_spans (kind.Chain' p span first shape operands) = MoreTrees (Node span (kind_spans first)) (operands_of_row operands)
  kind_spans (kind.Membership' p span value membership shape choices) = MoreTrees (Node span (kind_spans value)) (choices_of_row choices)

  pub selectors_of_row : {m : _} → Row_of-Selector m → SpanTrees
  selectors_of_row end_of-Selector = NoTrees
  selectors_of_row (more_of-Selector one rest) = MoreTrees (selector_spans one) (selectors_of_row rest)

  pub selector_spans : Selector → SpanTree
  selector_spans (selector.Component span name) = Node span (only (identifier_spans name))
  selector_spans (selector.Arguments' span shape associations) = Node span (associations_of_row associations)
  selector_spans (selector.Attribute span name) = Node span (only (attribute_spans name))
  selector_spans (selector.Qualified' span p operand_span operand) = Node span (only (Node operand_span (kind_spans operand)))

  pub associations_of_row : {m : _} → Row_of-Association m → SpanTrees
  associations_of_row end_of-Association = NoTrees
  associations_of_row (more_of-Association span shape choices value_span value rest) =
      MoreTrees (Node span (joined (choices_of_row choices) (only (Node value_span (kind_spans value))))) (associations_of_row rest)

  pub choices_of_row : {m : _} → Row_of-Choice m → SpanTrees
  choices_of_row end_of-Choice = NoTrees
  choices_of_row (more_of-Choice one rest) = MoreTrees (choice_spans one) (choices_of_row rest)

  pub choice_spans : Choice → SpanTree
  choice_spans (choice.Value' span value) = Node span (kind_spans value)
  choice_spans (choice.Range' span first_span first last_span last) =
      Node span (MoreTrees (Node first_span (kind_spans first)) (only (Node last_span (kind_spans last))))
  choice_spans (choice.Others span) = leaf span

  pub conditions_of_row : {m : _} → Row_of-Condition m → SpanTrees
  conditions_of_row end_of-Condition = NoTrees
  conditions_of_row (more_of-Condition span condition_span condition value_span value rest) =
      MoreTrees (Node span (MoreTrees (Node condition_span (kind_spans condition)) (only (Node value_span (kind_spans value))))) (conditions_of_row rest)

  pub operands_of_row : {m : _} → Row_of-Operand m → SpanTrees
  operands_of_row end_of-Operand = NoTrees
  operands_of_row (more_of-Operand span operator value_span value rest) =
      MoreTrees (Node span (only (Node value_span (kind_spans value)))) (operands_of_row rest)

abbrev pub expr_spans : Expr → SpanTree
expr_spans e = Node e.span (kind_spans e.kind)

abbrev pub name_spans : Name → SpanTree
name_spans n = Node n.span (MoreTrees (identifier_spans n.prefix) (trees_of (map selector_spans n.selectors.items)))

abbrev pub association_spans : Association → SpanTree
association_spans a = Node a.span (joined (trees_of (map choice_spans a.choices.items)) (only (expr_spans a.value)))

abbrev pub range_spans : Range → SpanTree
range_spans r = Node r.span (MoreTrees (expr_spans r.first) (only (expr_spans r.last)))

abbrev pub condition_spans : Condition → SpanTree
condition_spans c = Node c.span (MoreTrees (expr_spans c.condition) (only (expr_spans c.value)))

abbrev pub operand_spans : Operand → SpanTree
operand_spans o = Node o.span (only (expr_spans o.value))
