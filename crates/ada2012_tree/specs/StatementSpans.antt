-- The spans of statements and bodies.
use Rattle.std.specs.Prelude.{map}
use Rattle.ada2012_tree.specs.declared.statement.Statement.{Statement, Row_of-Branch, end_of-Branch, more_of-Branch, Row_of-Alternative, end_of-Alternative, more_of-Alternative, Row_of-Statement, end_of-Statement, more_of-Statement}
use Rattle.ada2012_tree.specs.declared.statement.Statement as statement
use Rattle.ada2012_tree.specs.declared.statement.Branch.{Branch}
use Rattle.ada2012_tree.specs.declared.statement.Alternative.{Alternative}
use Rattle.ada2012_tree.specs.declared.statement.Handler.{Handler}
use Rattle.ada2012_tree.specs.declared.statement.Body.{Body, Body', Row_of-Handler, end_of-Handler, more_of-Handler}
use Rattle.ada2012_tree.specs.declared.declaration.Declaration.{Declaration, Row_of-Declaration, end_of-Declaration, more_of-Declaration}
use Rattle.ada2012_tree.specs.declared.declaration.Declaration as declaration
use Rattle.ada2012_tree.specs.Spans.{SpanTree, SpanTrees, Node, NoTrees, MoreTrees, joined, only, trees_of}
use Rattle.ada2012_tree.specs.ExpressionSpans.{choice_spans, expr_spans, identifier_spans, name_spans}
use Rattle.ada2012_tree.specs.SubtypeSpans.{aspect_spans, formal_spans, indication_spans, optional, pragma_spans, specification_spans}
use Rattle.ada2012_tree.specs.DeclarationSpans.{exception_spans, iteration_spans, object_spans, protected_spans, task_spans, type_spans, use_spans}

abbrev mutual
  pub statement_spans : Statement → SpanTree
  statement_spans (statement.Null span) = Node span NoTrees
  statement_spans (statement.Assignment span target value) = Node span (MoreTrees (name_spans target) (only (expr_spans value)))
  statement_spans (statement.Call span name) = Node span (only (name_spans name))
  statement_spans (statement.Return span value) = Node span (optional expr_spans value)
  statement_spans (statement.Exit span name condition) = Node span (joined (optional identifier_spans name) (optional expr_spans condition))
  statement_spans (statement.Raise span name message) = Node span (joined (optional name_spans name) (optional expr_spans message))
  statement_spans (statement.Delay span value) = Node span (only (expr_spans value))
  statement_spans (statement.DelayUntil span value) = Node span (only (expr_spans value))
  statement_spans (statement.Pragma pragma) = pragma_spans pragma
  statement_spans (statement.If' span s branches t other) = Node span (joined (branches_of_row branches) (statements_of_row other))
  statement_spans (statement.Case' span value s alternatives) = Node span (MoreTrees (expr_spans value) (alternatives_of_row alternatives))
  statement_spans (statement.Loop' span name iteration s statements) =
      Node span (joined (optional identifier_spans name) (joined (iteration_spans iteration) (statements_of_row statements)))
  statement_spans (statement.Block span name body) = Node span (joined (optional identifier_spans name) (only (body_spans body)))

  pub statements_of_row : {m : _} → Row_of-Statement m → SpanTrees
  statements_of_row end_of-Statement = NoTrees
  statements_of_row (more_of-Statement one rest) = MoreTrees (statement_spans one) (statements_of_row rest)

  pub branches_of_row : {m : _} → Row_of-Branch m → SpanTrees
  branches_of_row end_of-Branch = NoTrees
  branches_of_row (more_of-Branch span condition s statements rest) =
      MoreTrees (Node span (MoreTrees (expr_spans condition) (statements_of_row statements))) (branches_of_row rest)

  pub alternatives_of_row : {m : _} → Row_of-Alternative m → SpanTrees
  alternatives_of_row end_of-Alternative = NoTrees
  alternatives_of_row (more_of-Alternative span choices s statements rest) =
      MoreTrees (Node span (joined (trees_of (map choice_spans choices.items)) (statements_of_row statements))) (alternatives_of_row rest)

  pub handlers_of_row : {m : _} → Row_of-Handler m → SpanTrees
  handlers_of_row end_of-Handler = NoTrees
  handlers_of_row (more_of-Handler span occurrence choices s statements rest) =
      MoreTrees (Node span (joined (optional identifier_spans occurrence)
      (joined (trees_of (map exception_spans choices.items)) (statements_of_row statements)))) (handlers_of_row rest)

  pub body_spans : Body → SpanTree
  body_spans (Body' span s declarations t statements u handlers) =
      Node span (joined (declarations_of_row declarations) (joined (statements_of_row statements) (handlers_of_row handlers)))

  pub declarations_of_row : {m : _} → Row_of-Declaration m → SpanTrees
  declarations_of_row end_of-Declaration = NoTrees
  declarations_of_row (more_of-Declaration one rest) = MoreTrees (declaration_spans one) (declarations_of_row rest)

  pub declaration_spans : Declaration → SpanTree
  declaration_spans (declaration.Object d) = object_spans d
  declaration_spans (declaration.Number span names value) = Node span (joined (trees_of (map identifier_spans names.items)) (only (expr_spans value)))
  declaration_spans (declaration.Exception span names) = Node span (trees_of (map identifier_spans names.items))
  declaration_spans (declaration.Type d) = type_spans d
  declaration_spans (declaration.Subtype span name subtype aspects) =
      Node span (MoreTrees (identifier_spans name) (MoreTrees (indication_spans subtype) (trees_of (map aspect_spans aspects.items))))
  declaration_spans (declaration.Subprogram span specification aspects) =
      Node span (MoreTrees (specification_spans specification) (trees_of (map aspect_spans aspects.items)))
  declaration_spans (declaration.NullProcedure span specification aspects) =
      Node span (MoreTrees (specification_spans specification) (trees_of (map aspect_spans aspects.items)))
  declaration_spans (declaration.ExpressionFunction span specification value aspects) =
      Node span (MoreTrees (specification_spans specification) (MoreTrees (expr_spans value) (trees_of (map aspect_spans aspects.items))))
  declaration_spans (declaration.SubprogramBody span specification aspects body) =
      Node span (MoreTrees (specification_spans specification) (joined (trees_of (map aspect_spans aspects.items)) (only (body_spans body))))
  declaration_spans (declaration.Task d) = task_spans d
  declaration_spans (declaration.TaskBody span name body) = Node span (MoreTrees (identifier_spans name) (only (body_spans body)))
  declaration_spans (declaration.Protected d) = protected_spans d
  declaration_spans (declaration.ProtectedBody' span name s items) = Node span (MoreTrees (identifier_spans name) (declarations_of_row items))
  declaration_spans (declaration.EntryBody span name formals barrier body) =
      Node span (MoreTrees (identifier_spans name)
      (joined (trees_of (map formal_spans formals.items)) (MoreTrees (expr_spans barrier) (only (body_spans body)))))
  declaration_spans (declaration.Use clause) = use_spans clause
  declaration_spans (declaration.Pragma pragma) = pragma_spans pragma

abbrev pub branch_spans : Branch → SpanTree
branch_spans b = Node b.span (MoreTrees (expr_spans b.condition) (trees_of (map statement_spans b.statements.items)))

abbrev pub alternative_spans : Alternative → SpanTree
alternative_spans a = Node a.span (joined (trees_of (map choice_spans a.choices.items)) (trees_of (map statement_spans a.statements.items)))

abbrev pub handler_spans : Handler → SpanTree
handler_spans h =
    Node h.span (joined (optional identifier_spans h.occurrence)
    (joined (trees_of (map exception_spans h.choices.items)) (trees_of (map statement_spans h.statements.items))))
