-- Expressions without pointers, and the one that a declared expression is.
use Rattle.std.specs.Prelude.{ℕ, ℤ, Option, Some, None, List, [], ◌∷◌, map}
use Rattle.ada_tree.specs.declared.expression.Identifier.{Identifier}
use Rattle.ada_tree.specs.declared.expression.UnaryOperator.{UnaryOperator}
use Rattle.ada_tree.specs.declared.expression.BinaryOperator.{BinaryOperator}
use Rattle.ada_tree.specs.declared.expression.Expr.{Expr, Row_of-ElsifValue, end_of-ElsifValue, more_of-ElsifValue, Row_of-Operand, end_of-Operand, more_of-Operand, Row_of-Selector, end_of-Selector, more_of-Selector}
use Rattle.ada_tree.specs.declared.expression.Expr as declared
use Rattle.ada_tree.specs.declared.expression.Selector.{Selector, Row_of-Argument, end_of-Argument, more_of-Argument}
use Rattle.ada_tree.specs.declared.expression.Selector as selector
use Rattle.ada_tree.specs.declared.expression.Argument.{Argument}
use Rattle.ada_tree.specs.declared.expression.Argument as argument
use Rattle.ada_tree.specs.declared.expression.ElsifValue.{ElsifValue}
use Rattle.ada_tree.specs.declared.expression.NameExpr.{NameExpr}
use Rattle.ada_tree.specs.declared.expression.Operand.{Operand}

mutual
  pub data ExprTree : Type 0 where
    Number : ℤ → ℕ → ExprTree
    Named : Identifier → SelectorTrees → ExprTree
    Parenthesized : ℕ → ExprTree → ExprTree
    Conditional : ℕ → ExprTree → ExprTree → ElsifValueTrees → ExprTree → ExprTree
    Unary : UnaryOperator → ℕ → ExprTree → ExprTree
    Binary : BinaryOperator → ExprTree → ExprTree → ExprTree

  pub data ElsifValueTrees : Type 0 where
    NoElsifValues : ElsifValueTrees
    MoreElsifValues : ExprTree → ExprTree → ElsifValueTrees → ElsifValueTrees

  pub data SelectorTrees : Type 0 where
    NoSelectors : SelectorTrees
    MoreSelectors : SelectorTree → SelectorTrees → SelectorTrees

  pub data SelectorTree : Type 0 where
    Component : Identifier → SelectorTree
    Arguments : ArgumentTrees → SelectorTree
    Attribute : Identifier → SelectorTree

  pub data ArgumentTrees : Type 0 where
    NoArguments : ArgumentTrees
    MoreArguments : ArgumentTree → ArgumentTrees → ArgumentTrees

  pub data ArgumentTree : Type 0 where
    Value : ExprTree → ArgumentTree
    Text : List ℕ → ℕ → ArgumentTree

pub record NameTree : Type 0 where
  pub first : Identifier
  pub selectors : SelectorTrees

abbrev mutual
  pub expr_tree : Expr → ExprTree
  expr_tree (declared.Number value place) = Number value place
  expr_tree (declared.Name' first shape row) = Named first (selectors_of_row row)
  expr_tree (declared.Parenthesized' place p inner) = Parenthesized place (expr_tree inner)
  expr_tree (declared.Conditional' place p condition q value shape row r else_value) = Conditional place (expr_tree condition) (expr_tree value)
      (elsif_values_of_row row) (expr_tree else_value)
  expr_tree (declared.Unary' operator place p operand) = Unary operator place (expr_tree operand)
  expr_tree (declared.Chain' p first q operator second shape row) = chain_of_row (Binary operator (expr_tree first) (expr_tree second)) row

  pub chain_of_row : {m : _} → ExprTree → Row_of-Operand m → ExprTree
  chain_of_row left end_of-Operand = left
  chain_of_row left (more_of-Operand operator right rest) = chain_of_row (Binary operator left (expr_tree right)) rest

  pub elsif_values_of_row : {m : _} → Row_of-ElsifValue m → ElsifValueTrees
  elsif_values_of_row end_of-ElsifValue = NoElsifValues
  elsif_values_of_row (more_of-ElsifValue condition value rest) = MoreElsifValues (expr_tree condition) (expr_tree value) (elsif_values_of_row rest)

  pub selectors_of_row : {m : _} → Row_of-Selector m → SelectorTrees
  selectors_of_row end_of-Selector = NoSelectors
  selectors_of_row (more_of-Selector one rest) = MoreSelectors (selector_tree one) (selectors_of_row rest)

  pub selector_tree : Selector → SelectorTree
  selector_tree (selector.Component name) = Component name
  selector_tree (selector.Arguments' shape row) = Arguments (arguments_of_row row)
  selector_tree (selector.Attribute name) = Attribute name

  pub arguments_of_row : {m : _} → Row_of-Argument m → ArgumentTrees
  arguments_of_row end_of-Argument = NoArguments
  arguments_of_row (more_of-Argument one rest) = MoreArguments (argument_tree one) (arguments_of_row rest)

  pub argument_tree : Argument → ArgumentTree
  argument_tree (argument.Expr e) = Value (expr_tree e)
  argument_tree (argument.Label label place) = Text label place

-- what operators and the operands behind them make of what stands before them, from left to right
abbrev pub chain_tree : ExprTree → List Operand → ExprTree
chain_tree left [] = left
chain_tree left (o ∷ rest) = chain_tree (Binary o.operator left (expr_tree o.value)) rest

abbrev pub selectors_of : List SelectorTree → SelectorTrees
selectors_of [] = NoSelectors
selectors_of (s ∷ rest) = MoreSelectors s (selectors_of rest)

abbrev pub arguments_of : List ArgumentTree → ArgumentTrees
arguments_of [] = NoArguments
arguments_of (a ∷ rest) = MoreArguments a (arguments_of rest)

abbrev pub elsif_values_of : List (ExprTree × ExprTree) → ElsifValueTrees
elsif_values_of [] = NoElsifValues
elsif_values_of (x ∷ rest) = MoreElsifValues x.0 x.1 (elsif_values_of rest)

abbrev pub selector_trees : List Selector → SelectorTrees
selector_trees all = selectors_of (map selector_tree all)

abbrev pub argument_trees : List Argument → ArgumentTrees
argument_trees all = arguments_of (map argument_tree all)

abbrev pub elsif_value_tree : ElsifValue → ExprTree × ExprTree
elsif_value_tree e = (expr_tree e.condition, expr_tree e.value)

abbrev pub elsif_value_trees : List ElsifValue → ElsifValueTrees
elsif_value_trees all = elsif_values_of (map elsif_value_tree all)

abbrev pub name_tree : NameExpr → NameTree
name_tree n = record { first = n.first; selectors = selector_trees n.selectors.items }

-- the name that an expression is, where it is nothing but an identifier
abbrev pub bare_name : ExprTree → Option Identifier
bare_name (Named name NoSelectors) = Some name
bare_name e = None
