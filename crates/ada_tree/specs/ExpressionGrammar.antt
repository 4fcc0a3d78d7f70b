-- Which token lists spell an expression: a case for each production.
use Rattle.std.specs.Prelude.{Bool, true, false}
use denote.Enum.Bare.{sameb}
use Rattle.lexer.specs.declared.token.TokenKind.{TokenKind}
use Rattle.lexer.specs.declared.token.TokenKind.TheVariants as kinds
use Rattle.lexer.specs.declared.word.Word.TheVariants as words
use Rattle.lexer.specs.declared.delimiter.Delimiter.TheVariants as marks
use Rattle.ada_tree.specs.declared.expression.UnaryOperator.{UnaryOperator}
use Rattle.ada_tree.specs.declared.expression.UnaryOperator.TheVariants as unary
use Rattle.ada_tree.specs.declared.expression.BinaryOperator.{BinaryOperator}
use Rattle.ada_tree.specs.declared.expression.BinaryOperator.TheVariants as binary
use Rattle.ada_tree.specs.contracts.expression.BinaryOperator.{the_type}
use Rattle.ada_tree.specs.ExpressionTree.{ExprTree, Number, Named, Parenthesized, Conditional, Unary, Binary, ElsifValueTrees, NoElsifValues, MoreElsifValues, SelectorTrees, NoSelectors, MoreSelectors, SelectorTree, Component, Arguments, Attribute, ArgumentTrees, NoArguments, MoreArguments, ArgumentTree, Value, Text, NameTree}
use Rattle.ada_tree.specs.Language.{Tokens, never, nothing, ◌⨾◌, where_true, word, mark, token_at, mark_at, identifier, Limit, inside}

-- The productions of expressions: a primary, a factor with `abs` or `not`, a chain of multiplying operators, a sign or a chain of adding operators,
-- a relation, a chain of one logical operator, and any of these.
pub data Production : Type 0 where
  Primary : Production
  Factor : Production
  Term : Production
  Simple : Production
  Relation : Production
  Chain : BinaryOperator → Production
  Expression : Production

-- the production that makes an operation
abbrev pub production : BinaryOperator → Production
production binary.And = Chain binary.And
production binary.Or = Chain binary.Or
production binary.Xor = Chain binary.Xor
production binary.AndThen = Chain binary.AndThen
production binary.OrElse = Chain binary.OrElse
production binary.Equal = Relation
production binary.NotEqual = Relation
production binary.Less = Relation
production binary.LessOrEqual = Relation
production binary.Greater = Relation
production binary.GreaterOrEqual = Relation
production binary.Add = Simple
production binary.Subtract = Simple
production binary.Multiply = Term
production binary.Divide = Term
production binary.Mod = Term
production binary.Rem = Term

abbrev pub unary_production : UnaryOperator → Production
unary_production unary.Plus = Simple
unary_production unary.Minus = Simple
unary_production unary.Abs = Factor
unary_production unary.Not = Factor

-- What stands before an operator: chains group to the left, and relations don't chain.
abbrev pub left_operand : Production → Production
left_operand Primary = Primary
left_operand Factor = Factor
left_operand Term = Term
left_operand Simple = Simple
left_operand Relation = Simple
left_operand (Chain o) = Chain o
left_operand Expression = Expression

-- what stands after one
abbrev pub right_operand : Production → Production
right_operand Primary = Primary
right_operand Factor = Primary
right_operand Term = Factor
right_operand Simple = Term
right_operand Relation = Simple
right_operand (Chain o) = Relation
right_operand Expression = Relation

-- the production that makes a tree
abbrev pub made_by : ExprTree → Production
made_by (Number value place) = Primary
made_by (Named first s) = Primary
made_by (Parenthesized place e) = Primary
made_by (Conditional place condition value e else_value) = Primary
made_by (Unary operator place operand) = unary_production operator
made_by (Binary operator left right) = production operator

-- May what the first production makes stand where the second is asked for?
abbrev pub stands_for : Production → Production → Bool
stands_for Primary n = true
stands_for Factor Primary = false
stands_for Factor n = true
stands_for Term Primary = false
stands_for Term Factor = false
stands_for Term n = true
stands_for Simple Primary = false
stands_for Simple Factor = false
stands_for Simple Term = false
stands_for Simple n = true
stands_for Relation Primary = false
stands_for Relation Factor = false
stands_for Relation Term = false
stands_for Relation Simple = false
stands_for Relation n = true
stands_for (Chain o) (Chain p) = sameb the_type o p
stands_for (Chain o) Expression = true
stands_for (Chain o) n = false
stands_for Expression Expression = true
stands_for Expression n = false

abbrev pub unary_symbol : UnaryOperator → TokenKind
unary_symbol unary.Plus = kinds.Delimiter marks.Plus
unary_symbol unary.Minus = kinds.Delimiter marks.Minus
unary_symbol unary.Abs = kinds.Word words.Abs
unary_symbol unary.Not = kinds.Word words.Not

abbrev pub operator : BinaryOperator → Tokens → Type 0
operator binary.And = word words.And
operator binary.Or = word words.Or
operator binary.Xor = word words.Xor
operator binary.AndThen = word words.And ⨾ word words.Then
operator binary.OrElse = word words.Or ⨾ word words.Else
operator binary.Equal = mark marks.Equals
operator binary.NotEqual = mark marks.Inequality
operator binary.Less = mark marks.LessThan
operator binary.LessOrEqual = mark marks.LessOrEqual
operator binary.Greater = mark marks.GreaterThan
operator binary.GreaterOrEqual = mark marks.GreaterOrEqual
operator binary.Add = mark marks.Plus
operator binary.Subtract = mark marks.Minus
operator binary.Multiply = mark marks.Asterisk
operator binary.Divide = mark marks.Slash
operator binary.Mod = word words.Mod
operator binary.Rem = word words.Rem

abbrev mutual
  -- what the production that makes the tree derives
  pub made : ExprTree → Limit → Tokens → Type 0
  made (Number value place) limit = token_at (kinds.Number value) place
  made (Named first selectors) limit = identifier first ⨾ spells_selectors selectors limit
  made (Parenthesized place e) limit = inside limit (λ l. mark_at marks.LeftParenthesis place ⨾ where_true (stands_for (made_by e) Expression) (made e l) ⨾
      mark marks.RightParenthesis)
  made (Conditional place condition value elsif_values else_value) limit =
      inside limit (λ l. mark_at marks.LeftParenthesis place ⨾
      inside l (λ l. word words.If ⨾ where_true (stands_for (made_by condition) Expression) (made condition l)
      ⨾ word words.Then ⨾ where_true (stands_for (made_by value) Expression) (made value l) ⨾ spells_elsif_values elsif_values l
      ⨾ word words.Else ⨾ where_true (stands_for (made_by else_value) Expression) (made else_value l)) ⨾ mark marks.RightParenthesis)
  made (Unary o place operand) limit =
      token_at (unary_symbol o) place ⨾ where_true (stands_for (made_by operand) (right_operand (unary_production o))) (made operand limit)
  made (Binary o left right) limit =
      where_true (stands_for (made_by left) (left_operand (production o))) (made left limit)
      ⨾ operator o
      ⨾ where_true (stands_for (made_by right) (right_operand (production o))) (made right limit)

  pub spells_elsif_values : ElsifValueTrees → Limit → Tokens → Type 0
  spells_elsif_values NoElsifValues limit = nothing
  spells_elsif_values (MoreElsifValues condition value rest) limit =
      (word words.Elsif ⨾ where_true (stands_for (made_by condition) Expression) (made condition limit)
      ⨾ word words.Then ⨾ where_true (stands_for (made_by value) Expression) (made value limit))
      ⨾ spells_elsif_values rest limit

  pub spells_selectors : SelectorTrees → Limit → Tokens → Type 0
  spells_selectors NoSelectors limit = nothing
  spells_selectors (MoreSelectors s rest) limit = spells_selector s limit ⨾ spells_selectors rest limit

  pub spells_selector : SelectorTree → Limit → Tokens → Type 0
  spells_selector (Component name) limit = mark marks.Dot ⨾ identifier name
  spells_selector (Arguments arguments) limit = inside limit (λ l. mark marks.LeftParenthesis ⨾ spells_arguments arguments l ⨾ mark marks.RightParenthesis)
  spells_selector (Attribute name) limit = mark marks.Apostrophe ⨾ identifier name

  pub spells_arguments : ArgumentTrees → Limit → Tokens → Type 0
  spells_arguments NoArguments limit = never
  spells_arguments (MoreArguments a rest) limit = spells_argument a limit ⨾ spells_further_arguments rest limit

  pub spells_further_arguments : ArgumentTrees → Limit → Tokens → Type 0
  spells_further_arguments NoArguments limit = nothing
  spells_further_arguments (MoreArguments a rest) limit = (mark marks.Comma ⨾ spells_argument a limit) ⨾ spells_further_arguments rest limit

  pub spells_argument : ArgumentTree → Limit → Tokens → Type 0
  spells_argument (Value e) limit = where_true (stands_for (made_by e) Expression) (made e limit)
  spells_argument (Text label place) limit = token_at (kinds.Label label) place

-- derived from the production
abbrev pub derives : Production → Limit → ExprTree → Tokens → Type 0
derives n limit e = where_true (stands_for (made_by e) n) (made e limit)

abbrev pub expression : Limit → ExprTree → Tokens → Type 0
expression limit e = derives Expression limit e

abbrev pub spells_name : Limit → NameTree → Tokens → Type 0
spells_name limit n = identifier n.first ⨾ spells_selectors n.selectors limit
