-- The first token of an expression, and what follows from the kind of a token.
use Rattle.lexer.specs.declared.token.TokenKind.TheVariants as kinds
use Rattle.lexer.specs.declared.delimiter.Delimiter.TheVariants as marks
use Rattle.std.proofs.Common.{◌≡◌, ℕ, ℤ, zero, suc, true, List, ◌++◌, Option, Some, None}
use Rattle.lexer.specs.declared.token.Token.{Token}
use Rattle.lexer.specs.declared.token.TokenKind.{TokenKind}
use Rattle.ada_tree.specs.declared.expression.UnaryOperator.{UnaryOperator}
use Rattle.ada_tree.specs.ExpressionTree.{ExprTree, Number, Named, Parenthesized, Conditional, Unary, Binary}
use Rattle.ada_tree.specs.Language.{Tokens, ◌⨾◌, where_true, token_at, Limit, inside}
use Rattle.ada_tree.specs.ExpressionGrammar.{made, made_by, stands_for, left_operand, right_operand, production, operator, unary_symbol}
use Rattle.parser.specs.Reading.{first, is_first}
use Rattle.parser.proofs.general.Exact.{is_that_kind}
use Rattle.parser.proofs.general.MoreExact.{at_kind, at_head, at_both, at_placed, at_name, heads_placed}

-- what is so at a kind is so where that kind comes next
pub when_first : (X : Option Token → Type 0) (k : TokenKind) → ((start end : ℕ) → X (Some (record { kind = k; start = start; end_ = end })))
    → (o : Option Token) → is_first k o ≡ true → X o
when_first X k x None h = absurd cc
when_first X k x (Some t) h = at_kind X k x t (is_that_kind k t.kind h)

abbrev At : (Option Token → Type 0) → TokenKind → Type 0
At X k = (start end : ℕ) → X (Some (record { kind = k; start = start; end_ = end }))

-- what is so at each kind of token that begins an expression
pub record AtExpression (X : Option Token → Type 0) : Type 0 where
  pub number : (value : ℤ) → At X (kinds.Number value)
  pub name : (name : List ℕ) → At X (kinds.Identifier name)
  pub parenthesis : At X (kinds.Delimiter marks.LeftParenthesis)
  pub sign : (o : UnaryOperator) → At X (unary_symbol o)

within : (X : Option Token → Type 0) (limit : Limit) (P : Limit → Tokens → Type 0) (s r : Tokens) → inside limit P s
    → ((l : Limit) → P l s → X (first (s ++ r))) → X (first (s ++ r))
within X None P s r g h = h None g
within X (Some zero) P s r g h = absurd g
within X (Some (suc n)) P s r g h = h (Some n) g

pub at_made : (X : Option Token → Type 0) → AtExpression X → (e : ExprTree) (limit : Limit) (s r : Tokens) → made e limit s → X (first (s ++ r))
at_made X x (Number value place) limit s r g =
    at_head X (kinds.Number value) (token_at (kinds.Number value) place) (heads_placed (kinds.Number value) place) (x.number value) s r g
at_made X x (Named name _) limit s r g = at_name X name (x.name name.name) s r g
at_made X x (Parenthesized place e) limit s r g = within X limit _ s r g (λ l h. at_placed X (kinds.Delimiter marks.LeftParenthesis) place x.parenthesis s r h)
at_made X x (Conditional place condition value rest else_value) limit s r g =
    within X limit _ s r g (λ l h. at_placed X (kinds.Delimiter marks.LeftParenthesis) place x.parenthesis s r h)
at_made X x (Unary o place operand) limit s r g = at_placed X (unary_symbol o) place (x.sign o) s r g
at_made X x (Binary o left right) limit s r g =
    at_both X (where_true (stands_for (made_by left) (left_operand (production o))) (made left limit))
    (operator o ⨾ where_true (stands_for (made_by right) (right_operand (production o))) (made right limit)) s r g
    (λ u v h i. at_made X x left limit u (v ++ r) h.1)
