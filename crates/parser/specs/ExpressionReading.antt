-- Reading expressions by the productions of the grammar.
use Rattle.std.specs.Prelude.{ℕ, zero, suc, Bool, true, false, List, [], ◌∷◌, Option, Some, None}
use Rattle.lexer.specs.declared.token.Token.{Token}
use Rattle.lexer.specs.declared.token.TokenKind.{TokenKind}
use Rattle.lexer.specs.declared.token.TokenKind.TheVariants as kinds
use Rattle.lexer.specs.declared.word.Word.{Word}
use Rattle.lexer.specs.declared.word.Word.TheVariants as words
use Rattle.lexer.specs.declared.delimiter.Delimiter.TheVariants as marks
use Rattle.ada_tree.specs.declared.expression.UnaryOperator.{UnaryOperator}
use Rattle.ada_tree.specs.declared.expression.UnaryOperator.TheVariants as unary
use Rattle.ada_tree.specs.declared.expression.BinaryOperator.{BinaryOperator}
use Rattle.ada_tree.specs.declared.expression.BinaryOperator.TheVariants as binary
use Rattle.ada_tree.specs.ExpressionTree.{ExprTree, Number, Named, Parenthesized, Conditional, Unary, Binary, SelectorTree, Component, Arguments, Attribute}
use Rattle.ada_tree.specs.ExpressionTree.{ArgumentTree, Value, Text, NameTree, selectors_of, arguments_of, elsif_values_of}
use Rattle.parser.specs.Reading.{Reader, is_next, is_word, is_mark, entry_of, is_there, mark_of, skip_word, skip_mark, identifier_of, seq, after, mapped}
use Rattle.parser.specs.Reading.{choose, many, separated_by, nothing, closed, opened}

-- ---- tokens

abbrev pub number : TokenKind → ℕ → Option ExprTree
number (kinds.Number value) place = Some (Number value place)
number other place = None

abbrev pub label : TokenKind → ℕ → Option ArgumentTree
label (kinds.Label text) place = Some (Text text place)
label other place = None

abbrev pub is_number : TokenKind → Bool
is_number (kinds.Number value) = true
is_number other = false

abbrev pub is_label : TokenKind → Bool
is_label (kinds.Label text) = true
is_label other = false

-- the operators of a term, of a sum and of a relation, of a factor and before a term
abbrev pub multiplying : TokenKind → Option BinaryOperator
multiplying (kinds.Delimiter marks.Asterisk) = Some binary.Multiply
multiplying (kinds.Delimiter marks.Slash) = Some binary.Divide
multiplying (kinds.Word words.Mod) = Some binary.Mod
multiplying (kinds.Word words.Rem) = Some binary.Rem
multiplying other = None

abbrev pub adding : TokenKind → Option BinaryOperator
adding (kinds.Delimiter marks.Plus) = Some binary.Add
adding (kinds.Delimiter marks.Minus) = Some binary.Subtract
adding other = None

abbrev pub relational : TokenKind → Option BinaryOperator
relational (kinds.Delimiter marks.Equals) = Some binary.Equal
relational (kinds.Delimiter marks.Inequality) = Some binary.NotEqual
relational (kinds.Delimiter marks.LessThan) = Some binary.Less
relational (kinds.Delimiter marks.LessOrEqual) = Some binary.LessOrEqual
relational (kinds.Delimiter marks.GreaterThan) = Some binary.Greater
relational (kinds.Delimiter marks.GreaterOrEqual) = Some binary.GreaterOrEqual
relational other = None

abbrev pub sign : TokenKind → Option UnaryOperator
sign (kinds.Delimiter marks.Plus) = Some unary.Plus
sign (kinds.Delimiter marks.Minus) = Some unary.Minus
sign other = None

abbrev pub prefix : TokenKind → Option UnaryOperator
prefix (kinds.Word words.Abs) = Some unary.Abs
prefix (kinds.Word words.Not) = Some unary.Not
prefix other = None

-- what a table says of the next token
abbrev pub next_of : {A : Type 0} → (TokenKind → Option A) → Option Token → Option A
next_of f None = None
next_of f (Some t) = f t.kind

-- is the next token in the table?
abbrev pub begins : {A : Type 0} → (TokenKind → Option A) → Option Token → Bool
begins f = is_next (λ k. is_there (f k))

abbrev pub operator_of : (TokenKind → Option BinaryOperator) → Reader BinaryOperator
operator_of f = entry_of (λ k place. f k)

-- an operator and its place
abbrev pub placed : Option UnaryOperator → ℕ → Option (UnaryOperator × ℕ)
placed None place = None
placed (Some o) place = Some (o, place)

abbrev pub unary_of : (TokenKind → Option UnaryOperator) → Reader (UnaryOperator × ℕ)
unary_of f = entry_of (λ k place. placed (f k) place)

-- ---- one level down

-- an expression; and an if expression, for the parenthesis at a place
pub record ExpressionReaders : Type 0 where
  pub expression : Reader ExprTree
  pub conditional : ℕ → Reader ExprTree

-- ---- names

abbrev pub argument_in : ExpressionReaders → Reader ArgumentTree
argument_in r = choose (is_next is_label) (entry_of label) (mapped Value r.expression)

abbrev pub arguments_list : ExpressionReaders → Reader (List ArgumentTree)
arguments_list r = separated_by (kinds.Delimiter marks.Comma) (argument_in r)

abbrev pub arguments_in : ExpressionReaders → Reader SelectorTree
arguments_in r =
    mapped (λ x. Arguments (arguments_of x.1.0)) (seq (skip_mark marks.LeftParenthesis) (seq (arguments_list r) (skip_mark marks.RightParenthesis)))

abbrev pub component_of : Reader SelectorTree
component_of = mapped (λ x. Component x.1) (seq (skip_mark marks.Dot) identifier_of)

abbrev pub attribute_of : Reader SelectorTree
attribute_of = mapped (λ x. Attribute x.1) (seq (skip_mark marks.Apostrophe) identifier_of)

abbrev pub selector_in : Option ExpressionReaders → Reader SelectorTree
selector_in d = choose (is_mark marks.LeftParenthesis) (opened d arguments_in) (choose (is_mark marks.Dot) component_of attribute_of)

abbrev pub starts_selector : TokenKind → Bool
starts_selector (kinds.Delimiter marks.LeftParenthesis) = true
starts_selector (kinds.Delimiter marks.Dot) = true
starts_selector (kinds.Delimiter marks.Apostrophe) = true
starts_selector other = false

abbrev pub begins_selector : Option Token → Bool
begins_selector = is_next starts_selector

abbrev pub selectors_in : Option ExpressionReaders → Reader (List SelectorTree)
selectors_in d = many begins_selector (selector_in d)

unfoldable pub name_in : Option ExpressionReaders → Reader NameTree
name_in d = mapped (λ x. record { first = x.0; selectors = selectors_of x.1 }) (seq identifier_of (selectors_in d))

-- ---- primaries

abbrev pub elsif_value_in : ExpressionReaders → Reader (ExprTree × ExprTree)
elsif_value_in r = mapped (λ x. (x.1.0, x.1.1.1)) (seq (skip_word words.Elsif) (seq r.expression (seq (skip_word words.Then) r.expression)))

abbrev pub elsif_values_in : ExpressionReaders → Reader (List (ExprTree × ExprTree))
elsif_values_in r = many (is_word words.Elsif) (elsif_value_in r)

-- an if expression, for the parenthesis at the place
abbrev pub conditional_in : ℕ → ExpressionReaders → Reader ExprTree
conditional_in place r =
    mapped (λ x. Conditional place x.1.0 x.1.1.1.0 (elsif_values_of x.1.1.1.1.0) x.1.1.1.1.1.1)
    (seq (skip_word words.If)
    (seq r.expression (seq (skip_word words.Then) (seq r.expression (seq (elsif_values_in r) (seq (skip_word words.Else) r.expression))))))

abbrev pub enclosed_in : ExpressionReaders → ℕ → Reader ExprTree
enclosed_in r place = choose (is_word words.If) (r.conditional place) (mapped (Parenthesized place) r.expression)

abbrev pub parenthesis_in : ExpressionReaders → Reader ExprTree
parenthesis_in r = after (mark_of marks.LeftParenthesis) (λ place. mapped (λ x. x.0) (seq (enclosed_in r place) (skip_mark marks.RightParenthesis)))

abbrev pub named_in : Option ExpressionReaders → Reader ExprTree
named_in d = mapped (λ n. Named n.first n.selectors) (name_in d)

abbrev pub open_primary_in : Option ExpressionReaders → Reader ExprTree
open_primary_in d = choose (is_mark marks.LeftParenthesis) (opened d parenthesis_in) (choose (is_next is_number) (entry_of number) (named_in d))

-- no selector may come behind a primary
unfoldable pub primary_in : Option ExpressionReaders → Reader ExprTree
primary_in d = closed begins_selector (open_primary_in d)

-- ---- operations

abbrev pub prefixed : (TokenKind → Option UnaryOperator) → Reader ExprTree → Reader ExprTree
prefixed f a = choose (begins f) (mapped (λ x. Unary x.0.0 x.0.1 x.1) (seq (unary_of f) a)) a

unfoldable pub factor_in : Option ExpressionReaders → Reader ExprTree
factor_in d = prefixed prefix (primary_in d)

-- from the left: one more for each of the list
abbrev pub folded : {A B : Type 0} → (B → A → B) → B → List A → B
folded step b [] = b
folded step b (x ∷ xs) = folded step (step b x) xs

abbrev pub joined : ExprTree → BinaryOperator × ExprTree → ExprTree
joined e x = Binary x.0 e x.1

-- operators of the table with their right operands, behind this operand and grouped to the left
abbrev pub chained : (TokenKind → Option BinaryOperator) → Reader ExprTree → ExprTree → Reader ExprTree
chained f b left = mapped (folded joined left) (many (begins f) (seq (operator_of f) b))

-- an operand, and operators of the table with their right operands, grouped to the left
abbrev pub chain_of : Reader ExprTree → (TokenKind → Option BinaryOperator) → Reader ExprTree → Reader ExprTree
chain_of a f b = mapped (λ x. folded joined x.0 x.1) (seq a (many (begins f) (seq (operator_of f) b)))

unfoldable pub term_in : Option ExpressionReaders → Reader ExprTree
term_in d = chain_of (factor_in d) multiplying (factor_in d)

unfoldable pub simple_in : Option ExpressionReaders → Reader ExprTree
simple_in d = chain_of (prefixed sign (term_in d)) adding (term_in d)

abbrev pub compared_in : Option ExpressionReaders → ExprTree → Reader ExprTree
compared_in d left = choose (begins relational) (mapped (λ x. Binary x.0 left x.1) (seq (operator_of relational) (simple_in d))) (nothing left)

-- no relation is an operand of another
unfoldable pub relation_in : Option ExpressionReaders → Reader ExprTree
relation_in d = closed (begins relational) (after (simple_in d) (compared_in d))

abbrev pub starts_logical : TokenKind → Bool
starts_logical (kinds.Word words.And) = true
starts_logical (kinds.Word words.Or) = true
starts_logical (kinds.Word words.Xor) = true
starts_logical other = false

abbrev pub begins_logical : Option Token → Bool
begins_logical = is_next starts_logical

-- `and` or `and then`; and so for `or`
abbrev pub with_more : BinaryOperator → Word → BinaryOperator → Reader BinaryOperator
with_more short more long = choose (is_word more) (mapped (λ x. long) (skip_word more)) (nothing short)

abbrev pub logical_of : Reader BinaryOperator
logical_of =
    choose (is_word words.And) (mapped (λ x. x.1) (seq (skip_word words.And) (with_more binary.And words.Then binary.AndThen)))
    (choose (is_word words.Or) (mapped (λ x. x.1) (seq (skip_word words.Or) (with_more binary.Or words.Else binary.OrElse)))
    (mapped (λ x. binary.Xor) (skip_word words.Xor)))

-- the words of a logical operator
abbrev pub first_word : BinaryOperator → Word
first_word binary.And = words.And
first_word binary.AndThen = words.And
first_word binary.Or = words.Or
first_word binary.OrElse = words.Or
first_word o = words.Xor

abbrev pub second_word : BinaryOperator → Option Word
second_word binary.AndThen = Some words.Then
second_word binary.OrElse = Some words.Else
second_word o = None

abbrev pub optional_word : Option Word → Reader (Unit {0})
optional_word None = nothing tt
optional_word (Some w) = skip_word w

-- the same operator again
abbrev pub repeated : BinaryOperator → Reader (Unit {0})
repeated o = mapped (λ x. tt) (seq (skip_word (first_word o)) (optional_word (second_word o)))

abbrev pub operated : BinaryOperator → ExprTree → ExprTree → ExprTree
operated o e t = Binary o e t

-- what follows a relation and this operator: a chain of it alone
abbrev pub logical_chain : Option ExpressionReaders → ExprTree → BinaryOperator → Reader ExprTree
logical_chain d left o =
    mapped (λ x. folded (operated o) (Binary o left x.0) x.1)
    (seq (relation_in d) (many (is_word (first_word o)) (mapped (λ x. x.1) (seq (repeated o) (relation_in d)))))

abbrev pub logical_in : Option ExpressionReaders → ExprTree → Reader ExprTree
logical_in d left = choose begins_logical (after logical_of (logical_chain d left)) (nothing left)

-- no second logical operator
unfoldable pub expression_in : Option ExpressionReaders → Reader ExprTree
expression_in d = closed begins_logical (after (relation_in d) (logical_in d))

-- ---- with so many levels

abbrev pub values : ℕ → Option ExpressionReaders
values zero = None
values (suc k) = Some (record { expression = expression_in (values k); conditional = λ place. opened (values k) (conditional_in place) })

-- one level down from one more than k
abbrev pub values_at : ℕ → ExpressionReaders
values_at k = record { expression = expression_in (values k); conditional = λ place. opened (values k) (conditional_in place) }

abbrev pub name_at : ℕ → Reader NameTree
name_at k = name_in (values k)

abbrev pub simple_at : ℕ → Reader ExprTree
simple_at k = simple_in (values k)

abbrev pub expression_at : ℕ → Reader ExprTree
expression_at k = expression_in (values k)

-- the operator that comes next, and its place
abbrev pub next_unary : (TokenKind → Option UnaryOperator) → Option Token → Option (UnaryOperator × ℕ)
next_unary f None = None
next_unary f (Some t) = placed (f t.kind) t.start
