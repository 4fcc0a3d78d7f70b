-- The type that an expression has by itself, operators over types, and whether a type is as expected (RM 4; docs/LANGUAGE.md, "Rules of expressions").
use Rattle.std.specs.Prelude.{suc, Bool, true, false, ◌||◌, nat_eq, Option, Some, if◌then◌else◌}
use Rattle.ada_tree.specs.declared.expression.UnaryOperator.{UnaryOperator}
use Rattle.ada_tree.specs.declared.expression.UnaryOperator.TheVariants as unary
use Rattle.ada_tree.specs.declared.expression.BinaryOperator.{BinaryOperator}
use Rattle.ada_tree.specs.declared.expression.BinaryOperator.TheVariants as binary
use Rattle.ada_tree.specs.ExpressionTree.{ExprTree, Number, Named, Parenthesized, Conditional, Unary, Binary, ElsifValueTrees, NoElsifValues, MoreElsifValues}
use Rattle.types.specs.declared.standing.Standing.{Standing}
use Rattle.types.specs.declared.standing.Standing.TheVariants as standing
use Rattle.types.specs.Entities.{TypeForm, Integers, Booleans, Times, Spans}
use Rattle.types.specs.Scopes.{Scope, form_at, boolean_type}
use Rattle.types.specs.Standings.{standing_of}
use Rattle.expr_rules.specs.declared.own.Own.{Own}
use Rattle.expr_rules.specs.declared.own.Own.TheVariants.{Unknown, Universal, Typed}
use Rattle.expr_rules.specs.declared.own.Wanted.{Wanted}
use Rattle.expr_rules.specs.declared.own.Wanted.TheVariants.{Anything, AnyInteger, OfType}

-- the type of what a name stands for; the length of an array is of none by itself, like a literal
abbrev pub own_of_standing : Standing → Own
own_of_standing (standing.Part r t) = Typed t.type_number
own_of_standing (standing.Fixed t v) = Typed t.type_number
own_of_standing (standing.Given t v) = Typed t.type_number
own_of_standing (standing.Plain z) = Universal
own_of_standing w = Unknown

abbrev pub is_known : Own → Bool
is_known Unknown = false
is_known own = true

-- ---- the forms of types

abbrev pub is_integers : Option TypeForm → Bool
is_integers (Some Integers) = true
is_integers form = false

abbrev pub is_booleans : Option TypeForm → Bool
is_booleans (Some Booleans) = true
is_booleans form = false

abbrev pub is_times : Option TypeForm → Bool
is_times (Some Times) = true
is_times form = false

abbrev pub is_spans : Option TypeForm → Bool
is_spans (Some Spans) = true
is_spans form = false

-- an integer type, or none by itself: literals and operators over literals
abbrev pub is_integral : Scope → Own → Bool
is_integral s Unknown = false
is_integral s Universal = true
is_integral s (Typed n) = is_integers (form_at s n)

abbrev pub is_boolean : Scope → Own → Bool
is_boolean s (Typed n) = is_booleans (form_at s n)
is_boolean s own = false

abbrev pub is_time : Scope → Own → Bool
is_time s (Typed n) = is_times (form_at s n)
is_time s own = false

abbrev pub is_span : Scope → Own → Bool
is_span s (Typed n) = is_spans (form_at s n)
is_span s own = false

abbrev pub is_scalar : Scope → Own → Bool
is_scalar s own = is_integral s own || (is_boolean s own || (is_time s own || is_span s own))

-- the one type of two parts; a part without a type of its own is of each integer type
abbrev pub join : Scope → Own → Own → Own
join s Universal Universal = Universal
join s Universal (Typed n) = if is_integers (form_at s n) then Typed n else Unknown
join s (Typed n) Universal = if is_integers (form_at s n) then Typed n else Unknown
join s (Typed n) (Typed m) = if nat_eq n m then Typed n else Unknown
join s a b = Unknown

-- ---- operators (RM 4.5)

abbrev pub is_logical : BinaryOperator → Bool
is_logical binary.And = true
is_logical binary.Or = true
is_logical binary.Xor = true
is_logical binary.AndThen = true
is_logical binary.OrElse = true
is_logical operator = false

abbrev pub is_relation : BinaryOperator → Bool
is_relation binary.Equal = true
is_relation binary.NotEqual = true
is_relation binary.Less = true
is_relation binary.LessOrEqual = true
is_relation binary.Greater = true
is_relation binary.GreaterOrEqual = true
is_relation operator = false

-- what is of an integer type, and nothing else
abbrev pub integral_or_unknown : Scope → Own → Own
integral_or_unknown s own = if is_integral s own then own else Unknown

-- `Time + Time_Span` gives a Time, `Time - Time` a Time_Span, which is the type declared behind Time (RM D.8)
abbrev pub time_own : Scope → BinaryOperator → (time : Own) → Own → Own
time_own s binary.Add (Typed n) b = if is_span s b then Typed n else Unknown
time_own s binary.Subtract (Typed n) b = if is_time s b then Typed (suc n) else Unknown
time_own s operator a b = Unknown

-- the type of a sum, difference, product, quotient or rest
abbrev pub arithmetic_own : Scope → BinaryOperator → Own → Own → Own
arithmetic_own s operator a b = if is_time s a then time_own s operator a b else integral_or_unknown s (join s a b)

abbrev pub unary_own : Scope → UnaryOperator → Own → Own
unary_own s unary.Not own = Typed boolean_type
unary_own s operator own = integral_or_unknown s own

abbrev pub binary_own : Scope → BinaryOperator → Own → Own → Own
binary_own s operator a b = if is_logical operator || is_relation operator then Typed boolean_type else arithmetic_own s operator a b

-- Whether an operator has a meaning for operands of these types: `not` and the logical ones for Boolean, relations for two of one scalar type, the others for
-- integers of one type and for times.
abbrev pub has_unary : Scope → UnaryOperator → Own → Bool
has_unary s unary.Not own = is_boolean s own
has_unary s operator own = is_integral s own

abbrev pub has_binary : Scope → BinaryOperator → Own → Own → Bool
has_binary s operator a b =
    if is_logical operator then is_boolean s (join s a b) else
    (if is_relation operator then is_scalar s (join s a b) else is_known (arithmetic_own s operator a b))

-- ---- expressions

-- The type that an expression has by itself: a literal has none; nothing is known where the type would depend on a part that breaks a rule. A relation,
-- a logical operation, a call and a conversion have theirs whatever their operands are.
abbrev mutual
  pub own_of : Scope → ExprTree → Own
  own_of s (Number z place) = Universal
  own_of s (Named first selectors) = own_of_standing (standing_of s first selectors)
  own_of s (Parenthesized place e) = own_of s e
  own_of s (Unary operator place e) = unary_own s operator (own_of s e)
  own_of s (Binary operator a b) = binary_own s operator (own_of s a) (own_of s b)
  own_of s (Conditional place condition value elsifs else_value) = join s (elsif_own_of s (own_of s value) elsifs) (own_of s else_value)

  -- the one type of all parts up to here
  pub elsif_own_of : Scope → Own → ElsifValueTrees → Own
  elsif_own_of s own NoElsifValues = own
  elsif_own_of s own (MoreElsifValues condition value rest) = elsif_own_of s (join s own (own_of s value)) rest

-- ---- what is expected

-- whether it is of the type that is expected; what has no type by itself is of each integer type
abbrev pub is_wanted : Scope → Wanted → Own → Bool
is_wanted s Anything own = true
is_wanted s AnyInteger own = is_integral s own
is_wanted s (OfType n) Unknown = true
is_wanted s (OfType n) Universal = is_integers (form_at s n)
is_wanted s (OfType n) (Typed m) = nat_eq n m

-- the expectation that a type is
abbrev pub typed_wanted : Own → Wanted
typed_wanted (Typed n) = OfType n
typed_wanted own = Anything

abbrev pub boolean_wanted : Wanted
boolean_wanted = OfType boolean_type
