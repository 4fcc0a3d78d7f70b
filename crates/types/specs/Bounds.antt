-- Between which two numbers the values of an integer expression lie, told by types and constants alone (RM 3.5, 4.9).
use Rattle.std.specs.Prelude.{◌≡◌, suc, ℤ, pos, Option, Some, None}
use Rattle.std.specs.Int.{int_max, int_min}
use Rattle.ada_tree.specs.declared.expression.UnaryOperator.{UnaryOperator}
use Rattle.ada_tree.specs.declared.expression.UnaryOperator.TheVariants as unary
use Rattle.ada_tree.specs.declared.expression.BinaryOperator.{BinaryOperator}
use Rattle.ada_tree.specs.declared.expression.BinaryOperator.TheVariants as binary
use Rattle.ada_tree.specs.ExpressionTree as tree
use Rattle.ada_tree.specs.ExpressionTree.{ExprTree, Named, Parenthesized, Conditional, Unary, Binary, ElsifValueTrees, NoElsifValues, MoreElsifValues}
use Rattle.types.specs.declared.entity.Subtype.{Subtype}
use Rattle.types.specs.declared.standing.Standing.{Standing}
use Rattle.types.specs.declared.standing.Standing.TheVariants as standing
use Rattle.types.specs.declared.statics.StaticForm.{StaticForm}
use Rattle.types.specs.declared.statics.StaticForm.TheVariants.{Static}
use Rattle.types.specs.Evaluations.{Val, Gives}
use Rattle.types.specs.Scopes.{Scope, greatest_number, least_number}
use Rattle.types.specs.Standings.{standing_of}
use Rattle.types.specs.Statics.{static_form, static_value}
use Rattle.types.specs.Values.{Value, Number}

-- the least and the greatest number of the base range (RM 3.5.4)
abbrev pub base_bounds : ℤ × ℤ
base_bounds = (least_number, greatest_number)

abbrev pub subtype_bounds : Subtype → ℤ × ℤ
subtype_bounds t = (t.first, t.last)

-- from the least to the greatest number of either
abbrev pub spanned : ℤ × ℤ → ℤ × ℤ → ℤ × ℤ
spanned a b = (int_min a.0 b.0, int_max a.1 b.1)

-- ---- static expressions

-- the number that a static expression is worth; none where its evaluation raises
abbrev pub number_found : StaticForm → Val Value → Option ℤ
number_found Static (Gives (Number z)) = Some z
number_found form v = None

abbrev pub static_number : Scope → ExprTree → Option ℤ
static_number s e = number_found (static_form s e) (static_value s e)

-- this number alone, and where none is known what else is
abbrev pub known_or : Option ℤ → ℤ × ℤ → ℤ × ℤ
known_or (Some z) others = (z, z)
known_or None others = others

-- ---- by parts

-- an object, a loop parameter, a component, a call and a conversion: a value of the subtype
abbrev pub name_bounds : Standing → ℤ × ℤ
name_bounds (standing.Part r t) = subtype_bounds t
name_bounds (standing.Fixed t v) = subtype_bounds t
name_bounds (standing.Given t v) = subtype_bounds t
name_bounds w = base_bounds

-- `+ E` is worth what E is; what the other operators give is checked, whatever the operand (RM 4.5.4, 4.5.6)
abbrev pub unary_bounds : UnaryOperator → (operand : ℤ × ℤ) → ℤ × ℤ
unary_bounds unary.Plus operand = operand
unary_bounds operator operand = base_bounds

-- `E mod k` for a static k above 0 is at least 0 and below k (RM 4.5.5)
abbrev pub modulus_bounds : Option ℤ → ℤ × ℤ
modulus_bounds (Some (pos (suc n))) = (pos 0, pos n)
modulus_bounds k = base_bounds

-- the number of the right operand, where it is static
abbrev pub operation_bounds : BinaryOperator → (right : Option ℤ) → ℤ × ℤ
operation_bounds binary.Mod right = modulus_bounds right
operation_bounds operator right = base_bounds

abbrev mutual
  -- a static expression whose evaluation doesn't raise is worth one number (`StaticBounds` says so of all forms)
  pub bounds_of : Scope → ExprTree → ℤ × ℤ
  bounds_of s (tree.Number z place) = (z, z)
  bounds_of s (Named first selectors) = known_or (static_number s (Named first selectors)) (name_bounds (standing_of s first selectors))
  bounds_of s (Parenthesized place e) = bounds_of s e
  bounds_of s (Conditional place condition value elsifs else_value) = spanned (elsif_bounds s (bounds_of s value) elsifs) (bounds_of s else_value)
  bounds_of s (Unary operator place e) = known_or (static_number s (Unary operator place e)) (unary_bounds operator (bounds_of s e))
  bounds_of s (Binary operator a b) = known_or (static_number s (Binary operator a b)) (operation_bounds operator (static_number s b))

  -- of the parts of an if expression up to here
  pub elsif_bounds : Scope → (before : ℤ × ℤ) → ElsifValueTrees → ℤ × ℤ
  elsif_bounds s before NoElsifValues = before
  elsif_bounds s before (MoreElsifValues condition value rest) = elsif_bounds s (spanned before (bounds_of s value)) rest

-- ---- the law of static expressions

abbrev pub StaticBounds : Type 0
StaticBounds = (s : Scope) (e : ExprTree) (z : ℤ) → static_number s e ≡ Some z → bounds_of s e ≡ (z, z)
