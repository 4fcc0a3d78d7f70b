-- The law of types and values, as a statement: a legal expression is worth a value of its type, or raises an exception.
use Rattle.std.specs.Prelude.{◌≡◌, ℕ, suc, Bool, true, false, [], Some}
use Rattle.ada_tree.specs.declared.expression.Identifier.{Identifier}
use Rattle.ada_tree.specs.ExpressionTree.{ExprTree, Named, SelectorTrees}
use Rattle.types.specs.Entities.{Booleans}
use Rattle.types.specs.Scopes.{Scope, form_at, boolean_type, base_range_of}
use Rattle.types.specs.Values.{Value, Number}
use Rattle.types.specs.Shapes.{Shape, shape_of, has_shape}
use Rattle.types.specs.Evaluations.{Val, Gives, Raises, Meaningless}
use Rattle.types.specs.Places.{Place}
use Rattle.types.specs.Evaluating.{Calls, value_with}
use Rattle.expr_rules.specs.declared.own.Own.{Own}
use Rattle.expr_rules.specs.declared.own.Own.TheVariants.{Universal, Typed}
use Rattle.expr_rules.specs.declared.own.Wanted.{Wanted}
use Rattle.expr_rules.specs.Typing.{own_of, is_known, is_times, is_spans}
use Rattle.expr_rules.specs.ExpressionRules.{faults_in}

-- the shape of the values of the type with this number: a number, a truth value, or the components of a composite, each of its shape
abbrev pub type_shape : Scope → ℕ → Shape
type_shape s n = shape_of s (base_range_of n)

-- what has no type by itself is worth a number
abbrev pub is_value_of : Scope → Own → Value → Bool
is_value_of s Universal (Number z) = true
is_value_of s (Typed n) v = has_shape (type_shape s n) v
is_value_of s own v = false

-- a value of this type, or an exception; never what has no meaning
abbrev pub suits : Scope → Own → Val Value → Bool
suits s own (Gives v) = is_value_of s own v
suits s own (Raises x) = true
suits s own Meaningless = false

-- its type is known, and it comes to a value of that type
pub record IsTyped (s : Scope) (own : Own) (v : Val Value) : Type 0 where
  pub known : is_known own ≡ true
  pub suited : suits s own v ≡ true

-- What the law asks of names: Boolean is the type with its number, Time_Span stands behind Time, and each name that breaks no rule comes to a value of its
-- type.
pub record AreTyped (s : Scope) (calls : Calls) (p : Place) : Type 0 where
  pub boolean : form_at s boolean_type ≡ Some Booleans
  pub span : (n : ℕ) → is_times (form_at s n) ≡ true → is_spans (form_at s (suc n)) ≡ true
  pub each : (first : Identifier) (selectors : SelectorTrees) (w : Wanted) → faults_in s w (Named first selectors) ≡ []
      → IsTyped s (own_of s (Named first selectors)) (value_with calls p (Named first selectors))

abbrev pub TypedValues : Type 0
TypedValues = (s : Scope) (calls : Calls) (p : Place) → AreTyped s calls p → (e : ExprTree) (w : Wanted) → faults_in s w e ≡ []
    → IsTyped s (own_of s e) (value_with calls p e)
