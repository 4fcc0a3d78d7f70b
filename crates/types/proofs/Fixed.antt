-- A static expression has its value whatever else there is.
use Rattle.std.proofs.Common.{◌≡◌, refl, sym, ap, ◌∙◌, Option, Some, None}
use Rattle.ada_tree.specs.ExpressionTree as tree
use Rattle.ada_tree.specs.ExpressionTree.{Named, Parenthesized, Conditional, Unary, Binary, SelectorTrees}
use Rattle.ada_tree.specs.declared.expression.Identifier.{Identifier}
use Rattle.types.specs.declared.entity.Value.{Value as Scalar}
use Rattle.types.specs.declared.standing.Standing.{Standing}
use Rattle.types.specs.declared.standing.Standing.TheVariants as standing
use Rattle.types.specs.declared.statics.StaticForm.{StaticForm}
use Rattle.types.specs.declared.statics.StaticForm.TheVariants.{Static, NotStatic, Doubtful}
use Rattle.types.specs.Scopes.{Scope}
use Rattle.types.specs.Standings.{standing_of}
use Rattle.types.specs.Values.{Value, value_of}
use Rattle.types.specs.Evaluations.{Val, Gives, and_then}
use Rattle.types.specs.Operators.{unary_value}
use Rattle.types.specs.Places.{Place, meaning_of}
use Rattle.types.specs.Evaluating.{Calls, fixed_value, name_with, value_with}
use Rattle.types.specs.Statics.{Keeps, StaticIsValue, both, name_form, no_calls, static_form, static_place, static_value}
use Rattle.types.specs.Knowing.{operation_value}

both_left : (a b : StaticForm) → both a b ≡ Static → a ≡ Static
both_left Static b h = refl
both_left NotStatic b h = cc
both_left Doubtful Static h = cc
both_left Doubtful NotStatic h = cc
both_left Doubtful Doubtful h = cc

both_right : (a b : StaticForm) → both a b ≡ Static → b ≡ Static
both_right Static b h = h
both_right NotStatic b h = cc
both_right Doubtful Static h = refl
both_right Doubtful NotStatic h = cc
both_right Doubtful Doubtful h = cc

-- a name that is static has a fixed value
has_value : (w : Standing) → name_form w ≡ Static → (v : Scalar) × (fixed_value w ≡ Some v)
has_value (standing.Fixed t (Some v)) h = (v, refl)
has_value (standing.Given t (Some v)) h = (v, refl)
has_value (standing.Plain z) h = (_, refl)
has_value standing.Doubtful h = cc
has_value (standing.Fixed t None) h = cc
has_value (standing.Given t None) h = cc
has_value _ h = cc

-- the value of a name, of which this is fixed
abbrev named : Option Scalar → Val Value → Val Value
named x other = elim x [ Some v ↦ Gives (value_of v) | None ↦ other ]

name_value : (s : Scope) (p : Place) (calls : Calls) → Keeps s p → (first : Identifier) (selectors : SelectorTrees) → name_form (standing_of s first selectors) ≡ Static → value_with calls p (Named first selectors) ≡ static_value s (Named first selectors)
name_value s p calls keeps first selectors h =
    let v = has_value (standing_of s first selectors) h in
    ap (λ x. named x (name_with calls p (meaning_of p first.name) selectors)) (keeps first selectors v.0 v.1)
    ∙ sym (ap (λ x. named x (name_with no_calls (static_place s) (meaning_of (static_place s) first.name) selectors)) v.1)

pub static_is_value : StaticIsValue
static_is_value s p calls keeps (tree.Number z place) h = refl
static_is_value s p calls keeps (Named first selectors) h = name_value s p calls keeps first selectors h
static_is_value s p calls keeps (Parenthesized place e) h = static_is_value s p calls keeps e h
static_is_value s p calls keeps (Unary operator place e) h = ap (λ x. and_then x (unary_value operator)) (static_is_value s p calls keeps e h)
static_is_value s p calls keeps (Binary operator a b) h =
    let left = static_is_value s p calls keeps a (both_left (static_form s a) (static_form s b) h) in
    let right = static_is_value s p calls keeps b (both_right (static_form s a) (static_form s b) h) in (
    λ j. operation_value operator (left j) (right j)
    )
static_is_value s p calls keeps (Conditional place condition value elsifs else_value) h = cc
