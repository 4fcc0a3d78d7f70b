-- A loop over an integer type of the package, worked: its parameter is an object of type Integer in a run, and expressions are of the type of its range.
use Rattle.std.proofs.Common.{◌≡◌, ℕ, [], ◌∷◌, true, inl, inr, Some, refl, sym, ap}
use Rattle.std.specs.Prelude.{codes, pos}
use Rattle.meaning.specs.ada_tree.specs.declared.expression.BinaryOperator.TheVariants as binary
use Rattle.meaning.specs.ada_tree.specs.ExpressionTree as tree
use Rattle.meaning.specs.ada_tree.specs.ExpressionTree.{ExprTree, NoSelectors}
use Rattle.meaning.specs.types.specs.declared.entity.Role.TheVariants as role
use Rattle.meaning.specs.types.specs.Entities.{Integers, Entity, OfType, Object}
use Rattle.meaning.specs.types.specs.Scopes.{Scope, base_range_of, entity_at, standard, with_name}
use Rattle.meaning.specs.Works.{turn_subtype}
use Rattle.meaning.specs.types.specs.Values.{Value, Number}
use Rattle.meaning.specs.types.specs.Evaluations.{Gives}
use Rattle.meaning.specs.types.specs.Places.{Place, Meaning, IsObject, meaning_of}
use Rattle.meaning.specs.types.specs.Statics.{static_place}
use Rattle.meaning.specs.types.specs.Evaluating.{val}
use Rattle.meaning.specs.expr_rules.specs.declared.own.Own.TheVariants.{Typed}
use Rattle.meaning.specs.expr_rules.specs.declared.own.Wanted.TheVariants.{OfType as Expected}
use Rattle.meaning.specs.expr_rules.specs.Typing.{own_of}
use Rattle.meaning.specs.expr_rules.specs.ExpressionRules.{faults_of}
use Rattle.expr_soundness.specs.SoundScopes.{SoundScope}
use Rattle.expr_soundness.specs.Agreeing.{Agrees}
use Rattle.expr_soundness.proofs.Positions.{entity_added}
use Rattle.expr_soundness.proofs.Standard.{is_simple, simple_agrees, standard_is_sound, standard_simple}
use Rattle.expr_soundness.proofs.Widening.{widened}
use Rattle.expr_soundness.proofs.Agreement.{agreement_is_kept}

-- `type Small is range 1 .. 10;`
abbrev scope : Scope
scope = with_name standard (codes "SMALL") (OfType Integers (base_range_of 10))

scope_sound : SoundScope scope
scope_sound = widened standard (codes "SMALL") (OfType Integers (base_range_of 10)) standard_is_sound refl (record { numbered = refl; parts = tt }) refl

scope_simple : (n : ℕ) (e : Entity) → entity_at scope n ≡ Some e → is_simple e ≡ true
scope_simple n e h =
    elim (entity_added standard (record { name = codes "SMALL"; entity = OfType Integers (base_range_of 10) }) n e h) [
      | inl k ↦ standard_simple n e k
      | inr k ↦ sym (ap is_simple k.1)
    ]

-- `for I in Small range 1 .. 10 loop`, in the third turn
abbrev inside : Scope
inside = with_name scope (codes "I") (Object role.LoopParameter (base_range_of 10))

abbrev place : Place
place = record (static_place scope) { locals = record { name = codes "I"; subtype = turn_subtype (pos 3); value = Number (pos 3) } ∷ [] }

turn_agrees : Agrees inside place
turn_agrees = agreement_is_kept.parameter scope (static_place scope) (codes "I") (base_range_of 10) (pos 3) (simple_agrees scope scope_sound scope_simple) refl refl

parameter_means : meaning_of place (codes "I") ≡ IsObject (turn_subtype (pos 3)) (Number (pos 3))
parameter_means = refl

-- no object of its own subtype
not_of_its_type : (v : Value) → meaning_of place (codes "I") ≡ IsObject (base_range_of 10) v → ⊥
not_of_its_type v h =
    let number : Meaning → ℕ = λ m. elim m [ IsObject t w ↦ t.type_number | n ↦ 0 ] in
    let differs = ap number h in
    cc

-- `I + 1`
abbrev next : ExprTree
next = tree.Binary binary.Add (tree.Named (record { name = codes "I"; place = 0 }) NoSelectors) (tree.Number (pos 1) 2)

next_legal : faults_of inside (Expected 10) next ≡ []
next_legal = refl

next_typed : own_of inside next ≡ Typed 10
next_typed = refl

next_worth : val place next ≡ Gives (Number (pos 4))
next_worth = refl
