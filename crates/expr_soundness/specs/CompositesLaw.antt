-- The law of composite values, as a statement: the parts of what a legal expression comes to lie in their subtypes (RM 3.2, 4).
use Rattle.std.specs.Prelude.{◌≡◌, ℕ, Bool, true, false, List, [], Option, Some, None, is_some}
use Rattle.meaning.specs.ada_tree.specs.ExpressionTree.{ExprTree}
use Rattle.meaning.specs.types.specs.declared.entity.Subtype.{Subtype}
use Rattle.meaning.specs.types.specs.declared.entity.Role.{Role}
use Rattle.meaning.specs.types.specs.Entities.{TypeForm, Arrays, Records, Object}
use Rattle.meaning.specs.types.specs.Evaluating.{val}
use Rattle.meaning.specs.types.specs.Places.{Function, Place, IsObject, function_of, meaning_of}
use Rattle.meaning.specs.types.specs.Scopes.{Scope, entity_at, form_at, number_of}
use Rattle.meaning.specs.types.specs.Values.{Value}
use Rattle.meaning.specs.expr_rules.specs.declared.own.Wanted.TheVariants.{OfType}
use Rattle.meaning.specs.expr_rules.specs.ExpressionRules.{faults_of}
use Rattle.expr_soundness.specs.Agreeing.{Agrees}
use Rattle.expr_soundness.specs.Answers.{FunctionsAreSound}
use Rattle.expr_soundness.specs.Lying.{OnGives, lies_inside}

-- a type whose values have no parts: integers, truth values, times and spans of time
abbrev pub is_simple : Option TypeForm → Bool
is_simple (Some (Arrays index length element)) = false
is_simple (Some (Records components)) = false
is_simple None = false
is_simple form = true

-- no function returns a composite value (docs/LANGUAGE.md)
abbrev pub ResultsAreSimple : Place → Type 0
ResultsAreSimple p = (owner : Option ℕ) (name : List ℕ) (f : Function) → function_of p.functions owner name ≡ Some f
    → is_simple (form_at p.scope f.result.type_number) ≡ true

-- the parts of each visible object lie in their subtypes
abbrev pub PartsLieHere : Scope → Place → Type 0
PartsLieHere s p = (name : List ℕ) (number : ℕ) (r : Role) (t u : Subtype) (v : Value) → number_of s name ≡ Some number
    → entity_at s number ≡ Some (Object r t)
    → meaning_of p name ≡ IsObject u v → lies_inside p.scope t.type_number v ≡ true

-- At a place that agrees with the visible names, and whose functions are sound, a legal expression comes to a value whose parts lie in their subtypes, as its
-- type has them, or raises an exception.
abbrev pub CompositesLie : Type 0
CompositesLie = (s : Scope) (p : Place) → Agrees s p → FunctionsAreSound p → ResultsAreSimple p → PartsLieHere s p
    → (e : ExprTree) (n : ℕ) → is_some (form_at s n) ≡ true → faults_of s (OfType n) e ≡ []
    → OnGives (λ v. lies_inside p.scope n v ≡ true) (val p e)
