-- When calls of functions are answered: with a value of the result's type, or an exception (RM 6.4, 6.5).
use Rattle.std.specs.Prelude.{◌≡◌, ℕ, Bool, true, false, ◌&&◌, List, [], ◌∷◌, Option, Some}
use Rattle.meaning.specs.types.specs.Scopes.{Scope}
use Rattle.meaning.specs.types.specs.Values.{Value}
use Rattle.meaning.specs.types.specs.Shapes.{has_shape, shape_of}
use Rattle.meaning.specs.types.specs.Places.{Formal, Function, Place, function_of}
use Rattle.meaning.specs.types.specs.Evaluating.{Calls, entered}
use Rattle.meaning.specs.expr_rules.specs.declared.own.Own.TheVariants.{Typed}
use Rattle.meaning.specs.expr_rules.specs.declared.own.Wanted.TheVariants.{OfType}
use Rattle.meaning.specs.expr_rules.specs.ExpressionRules.{faults_of}
use Rattle.meaning.specs.expr_rules.specs.Laws.{suits}
use Rattle.expr_soundness.specs.SoundScopes.{IsKnown}
use Rattle.expr_soundness.specs.Agreeing.{Agrees}

-- a value of its shape for each formal
abbrev pub are_actuals : Scope → List Formal → List Value → Bool
are_actuals s [] [] = true
are_actuals s (f ∷ fs) (v ∷ vs) = has_shape (shape_of s f.subtype) v && are_actuals s fs vs
are_actuals s fs vs = false

-- Each function here, called with values of its formals, gives a value of its result's type or raises an exception, whatever actions are open.
abbrev pub CallsAnswer : Calls → Place → Type 0
CallsAnswer calls p = (actions : List ℕ) (owner : Option ℕ) (name : List ℕ) (f : Function) (vs : List Value)
    → function_of p.functions owner name ≡ Some f → are_actuals p.scope f.formals vs ≡ true
    → suits p.scope (Typed f.result.type_number) (calls (record p { actions = actions }) f vs) ≡ true

-- what the body of a function returns is legal in a scope that agrees with the place of the body
pub record ReturnsSoundly (p : Place) (f : Function) : Type 0 where
  pub scope : Scope
  pub agrees : Agrees scope p
  pub known : IsKnown scope f.result
  pub legal : faults_of scope (OfType f.result.type_number) f.value ≡ []

-- each function here is sound, wherever it is called: the package's objects are those of this place
abbrev pub FunctionsAreSound : Place → Type 0
FunctionsAreSound p = (owner : Option ℕ) (name : List ℕ) (f : Function) (vs : List Value) (left : ℕ)
    → function_of p.functions owner name ≡ Some f → are_actuals p.scope f.formals vs ≡ true → ReturnsSoundly (entered p f vs left) f
