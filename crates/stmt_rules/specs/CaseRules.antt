-- Case statements (RM 5.4; docs/LANGUAGE.md, "Rules of statements"): the expression, and 17 of the choices.
use Rattle.std.specs.Prelude.{ℕ, Bool, true, false, not, ◌||◌, List, [], ◌∷◌, ◌++◌, Option, Some, None}
use Rattle.std.specs.List.{list_any}
use Rattle.base.specs.declared.faults.TheConstants.{NO_MEANING, WRONG_CHOICES}
use Rattle.ada_tree.specs.ExpressionTree.{ExprTree}
use Rattle.ada_tree.specs.StatementTree.{ChoicesTree, Values, OtherValues, AlternativeTrees, NoAlternatives, MoreAlternatives}
use Rattle.types.specs.declared.entity.Value.{Value as Scalar}
use Rattle.types.specs.declared.entity.Value.TheVariants as scalar
use Rattle.types.specs.Operators.{are_same, same_truth}
use Rattle.types.specs.Scopes.{Scope, integer_type}
use Rattle.types.specs.Statics.{start_of}
use Rattle.expr_rules.specs.declared.own.Own.{Own}
use Rattle.expr_rules.specs.declared.own.Own.TheVariants.{Unknown, Universal}
use Rattle.expr_rules.specs.declared.own.Wanted.{Wanted}
use Rattle.expr_rules.specs.declared.own.Wanted.TheVariants.{Anything, OfType}
use Rattle.expr_rules.specs.Faults.{Faults, rule}
use Rattle.expr_rules.specs.Typing.{is_boolean, is_integral, own_of, typed_wanted}
use Rattle.expr_rules.specs.ExpressionRules.{faults_of}
use Rattle.expr_rules.specs.StaticRules.{static_faults, static_scalar}
use Rattle.type_rules.specs.ObjectRules.{known_scalar}

-- ---- the expression: of an integer type, or Boolean

abbrev pub is_discrete : Scope → Own → Bool
is_discrete s own = is_integral s own || is_boolean s own

-- 12: of another type; nothing is said of a type that is not known
abbrev pub discrete_rule : Scope → Own → (place : ℕ) → Faults
discrete_rule s Unknown place = []
discrete_rule s own place = rule NO_MEANING place (not (is_discrete s own))

abbrev pub selecting_faults : Scope → ExprTree → Faults
selecting_faults s e = faults_of s Anything e ++ discrete_rule s (own_of s e) (start_of e)

-- ---- the choices are static, of the type of the expression, which is Integer where it has none by itself; they may lie outside its subtype

abbrev pub choices_wanted : Scope → Own → Wanted
choices_wanted s Universal = OfType integer_type
choices_wanted s own = elim (is_discrete s own) [ true ↦ typed_wanted own | false ↦ Anything ]

abbrev pub choice_value : Scope → Wanted → ExprTree → Option Scalar
choice_value s w c = known_scalar (static_scalar s w None c)

abbrev pub same_scalar : Scalar → Scalar → Bool
same_scalar (scalar.Number x) (scalar.Number y) = are_same x y
same_scalar (scalar.Truth x) (scalar.Truth y) = same_truth x y
same_scalar x y = false

-- whether a value is among those of the choices before it
abbrev pub is_chosen : (before : List Scalar) → Option Scalar → Bool
is_chosen before (Some v) = list_any (same_scalar v) before
is_chosen before None = false

abbrev pub chosen_with : (before : List Scalar) → Option Scalar → List Scalar
chosen_with before (Some v) = before ++ v ∷ []
chosen_with before None = before

-- 17, at the choice: its value is chosen twice
abbrev pub choice_faults : Scope → Wanted → (before : List Scalar) → ExprTree → Faults
choice_faults s w before c = static_faults s w None c ++ rule WRONG_CHOICES (start_of c) (is_chosen before (choice_value s w c))

abbrev pub values_faults : Scope → Wanted → (before : List Scalar) → List ExprTree → Faults
values_faults s w before [] = []
values_faults s w before (c ∷ cs) = choice_faults s w before c ++ values_faults s w (chosen_with before (choice_value s w c)) cs

-- the values that are chosen up to the end of these choices
abbrev pub chosen_after : Scope → Wanted → (before : List Scalar) → List ExprTree → List Scalar
chosen_after s w before [] = before
chosen_after s w before (c ∷ cs) = chosen_after s w (chosen_with before (choice_value s w c)) cs

-- ---- alternatives

-- 17, at `others`: alternatives behind it
abbrev pub choices_faults : Scope → Wanted → (before : List Scalar) → (is_last : Bool) → ChoicesTree → Faults
choices_faults s w before is_last (Values cs) = values_faults s w before cs
choices_faults s w before is_last (OtherValues place) = rule WRONG_CHOICES place (not is_last)

abbrev pub chosen_by : Scope → Wanted → (before : List Scalar) → ChoicesTree → List Scalar
chosen_by s w before (Values cs) = chosen_after s w before cs
chosen_by s w before (OtherValues place) = before

abbrev pub is_others : ChoicesTree → Bool
is_others (OtherValues place) = true
is_others choices = false

abbrev pub has_others : AlternativeTrees → Bool
has_others NoAlternatives = false
has_others (MoreAlternatives place choices body rest) = is_others choices || has_others rest

abbrev pub no_more : AlternativeTrees → Bool
no_more NoAlternatives = true
no_more all = false

-- 17, at `case`: no `others`, which is asked for also where all values are chosen
abbrev pub others_rule : (place : ℕ) → AlternativeTrees → Faults
others_rule place all = rule WRONG_CHOICES place (not (has_others all))
