-- The law of bounds, as a statement: what a legal expression is worth lies between them.
use Rattle.std.specs.Prelude.{◌≡◌, ℤ, Bool, true, int_le, List, [], ◌&&◌}
use Rattle.meaning.specs.base.specs.Arithmetic.{is_in_base_range}
use Rattle.meaning.specs.base.specs.Schedule.{are_lines}
use Rattle.meaning.specs.ada_tree.specs.ExpressionTree.{ExprTree}
use Rattle.meaning.specs.types.specs.declared.entity.PredefinedOperation.{PredefinedOperation}
use Rattle.meaning.specs.types.specs.declared.entity.Subtype.{Subtype}
use Rattle.meaning.specs.types.specs.Evaluations.{Gives}
use Rattle.meaning.specs.types.specs.Evaluating.{Calls, passed, predefined_value, val, value_with, wanted_by_operation}
use Rattle.meaning.specs.types.specs.Places.{Place}
use Rattle.meaning.specs.types.specs.Scopes.{Scope}
use Rattle.meaning.specs.types.specs.Values.{Value}
use Rattle.meaning.specs.expr_rules.specs.declared.own.Wanted.{Wanted}
use Rattle.meaning.specs.expr_rules.specs.ExpressionRules.{faults_in}
use Rattle.expr_soundness.specs.Agreeing.{Agrees}
use Rattle.expr_soundness.specs.Answers.{CallsAnswer, FunctionsAreSound}
use Rattle.meaning.specs.types.specs.Bounds.{base_bounds, bounds_of}
use Rattle.expr_soundness.specs.Lying.{LoopsLie, PlaceLies, ReturnWithin, ValuesLie, VisibleLies, are_between, comes_between}

-- At a place that agrees with the visible names, and where what these stand for has values in its subtypes, a legal expression comes to a value between its
-- bounds, or raises an exception.
abbrev pub ExpressionsLie : Type 0
ExpressionsLie = (s : Scope) (p : Place) (calls : Calls) → Agrees s p → CallsAnswer calls p → ValuesLie s p calls
    → (e : ExprTree) (w : Wanted) → faults_in s w e ≡ []
    → comes_between (bounds_of s e) (value_with calls p e) ≡ true

-- The value of an expression at a place whose functions are sound lies between its bounds, with the frames that are left. What a call returns is checked
-- (RM 6.5), so nothing is asked of functions.
abbrev pub ValuesAreBounded : Type 0
ValuesAreBounded = (s : Scope) (p : Place) → Agrees s p → FunctionsAreSound p → VisibleLies s p
    → (e : ExprTree) (w : Wanted) → faults_in s w e ≡ []
    → comes_between (bounds_of s e) (val p e) ≡ true

-- every number between the bounds is one of the subtype
abbrev pub is_inside : ℤ × ℤ → Subtype → Bool
is_inside bounds t = int_le t.first bounds.0 && int_le bounds.1 t.last

-- An expression whose bounds lie inside a subtype passes the check against it, whatever its value: the check may be left out (RM 4.6, 5.2, 6.4.1, 6.5).
abbrev pub ChecksAreSpared : Type 0
ChecksAreSpared = (s : Scope) (p : Place) (calls : Calls) → Agrees s p → CallsAnswer calls p → ValuesLie s p calls
    → (e : ExprTree) (w : Wanted) (t : Subtype) → faults_in s w e ≡ [] → is_inside (bounds_of s e) t ≡ true
    → (v : Value) → value_with calls p e ≡ Gives v → passed t v ≡ Gives v

-- What a place has lies in its subtypes; so all that is visible does, wherever names agree with it, and loop parameters have numbers of their ranges.
abbrev pub VisibleValuesLie : Type 0
VisibleValuesLie = (s : Scope) (p : Place) → Agrees s p → PlaceLies p → LoopsLie s p → VisibleLies s p

-- all that has a value lies in its subtype, where what functions return does
abbrev pub AllValuesLie : Type 0
AllValuesLie = (s : Scope) (p : Place) (calls : Calls) → Agrees s p → PlaceLies p → LoopsLie s p → ReturnWithin calls → ValuesLie s p calls

-- Where the inputs and the time are of the base range, what Ada.Real_Time and Control_IO give is (docs/LANGUAGE.md).
abbrev pub LanguageLies : Type 0
LanguageLies = (p : Place) → are_lines p.schedule ≡ true → is_in_base_range p.now ≡ true → (o : PredefinedOperation) (vs : List Value)
    → are_between (wanted_by_operation o) vs ≡ true
    → comes_between base_bounds (predefined_value p o vs) ≡ true
