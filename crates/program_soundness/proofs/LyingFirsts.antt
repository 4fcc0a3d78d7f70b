-- The objects of a legal program begin in their subtypes, part by part (RM 3.3.1).
use Rattle.std.proofs.Common.{◌≡◌, ◌++◌, ℕ, [], ◌∷◌, Bool, true, false, Option, Some, None, refl, sym, ap, ◌∙◌, subst, arith}
use Rattle.std.specs.Prelude.{ℤ, pos, ◌&&◌, ◌*ℤ◌, cond, int_le, is_some, Ok, Err, not}
use Rattle.expr_soundness.specs.base.specs.declared.exceptions.PredefinedException.TheVariants.{ConstraintError}
use Rattle.expr_soundness.specs.base.specs.Arithmetic.{in_range, is_in_base_range}
use Rattle.expr_soundness.specs.ada_tree.specs.declared.expression.Identifier.{Identifier}
use Rattle.expr_soundness.specs.ada_tree.specs.ExpressionTree.{ExprTree}
use Rattle.expr_soundness.specs.ada_tree.specs.ProgramTree.{ProgramTree}
use Rattle.types.specs.declared.entity.PredefinedOperation.{PredefinedOperation}
use Rattle.types.specs.declared.entity.PredefinedOperation.TheVariants as predefined
use Rattle.types.specs.declared.entity.Subtype.{Subtype}
use Rattle.types.specs.Entities.{TypeForm, Integers, Booleans, Times, Spans, Arrays, Records}
use Rattle.types.specs.Evaluating.{Calls, applied, call, ended, name_with, passed, val, value_with}
use Rattle.types.specs.Evaluations.{Val, Gives, Raises, Meaningless, and_then, computed, raise}
use Rattle.types.specs.Places.{IsPredefined, IsValue, Place}
use Rattle.types.specs.Scopes.{Scope, form_at, greatest_number, integer, least_number}
use Rattle.types.specs.Shapes.{initial}
use Rattle.types.specs.Statics.{StaticIsValue, start_of, static_form, static_place}
use Rattle.types.specs.Values.{Value, Number, Truth, Array, Record, fits, is_within}
use Rattle.declaration_rules.specs.PackageNames.{program_scope}
use Rattle.legality.specs.ProgramRules.{IsLegal}
use Rattle.expr_soundness.specs.expr_rules.specs.declared.own.Wanted.TheVariants as wanted
use Rattle.expr_soundness.specs.expr_rules.specs.ExpressionRules.{faults_of}
use Rattle.expr_soundness.specs.expr_rules.specs.Faults.{Faults}
use Rattle.expr_soundness.specs.expr_rules.specs.StaticRules.{form_rule, if_unbroken, is_outside, static_faults}
use Rattle.expr_soundness.specs.expr_rules.specs.Typing.{is_spans, is_times}
use Rattle.expr_soundness.specs.expr_rules.proofs.TypedLaw.{front_empty}
use Rattle.expr_soundness.specs.type_rules.specs.ObjectRules.{called_faults, computed_faults, fixed_faults, is_clock, span_call, span_faults}
use Rattle.expr_soundness.specs.type_rules.specs.SubtypeNames.{subtype_of, wanted_by}
use Rattle.expr_soundness.specs.InitialLaw.{InitialValuesLie}
use Rattle.expr_soundness.specs.Lying.{OnGives, lies, lies_inside, ObjectsLie}
use Rattle.expr_soundness.specs.SoundScopes.{IsKnown, SoundScope}
use Rattle.expr_soundness.proofs.Growing.{test_kept}
use Rattle.expr_soundness.proofs.Lies.{fitting_lies}
use Rattle.expr_soundness.proofs.Numbers.{in_base}
use Rattle.expr_soundness.specs.meaning.specs.Programs.{given_or, initial_value, program_of, subtype_named, subtype_or_integer}
use Rattle.step_soundness.specs.InSubtypes.{BeginsIn, StoreLies}
use Rattle.step_soundness.specs.Objects.{first_store}
use Rattle.program_soundness.proofs.BegunScopes.{Fits, form_fits, named_fits, subtype_begins, subtype_fits}
use Rattle.program_soundness.proofs.Extending.{Extends, has_types, subtype_stays}
use Rattle.program_soundness.proofs.FirstValues.{clock_first}
use Rattle.program_soundness.proofs.Firsts.{FirstObjects, first_objects, operation_value, static_keeps}
use Rattle.program_soundness.proofs.Initials.{clock_type, gives_scalar, is_scalar_value, is_span, span_is, span_type, static_is_scalar, with_argument}
use Rattle.program_soundness.proofs.Statics.{must_be_static}

-- ---- times and spans of time, whose subtypes have the base range

within_wide : (first last z : ℤ) → (int_le first least_number && int_le greatest_number last) ≡ true → is_within least_number greatest_number z ≡ true
    → is_within first last z ≡ true
within_wide first last z h k = grind (arith, h, k)

spans_wide : (o : Option TypeForm) (t : Subtype) → is_spans o ≡ true → form_fits o t ≡ true
    → (int_le t.first least_number && int_le greatest_number t.last) ≡ true
spans_wide (Some Spans) t h k = k
spans_wide (Some Times) t h k = cc
spans_wide (Some Integers) t h k = cc
spans_wide (Some Booleans) t h k = cc
spans_wide (Some (Arrays index size element)) t h k = cc
spans_wide (Some (Records cs)) t h k = cc
spans_wide None t h k = cc

times_wide : (o : Option TypeForm) (t : Subtype) → is_times o ≡ true → form_fits o t ≡ true
    → (int_le t.first least_number && int_le greatest_number t.last) ≡ true
times_wide (Some Times) t h k = k
times_wide (Some Spans) t h k = cc
times_wide (Some Integers) t h k = cc
times_wide (Some Booleans) t h k = cc
times_wide (Some (Arrays index size element)) t h k = cc
times_wide (Some (Records cs)) t h k = cc
times_wide None t h k = cc

-- what Milliseconds and Microseconds give
module _ (calls : Calls) (p : Place) (Lies : Value → Type 0) (number : (z : ℤ) → is_within least_number greatest_number z ≡ true → Lies (Number z)) where
  computed_lies : (x : ℤ) → OnGives Lies (computed (in_range x))
  computed_lies x = by_test (is_in_base_range x) refl
    where
      by_test : (b : Bool) → is_in_base_range x ≡ b → OnGives Lies (computed (cond b (Ok x) (Err ConstraintError)))
      by_test true e = number x (in_base x e)
      by_test false e = tt

  settled_lies : (r : Val Value) → OnGives Lies r → OnGives Lies (and_then (and_then r (λ x. Gives (IsValue x))) (ended calls p))
  settled_lies (Gives x) h = h
  settled_lies (Raises y) h = tt
  settled_lies Meaningless h = tt

  abbrev after : PredefinedOperation → Val Value → Val Value
  after o v = and_then (and_then (and_then (and_then v (passed integer)) (λ w. Gives (w ∷ []))) (applied calls p (IsPredefined o))) (ended calls p)

  milliseconds_lie : (v : Val Value) → OnGives Lies (after predefined.Milliseconds v)
  milliseconds_lie (Gives (Number z)) = by_test (fits integer (Number z))
    where
      by_test : (b : Bool) → OnGives Lies (and_then (and_then (and_then (cond b (Gives (Number z)) (raise ConstraintError)) (λ w. Gives (w ∷ [])))
          (applied calls p (IsPredefined predefined.Milliseconds))) (ended calls p))
      by_test true = settled_lies (computed (in_range (pos 1000 *ℤ z))) (computed_lies (pos 1000 *ℤ z))
      by_test false = tt
  milliseconds_lie (Gives (Truth b)) = tt
  milliseconds_lie (Gives (Array vs)) = tt
  milliseconds_lie (Gives (Record fs)) = tt
  milliseconds_lie (Raises y) = tt
  milliseconds_lie Meaningless = tt

  microseconds_lie : (v : Val Value) → OnGives Lies (after predefined.Microseconds v)
  microseconds_lie (Gives (Number z)) = by_test (fits integer (Number z)) refl
    where
      by_test : (b : Bool) → fits integer (Number z) ≡ b → OnGives Lies
          (and_then (and_then (and_then (cond b (Gives (Number z)) (raise ConstraintError)) (λ w. Gives (w ∷ [])))
          (applied calls p (IsPredefined predefined.Microseconds))) (ended calls p))
      by_test true e = number z e
      by_test false e = tt
  microseconds_lie (Gives (Truth b)) = tt
  microseconds_lie (Gives (Array vs)) = tt
  microseconds_lie (Gives (Record fs)) = tt
  microseconds_lie (Raises y) = tt
  microseconds_lie Meaningless = tt

  span_lies : (o : PredefinedOperation) → is_span o ≡ true → (a : ExprTree) → OnGives Lies (name_with calls p (IsPredefined o) (with_argument a))
  span_lies predefined.Milliseconds h a = milliseconds_lie (value_with calls p a)
  span_lies predefined.Microseconds h a = microseconds_lie (value_with calls p a)
  span_lies predefined.Clock h a = cc
  span_lies predefined.Read h a = cc

-- ---- initial values

scalar_inside : (s : Scope) (n : ℕ) (v : Value) → is_scalar_value v ≡ true → lies_inside s n v ≡ true
scalar_inside s n (Number z) h = refl
scalar_inside s n (Truth b) h = refl
scalar_inside s n (Array vs) h = cc
scalar_inside s n (Record fs) h = cc

not_outside : (t : Subtype) (v : Value) → is_outside (Some t) v ≡ false → fits t v ≡ true
not_outside t v h = by_test (fits t v) h
  where
    by_test : (b : Bool) → not b ≡ false → b ≡ true
    by_test true k = refl
    by_test false k = cc

given_lies : (g : Scope) (t : Subtype) (r : Val Value) → OnGives (λ v. lies g t v ≡ true) r → BeginsIn g t → lies g t (given_or r (initial g t)) ≡ true
given_lies g t (Gives v) h k = h
given_lies g t (Raises y) h k = k
given_lies g t Meaningless h k = k

module _ (law : StaticIsValue) (s : Scope) (sound : SoundScope s) (g : Scope) (x : Extends s g) (t : Subtype) (fit : subtype_fits g t ≡ true) where
  abbrev Lies : Value → Type 0
  Lies v = lies g t v ≡ true

  clock_lies : (e : ExprTree) → is_clock s e ≡ true → faults_of s (wanted.OfType t.type_number) e ≡ [] → OnGives Lies (val (static_place g) e)
  clock_lies e clock h =
      let times = test_kept s g (has_types s g x) is_times refl t.type_number (clock_type s sound t.type_number e clock h) in
      subst (OnGives Lies) (sym (clock_first law s sound g x e clock))
      (within_wide t.first t.last (pos 0) (times_wide (form_at g t.type_number) t times fit) refl)

  span_call_lies : (e : ExprTree) (y : PredefinedOperation × ExprTree) → span_call s e ≡ Some y → span_faults s (Some t) e y.0 y.1 ≡ []
      → OnGives Lies (val (static_place g) e)
  span_call_lies e y called faults =
      let o = span_is s sound e y called in
      let expected = faults_of s (wanted_by (Some t)) e in
      let form = form_rule (start_of e) (static_form s y.1) in
      let one = front_empty expected form (front_empty (expected ++ form) (if_unbroken expected (computed_faults s (start_of e) y.0 y.1)) faults) in
      let typed = span_type s sound t.type_number o.first y.1 o.callee (ap (faults_of s (wanted.OfType t.type_number)) (sym o.is) ∙ one) in
      let spans = test_kept s g (has_types s g x) is_spans refl t.type_number typed.form in
      subst (OnGives Lies) (sym (ap (val (static_place g)) o.is ∙ operation_value law s sound g x o.first is_span o.callee (with_argument y.1)))
      (span_lies (call 0) (static_place g) Lies (λ z k. within_wide t.first t.last z (spans_wide (form_at g t.type_number) t spans fit) k)
      o.callee.operation o.callee.passes y.1)

  static_lies : (e : ExprTree) → static_faults s (wanted.OfType t.type_number) (Some t) e ≡ [] → OnGives Lies (val (static_place g) e)
  static_lies e faults =
      let y = must_be_static s sound (wanted.OfType t.type_number) (Some t) e faults in
      let plain : is_scalar_value y.value ≡ true = sym (ap gives_scalar y.gives) ∙ static_is_scalar s e y.static in
      subst (OnGives Lies) (sym (law s (static_place g) (call 0) (static_keeps s g x) e y.static ∙ y.gives))
      (fitting_lies g t y.value (not_outside t y.value y.inside) (scalar_inside g t.type_number y.value plain))

  initial_lies : (e : ExprTree) → fixed_faults s (Some t) e ≡ [] → OnGives Lies (val (static_place g) e)
  initial_lies e h = by_clock (is_clock s e) refl
    where
      faults_by : Bool → Option (PredefinedOperation × ExprTree) → Faults
      faults_by b o = elim b [ true ↦ faults_of s (wanted_by (Some t)) e | false ↦ called_faults s (Some t) e o ]

      by_call : (o : Option (PredefinedOperation × ExprTree)) → is_clock s e ≡ false → span_call s e ≡ o → OnGives Lies (val (static_place g) e)
      by_call (Some y) clock called = span_call_lies e y called (sym (λ j. faults_by (clock j) (called j)) ∙ h)
      by_call None clock called = static_lies e (sym (λ j. faults_by (clock j) (called j)) ∙ h)

      by_clock : (b : Bool) → is_clock s e ≡ b → OnGives Lies (val (static_place g) e)
      by_clock true clock = clock_lies e clock (sym (ap (λ b. faults_by b (span_call s e)) clock) ∙ h)
      by_clock false clock = by_call (span_call s e) clock refl

-- ---- objects

module _ (law : StaticIsValue) (initial : InitialValuesLie) (t : ProgramTree) (legal : IsLegal t) (sound : SoundScope (program_scope t))
    (fits : Fits (program_scope t)) where
  abbrev whole : Scope
  whole = program_scope t

  object_lies : (s : Scope) → SoundScope s → Extends s whole → (name subtype : Identifier) (value : Option ExprTree) (u : Subtype)
      → subtype_of s subtype ≡ Some u
      → IsKnown s u
      → ((e : ExprTree) → value ≡ Some e → fixed_faults s (Some u) e ≡ [])
      → lies whole (subtype_named whole subtype) (initial_value whole (subtype_named whole subtype) value) ≡ true
  object_lies s there x name subtype value u is known faults =
      subst (λ v. lies whole v (initial_value whole v value) ≡ true) (sym (ap subtype_or_integer stays)) (by_value value refl)
    where
      stays : subtype_of (program_scope t) subtype ≡ Some u
      stays = subtype_stays s (program_scope t) subtype u x is

      fit : subtype_fits (program_scope t) u ≡ true
      fit = named_fits (program_scope t) fits sound subtype u stays

      begins : BeginsIn (program_scope t) u
      begins = subtype_begins initial (program_scope t) sound fits u
          (test_kept s (program_scope t) (has_types s (program_scope t) x) is_some refl u.type_number known) fit

      by_value : (o : Option ExprTree) → value ≡ o → lies (program_scope t) u (initial_value (program_scope t) u o) ≡ true
      by_value (Some e) k = given_lies (program_scope t) u (val (static_place (program_scope t)) e)
          (initial_lies law s there (program_scope t) x u fit e (faults e k)) begins
      by_value None k = begins

  first : FirstObjects t (ObjectsLie whole)
  first =
      first_objects t legal (ObjectsLie whole) tt
      (λ s there x name subtype value u is known faults xs rest. (object_lies s there x name subtype value u is known faults, rest))

  -- variables and components
  pub store_lies : StoreLies (program_of t).scope (first_store (program_of t))
  store_lies = record { variables = first.variables; components = first.components }
