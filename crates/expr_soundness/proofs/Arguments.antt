-- What stands in the parentheses of a legal name: values of the subtypes that are expected there, and what the name comes to with them.
use Rattle.std.proofs.Common.{◌≡◌, ℕ, zero, suc, List, [], ◌∷◌, map, Bool, true, false, inl, inr, Option, Some, None, refl, sym, ap, ◌∙◌, subst, arith}
use Rattle.std.specs.Prelude.{⊤, cond, length, nat_eq, slice_get}
use Rattle.meaning.specs.base.specs.declared.exceptions.PredefinedException.TheVariants.{ConstraintError}
use Rattle.meaning.specs.ada_tree.specs.declared.declaration.Mode.{Mode}
use Rattle.meaning.specs.ada_tree.specs.declared.declaration.Mode.TheVariants as mode
use Rattle.meaning.specs.ada_tree.specs.ExpressionTree.{ExprTree, Arguments, ArgumentTrees}
use Rattle.meaning.specs.types.specs.declared.entity.Subtype.{Subtype}
use Rattle.meaning.specs.types.specs.declared.entity.Role.{Role}
use Rattle.meaning.specs.types.specs.declared.entity.FormalParameter.{FormalParameter}
use Rattle.meaning.specs.types.specs.declared.entity.PredefinedOperation.{PredefinedOperation}
use Rattle.meaning.specs.types.specs.declared.entity.PredefinedOperation.TheVariants as predefined
use Rattle.meaning.specs.types.specs.declared.standing.Standing.{Standing}
use Rattle.meaning.specs.types.specs.declared.standing.Standing.TheVariants as standing
use Rattle.meaning.specs.types.specs.Entities.{TypeForm, Integers, Arrays, Profile}
use Rattle.meaning.specs.types.specs.Scopes.{Scope, form_at}
use Rattle.meaning.specs.types.specs.Values.{Value, Number, fits}
use Rattle.meaning.specs.types.specs.Shapes.{has_shape, shape_of}
use Rattle.meaning.specs.types.specs.Standings.{call_stands, callee_profile, conversion_stands, count, element_stands, is_single, result_stands, select}
use Rattle.meaning.specs.types.specs.Statics.{start_of}
use Rattle.meaning.specs.types.specs.Evaluations.{Val, Gives, Raises, Meaningless, and_then, raise}
use Rattle.meaning.specs.types.specs.Places.{Place, Meaning, IsObject, IsFunction, IsPredefined, IsSubtype}
use Rattle.meaning.specs.types.specs.Evaluating.{Calls, actuals_with, applied, as_value, called, element_meaning, formal_subtype, object_or_nothing, part_with, passed, predefined_value, wanted, wanted_by_conversion, wanted_by_index, wanted_by_operation}
use Rattle.meaning.specs.expr_rules.specs.declared.own.Own.{Own}
use Rattle.meaning.specs.expr_rules.specs.declared.own.Own.TheVariants.{Unknown, Universal, Typed}
use Rattle.meaning.specs.expr_rules.specs.declared.own.Wanted.{Wanted}
use Rattle.meaning.specs.expr_rules.specs.declared.own.Wanted.TheVariants.{Anything, AnyInteger, OfType}
use Rattle.meaning.specs.expr_rules.specs.declared.names.Slot.{Slot}
use Rattle.meaning.specs.expr_rules.specs.declared.names.Slot.TheVariants.{Expects, Takes, TakesLabel}
use Rattle.meaning.specs.expr_rules.specs.Typing.{is_integers, is_integral}
use Rattle.meaning.specs.expr_rules.specs.NameRules.{call_slot, conversion_slot, count_rule, formal_slot, formal_slot_or, index_slot, is_doubtful, part_rule, profile_formals, slot_at, slot_rule}
use Rattle.meaning.specs.expr_rules.specs.Laws.{IsTyped, suits, type_shape}
use Rattle.meaning.specs.expr_rules.proofs.TypedLaw.{Expected, as_number, expected, integral_numeric, same_number, suits_number, unbroken}
use Rattle.expr_soundness.specs.SoundScopes.{AreIn, IsSoundPredefined, IsSoundProfile, IsSoundResult}
use Rattle.expr_soundness.specs.Agreeing.{Agrees, parameter_subtype}
use Rattle.expr_soundness.specs.Answers.{CallsAnswer}
use Rattle.expr_soundness.proofs.Goods.{Good, GoodCallee, good_select, no_constant_parts, no_integer_parts, sound_form}
use Rattle.expr_soundness.proofs.Elements.{array_element}
use Rattle.expr_soundness.proofs.Denoting.{AreValues, CanBeCalled, Comes, Denotes, DenotesCallee, DenotesResult, Meant, MeansPart, MeansValue}
use Rattle.expr_soundness.proofs.Applying.{ActualsSuit, declared_suits, mapped_length, one_count, predefined_suits}

-- ---- what is expected of each argument, by the subtype in which its value must lie

abbrev pub WantedFits : Scope → Wanted → Subtype → Type 0
WantedFits s (OfType n) t = n ≡ t.type_number
WantedFits s AnyInteger t = is_integers (form_at s t.type_number) ≡ true
WantedFits s Anything t = ⊥

abbrev pub SlotFits : Scope → Slot → Subtype → Type 0
SlotFits s (Expects w) t = WantedFits s w t
SlotFits s (Takes n) t = ⊥
SlotFits s TakesLabel t = ⊥

abbrev pub Slots : Scope → (ℕ → Slot) → ℕ → List Subtype → Type 0
Slots s slot k [] = ⊤
Slots s slot k (t ∷ ts) = (SlotFits s (slot k) t) × (Slots s slot (suc k) ts)

slots_further : (s : Scope) (slot : ℕ → Slot) (k : ℕ) (ts : List Subtype) → Slots s (λ i. slot (suc i)) k ts → Slots s slot (suc k) ts
slots_further s slot k [] h = tt
slots_further s slot k (t ∷ ts) h = (h.0, slots_further s slot (suc k) ts h.1)

abbrev slot_by : ℕ → Mode → Slot
slot_by n m = elim m [ mode.In ↦ Expects (OfType n) | mode.Out ↦ Takes n | mode.InOut ↦ Takes n ]

formal_fits : (s : Scope) (f : FormalParameter) → f.mode ≡ mode.In → SlotFits s (formal_slot f) f.subtype
formal_fits s f h = subst (λ m. SlotFits s (slot_by f.subtype.type_number m) f.subtype) (sym h) refl

pub formal_slots : (s : Scope) (fs : List FormalParameter) → AreIn fs → Slots s (λ i. formal_slot_or (slice_get fs i)) zero (map parameter_subtype fs)
formal_slots s [] h = tt
formal_slots s (f ∷ fs) h = (formal_fits s f h.0, slots_further s (λ i. formal_slot_or (slice_get (f ∷ fs) i)) zero (map parameter_subtype fs) (formal_slots s fs h.1))

-- ---- one argument

abbrev pub ActualSuits : Scope → Subtype → Val Value → Type 0
ActualSuits s t (Gives v) = (has_shape (type_shape s t.type_number) v ≡ true) × (fits t v ≡ true)
ActualSuits s t (Raises x) = ⊤
ActualSuits s t Meaningless = ⊥

pub passed_suits : (s : Scope) (t : Subtype) (v : Val Value) → suits s (Typed t.type_number) v ≡ true → ActualSuits s t (and_then v (passed t))
passed_suits s t (Gives x) h = by_test (fits t x) refl
  where
    by_test : (b : Bool) → fits t x ≡ b → ActualSuits s t (cond b (Gives x) (raise ConstraintError))
    by_test true e = (h, e)
    by_test false e = tt
passed_suits s t (Raises x) h = tt
passed_suits s t Meaningless h = cc

-- what has no type by itself is a number, and so is what is of any integer type
universal_suits : (s : Scope) (n : ℕ) (v : Val Value) → is_integers (form_at s n) ≡ true → suits s Universal v ≡ true → suits s (Typed n) v ≡ true
universal_suits s n (Gives x) h k = let z = as_number s Universal x refl k in ap (λ y. suits s (Typed n) (Gives y)) z.1 ∙ suits_number s (Typed n) (integral_numeric s (Typed n) h) z.0
universal_suits s n (Raises x) h k = refl
universal_suits s n Meaningless h k = cc

integral_suits : (s : Scope) (own : Own) (n : ℕ) (v : Val Value) → is_integral s own ≡ true → is_integers (form_at s n) ≡ true → suits s own v ≡ true
    → suits s (Typed n) v ≡ true
integral_suits s own n (Gives x) i h k = let z = as_number s own x (integral_numeric s own i) k in ap (λ y. suits s (Typed n) (Gives y)) z.1 ∙ suits_number s (Typed n) (integral_numeric s (Typed n) h) z.0
integral_suits s own n (Raises x) i h k = refl
integral_suits s own n Meaningless i h k = absurd (no_meaning own k)
  where
    no_meaning : (own : Own) → suits s own Meaningless ≡ true → ⊥
    no_meaning own k = cc

pub expected_suits : (s : Scope) (n : ℕ) (own : Own) (v : Val Value) → Expected s (OfType n) own v → suits s (Typed n) v ≡ true
expected_suits s n Unknown v e = let k = e.typed.known in cc
expected_suits s n Universal v e = universal_suits s n v e.fitting e.typed.suited
expected_suits s n (Typed m) v e = subst (λ k. suits s (Typed k) v ≡ true) (sym (same_number n m e.fitting)) e.typed.suited

wanted_suits : (s : Scope) (w : Wanted) (t : Subtype) (own : Own) (v : Val Value) → WantedFits s w t → Expected s w own v
    → suits s (Typed t.type_number) v ≡ true
wanted_suits s (OfType n) t own v h e = subst (λ k. suits s (Typed k) v ≡ true) h (expected_suits s n own v e)
wanted_suits s AnyInteger t own v h e = integral_suits s own t.type_number v e.fitting h e.typed.suited
wanted_suits s Anything t own v h e = absurd h

pub slot_suits : (s : Scope) (slot : Slot) (t : Subtype) (e : ExprTree) (own : Own) (v : Val Value) → SlotFits s slot t → slot_rule s slot e own ≡ []
    → IsTyped s own v → suits s (Typed t.type_number) v ≡ true
slot_suits s (Expects w) t e own v h rule typed = wanted_suits s w t own v h (expected s w own (start_of e) v typed rule)
slot_suits s (Takes n) t e own v h rule typed = absurd h
slot_suits s TakesLabel t e own v h rule typed = absurd h

pub next_suits : (s : Scope) (t : Subtype) (ts : List Subtype) (v : Val Value) (vs : Val (List Value)) → ActualSuits s t v → ActualsSuit s ts vs
    → ActualsSuit s (t ∷ ts) (and_then v (λ x. and_then vs (λ xs. Gives (x ∷ xs))))
next_suits s t ts (Gives x) (Gives xs) h k = (h.0, h.1, k)
next_suits s t ts (Gives x) (Raises n) h k = tt
next_suits s t ts (Gives x) Meaningless h k = absurd k
next_suits s t ts (Raises n) vs h k = tt
next_suits s t ts Meaningless vs h k = absurd h

-- ---- a name with parentheses

-- what the arguments come to, where they are expected in these subtypes
abbrev pub ArgumentsSuit : Scope → Calls → Place → Standing → ArgumentTrees → Type 0
ArgumentsSuit s calls p w a = (ts : List Subtype) → Slots s (λ k. slot_at s w k) zero ts → count a ≡ length ts → ActualsSuit s ts (actuals_with calls p a ts)

never_meant : {means : Meaning → Type 0} (v : Val Meaning) → ((m : Meaning) → means m) → Meant means (true ≡ true) v
never_meant (Gives m) h = h m
never_meant (Raises x) h = tt
never_meant Meaningless h = refl

pub single_one : (n : ℕ) → nat_eq n 1 ≡ true → n ≡ 1
single_one n h = grind (arith, h)

module _ (s : Scope) (p : Place) (agrees : Agrees s p) (calls : Calls) (answers : CallsAnswer calls p) where
  applied_comes : (means : Meaning → Type 0) (never : Type 0) (ts : List Subtype) (vs : Val (List Value)) (go : List Value → Val Meaning) → ActualsSuit s ts vs
      → ((xs : List Value) → AreValues s ts xs → Meant means never (go xs))
      → Meant means never (and_then vs go)
  applied_comes means never ts (Gives xs) go h next = next xs h
  applied_comes means never ts (Raises x) go h next = tt
  applied_comes means never ts Meaningless go h next = absurd h

  with_wanted : (means : Meaning → Type 0) (never : Type 0) (m : Meaning) (a : ArgumentTrees) (ts : List Subtype) → wanted p m ≡ Some ts
      → ActualsSuit s ts (actuals_with calls p a ts)
      → ((xs : List Value) → AreValues s ts xs → Meant means never (applied calls p m xs)) → Meant means never (part_with calls p m (Arguments a))
  with_wanted means never m a ts e h next =
      subst (λ o. Meant means never (elim o [ Some us ↦ and_then (actuals_with calls p a us) (applied calls p m) | None ↦ Meaningless ])) (sym e)
      (applied_comes means never ts (actuals_with calls p a ts) (applied calls p m) h next)

  -- ---- components of arrays

  element_comes : (r : Role) (t index : Subtype) (size : ℕ) (element : Subtype) (v : Value) (x : Value)
      → form_at s t.type_number ≡ Some (Arrays index size element) → has_shape (shape_of s t) v ≡ true
      → has_shape (type_shape s index.type_number) x ≡ true → fits index x ≡ true
      → Comes s p (standing.Part r element) (applied calls p (IsObject t v) (x ∷ []))
  element_comes r t index size element v x form suited number within =
      let integers = (sound_form s agrees.sound t.type_number (Arrays index size element) form).integers in
      let z = as_number s (Typed index.type_number) x (integral_numeric s (Typed index.type_number) integers) number in
      let inside : fits index (Number z.0) ≡ true = ap (fits index) (sym z.1) ∙ within in
      let found = array_element s agrees.sound t index size element v z.0 form suited inside in
      let there : form_at p.scope t.type_number ≡ Some (Arrays index size element) = agrees.forms t.type_number (Arrays index size element) form in
      let is : applied calls p (IsObject t v) (x ∷ []) ≡ Gives (IsObject element found.2) =
      ap (λ y. applied calls p (IsObject t v) (y ∷ [])) z.1 ∙ ap (λ o. element_meaning o v z.0) there ∙ ap (λ y. element_meaning (Some (Arrays index size element)) y z.0) found.1
      ∙ ap (λ o. object_or_nothing (Some element) o) found.3 in
      subst (λ y. Comes s p (standing.Part r element) y) (sym is) (inl (record { value = found.2; is = refl; suited = found.4 }))

  indexed : (a : ArgumentTrees) (r : Role) (t : Subtype) (v : Value) (o : Option TypeForm) (single : Bool) → form_at s t.type_number ≡ o → is_single a ≡ single
      → has_shape (shape_of s t) v ≡ true
      → is_doubtful (element_stands r o single) ≡ false → ArgumentsSuit s calls p (standing.Part r t) a
      → Comes s p (element_stands r o single) (part_with calls p (IsObject t v) (Arguments a))
  indexed a r t v (Some (Arrays index size element)) true form one suited doubt given =
      let there : wanted p (IsObject t v) ≡ Some (index ∷ []) = ap wanted_by_index (agrees.forms t.type_number (Arrays index size element) form) in
      let slot : SlotFits s (index_slot (form_at s t.type_number)) index = subst (λ o. SlotFits s (index_slot o) index) (sym form) refl in
      with_wanted (λ m. MeansPart s p.scope m element) (false ≡ true) (IsObject t v) a (index ∷ []) there (given (index ∷ []) (slot, tt) (single_one (count a) one)) next
    where
      next : (xs : List Value) → AreValues s (index ∷ []) xs → Meant (λ m. MeansPart s p.scope m element) (false ≡ true) (applied calls p (IsObject t v) xs)
      next [] h = absurd h
      next (x ∷ []) h = element_comes r t index size element v x form suited h.0 h.1
      next (x ∷ y ∷ xs) h = absurd h.2
  indexed a r t v o single form one suited doubt given = cc

  part_arguments : (place : ℕ) (a : ArgumentTrees) (r : Role) (t : Subtype) (m : Meaning) → MeansPart s p.scope m t
      → part_rule s place (standing.Part r t) (Arguments a) ≡ [] → ArgumentsSuit s calls p (standing.Part r t) a
      → Comes s p (element_stands r (form_at s t.type_number) (is_single a)) (part_with calls p m (Arguments a))
  part_arguments place a r t m (inr d) h given = absurd (no_integer_parts s agrees.sound place r t (Arguments a) d.integers h)
  part_arguments place a r t m (inl d) h given =
      subst (λ n. Comes s p (element_stands r (form_at s t.type_number) (is_single a)) (part_with calls p n (Arguments a))) (sym d.is)
      (indexed a r t d.value (form_at s t.type_number) (is_single a) refl refl d.suited (unbroken 12 place _ h) given)

  -- ---- conversions

  converted : (a : ArgumentTrees) (t : Subtype) (o : Option TypeForm) (single : Bool) → form_at s t.type_number ≡ o → is_single a ≡ single
      → is_doubtful (conversion_stands t o single) ≡ false
      → ArgumentsSuit s calls p (standing.Named t) a → Comes s p (conversion_stands t o single) (part_with calls p (IsSubtype t) (Arguments a))
  converted a t (Some Integers) true form one doubt given =
      let there : wanted p (IsSubtype t) ≡ Some (t ∷ []) = ap (wanted_by_conversion t) (agrees.forms t.type_number Integers form) in
      let slot : SlotFits s (conversion_slot (form_at s t.type_number)) t = subst (λ o. SlotFits s (conversion_slot o) t) (sym form) (ap is_integers form) in
      with_wanted (λ m. MeansValue s m t) (false ≡ true) (IsSubtype t) a (t ∷ []) there (given (t ∷ []) (slot, tt) (single_one (count a) one)) next
    where
      number : (x : Value) → has_shape (type_shape s t.type_number) x ≡ true
          → Meant (λ m. MeansValue s m t) (false ≡ true) (applied calls p (IsSubtype t) (x ∷ []))
      number x h =
          let z = as_number s (Typed t.type_number) x (integral_numeric s (Typed t.type_number) (ap is_integers form)) h in
          subst (λ y. Meant (λ m. MeansValue s m t) (false ≡ true) (applied calls p (IsSubtype t) (y ∷ []))) (sym z.1)
          (record { value = Number z.0; is = refl; suited = ap (has_shape (type_shape s t.type_number)) (sym z.1) ∙ h })

      next : (xs : List Value) → AreValues s (t ∷ []) xs → Meant (λ m. MeansValue s m t) (false ≡ true) (applied calls p (IsSubtype t) xs)
      next [] h = absurd h
      next (x ∷ []) h = number x h.0
      next (x ∷ y ∷ xs) h = absurd h.2
  converted a t o single form one doubt given = cc

  named_arguments : (place : ℕ) (a : ArgumentTrees) (t : Subtype) (m : Meaning) → m ≡ IsSubtype t → part_rule s place (standing.Named t) (Arguments a) ≡ []
      → ArgumentsSuit s calls p (standing.Named t) a
      → Comes s p (conversion_stands t (form_at s t.type_number) (is_single a)) (part_with calls p m (Arguments a))
  named_arguments place a t m d h given =
      subst (λ n. Comes s p (conversion_stands t (form_at s t.type_number) (is_single a)) (part_with calls p n (Arguments a))) (sym d)
      (converted a t (form_at s t.type_number) (is_single a) refl refl (unbroken 12 place _ h) given)

  -- ---- calls

  value_comes : (t : Subtype) (v : Val Value) → suits s (Typed t.type_number) v ≡ true → Meant (λ m. MeansValue s m t) (false ≡ true) (as_value v)
  value_comes t (Gives x) h = record { value = x; is = refl; suited = h }
  value_comes t (Raises x) h = tt
  value_comes t Meaningless h = cc

  operation_slots : (o : PredefinedOperation) (profile : Profile) → IsSoundPredefined s o profile
      → (Slots s (λ i. formal_slot_or (slice_get profile.formals i)) zero (wanted_by_operation o)) × (length profile.formals ≡ length (wanted_by_operation o))
  operation_slots predefined.Clock profile h = (tt, ap length h.takes)
  operation_slots predefined.Milliseconds profile h = (subst (λ fs. Slots s (λ i. formal_slot_or (slice_get fs i)) zero (wanted_by_operation predefined.Milliseconds)) (sym h.takes) (refl, tt), ap length h.takes)
  operation_slots predefined.Microseconds profile h = (subst (λ fs. Slots s (λ i. formal_slot_or (slice_get fs i)) zero (wanted_by_operation predefined.Microseconds)) (sym h.takes) (refl, tt), ap length h.takes)
  operation_slots predefined.Read profile h = (subst (λ fs. Slots s (λ i. formal_slot_or (slice_get fs i)) zero (wanted_by_operation predefined.Read)) (sym h.takes) (refl, tt), ap length h.takes)

  abbrev CallGiven : ArgumentTrees → Profile → Type 0
  CallGiven a profile = (ts : List Subtype) → Slots s (λ i. formal_slot_or (slice_get profile.formals i)) zero ts → count a ≡ length ts → ActualsSuit s ts (actuals_with calls p a ts)

  call_comes : (a : ArgumentTrees) (m : Meaning) (profile : Profile) (t : Subtype) → profile.result ≡ Some t → IsSoundProfile s profile
      → count a ≡ length profile.formals → CanBeCalled s p m profile → CallGiven a profile
      → Meant (λ n. MeansValue s n t) (false ≡ true) (part_with calls p m (Arguments a))
  call_comes a m profile t r sound same (inl d) given =
      let ts = map formal_subtype d.function.formals in
      let ins : IsSoundResult s profile.formals (Some t) = subst (IsSoundResult s profile.formals) r sound.result in
      let slots : Slots s (λ i. formal_slot_or (slice_get profile.formals i)) zero ts = subst (Slots s (λ i. formal_slot_or (slice_get profile.formals i)) zero) (sym d.profiled.formals) (formal_slots s profile.formals ins.1) in
      let size : count a ≡ length ts = same ∙ sym (mapped_length parameter_subtype profile.formals) ∙ ap length (sym d.profiled.formals) in
      subst (λ n. Meant (λ k. MeansValue s k t) (false ≡ true) (part_with calls p n (Arguments a))) (sym d.is)
      (with_wanted (λ n. MeansValue s n t) (false ≡ true) (IsFunction d.function d.through) a ts refl (given ts slots size)
      (λ xs h. value_comes t (called calls p d.function d.through xs) (declared_suits s p agrees calls answers m profile t d xs sound r h)))
  call_comes a m profile t r sound same (inr d) given =
      let ts = wanted_by_operation d.operation in
      let slots = operation_slots d.operation profile d.sound in
      subst (λ n. Meant (λ k. MeansValue s k t) (false ≡ true) (part_with calls p n (Arguments a))) (sym d.is)
      (with_wanted (λ n. MeansValue s n t) (false ≡ true) (IsPredefined d.operation) a ts refl (given ts slots.0 (same ∙ slots.1))
      (λ xs h. value_comes t (predefined_value p d.operation xs) (predefined_suits s (ap is_integers agrees.sound.integer) p d.operation profile t xs d.sound r h)))

  result_comes : (a : ArgumentTrees) (m : Meaning) (profile : Profile) (r : Option Subtype) → profile.result ≡ r → IsSoundProfile s profile
      → count a ≡ length profile.formals → DenotesResult s p profile r m → CallGiven a profile
      → Comes s p (result_stands r) (part_with calls p m (Arguments a))
  result_comes a m profile (Some t) e sound same d given = call_comes a m profile t e sound same d given
  result_comes a m profile None e sound same d given = never_meant (part_with calls p m (Arguments a)) (λ n. tt)

  callee_arguments : (place : ℕ) (a : ArgumentTrees) (m : Meaning) (o : Option Profile) → GoodCallee s o → DenotesCallee s p o m
      → count_rule place (count a) (length (profile_formals o)) ≡ []
      → ((ts : List Subtype) → Slots s (λ k. call_slot o k) zero ts → count a ≡ length ts → ActualsSuit s ts (actuals_with calls p a ts))
      → Comes s p (call_stands o) (part_with calls p m (Arguments a))
  callee_arguments place a m (Some profile) g d h given = result_comes a m profile profile.result refl g (one_count place (count a) (length profile.formals) h) d given
  callee_arguments place a m None g d h given = absurd g

  pub arguments_come : (place : ℕ) (a : ArgumentTrees) (w : Standing) (m : Meaning) → Good s w → Denotes s p w m → part_rule s place w (Arguments a) ≡ []
      → ArgumentsSuit s calls p w a
      → Comes s p (select s w (Arguments a)) (part_with calls p m (Arguments a))
  arguments_come place a (standing.Part r t) m g d h given = part_arguments place a r t m d h given
  arguments_come place a (standing.Named t) m g d h given = named_arguments place a t m d h given
  arguments_come place a (standing.Callee f) m g d h given = callee_arguments place a m (callee_profile s f) g d h given
  arguments_come place a standing.Put m g d h given = never_meant (part_with calls p m (Arguments a)) (λ n. tt)
  arguments_come place a (standing.Fixed t c) m g d h given = absurd (no_constant_parts s agrees.sound place t c (Arguments a) g h)
  arguments_come place a (standing.Given t c) m g d h given = absurd (good_select s agrees.sound place (standing.Given t c) (Arguments a) g h)
  arguments_come place a (standing.Plain z) m g d h given = absurd (good_select s agrees.sound place (standing.Plain z) (Arguments a) g h)
  arguments_come place a (standing.Protected n) m g d h given = absurd (good_select s agrees.sound place (standing.Protected n) (Arguments a) g h)
  arguments_come place a standing.Statement m g d h given = absurd (good_select s agrees.sound place standing.Statement (Arguments a) g h)
  arguments_come place a standing.Task m g d h given = absurd (good_select s agrees.sound place standing.Task (Arguments a) g h)
  arguments_come place a standing.Other m g d h given = absurd (good_select s agrees.sound place standing.Other (Arguments a) g h)
  arguments_come place a standing.Doubtful m g d h given = absurd g
