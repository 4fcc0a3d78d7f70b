-- What is known of what names mean, part by part: of objects and their parts, of conversions, and of what is called.
use Rattle.std.proofs.Common.{◌≡◌, ℕ, zero, List, [], ◌∷◌, Bool, true, false, inl, inr, Option, Some, None, refl, sym, ap, ◌∙◌, subst}
use Rattle.std.specs.Prelude.{map, ℤ, cond, nat_le, unsigned_abs, ◌-ℤ◌, ⊤, bytes_eq, position}
use Rattle.meaning.specs.base.specs.declared.exceptions.PredefinedException.TheVariants.{ProgramError}
use Rattle.meaning.specs.ada_tree.specs.declared.expression.Identifier.{Identifier}
use Rattle.meaning.specs.ada_tree.specs.ExpressionTree.{SelectorTrees, NoSelectors, MoreSelectors, SelectorTree, Component, Arguments, Attribute, ArgumentTrees}
use Rattle.meaning.specs.types.specs.declared.entity.Subtype.{Subtype}
use Rattle.meaning.specs.types.specs.declared.entity.RecordComponent.{RecordComponent}
use Rattle.meaning.specs.types.specs.declared.entity.Role.{Role}
use Rattle.meaning.specs.types.specs.declared.entity.PredefinedOperation.{PredefinedOperation}
use Rattle.meaning.specs.types.specs.declared.standing.Callee.TheVariants as callee
use Rattle.meaning.specs.types.specs.declared.standing.Standing.{Standing}
use Rattle.meaning.specs.types.specs.declared.standing.Standing.TheVariants as standing
use Rattle.meaning.specs.types.specs.Entities.{TypeForm, Integers, Arrays, Records, Profile, ProtectedObject, Object, Predefined}
use Rattle.meaning.specs.types.specs.Evaluating.{Calls, actuals_with, applied, as_value, called, chosen, element_meaning, ended, external_call, field_meaning, fixed_value, formal_subtype, function_through, name_with, object_or_nothing, part_with, predefined_value, wanted, wanted_by_conversion, wanted_by_index, wanted_by_operation}
use Rattle.meaning.specs.types.specs.Evaluations.{Val, Gives, Raises, Meaningless, and_then, raise}
use Rattle.meaning.specs.types.specs.Places.{Function, Place, meaning_of, Meaning, IsFunction, IsObject, IsPredefined, IsSubtype, IsValue, active_priority, function_of, is_among}
use Rattle.meaning.specs.types.specs.Scopes.{Scope, entity_at, form_at, number_of, protected_at}
use Rattle.meaning.specs.types.specs.Standings.{call_stands, called_operation, callee_profile, component_of, component_stands, conversion_stands, element_stands, is_single, operation_stands, part_of, result_stands, select, select_all, settle}
use Rattle.meaning.specs.types.specs.Values.{Value, Number, Array, Record, Values, Fields, element_at, field_of, is_within}
use Rattle.meaning.specs.expr_rules.specs.NameRules.{end_rule, part_rule, value_rule}
use Rattle.meaning.specs.expr_rules.specs.ExpressionRules.{selector_faults, selectors_faults, arguments_faults}
use Rattle.meaning.specs.expr_rules.proofs.TypedLaw.{back_empty, front_empty}
use Rattle.expr_soundness.specs.SoundScopes.{IsKnown}
use Rattle.expr_soundness.specs.Agreeing.{Agrees}
use Rattle.expr_soundness.specs.Answers.{CallsAnswer}
use Rattle.expr_soundness.proofs.Positions.{same_some}
use Rattle.expr_soundness.proofs.Goods.{Good, GoodCallee, good_select, no_constant_parts, no_integer_parts, part_unbroken}
use Rattle.expr_soundness.proofs.FixedNames.{same_form}
use Rattle.expr_soundness.proofs.Denoting.{CanBeCalled, Denotes, DenotesCallee, DenotesProtected, DenotesResult, IsDeclared, Meant, MeansPart, empty_ends, is_empty}
use Rattle.expr_soundness.proofs.Applying.{component_comes}
use Rattle.expr_soundness.proofs.Expressions.{part_comes}
use Rattle.meaning.specs.types.specs.Bounds.{subtype_bounds}
use Rattle.expr_soundness.specs.Lying.{OnGives, are_between, components_of, elements_lie, fields_lie, is_between, lies, lies_inside}
use Rattle.expr_soundness.proofs.Elements.{both_left}
use Rattle.expr_soundness.proofs.Lies.{actuals_between, element_lies, field_lies}

-- ---- what is known of what is meant

meant_gives : (means : Meaning → Type 0) (never : Type 0) (v : Val Meaning) → Meant means never v → OnGives means v
meant_gives means never (Gives m) h = h
meant_gives means never (Raises x) h = tt
meant_gives means never Meaningless h = tt

nothing_known : (v : Val Meaning) → OnGives (λ m. ⊤) v
nothing_known (Gives m) = tt
nothing_known (Raises x) = tt
nothing_known Meaningless = tt

none_between : (ts : List Subtype) → are_between ts [] ≡ true
none_between [] = refl
none_between (t ∷ ts) = refl

-- What is known of the values of objects, and of what calls and conversions give, by the subtypes that a scope knows of them.
pub record Knows (s : Scope) (p : Place) (calls : Calls) (Kept Found : Subtype → Value → Type 0) : Type 0 where
  -- an object; of its parts, each of which lies in its subtype
  pub objects : (name : List ℕ) (number : ℕ) (r : Role) (t u : Subtype) (v : Value) → number_of s name ≡ Some number → entity_at s number ≡ Some (Object r t)
      → meaning_of p name ≡ IsObject u v → Kept t v
  pub inside : (t : Subtype) (v : Value) → Kept t v → lies_inside p.scope t.type_number v ≡ true
  pub parts : (t : Subtype) (v : Value) → lies p.scope t v ≡ true → Kept t v
  -- a conversion, whose operand was checked
  pub converted : (t : Subtype) (z : ℤ) → form_at p.scope t.type_number ≡ Some Integers → is_within t.first t.last z ≡ true → Found t (Number z)
  -- a function, with whatever actuals, and whatever actions are open; an operation of the language, for actuals in their subtypes
  pub results : (actions : List ℕ) (owner : Option ℕ) (name : List ℕ) (f : Function) (vs : List Value) → function_of p.functions owner name ≡ Some f
      → OnGives (Found f.result) (calls (record p { actions = actions }) f vs)
  pub given : (number : ℕ) (o : PredefinedOperation) (profile : Profile) (t : Subtype) (vs : List Value) → entity_at s number ≡ Some (Predefined o profile)
      → profile.result ≡ Some t → are_between (wanted_by_operation o) vs ≡ true
      → OnGives (Found t) (predefined_value p o vs)

module _ (s : Scope) (p : Place) (agrees : Agrees s p) (calls : Calls) (answers : CallsAnswer calls p) (Kept Found : Subtype → Value → Type 0)
    (known : Knows s p calls Kept Found) where
  -- an object or a part of one
  abbrev pub PartLies : Subtype → Meaning → Type 0
  PartLies t (IsObject u v) = Kept t v
  PartLies t m = ⊤

  -- the value of a call or a conversion
  abbrev pub GivenLies : Subtype → Meaning → Type 0
  GivenLies t (IsValue v) = Found t v
  GivenLies t m = ⊤

  -- what is called gives values of this subtype
  abbrev pub CallLies : Subtype → Meaning → Type 0
  CallLies t (IsFunction f through) = (vs : List Value) → OnGives (Found t) (called calls p f through vs)
  CallLies t (IsPredefined o) = (vs : List Value) → are_between (wanted_by_operation o) vs ≡ true → OnGives (Found t) (predefined_value p o vs)
  CallLies t m = ⊤

  abbrev pub ResultLies : Option Subtype → Meaning → Type 0
  ResultLies (Some t) m = CallLies t m
  ResultLies None m = ⊤

  abbrev pub CalleeLies : Option Profile → Meaning → Type 0
  CalleeLies (Some profile) m = ResultLies profile.result m
  CalleeLies None m = ⊤

  abbrev pub MeaningLies : Standing → Meaning → Type 0
  MeaningLies (standing.Part r t) m = PartLies t m
  MeaningLies (standing.Given t None) m = GivenLies t m
  MeaningLies (standing.Callee f) m = CalleeLies (callee_profile s f) m
  MeaningLies w m = ⊤

  -- ---- where a name ends: what is known of its value by what it stands for, which is never without a value

  abbrev pub EndsAs : Standing → Value → Type 0
  EndsAs (standing.Part r t) = Kept t
  EndsAs (standing.Given t c) = Found t
  EndsAs w = λ v. ⊥

  abbrev pub Ends : Standing → Val Value → Type 0
  Ends w v = OnGives (EndsAs w) v

  -- ---- functions

  external_known : (f : Function) (o : ProtectedObject) (t : Subtype) (vs : List Value)
      → ((actions : List ℕ) → OnGives (Found t) (calls (record p { actions = actions }) f vs))
      → OnGives (Found t) (external_call calls p f o vs)
  external_known f o t vs all = by_tests (is_among p.actions o.number) (nat_le (active_priority p) o.ceiling)
    where
      by_tests : (a b : Bool) → OnGives (Found t)
          (cond a (raise ProgramError) (cond b (calls (record p { actions = o.number ∷ p.actions }) f vs) (raise ProgramError)))
      by_tests true b = tt
      by_tests false true = all (o.number ∷ p.actions)
      by_tests false false = tt

  called_known : (f : Function) (through : Option ProtectedObject) (t : Subtype) (vs : List Value)
      → ((actions : List ℕ) → OnGives (Found t) (calls (record p { actions = actions }) f vs))
      → OnGives (Found t) (called calls p f through vs)
  called_known f None t vs all = all p.actions
  called_known f (Some o) t vs all = external_known f o t vs all

  declared_lies : (m : Meaning) (profile : Profile) (t : Subtype) → profile.result ≡ Some t → IsDeclared p m profile → CallLies t m
  declared_lies m profile t r d =
      let same : d.function.result ≡ t = same_some d.function.result t (sym d.profiled.result ∙ r) in
      subst (CallLies t) (sym d.is)
      (λ vs. called_known d.function d.through t vs (λ actions. subst
      (λ u. OnGives (Found u) (calls (record p { actions = actions }) d.function vs)) same
      (known.results actions d.owner d.name d.function vs d.found)))

  -- of an operation of the language it has to be told
  abbrev pub PredefinedLies : Subtype → Meaning → Type 0
  PredefinedLies t m =
      (o : PredefinedOperation) → m ≡ IsPredefined o → (vs : List Value) → are_between (wanted_by_operation o) vs ≡ true
      → OnGives (Found t) (predefined_value p o vs)

  callable_lies : (m : Meaning) (profile : Profile) (t : Subtype) → profile.result ≡ Some t → CanBeCalled s p m profile → PredefinedLies t m → CallLies t m
  callable_lies m profile t r (inl d) told = declared_lies m profile t r d
  callable_lies m profile t r (inr d) told = subst (CallLies t) (sym d.is) (told d.operation d.is)

  result_lies : (m : Meaning) (profile : Profile) (r : Option Subtype) → profile.result ≡ r → DenotesResult s p profile r m
      → ((t : Subtype) → profile.result ≡ Some t → PredefinedLies t m) → ResultLies r m
  result_lies m profile (Some t) e d told = callable_lies m profile t e d (told t e)
  result_lies m profile None e d told = tt

  pub callee_lies : (m : Meaning) (o : Option Profile) → DenotesCallee s p o m
      → ((profile : Profile) (t : Subtype) → o ≡ Some profile → profile.result ≡ Some t → PredefinedLies t m) → CalleeLies o m
  callee_lies m (Some profile) d told = result_lies m profile profile.result refl d (λ t e. told profile t refl e)
  callee_lies m None d told = tt

  function_lies : (f : Function) (through : Option ProtectedObject) (o : Option Profile) → DenotesCallee s p o (IsFunction f through)
      → CalleeLies o (IsFunction f through)
  function_lies f through o d = callee_lies (IsFunction f through) o d (λ profile t is r k e vs fit. absurd (apart k e))
    where
      apart : (k : PredefinedOperation) → IsFunction f through ≡ IsPredefined k → ⊥
      apart k e = cc

  -- ---- the last part

  result_ends : (place : ℕ) (m : Meaning) (profile : Profile) (r : Option Subtype) → DenotesResult s p profile r m → ResultLies r m
      → value_rule place (result_stands r) ≡ [] → Ends (result_stands r) (ended calls p m)
  result_ends place m profile (Some t) (inl d) l v =
      let told : CallLies t (IsFunction d.function d.through) = subst (CallLies t) d.is l in
      subst (λ n. OnGives (Found t) (ended calls p n)) (sym d.is) (told [])
  result_ends place m profile (Some t) (inr d) l v =
      let told : CallLies t (IsPredefined d.operation) = subst (CallLies t) d.is l in
      subst (λ n. OnGives (Found t) (ended calls p n)) (sym d.is) (told [] (none_between (wanted_by_operation d.operation)))
  result_ends place m profile None d l v = cc

  callee_ends : (place : ℕ) (m : Meaning) (o : Option Profile) → GoodCallee s o → DenotesCallee s p o m → CalleeLies o m
      → value_rule place (call_stands o) ≡ []
      → Ends (call_stands o) (ended calls p m)
  callee_ends place m (Some profile) g d l v = result_ends place m profile profile.result d l v
  callee_ends place m None g d l v = absurd g

  object_ends : (t : Subtype) (m : Meaning) → MeansPart s p.scope m t → PartLies t m → OnGives (Kept t) (ended calls p m)
  object_ends t m (inl d) l = subst (λ n. OnGives (Kept t) (ended calls p n)) (sym d.is) (subst (PartLies t) d.is l)
  object_ends t m (inr d) l = subst (λ n. OnGives (Kept t) (ended calls p n)) (sym d.number.is) (subst (PartLies t) d.number.is l)

  ended_known : (place : ℕ) (w : Standing) (m : Meaning) → Good s w → Denotes s p w m → MeaningLies w m → is_empty s w ≡ false
      → value_rule place (settle s w) ≡ [] → Ends (settle s w) (ended calls p m)
  ended_known place (standing.Part r t) m g d l e v = object_ends t m d l
  ended_known place (standing.Given t None) m g d l e v =
      subst (λ n. OnGives (Found t) (ended calls p n)) (sym d.is) (subst (GivenLies t) d.is l)
  ended_known place (standing.Callee f) m g d l e v = callee_ends place m (callee_profile s f) g d l v
  ended_known place (standing.Named t) m g d l e v = cc
  ended_known place (standing.Protected n) m g d l e v = cc
  ended_known place (standing.Given t (Some c)) m g d l e v = cc
  ended_known place (standing.Fixed t c) m g d l e v = cc
  ended_known place (standing.Plain z) m g d l e v = cc
  ended_known place standing.Put m g d l e v = cc
  ended_known place standing.Statement m g d l e v = cc
  ended_known place standing.Task m g d l e v = cc
  ended_known place standing.Other m g d l e v = cc
  ended_known place standing.Doubtful m g d l e v = cc

  name_ends_known : (place : ℕ) (w : Standing) (m : Meaning) → Good s w → Denotes s p w m → MeaningLies w m → end_rule s place w ≡ []
      → value_rule place (settle s w) ≡ [] → fixed_value (settle s w) ≡ None → Ends (settle s w) (ended calls p m)
  name_ends_known place w m g d l h v none = by_test (is_empty s w) refl
    where
      by_test : (b : Bool) → is_empty s w ≡ b → Ends (settle s w) (ended calls p m)
      by_test true e = absurd (empty_ends s agrees.sound place NoSelectors w e g h v none)
      by_test false e = ended_known place w m g d l e v

  -- ---- components

  named_lies : (cs : List RecordComponent) (fs : Fields) (name : List ℕ) (r : Role) (t : Subtype) → Kept t (Record fs)
      → form_at p.scope t.type_number ≡ Some (Records cs)
      → OnGives (MeaningLies (component_stands r (Some (Records cs)) name)) (field_meaning (Some (Records cs)) (Record fs) name)
  named_lies cs fs name r t h form = by_parts (component_of cs name) refl (field_of fs name) refl
    where
      whole : fields_lie p.scope cs fs ≡ true
      whole = subst (λ o. fields_lie p.scope (components_of o) fs ≡ true) form (known.inside t (Record fs) h)

      by_parts : (a : Option Subtype) → component_of cs name ≡ a → (b : Option Value) → field_of fs name ≡ b
          → OnGives (MeaningLies (part_of r a)) (object_or_nothing a b)
      by_parts (Some u) e (Some x) k = known.parts u x (field_lies p.scope cs fs name u x whole e k)
      by_parts (Some u) e None k = tt
      by_parts None e b k = tt

  field_known : (name : List ℕ) (r : Role) (t : Subtype) (v : Value) (o : Option TypeForm) → form_at p.scope t.type_number ≡ o → Kept t v
      → OnGives (MeaningLies (component_stands r o name)) (field_meaning o v name)
  field_known name r t (Record fs) (Some (Records cs)) form h = named_lies cs fs name r t h form
  field_known name r t v (Some (Records cs)) form h = tt
  field_known name r t v o form h = nothing_known (field_meaning o v name)

  part_component : (place : ℕ) (name : Identifier) (r : Role) (t : Subtype) (m : Meaning) → IsKnown s t → MeansPart s p.scope m t → PartLies t m
      → part_rule s place (standing.Part r t) (Component name) ≡ []
      → OnGives (MeaningLies (component_stands r (form_at s t.type_number) name.name)) (chosen p m name.name)
  part_component place name r t m there (inr d) l h = absurd (no_integer_parts s agrees.sound place r t (Component name) d.integers h)
  part_component place name r t m there (inl d) l h =
      let lying : PartLies t (IsObject t d.value) = subst (PartLies t) d.is l in
      subst (λ n. OnGives (MeaningLies (component_stands r (form_at s t.type_number) name.name)) (chosen p n name.name)) (sym d.is)
      (subst (λ o. OnGives (MeaningLies (component_stands r (form_at s t.type_number) name.name)) (field_meaning o d.value name.name))
      (sym (same_form s p agrees t.type_number there))
      (field_known name.name r t d.value (form_at s t.type_number) (same_form s p agrees t.type_number there) lying))

  offered_lies : (name : List ℕ) (w : Standing) (m : Meaning) (n : ℕ) (o : Option ProtectedObject) → protected_at s n ≡ o → DenotesProtected p o m
      → OnGives (Denotes s p (operation_stands n o name)) (chosen p m name)
      → OnGives (MeaningLies (operation_stands n o name)) (chosen p m name)
  offered_lies name w m n (Some o) at d c =
      subst (λ k. OnGives (MeaningLies (operation_stands n (Some o) name)) (chosen p k name)) (sym d.is)
      (by_function (function_of p.functions (Some d.object.number) name)
      (subst (λ k. OnGives (Denotes s p (operation_stands n (Some o) name)) (chosen p k name)) d.is c))
    where
      by_place : (k : Option ℕ) (f : Function) → Denotes s p (called_operation n k) (IsFunction f (Some d.object))
          → MeaningLies (called_operation n k) (IsFunction f (Some d.object))
      by_place (Some k) f c = function_lies f (Some d.object) (callee_profile s (callee.Operation n k)) c
      by_place None f c = tt

      by_function : (f : Option Function) → OnGives (Denotes s p (operation_stands n (Some o) name)) (function_through d.object f)
          → OnGives (MeaningLies (operation_stands n (Some o) name)) (function_through d.object f)
      by_function (Some f) c = by_place (position (λ x. bytes_eq x.name name) o.operations) f c
      by_function None c = tt
  offered_lies name w m n None at d c = nothing_known (chosen p m name)

  component_known : (place : ℕ) (name : Identifier) (w : Standing) (m : Meaning) → Good s w → Denotes s p w m → MeaningLies w m
      → part_rule s place w (Component name) ≡ []
      → OnGives (MeaningLies (select s w (Component name))) (chosen p m name.name)
  component_known place name (standing.Part r t) m g d l h = part_component place name r t m g d l h
  component_known place name (standing.Protected n) m g d l h =
      offered_lies name.name (standing.Protected n) m n (protected_at s n) refl d
      (meant_gives (Denotes s p (select s (standing.Protected n) (Component name))) _ (chosen p m name.name)
      (component_comes s p agrees calls answers place name (standing.Protected n) m g d h))
  component_known place name (standing.Fixed t c) m g d l h = absurd (no_constant_parts s agrees.sound place t c (Component name) g h)
  component_known place name w m g d l h = nothing_known (chosen p m name.name)

  -- ---- what stands in parentheses

  with_actuals : (knows : Meaning → Type 0) (ts : List Subtype) (vs : Val (List Value)) (go : List Value → Val Meaning)
      → OnGives (λ xs. are_between ts xs ≡ true) vs
      → ((xs : List Value) → are_between ts xs ≡ true → OnGives knows (go xs)) → OnGives knows (and_then vs go)
  with_actuals knows ts (Gives xs) go fit h = h xs fit
  with_actuals knows ts (Raises x) go fit h = tt
  with_actuals knows ts Meaningless go fit h = tt

  -- what comes behind actuals that lie in the subtypes that are wanted there
  behind_actuals : (knows : Meaning → Type 0) (m : Meaning) (a : ArgumentTrees) (ts : List Subtype) → wanted p m ≡ Some ts
      → ((xs : List Value) → are_between ts xs ≡ true → OnGives knows (applied calls p m xs))
      → OnGives knows (part_with calls p m (Arguments a))
  behind_actuals knows m a ts e h =
      subst (λ o. OnGives knows (elim o [ Some us ↦ and_then (actuals_with calls p a us) (applied calls p m) | None ↦ Meaningless ])) (sym e)
      (with_actuals knows ts (actuals_with calls p a ts) (applied calls p m) (actuals_between calls p a ts) h)

  element_known : (index : Subtype) (size : ℕ) (element : Subtype) (v : Value) (z : ℤ)
      → ((vs : Values) → v ≡ Array vs → elements_lie p.scope (Some (Arrays index size element)) vs ≡ true)
      → OnGives (PartLies element) (element_meaning (Some (Arrays index size element)) v z)
  element_known index size element (Array vs) z h = by_element (element_at vs (unsigned_abs (z -ℤ index.first))) refl
    where
      by_element : (o : Option Value) → element_at vs (unsigned_abs (z -ℤ index.first)) ≡ o → OnGives (PartLies element) (object_or_nothing (Some element) o)
      by_element (Some x) e = known.parts element x (element_lies p.scope index size element vs (unsigned_abs (z -ℤ index.first)) x (h vs refl) e)
      by_element None e = tt
  element_known index size element v z h = tt

  indexed_known : (index : Subtype) (size : ℕ) (element t : Subtype) (v : Value) → form_at p.scope t.type_number ≡ Some (Arrays index size element)
      → Kept t v → (xs : List Value) → OnGives (PartLies element) (applied calls p (IsObject t v) xs)
  indexed_known index size element t v form h (Number z ∷ []) =
      subst (λ o. OnGives (PartLies element) (element_meaning o v z)) (sym form)
      (element_known index size element v z (λ vs e. subst (λ o. elements_lie p.scope o vs ≡ true) form
      (subst (λ x. lies_inside p.scope t.type_number x ≡ true) e (known.inside t v h))))
  indexed_known index size element t v form h xs = tt

  array_known : (a : ArgumentTrees) (r : Role) (t : Subtype) (v : Value) (o : Option TypeForm) (single : Bool) → form_at p.scope t.type_number ≡ o
      → Kept t v
      → OnGives (MeaningLies (element_stands r o single)) (part_with calls p (IsObject t v) (Arguments a))
  array_known a r t v (Some (Arrays index size element)) true form h =
      behind_actuals (PartLies element) (IsObject t v) a (index ∷ []) (ap wanted_by_index form) (λ xs fit. indexed_known index size element t v form h xs)
  array_known a r t v o single form h = nothing_known (part_with calls p (IsObject t v) (Arguments a))

  -- ---- conversions

  converted_known : (t : Subtype) → form_at p.scope t.type_number ≡ Some Integers → (xs : List Value) → are_between (t ∷ []) xs ≡ true
      → OnGives (GivenLies t) (applied calls p (IsSubtype t) xs)
  converted_known t form (Number z ∷ []) h = known.converted t z form (both_left (is_between (subtype_bounds t) (Number z)) true h)
  converted_known t form xs h = tt

  conversion_known : (a : ArgumentTrees) (t : Subtype) (o : Option TypeForm) (single : Bool) → form_at p.scope t.type_number ≡ o
      → OnGives (MeaningLies (conversion_stands t o single)) (part_with calls p (IsSubtype t) (Arguments a))
  conversion_known a t (Some Integers) true form =
      behind_actuals (GivenLies t) (IsSubtype t) a (t ∷ []) (ap (wanted_by_conversion t) form) (converted_known t form)
  conversion_known a t o single form = nothing_known (part_with calls p (IsSubtype t) (Arguments a))

  -- ---- calls

  given_known : (t : Subtype) (v : Val Value) → OnGives (Found t) v → OnGives (GivenLies t) (as_value v)
  given_known t (Gives x) h = h
  given_known t (Raises n) h = tt
  given_known t Meaningless h = tt

  call_known : (a : ArgumentTrees) (m : Meaning) (profile : Profile) (r : Option Subtype) → DenotesResult s p profile r m → ResultLies r m
      → OnGives (MeaningLies (result_stands r)) (part_with calls p m (Arguments a))
  call_known a m profile (Some t) (inl d) l =
      let told : CallLies t (IsFunction d.function d.through) = subst (CallLies t) d.is l in
      subst (λ n. OnGives (GivenLies t) (part_with calls p n (Arguments a))) (sym d.is)
      (behind_actuals (GivenLies t) (IsFunction d.function d.through) a (map formal_subtype d.function.formals) refl
      (λ xs fit. given_known t (called calls p d.function d.through xs) (told xs)))
  call_known a m profile (Some t) (inr d) l =
      let told : CallLies t (IsPredefined d.operation) = subst (CallLies t) d.is l in
      subst (λ n. OnGives (GivenLies t) (part_with calls p n (Arguments a))) (sym d.is)
      (behind_actuals (GivenLies t) (IsPredefined d.operation) a (wanted_by_operation d.operation) refl
      (λ xs fit. given_known t (predefined_value p d.operation xs) (told xs fit)))
  call_known a m profile None d l = nothing_known (part_with calls p m (Arguments a))

  callee_known : (a : ArgumentTrees) (m : Meaning) (o : Option Profile) → DenotesCallee s p o m → CalleeLies o m
      → OnGives (MeaningLies (call_stands o)) (part_with calls p m (Arguments a))
  callee_known a m (Some profile) d l = call_known a m profile profile.result d l
  callee_known a m None d l = nothing_known (part_with calls p m (Arguments a))

  object_known_here : (place : ℕ) (a : ArgumentTrees) (r : Role) (t : Subtype) (m : Meaning) → IsKnown s t → MeansPart s p.scope m t → PartLies t m
      → part_rule s place (standing.Part r t) (Arguments a) ≡ []
      → OnGives (MeaningLies (element_stands r (form_at s t.type_number) (is_single a))) (part_with calls p m (Arguments a))
  object_known_here place a r t m there (inr d) l h = absurd (no_integer_parts s agrees.sound place r t (Arguments a) d.integers h)
  object_known_here place a r t m there (inl d) l h =
      let lying : PartLies t (IsObject t d.value) = subst (PartLies t) d.is l in
      subst (λ n. OnGives (MeaningLies (element_stands r (form_at s t.type_number) (is_single a))) (part_with calls p n (Arguments a))) (sym d.is)
      (array_known a r t d.value (form_at s t.type_number) (is_single a) (same_form s p agrees t.type_number there) lying)

  arguments_known : (place : ℕ) (a : ArgumentTrees) (w : Standing) (m : Meaning) → Good s w → Denotes s p w m → MeaningLies w m
      → part_rule s place w (Arguments a) ≡ []
      → OnGives (MeaningLies (select s w (Arguments a))) (part_with calls p m (Arguments a))
  arguments_known place a (standing.Part r t) m g d l h = object_known_here place a r t m g d l h
  arguments_known place a (standing.Named t) m g d l h =
      subst (λ n. OnGives (MeaningLies (conversion_stands t (form_at s t.type_number) (is_single a))) (part_with calls p n (Arguments a))) (sym d)
      (conversion_known a t (form_at s t.type_number) (is_single a) (same_form s p agrees t.type_number g))
  arguments_known place a (standing.Callee f) m g d l h = callee_known a m (callee_profile s f) d l
  arguments_known place a (standing.Fixed t c) m g d l h = absurd (no_constant_parts s agrees.sound place t c (Arguments a) g h)
  arguments_known place a w m g d l h = nothing_known (part_with calls p m (Arguments a))

  -- ---- a part more

  -- what it means is what it stands for, and this is known of it
  abbrev pub Lying : Standing → Meaning → Type 0
  Lying w m = Denotes s p w m × MeaningLies w m

  both_known : (w : Standing) (v : Val Meaning) → OnGives (Denotes s p w) v → OnGives (MeaningLies w) v → OnGives (Lying w) v
  both_known w (Gives m) d l = (d, l)
  both_known w (Raises x) d l = tt
  both_known w Meaningless d l = tt

  part_denotes : (x : SelectorTree) (place : ℕ) (w : Standing) (m : Meaning) → Good s w → Denotes s p w m → selector_faults s place w x ≡ []
      → OnGives (Denotes s p (select s w x)) (part_with calls p m x)
  part_denotes x place w m g d h =
      meant_gives (Denotes s p (select s w x)) _ (part_with calls p m x) (part_comes s p agrees calls answers x place w m g d h)

  part_lies : (x : SelectorTree) (place : ℕ) (w : Standing) (m : Meaning) → Good s w → Lying w m → selector_faults s place w x ≡ []
      → OnGives (Lying (select s w x)) (part_with calls p m x)
  part_lies (Component name) place w m g k h =
      both_known (select s w (Component name)) (chosen p m name.name) (part_denotes (Component name) place w m g k.0 h)
      (component_known place name w m g k.0 k.1 h)
  part_lies (Attribute name) place w m g k h = tt
  part_lies (Arguments a) place w m g k h =
      both_known (select s w (Arguments a)) (part_with calls p m (Arguments a)) (part_denotes (Arguments a) place w m g k.0 h)
      (arguments_known place a w m g k.0 k.1 (front_empty (part_rule s place w (Arguments a)) (arguments_faults s w zero a) h))

  pub name_known : (selectors : SelectorTrees) (place : ℕ) (w : Standing) (v : Val Meaning) → Good s w → OnGives (Lying w) v
      → selectors_faults s place w selectors ≡ [] → value_rule place (select_all s w selectors) ≡ [] → fixed_value (select_all s w selectors) ≡ None
      → Ends (select_all s w selectors) (and_then v (λ m. name_with calls p m selectors))
  name_known NoSelectors place w (Gives m) g k h v none = name_ends_known place w m g k.0 k.1 h v none
  name_known NoSelectors place w (Raises n) g k h v none = tt
  name_known NoSelectors place w Meaningless g k h v none = tt
  name_known (MoreSelectors x rest) place w (Gives m) g k h v none =
      let here = front_empty (selector_faults s place w x) (selectors_faults s place (select s w x) rest) h in
      let later = back_empty (selector_faults s place w x) (selectors_faults s place (select s w x) rest) h in
      name_known rest place (select s w x) (part_with calls p m x) (good_select s agrees.sound place w x g (part_unbroken s agrees.sound place w x here))
      (part_lies x place w m g k here) later v none
  name_known (MoreSelectors x rest) place w (Raises n) g k h v none = tt
  name_known (MoreSelectors x rest) place w Meaningless g k h v none = tt
