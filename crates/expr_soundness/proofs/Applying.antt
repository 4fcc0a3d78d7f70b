-- Calls, components and conversions with values in their parentheses: they come to what the name stands for with this part more.
use Rattle.std.proofs.Common.{◌≡◌, ℕ, suc, List, [], ◌∷◌, map, Bool, true, false, not, ◌&&◌, inl, inr, Option, Some, None, refl, sym, ap, ◌∙◌, subst, arith}
use Rattle.std.specs.Prelude.{⊤, bytes_eq, cond, is_none, length, nat_eq, nat_le, position, ℤ}
use Rattle.meaning.specs.ada_tree.specs.declared.expression.Identifier.{Identifier}
use Rattle.meaning.specs.ada_tree.specs.ExpressionTree.{Component}
use Rattle.meaning.specs.types.specs.declared.entity.Subtype.{Subtype}
use Rattle.meaning.specs.types.specs.declared.entity.Role.{Role}
use Rattle.meaning.specs.types.specs.declared.entity.FormalParameter.{FormalParameter}
use Rattle.meaning.specs.types.specs.declared.entity.PredefinedOperation.{PredefinedOperation}
use Rattle.meaning.specs.types.specs.declared.entity.PredefinedOperation.TheVariants as predefined
use Rattle.meaning.specs.types.specs.declared.standing.Callee.TheVariants as callee
use Rattle.meaning.specs.types.specs.declared.standing.Standing.{Standing}
use Rattle.meaning.specs.types.specs.declared.standing.Standing.TheVariants as standing
use Rattle.meaning.specs.types.specs.Entities.{TypeForm, Records, Profile, ProtectedObject}
use Rattle.meaning.specs.types.specs.Scopes.{Scope, form_at, integer_type, protected_at}
use Rattle.meaning.specs.types.specs.Values.{Value, Number, Record, Fields, field_of}
use Rattle.meaning.specs.types.specs.Shapes.{has_shape, shape_of}
use Rattle.meaning.specs.types.specs.Standings.{call_stands, called_operation, callee_profile, component_of, component_stands, operation_profile, operation_stands, part_of, profile_among, result_stands, select, settle}
use Rattle.meaning.specs.base.specs.declared.exceptions.PredefinedException.TheVariants.{ProgramError}
use Rattle.meaning.specs.types.specs.Evaluations.{Val, Gives, Raises, Meaningless, raise}
use Rattle.meaning.specs.types.specs.Places.{Formal, Function, Place, Meaning, IsObject, active_priority, function_of, is_among}
use Rattle.meaning.specs.types.specs.Evaluating.{Calls, called, chosen, ended, external_call, field_meaning, formal_subtype, function_through, object_or_nothing, predefined_value, wanted_by_operation}
use Rattle.meaning.specs.expr_rules.specs.declared.own.Own.TheVariants.{Typed}
use Rattle.meaning.specs.expr_rules.specs.Typing.{is_integers, own_of_standing}
use Rattle.meaning.specs.expr_rules.specs.NameRules.{component_rule, count_rule, end_rule, operation_rule, part_rule, profile_formals, value_rule}
use Rattle.meaning.specs.expr_rules.specs.Laws.{suits, type_shape}
use Rattle.meaning.specs.expr_rules.proofs.TypedLaw.{as_number, integral_numeric, span_numeric, suits_computed, suits_number, time_numeric, unbroken}
use Rattle.expr_soundness.specs.SoundScopes.{HasOperation, IsKnown, IsSoundPredefined, IsSoundProfile, IsSoundResult}
use Rattle.expr_soundness.specs.Agreeing.{Agrees, HasProfile, MeansProtected, OffersFunction, parameter_subtype}
use Rattle.expr_soundness.specs.Answers.{CallsAnswer, are_actuals}
use Rattle.expr_soundness.proofs.Positions.{found_at, place_is, same_some}
use Rattle.expr_soundness.proofs.Parts.{same_values, subtype_values}
use Rattle.expr_soundness.proofs.Goods.{Good, GoodCallee, good_select, no_constant_parts, no_integer_parts, not_empty, not_none}
use Rattle.expr_soundness.proofs.FixedNames.{same_form}
use Rattle.expr_soundness.proofs.Elements.{record_field}
use Rattle.expr_soundness.proofs.Denoting.{AllKnown, AreValues, CanBeCalled, Comes, Denotes, DenotesCallee, DenotesProtected, DenotesResult, IsDeclared, Meant, MeansParameter, MeansPart, formals_known, gives_nothing, is_empty, is_statement}

abbrev pub ActualsSuit : Scope → List Subtype → Val (List Value) → Type 0
ActualsSuit s ts (Gives vs) = AreValues s ts vs
ActualsSuit s ts (Raises x) = ⊤
ActualsSuit s ts Meaningless = ⊥

same_count : (n m : ℕ) → nat_eq n m ≡ true → n ≡ m
same_count n m h = grind (arith, h)

pub one_count : (place n m : ℕ) → count_rule place n m ≡ [] → n ≡ m
one_count place n m h = by_test (nat_eq n m) refl (unbroken 16 place (not (nat_eq n m)) h)
  where
    by_test : (b : Bool) → nat_eq n m ≡ b → not b ≡ false → n ≡ m
    by_test true e k = same_count n m e
    by_test false e k = cc

pub mapped_length : {A B : Type 0} (f : A → B) (xs : List A) → length (map f xs) ≡ length xs
mapped_length f [] = refl
mapped_length f (x ∷ xs) = ap suc (mapped_length f xs)

no_values : (s : Scope) (ts : List Subtype) → length ts ≡ 0 → AreValues s ts []
no_values s [] h = tt
no_values s (t ∷ ts) h = cc

-- ---- the operations of the language

module _ (s : Scope) (integers : is_integers (form_at s integer_type) ≡ true) where
  integer_number : (v : Value) → has_shape (type_shape s integer_type) v ≡ true → (z : ℤ) × (v ≡ Number z)
  integer_number v h = as_number s (Typed integer_type) v (integral_numeric s (Typed integer_type) integers) h

  result_type : {formals : List FormalParameter} {test : Option TypeForm → Bool} (p : Profile) (t : Subtype) → (h : HasOperation s formals test p)
      → p.result ≡ Some t → test (form_at s t.type_number) ≡ true
  result_type {test = test} p t h r = let same : h.subtype ≡ t = same_some h.subtype t (sym h.result ∙ r) in subst (λ u. test (form_at s u.type_number) ≡ true) same h.form

  pub predefined_suits : (p : Place) (o : PredefinedOperation) (profile : Profile) (t : Subtype) (vs : List Value) → IsSoundPredefined s o profile
      → profile.result ≡ Some t → AreValues s (wanted_by_operation o) vs
      → suits s (Typed t.type_number) (predefined_value p o vs) ≡ true
  predefined_suits p predefined.Clock profile t [] sound r h = suits_number s (Typed t.type_number) (time_numeric s (Typed t.type_number) (result_type profile t sound r)) p.now
  predefined_suits p predefined.Clock profile t (v ∷ vs) sound r h = absurd h
  predefined_suits p predefined.Milliseconds profile t (v ∷ []) sound r h =
      let n = integer_number v h.0 in
      ap (λ w. suits s (Typed t.type_number) (predefined_value p predefined.Milliseconds (w ∷ []))) n.1
      ∙ suits_computed s (Typed t.type_number) (span_numeric s (Typed t.type_number) (result_type profile t sound r)) _
  predefined_suits p predefined.Milliseconds profile t [] sound r h = absurd h
  predefined_suits p predefined.Milliseconds profile t (v ∷ w ∷ vs) sound r h = absurd h.2
  predefined_suits p predefined.Microseconds profile t (v ∷ []) sound r h =
      let n = integer_number v h.0 in
      ap (λ w. suits s (Typed t.type_number) (predefined_value p predefined.Microseconds (w ∷ []))) n.1
      ∙ suits_number s (Typed t.type_number) (span_numeric s (Typed t.type_number) (result_type profile t sound r)) n.0
  predefined_suits p predefined.Microseconds profile t [] sound r h = absurd h
  predefined_suits p predefined.Microseconds profile t (v ∷ w ∷ vs) sound r h = absurd h.2
  predefined_suits p predefined.Read profile t (v ∷ []) sound r h =
      let n = integer_number v h.0 in
      ap (λ w. suits s (Typed t.type_number) (predefined_value p predefined.Read (w ∷ []))) n.1
      ∙ suits_number s (Typed t.type_number) (integral_numeric s (Typed t.type_number) (result_type profile t sound r)) _
  predefined_suits p predefined.Read profile t [] sound r h = absurd h
  predefined_suits p predefined.Read profile t (v ∷ w ∷ vs) sound r h = absurd h.2

-- ---- functions

pub same_suits : (s u : Scope) (n : ℕ) (v : Val Value) → type_shape s n ≡ type_shape u n → suits s (Typed n) v ≡ suits u (Typed n) v
same_suits s u n (Gives x) h = ap (λ y. has_shape y x) h
same_suits s u n (Raises x) h = refl
same_suits s u n Meaningless h = refl

module _ (s : Scope) (p : Place) (agrees : Agrees s p) (calls : Calls) (answers : CallsAnswer calls p) where
  actuals_fit : (fs : List Formal) (vs : List Value) → AllKnown s (map formal_subtype fs) → AreValues s (map formal_subtype fs) vs
      → are_actuals p.scope fs vs ≡ true
  actuals_fit [] [] known h = refl
  actuals_fit [] (v ∷ vs) known h = absurd h
  actuals_fit (f ∷ fs) [] known h = absurd h
  actuals_fit (f ∷ fs) (v ∷ vs) known h =
      let form = not_empty (form_at s f.subtype.type_number) known.0 in
      let first : has_shape (shape_of p.scope f.subtype) v ≡ true =
      same_values p.scope s f.subtype v (agrees.shapes f.subtype.type_number form.0 form.1) ∙ subtype_values s f.subtype v ∙ h.0 in
      ap (λ b. b && are_actuals p.scope fs vs) first ∙ actuals_fit fs vs known.1 h.2

  -- a function's result is of its type
  returned : (owner : Option ℕ) (name : List ℕ) (f : Function) (profile : Profile) (t : Subtype) (vs : List Value) → function_of p.functions owner name ≡ Some f
      → HasProfile f profile → IsSoundProfile s profile
      → profile.result ≡ Some t → AreValues s (map formal_subtype f.formals) vs → (actions : List ℕ) → suits s (Typed t.type_number) (calls (record p { actions = actions }) f vs) ≡ true
  returned owner name f profile t vs found has sound r h actions =
      let same : f.result ≡ t = same_some f.result t (sym has.result ∙ r) in
      let typed : IsSoundResult s profile.formals (Some t) = subst (IsSoundResult s profile.formals) r sound.result in
      let form = not_empty (form_at s t.type_number) typed.0 in
      let all : AllKnown s (map formal_subtype f.formals) = subst (AllKnown s) (sym has.formals) (formals_known s profile.formals sound.known) in
      same_suits s p.scope t.type_number (calls (record p { actions = actions }) f vs) (sym (agrees.shapes t.type_number form.0 form.1))
      ∙ ap (λ u. suits p.scope (Typed u.type_number) (calls (record p { actions = actions }) f vs)) (sym same)
      ∙ answers actions owner name f vs found (actuals_fit f.formals vs all h)

  external_suits : (f : Function) (o : ProtectedObject) (t : Subtype) (vs : List Value) → ((actions : List ℕ) → suits s (Typed t.type_number) (calls (record p { actions = actions }) f vs) ≡ true)
      → suits s (Typed t.type_number) (external_call calls p f o vs) ≡ true
  external_suits f o t vs all = by_tests (is_among p.actions o.number) (nat_le (active_priority p) o.ceiling)
    where
      by_tests : (a b : Bool) → suits s (Typed t.type_number) (cond a (raise ProgramError) (cond b (calls (record p { actions = o.number ∷ p.actions }) f vs) (raise ProgramError))) ≡ true
      by_tests true b = refl
      by_tests false true = all (o.number ∷ p.actions)
      by_tests false false = refl

  called_suits : (f : Function) (through : Option ProtectedObject) (t : Subtype) (vs : List Value) → ((actions : List ℕ) → suits s (Typed t.type_number) (calls (record p { actions = actions }) f vs) ≡ true)
      → suits s (Typed t.type_number) (called calls p f through vs) ≡ true
  called_suits f None t vs all = all p.actions
  called_suits f (Some o) t vs all = external_suits f o t vs all

  pub declared_suits : (m : Meaning) (profile : Profile) (t : Subtype) (d : IsDeclared p m profile) (vs : List Value) → IsSoundProfile s profile
      → profile.result ≡ Some t → AreValues s (map formal_subtype d.function.formals) vs
      → suits s (Typed t.type_number) (called calls p d.function d.through vs) ≡ true
  declared_suits m profile t d vs sound r h = called_suits d.function d.through t vs (returned d.owner d.name d.function profile t vs d.found d.profiled sound r h)

  -- ---- where a name ends

  no_formals : (fs : List FormalParameter) (f : Function) → map formal_subtype f.formals ≡ map parameter_subtype fs → 0 ≡ length fs
      → AreValues s (map formal_subtype f.formals) []
  no_formals fs f same none = no_values s (map formal_subtype f.formals) (ap length same ∙ mapped_length parameter_subtype fs ∙ sym none)

  no_parameters : (o : PredefinedOperation) (profile : Profile) → IsSoundPredefined s o profile → 0 ≡ length profile.formals
      → AreValues s (wanted_by_operation o) []
  no_parameters predefined.Clock profile h none = tt
  no_parameters predefined.Milliseconds profile h none = let k = none ∙ ap length h.takes in cc
  no_parameters predefined.Microseconds profile h none = let k = none ∙ ap length h.takes in cc
  no_parameters predefined.Read profile h none = let k = none ∙ ap length h.takes in cc

  call_ended : (m : Meaning) (profile : Profile) (t : Subtype) → IsSoundProfile s profile → profile.result ≡ Some t → 0 ≡ length profile.formals
      → CanBeCalled s p m profile → suits s (Typed t.type_number) (ended calls p m) ≡ true
  call_ended m profile t sound r none (inl d) =
      ap (λ n. suits s (Typed t.type_number) (ended calls p n)) d.is ∙ declared_suits m profile t d [] sound r (no_formals profile.formals d.function d.profiled.formals none)
  call_ended m profile t sound r none (inr d) =
      ap (λ n. suits s (Typed t.type_number) (ended calls p n)) d.is
      ∙ predefined_suits s (ap is_integers agrees.sound.integer) p d.operation profile t [] d.sound r (no_parameters d.operation profile d.sound none)

  result_ended : (place : ℕ) (m : Meaning) (profile : Profile) (r : Option Subtype) → profile.result ≡ r → IsSoundProfile s profile → 0 ≡ length profile.formals
      → DenotesResult s p profile r m
      → value_rule place (result_stands r) ≡ [] → suits s (own_of_standing (result_stands r)) (ended calls p m) ≡ true
  result_ended place m profile (Some t) e sound none d v = call_ended m profile t sound e none d
  result_ended place m profile None e sound none d v = cc

  callee_ended : (place : ℕ) (m : Meaning) (o : Option Profile) → GoodCallee s o → DenotesCallee s p o m → count_rule place 0 (length (profile_formals o)) ≡ []
      → value_rule place (call_stands o) ≡ []
      → suits s (own_of_standing (call_stands o)) (ended calls p m) ≡ true
  callee_ended place m (Some profile) g d h v = result_ended place m profile profile.result refl g (one_count place 0 (length profile.formals) h) d v
  callee_ended place m None g d h v = absurd g

  number_suits : (t : Subtype) (m : Meaning) → MeansParameter s p.scope m t → suits s (Typed t.type_number) (ended calls p m) ≡ true
  number_suits t m d = ap (λ n. suits s (Typed t.type_number) (ended calls p n)) d.number.is ∙ suits_number s (Typed t.type_number) (integral_numeric s (Typed t.type_number) d.integers) d.number.value

  part_ended : (t : Subtype) (m : Meaning) → MeansPart s p.scope m t → suits s (Typed t.type_number) (ended calls p m) ≡ true
  part_ended t m (inl d) = ap (λ n. suits s (Typed t.type_number) (ended calls p n)) d.is ∙ sym (subtype_values s t d.value) ∙ d.suited
  part_ended t m (inr d) = number_suits t m d

  pub ended_suits : (place : ℕ) (w : Standing) (m : Meaning) → Good s w → Denotes s p w m → is_empty s w ≡ false → end_rule s place w ≡ []
      → value_rule place (settle s w) ≡ []
      → suits s (own_of_standing (settle s w)) (ended calls p m) ≡ true
  ended_suits place (standing.Part r t) m g d e h v = part_ended t m d
  ended_suits place (standing.Given t None) m g d e h v = ap (λ n. suits s (Typed t.type_number) (ended calls p n)) d.is ∙ d.suited
  ended_suits place (standing.Callee f) m g d e h v = callee_ended place m (callee_profile s f) g d h v
  ended_suits place (standing.Named t) m g d e h v = cc
  ended_suits place (standing.Protected n) m g d e h v = cc
  ended_suits place (standing.Given t (Some c)) m g d e h v = cc
  ended_suits place (standing.Fixed t c) m g d e h v = cc
  ended_suits place (standing.Plain z) m g d e h v = cc
  ended_suits place standing.Put m g d e h v = cc
  ended_suits place standing.Statement m g d e h v = cc
  ended_suits place standing.Task m g d e h v = cc
  ended_suits place standing.Other m g d e h v = cc
  ended_suits place standing.Doubtful m g d e h v = cc

  -- ---- components and operations

  field_comes : (place : ℕ) (name : Identifier) (r : Role) (t : Subtype) (v : Value) (o : Option TypeForm) → form_at s t.type_number ≡ o
      → has_shape (shape_of s t) v ≡ true → component_rule place name o ≡ []
      → Comes s p (component_stands r o name.name) (field_meaning o v name.name)
  field_comes place name r t v (Some (Records cs)) e suited h =
      let named = not_none (component_of cs name.name) (unbroken 10 name.place (is_none (component_of cs name.name)) h) in
      let found = record_field s agrees.sound t cs name.name named.0 v e suited named.1 in
      subst (λ c. Comes s p (part_of r c) (field_meaning (Some (Records cs)) v name.name)) (sym named.1)
      (subst (λ x. Comes s p (standing.Part r named.0) x) (sym (meaning_is named.0 found.0 found.2 named.1 found.1 found.3))
      (inl (record { value = found.2; is = refl; suited = found.4 })))
    where
      meaning_is : (u : Subtype) (fs : Fields) (x : Value) → component_of cs name.name ≡ Some u → v ≡ Record fs → field_of fs name.name ≡ Some x
          → field_meaning (Some (Records cs)) v name.name ≡ Gives (IsObject u x)
      meaning_is u fs x a b c =
          ap (λ w. field_meaning (Some (Records cs)) w name.name) b ∙ ap (λ k. object_or_nothing k (field_of fs name.name)) a ∙ ap (λ k. object_or_nothing (Some u) k) c
  field_comes place name r t v o e suited h = cc

  part_component : (place : ℕ) (name : Identifier) (r : Role) (t : Subtype) (m : Meaning) → IsKnown s t → MeansPart s p.scope m t
      → component_rule place name (form_at s t.type_number) ≡ []
      → Comes s p (component_stands r (form_at s t.type_number) name.name) (chosen p m name.name)
  part_component place name r t m known (inr d) h = absurd (no_integer_parts s agrees.sound place r t (Component name) d.integers h)
  part_component place name r t m known (inl d) h =
      subst (λ n. Comes s p (component_stands r (form_at s t.type_number) name.name) (chosen p n name.name)) (sym d.is)
      (subst (λ o. Comes s p (component_stands r (form_at s t.type_number) name.name) (field_meaning o d.value name.name)) (sym (same_form s p agrees t.type_number known))
      (field_comes place name r t d.value (form_at s t.type_number) refl d.suited h))

  abbrev CalleeComes : Option Profile → Val Meaning → Type 0
  CalleeComes o v = Meant (DenotesCallee s p o) (is_statement o ≡ true) v

  offered : (object : ProtectedObject) (name : List ℕ) (profile : Profile) (r : Option Subtype) → OffersFunction p object.number name profile r
      → Meant (DenotesResult s p profile r) (gives_nothing r ≡ true) (function_through object (function_of p.functions (Some object.number) name))
  offered object name profile (Some t) h =
      subst (λ o. Meant (DenotesResult s p profile (Some t)) (gives_nothing (Some t) ≡ true) (function_through object o)) (sym h.1)
      (inl (record { function = h.0; through = Some object; owner = Some object.number; name = name; is = refl; found = h.1; profiled = h.2 }))
  offered object name profile None h = by_function (function_of p.functions (Some object.number) name)
    where
      by_function : (o : Option Function) → Meant (DenotesResult s p profile None) (gives_nothing None ≡ true) (function_through object o)
      by_function (Some f) = tt
      by_function None = refl

  operation_comes : (n : ℕ) (name : Identifier) (o : ProtectedObject) (m : Meaning) → protected_at s n ≡ Some o → MeansProtected p m o
      → operation_rule name (Some o) ≡ []
      → Comes s p (operation_stands n (Some o) name.name) (chosen p m name.name)
  operation_comes n name o m at d h =
      by_place (position (λ x. bytes_eq x.name name.name) o.operations) refl (unbroken 10 name.place (is_none (position (λ x. bytes_eq x.name name.name) o.operations)) h)
    where
      by_place : (k : Option ℕ) → position (λ x. bytes_eq x.name name.name) o.operations ≡ k → is_none k ≡ false
          → Comes s p (called_operation n k) (chosen p m name.name)
      by_place (Some k) e some =
          let found = found_at (λ x. bytes_eq x.name name.name) o.operations k (sym (place_is (λ x. bytes_eq x.name name.name) o.operations) ∙ e) in
          let is : callee_profile s (callee.Operation n k) ≡ Some found.0.profile = ap (λ x. profile_among x k) at ∙ ap operation_profile found.1 in
          subst (λ x. CalleeComes x (chosen p m name.name)) (sym is)
          (subst (λ x. CalleeComes (Some found.0.profile) (chosen p x name.name)) (sym d.is)
          (offered d.object name.name found.0.profile found.0.profile.result (d.offers name.name k found.0 e found.1)))
      by_place None e some = cc

  object_operation : (n : ℕ) (name : Identifier) (o : Option ProtectedObject) (m : Meaning) → protected_at s n ≡ o → DenotesProtected p o m
      → operation_rule name o ≡ [] → Comes s p (operation_stands n o name.name) (chosen p m name.name)
  object_operation n name (Some o) m at d h = operation_comes n name o m at d h
  object_operation n name None m at d h = cc

  pub component_comes : (place : ℕ) (name : Identifier) (w : Standing) (m : Meaning) → Good s w → Denotes s p w m → part_rule s place w (Component name) ≡ []
      → Comes s p (select s w (Component name)) (chosen p m name.name)
  component_comes place name (standing.Part r t) m g d h = part_component place name r t m g d h
  component_comes place name (standing.Protected n) m g d h = object_operation n name (protected_at s n) m refl d h
  component_comes place name (standing.Fixed t c) m g d h = absurd (no_constant_parts s agrees.sound place t c (Component name) g h)
  component_comes place name (standing.Given t c) m g d h = absurd (good_select s agrees.sound place (standing.Given t c) (Component name) g h)
  component_comes place name (standing.Plain z) m g d h = absurd (good_select s agrees.sound place (standing.Plain z) (Component name) g h)
  component_comes place name (standing.Named t) m g d h = absurd (good_select s agrees.sound place (standing.Named t) (Component name) g h)
  component_comes place name (standing.Callee f) m g d h = absurd (good_select s agrees.sound place (standing.Callee f) (Component name) g h)
  component_comes place name standing.Put m g d h = absurd (good_select s agrees.sound place standing.Put (Component name) g h)
  component_comes place name standing.Statement m g d h = absurd (good_select s agrees.sound place standing.Statement (Component name) g h)
  component_comes place name standing.Task m g d h = absurd (good_select s agrees.sound place standing.Task (Component name) g h)
  component_comes place name standing.Other m g d h = absurd (good_select s agrees.sound place standing.Other (Component name) g h)
  component_comes place name standing.Doubtful m g d h = absurd g
