-- What is known of legal names in a sound scope, part by part, without evaluation.
use Rattle.std.proofs.Common.{◌≡◌, ℕ, zero, suc, ℤ, pos, List, [], ◌∷◌, Bool, true, false, Option, Some, None, refl, sym, ap, ◌∙◌, subst}
use Rattle.std.specs.Prelude.{⊤, bytes_eq, codes, cond, is_none, is_some, length, position, slice_get}
use Rattle.meaning.specs.ada_tree.specs.declared.expression.Identifier.{Identifier}
use Rattle.meaning.specs.ada_tree.specs.ExpressionTree.{SelectorTrees, NoSelectors, MoreSelectors, SelectorTree, Component, Arguments, Attribute}
use Rattle.meaning.specs.types.specs.declared.entity.Subtype.{Subtype}
use Rattle.meaning.specs.types.specs.declared.entity.Role.{Role}
use Rattle.meaning.specs.types.specs.declared.entity.Role.TheVariants as role
use Rattle.meaning.specs.types.specs.declared.entity.Value.{Value as Scalar}
use Rattle.meaning.specs.types.specs.declared.entity.Value.TheVariants as scalar
use Rattle.meaning.specs.types.specs.declared.entity.RecordComponent.{RecordComponent}
use Rattle.meaning.specs.types.specs.declared.entity.FormalParameter.{FormalParameter}
use Rattle.meaning.specs.types.specs.declared.entity.PredefinedOperation.{PredefinedOperation}
use Rattle.meaning.specs.types.specs.declared.entity.PredefinedOperation.TheVariants as predefined
use Rattle.meaning.specs.types.specs.declared.standing.Callee.TheVariants as callee
use Rattle.meaning.specs.types.specs.declared.standing.Standing.{Standing}
use Rattle.meaning.specs.types.specs.declared.standing.Standing.TheVariants as standing
use Rattle.meaning.specs.types.specs.Entities.{TypeForm, Integers, Booleans, Times, Spans, Arrays, Records, Profile, Operation, ProtectedObject, Entity, OfType, OfSubtype, Object, Constant, Literal, Exception, Subprogram, Entry, Predefined, Put, Task, Protected, LibraryUnit, Doubtful}
use Rattle.meaning.specs.types.specs.Scopes.{Scope, boolean_type, entity_at, form_at, form_of, profile_of, protected_at, protected_of}
use Rattle.meaning.specs.types.specs.Shapes.{has_shape}
use Rattle.meaning.specs.types.specs.Standings.{array_attribute, bounds_stand, bound_stands, call_stands, called_operation, callee_profile, component_of, component_stands, conversion_stands, element_stands, is_single, object_attribute, operation_profile, operation_stands, profile_among, result_stands, select, select_all, settle, stands_for, subtype_attribute}
use Rattle.meaning.specs.types.specs.Values.{Number, Truth, value_of}
use Rattle.meaning.specs.types.specs.Evaluating.{fixed_value}
use Rattle.meaning.specs.expr_rules.specs.declared.own.Own.TheVariants.{Universal, Typed}
use Rattle.meaning.specs.expr_rules.specs.Typing.{is_integers, is_known, is_spans, is_times, own_of_standing}
use Rattle.meaning.specs.expr_rules.specs.NameRules.{component_rule, is_doubtful, operation_rule, part_rule, value_rule}
use Rattle.meaning.specs.expr_rules.specs.ExpressionRules.{arguments_faults, selector_faults, selectors_faults}
use Rattle.meaning.specs.expr_rules.specs.Laws.{is_value_of, type_shape}
use Rattle.meaning.specs.expr_rules.proofs.TypeShapes.{boolean_value, type_entity}
use Rattle.meaning.specs.expr_rules.proofs.TypedLaw.{back_empty, front_empty, integral_numeric, suits_number, unbroken}
use Rattle.expr_soundness.specs.SoundScopes.{AreEarlier, AreIn, AreKnown, AreSoundOperations, HasOperation, IsEarlier, IsKnown, IsSoundConstant, IsSoundEntry, IsSoundForm, IsSoundObject, IsSoundOperation, IsSoundPredefined, IsSoundProfile, IsSoundResult, IsSoundType, SoundScope, integer_formal}
use Rattle.expr_soundness.proofs.Positions.{found_at, place_is, same_some}
use Rattle.expr_soundness.proofs.Parts.{shape_by_form, subtype_values}

-- ---- what is known of what a name stands for

abbrev pub GoodGiven : Scope → Subtype → Option Scalar → Type 0
GoodGiven s t (Some v) = has_shape (type_shape s t.type_number) (value_of v) ≡ true
GoodGiven s t None = ⊤

abbrev pub GoodCallee : Scope → Option Profile → Type 0
GoodCallee s (Some p) = IsSoundProfile s p
GoodCallee s None = ⊥

abbrev pub GoodObject : Scope → Option ProtectedObject → Type 0
GoodObject s (Some o) = AreSoundOperations s o.operations
GoodObject s None = ⊥

abbrev pub Good : Scope → Standing → Type 0
Good s (standing.Part r t) = IsKnown s t
Good s (standing.Fixed t v) = IsSoundConstant s t v
Good s (standing.Given t v) = GoodGiven s t v
Good s (standing.Plain z) = ⊤
Good s (standing.Named t) = IsKnown s t
Good s (standing.Callee f) = GoodCallee s (callee_profile s f)
Good s standing.Put = ⊤
Good s (standing.Protected n) = GoodObject s (protected_at s n)
Good s standing.Statement = ⊤
Good s standing.Task = ⊤
Good s standing.Other = ⊤
Good s standing.Doubtful = ⊥

-- ---- forms

known_form : (s : Scope) (n : ℕ) (form : TypeForm) → form_at s n ≡ Some form → is_some (form_at s n) ≡ true
known_form s n form h = ap is_some h

integer_value : (s : Scope) (n : ℕ) → is_integers (form_at s n) ≡ true → (z : ℤ) → has_shape (type_shape s n) (Number z) ≡ true
integer_value s n h z = suits_number s (Typed n) (integral_numeric s (Typed n) h) z

pub not_empty : (o : Option TypeForm) → is_some o ≡ true → (form : TypeForm) × (o ≡ Some form)
not_empty (Some form) h = (form, refl)
not_empty None h = cc

pub not_none : {X : Type 0} (o : Option X) → is_none o ≡ false → (x : X) × (o ≡ Some x)
not_none (Some x) h = (x, refl)
not_none None h = cc

-- whatever object it is, its type is declared
pub object_known : (s : Scope) (r : Role) (t : Subtype) → IsSoundObject s r t → IsKnown s t
object_known s role.LoopParameter t h = by_form (form_at s t.type_number) h
  where
    by_form : (o : Option TypeForm) → is_integers o ≡ true → is_some o ≡ true
    by_form (Some form) k = refl
    by_form None k = cc
object_known s r t h = h

-- a constant's type is no composite one
abbrev pub is_composite : Option TypeForm → Bool
is_composite (Some (Arrays index length element)) = true
is_composite (Some (Records components)) = true
is_composite form = false

module _ (s : Scope) (sound : SoundScope s) where
  pub sound_form : (n : ℕ) (form : TypeForm) → form_at s n ≡ Some form → IsSoundForm s n form
  sound_form n form h = let t = type_entity (entity_at s n) form h in let x : IsSoundType s n form t.0 = sound.each n (OfType form t.0) t.1 in x.parts

  -- ---- names before their parts

  pub known_type : (n : ℕ) (form : TypeForm) (t : Subtype) → entity_at s n ≡ Some (OfType form t) → IsKnown s t
  known_type n form t h =
      let x : IsSoundType s n form t = sound.each n (OfType form t) h in
      subst (λ k. is_some (form_at s k) ≡ true) (sym x.numbered) (ap (λ o. is_some (form_of o)) h)

  good_predefined : (o : PredefinedOperation) (p : Profile) → IsSoundPredefined s o p → IsSoundProfile s p
  good_predefined o p h = by_operation o h
    where
      known : (test : Option TypeForm → Bool) (n : ℕ) → (test None ≡ false) → test (form_at s n) ≡ true → is_some (form_at s n) ≡ true
      known test n none h = by_form (form_at s n) h
        where
          by_form : (o : Option TypeForm) → test o ≡ true → is_some o ≡ true
          by_form (Some form) k = refl
          by_form None k = cc

      gives : (formals : List FormalParameter) (test : Option TypeForm → Bool) → test None ≡ false → AreIn formals → AreKnown s formals
          → HasOperation s formals test p → IsSoundProfile s p
      gives formals test none ins all x =
          record {
            known = subst (AreKnown s) (sym x.takes) all;
            result = subst (λ r. IsSoundResult s p.formals r) (sym x.result) (known test x.subtype.type_number none x.form, subst AreIn (sym x.takes) ins);
          }

      integer_known : AreKnown s (integer_formal ∷ [])
      integer_known = (ap is_some sound.integer, tt)

      by_operation : (o : PredefinedOperation) → IsSoundPredefined s o p → IsSoundProfile s p
      by_operation predefined.Clock x = gives [] is_times refl tt tt x
      by_operation predefined.Milliseconds x = gives (integer_formal ∷ []) is_spans refl (refl, tt) integer_known x
      by_operation predefined.Microseconds x = gives (integer_formal ∷ []) is_spans refl (refl, tt) integer_known x
      by_operation predefined.Read x = gives (integer_formal ∷ []) is_integers refl (refl, tt) integer_known x

  good_entry : (p : Profile) → IsSoundEntry s p → IsSoundProfile s p
  good_entry p x = record { known = x.known; result = subst (λ r. IsSoundResult s p.formals r) (sym x.none) tt }

  pub good_first : (n : ℕ) (e : Entity) → entity_at s n ≡ Some e → Good s (stands_for n (Some e))
  good_first n (OfType form t) h = known_type n form t h
  good_first n (OfSubtype t) h = sound.each n (OfSubtype t) h
  good_first n (Object r t) h = object_known s r t (sound.each n (Object r t) h)
  good_first n (Constant t v) h = sound.each n (Constant t v) h
  good_first n (Literal b) h = boolean_value s (Typed boolean_type) (ap (λ o. is_booleans o) sound.boolean) (Truth b)
    where
      is_booleans : Option TypeForm → Bool
      is_booleans (Some Booleans) = true
      is_booleans form = false
  good_first n Exception h = tt
  good_first n (Subprogram p) h = let x : IsSoundProfile s p = sound.each n (Subprogram p) h in subst (λ o. GoodCallee s (profile_of o)) (sym h) x
  good_first n (Entry p) h = subst (λ o. GoodCallee s (profile_of o)) (sym h) (good_entry p (sound.each n (Entry p) h))
  good_first n (Predefined o p) h = subst (λ o. GoodCallee s (profile_of o)) (sym h) (good_predefined o p (sound.each n (Predefined o p) h))
  good_first n Put h = tt
  good_first n (Task priority) h = tt
  good_first n (Protected o) h = subst (λ e. GoodObject s (protected_of e)) (sym h) (sound.each n (Protected o) h).0
  good_first n LibraryUnit h = tt
  good_first n Doubtful h = sound.each n Doubtful h

  -- ---- parts

  pub earlier_component : (n : ℕ) (cs : List RecordComponent) (name : List ℕ) (t : Subtype) → AreEarlier s n cs → component_of cs name ≡ Some t
      → IsEarlier s n t
  earlier_component n [] name t all h = cc
  earlier_component n (c ∷ cs) name t all h = by_test (bytes_eq c.name name) (earlier_component n cs name t all.1) h
    where
      by_test : (b : Bool) → (component_of cs name ≡ Some t → IsEarlier s n t) → cond b (Some c.subtype) (component_of cs name) ≡ Some t → IsEarlier s n t
      by_test true later k = subst (λ u. IsEarlier s n u) (same_some c.subtype t k) all.0
      by_test false later k = later k

  good_component : (r : Role) (place : ℕ) (name : Identifier) (n : ℕ) (o : Option TypeForm) → form_at s n ≡ o → component_rule place name o ≡ []
      → Good s (component_stands r o name.name)
  good_component r place name n (Some (Records cs)) e h =
      let found = not_none (component_of cs name.name) (unbroken 10 name.place (is_none (component_of cs name.name)) h) in
      subst (λ c. Good s (part c)) (sym found.1) (earlier_component n cs name.name found.0 (sound_form n (Records cs) e) found.1).known
    where
      part : Option Subtype → Standing
      part (Some t) = standing.Part r t
      part None = standing.Doubtful
  good_component r place name n o e h = cc

  -- First, Last and Length
  good_bounds : (t : Subtype) (name : List ℕ) → is_integers (form_at s t.type_number) ≡ true → is_doubtful (bounds_stand t name) ≡ false
      → Good s (bounds_stand t name)
  good_bounds t name h k = by_first (bytes_eq name (codes "FIRST")) (bytes_eq name (codes "LAST")) k
    where
      by_first : (a b : Bool) → is_doubtful (cond a (bound_stands t t.first) (cond b (bound_stands t t.last) standing.Doubtful)) ≡ false
          → Good s (cond a (bound_stands t t.first) (cond b (bound_stands t t.last) standing.Doubtful))
      by_first true b k = integer_value s t.type_number h t.first
      by_first false true k = integer_value s t.type_number h t.last
      by_first false false k = cc

  good_array_attribute : (index : Subtype) (count : ℕ) (name : List ℕ) → is_integers (form_at s index.type_number) ≡ true
      → is_doubtful (array_attribute index count name) ≡ false → Good s (array_attribute index count name)
  good_array_attribute index count name h k = by_test (bytes_eq name (codes "LENGTH")) k
    where
      by_test : (b : Bool) → is_doubtful (cond b (standing.Plain (pos count)) (bounds_stand index name)) ≡ false
          → Good s (cond b (standing.Plain (pos count)) (bounds_stand index name))
      by_test true k = tt
      by_test false k = good_bounds index name h k

  good_attribute : (n : ℕ) (o : Option TypeForm) (name : List ℕ) → form_at s n ≡ o → is_doubtful (object_attribute o name) ≡ false
      → Good s (object_attribute o name)
  good_attribute n (Some (Arrays index count element)) name e k = good_array_attribute index count name (sound_form n (Arrays index count element) e).integers k
  good_attribute n o name e k = cc

  good_element : (r : Role) (n : ℕ) (o : Option TypeForm) (single : Bool) → form_at s n ≡ o → is_doubtful (element_stands r o single) ≡ false
      → Good s (element_stands r o single)
  good_element r n (Some (Arrays index count element)) true e k = (sound_form n (Arrays index count element) e).earlier.known
  good_element r n o single e k = cc

  good_conversion : (t : Subtype) (o : Option TypeForm) (single : Bool) → is_doubtful (conversion_stands t o single) ≡ false
      → Good s (conversion_stands t o single)
  good_conversion t (Some Integers) true k = tt
  good_conversion t o single k = cc

  good_subtype_attribute : (t : Subtype) (o : Option TypeForm) (name : List ℕ) → form_at s t.type_number ≡ o → is_doubtful (subtype_attribute t o name) ≡ false
      → Good s (subtype_attribute t o name)
  good_subtype_attribute t (Some Integers) name e k = good_bounds t name (ap is_integers e) k
  good_subtype_attribute t (Some (Arrays index count element)) name e k = good_array_attribute index count name (sound_form t.type_number (Arrays index count element) e).integers k
  good_subtype_attribute t o name e k = cc

  good_result : (r : Option Subtype) → Good s (result_stands r)
  good_result (Some t) = tt
  good_result None = tt

  good_call : (o : Option Profile) → GoodCallee s o → Good s (call_stands o)
  good_call (Some p) h = good_result p.result
  good_call None h = absurd h

  pub sound_operation : (operations : List Operation) (k : ℕ) (o : Operation) → AreSoundOperations s operations → slice_get operations k ≡ Some o
      → IsSoundOperation s o.is_entry o.profile
  sound_operation [] k o all h = cc
  sound_operation (x ∷ xs) zero o all h = subst (λ y. IsSoundOperation s y.is_entry y.profile) (same_some x o h) all.0
  sound_operation (x ∷ xs) (suc k) o all h = sound_operation xs k o all.1 h

  pub sound_result : (is_entry : Bool) (p : Profile) → IsSoundOperation s is_entry p → IsSoundProfile s p
  sound_result true p h = good_entry p h
  sound_result false p h = h

  good_operation : (n : ℕ) (o : Option ProtectedObject) (name : Identifier) → protected_at s n ≡ o → GoodObject s o → operation_rule name o ≡ []
      → Good s (operation_stands n o name.name)
  good_operation n (Some p) name e all h = by_place (position (λ o. bytes_eq o.name name.name) p.operations) refl (unbroken 10 name.place (is_none (position (λ o. bytes_eq o.name name.name) p.operations)) h)
    where
      by_place : (k : Option ℕ) → position (λ o. bytes_eq o.name name.name) p.operations ≡ k → is_none k ≡ false → Good s (called_operation n k)
      by_place (Some k) at some =
          let found = found_at (λ o. bytes_eq o.name name.name) p.operations k (sym (place_is (λ o. bytes_eq o.name name.name) p.operations) ∙ at) in
          let is : callee_profile s (callee.Operation n k) ≡ Some found.0.profile = ap (λ x. profile_among x k) e ∙ ap operation_profile found.1 in
          subst (GoodCallee s) (sym is) (sound_result found.0.is_entry found.0.profile (sound_operation p.operations k found.0 all found.1))
      by_place None at some = cc
  good_operation n None name e all h = absurd all

  -- a constant's type has no parts
  constant_scalar : (t : Subtype) (v : Option Scalar) → IsSoundConstant s t v → is_composite (form_at s t.type_number) ≡ false
  constant_scalar t v x = by_form (form_at s t.type_number) refl
    where
      suited : has_shape (type_shape s t.type_number) (value_of x.value) ≡ true
      suited = sym (subtype_values s t (value_of x.value)) ∙ x.suited

      by_value : (index : Subtype) (count : ℕ) (element : Subtype) (v : Scalar) → form_at s t.type_number ≡ Some (Arrays index count element)
          → has_shape (type_shape s t.type_number) (value_of v) ≡ true → ⊥
      by_value index count element (scalar.Number z) e h = let y = shape_by_form s t.type_number (Arrays index count element) e in let k = sym (ap (λ x. has_shape x (Number z)) y.1) ∙ h in cc
      by_value index count element (scalar.Truth b) e h = let y = shape_by_form s t.type_number (Arrays index count element) e in let k = sym (ap (λ x. has_shape x (Truth b)) y.1) ∙ h in cc

      by_record : (cs : List RecordComponent) (v : Scalar) → form_at s t.type_number ≡ Some (Records cs)
          → has_shape (type_shape s t.type_number) (value_of v) ≡ true → ⊥
      by_record cs (scalar.Number z) e h = let y = shape_by_form s t.type_number (Records cs) e in let k = sym (ap (λ x. has_shape x (Number z)) y.1) ∙ h in cc
      by_record cs (scalar.Truth b) e h = let y = shape_by_form s t.type_number (Records cs) e in let k = sym (ap (λ x. has_shape x (Truth b)) y.1) ∙ h in cc

      by_form : (o : Option TypeForm) → form_at s t.type_number ≡ o → is_composite o ≡ false
      by_form (Some (Arrays index count element)) e = absurd (by_value index count element x.value e suited)
      by_form (Some (Records cs)) e = absurd (by_record cs x.value e suited)
      by_form (Some Integers) e = refl
      by_form (Some Booleans) e = refl
      by_form (Some Times) e = refl
      by_form (Some Spans) e = refl
      by_form None e = refl

  scalar_component : (place : ℕ) (name : Identifier) (o : Option TypeForm) → is_composite o ≡ false → component_rule place name o ≡ [] → ⊥
  scalar_component place name (Some (Records cs)) h k = cc
  scalar_component place name o h k = cc

  scalar_element : (r : Role) (o : Option TypeForm) (single : Bool) → is_composite o ≡ false → is_doubtful (element_stands r o single) ≡ false → ⊥
  scalar_element r (Some (Arrays index count element)) true h k = cc
  scalar_element r o single h k = cc

  scalar_attribute : (o : Option TypeForm) (name : List ℕ) → is_composite o ≡ false → is_doubtful (object_attribute o name) ≡ false → ⊥
  scalar_attribute (Some (Arrays index count element)) name h k = cc
  scalar_attribute o name h k = cc

  pub no_constant_parts : (place : ℕ) (t : Subtype) (v : Option Scalar) (x : SelectorTree) → IsSoundConstant s t v
      → part_rule s place (standing.Fixed t v) x ≡ [] → ⊥
  no_constant_parts place t v (Component name) c h = scalar_component place name (form_at s t.type_number) (constant_scalar t v c) h
  no_constant_parts place t v (Arguments a) c h = scalar_element _ (form_at s t.type_number) (is_single a) (constant_scalar t v c) (unbroken 12 place _ h)
  no_constant_parts place t v (Attribute name) c h = scalar_attribute (form_at s t.type_number) name.name (constant_scalar t v c) (unbroken 12 place _ h)

  integers_scalar : (o : Option TypeForm) → is_integers o ≡ true → is_composite o ≡ false
  integers_scalar (Some Integers) h = refl
  integers_scalar o h = cc

  -- nor has an integer
  pub no_integer_parts : (place : ℕ) (r : Role) (t : Subtype) (x : SelectorTree) → is_integers (form_at s t.type_number) ≡ true
      → part_rule s place (standing.Part r t) x ≡ [] → ⊥
  no_integer_parts place r t (Component name) c h = scalar_component place name (form_at s t.type_number) (integers_scalar (form_at s t.type_number) c) h
  no_integer_parts place r t (Arguments a) c h = scalar_element r (form_at s t.type_number) (is_single a) (integers_scalar (form_at s t.type_number) c) (unbroken 12 place _ h)
  no_integer_parts place r t (Attribute name) c h = scalar_attribute (form_at s t.type_number) name.name (integers_scalar (form_at s t.type_number) c) (unbroken 12 place _ h)

  pub good_select : (place : ℕ) (w : Standing) (x : SelectorTree) → Good s w → part_rule s place w x ≡ [] → Good s (select s w x)
  good_select place (standing.Part r t) (Component name) g h = good_component r place name t.type_number (form_at s t.type_number) refl h
  good_select place (standing.Part r t) (Arguments a) g h = good_element r t.type_number (form_at s t.type_number) (is_single a) refl (unbroken 12 place _ h)
  good_select place (standing.Part r t) (Attribute name) g h = good_attribute t.type_number (form_at s t.type_number) name.name refl (unbroken 12 place _ h)
  good_select place (standing.Fixed t v) x g h = absurd (no_constant_parts place t v x g h)
  good_select place (standing.Named t) (Component name) g h = cc
  good_select place (standing.Named t) (Arguments a) g h = good_conversion t (form_at s t.type_number) (is_single a) (unbroken 12 place _ h)
  good_select place (standing.Named t) (Attribute name) g h = good_subtype_attribute t (form_at s t.type_number) name.name refl (unbroken 12 place _ h)
  good_select place (standing.Callee f) (Component name) g h = cc
  good_select place (standing.Callee f) (Arguments a) g h = good_call (callee_profile s f) g
  good_select place (standing.Callee f) (Attribute name) g h = cc
  good_select place standing.Put (Component name) g h = cc
  good_select place standing.Put (Arguments a) g h = tt
  good_select place standing.Put (Attribute name) g h = cc
  good_select place (standing.Protected n) (Component name) g h = good_operation n (protected_at s n) name refl g h
  good_select place (standing.Protected n) (Arguments a) g h = cc
  good_select place (standing.Protected n) (Attribute name) g h = cc
  good_select place (standing.Given t v) (Component name) g h = cc
  good_select place (standing.Given t v) (Arguments a) g h = cc
  good_select place (standing.Given t v) (Attribute name) g h = cc
  good_select place (standing.Plain z) (Component name) g h = cc
  good_select place (standing.Plain z) (Arguments a) g h = cc
  good_select place (standing.Plain z) (Attribute name) g h = cc
  good_select place standing.Statement (Component name) g h = cc
  good_select place standing.Statement (Arguments a) g h = cc
  good_select place standing.Statement (Attribute name) g h = cc
  good_select place standing.Task (Component name) g h = cc
  good_select place standing.Task (Arguments a) g h = cc
  good_select place standing.Task (Attribute name) g h = cc
  good_select place standing.Other (Component name) g h = cc
  good_select place standing.Other (Arguments a) g h = cc
  good_select place standing.Other (Attribute name) g h = cc
  good_select place standing.Doubtful x g h = absurd g

  pub good_settle : (w : Standing) → Good s w → Good s (settle s w)
  good_settle (standing.Callee f) g = good_call (callee_profile s f) g
  good_settle standing.Put g = tt
  good_settle (standing.Named t) g = tt
  good_settle (standing.Protected n) g = tt
  good_settle standing.Task g = tt
  good_settle (standing.Part r t) g = g
  good_settle (standing.Fixed t v) g = g
  good_settle (standing.Given t v) g = g
  good_settle (standing.Plain z) g = g
  good_settle standing.Statement g = g
  good_settle standing.Other g = g
  good_settle standing.Doubtful g = g

  -- the rule of a part, and those of what stands in its parentheses
  pub part_unbroken : (place : ℕ) (w : Standing) (x : SelectorTree) → selector_faults s place w x ≡ [] → part_rule s place w x ≡ []
  part_unbroken place w (Component name) h = h
  part_unbroken place w (Arguments a) h = front_empty (part_rule s place w (Arguments a)) (arguments_faults s w 0 a) h
  part_unbroken place w (Attribute name) h = h

  pub good_all : (place : ℕ) (selectors : SelectorTrees) (w : Standing) → Good s w → selectors_faults s place w selectors ≡ []
      → Good s (select_all s w selectors)
  good_all place NoSelectors w g h = good_settle w g
  good_all place (MoreSelectors x rest) w g h =
      let here = front_empty (selector_faults s place w x) (selectors_faults s place (select s w x) rest) h in
      let later = back_empty (selector_faults s place w x) (selectors_faults s place (select s w x) rest) h in
      good_all place rest (select s w x) (good_select place w x g (part_unbroken place w x here)) later

  -- ---- whole names

  known_result : (place : ℕ) (r : Option Subtype) → value_rule place (result_stands r) ≡ [] → is_known (own_of_standing (result_stands r)) ≡ true
  known_result place (Some t) h = refl
  known_result place None h = cc

  known_call : (place : ℕ) (o : Option Profile) → GoodCallee s o → value_rule place (call_stands o) ≡ [] → is_known (own_of_standing (call_stands o)) ≡ true
  known_call place (Some p) g h = known_result place p.result h
  known_call place None g h = absurd g

  known_settled : (place : ℕ) (w : Standing) → Good s w → value_rule place (settle s w) ≡ [] → is_known (own_of_standing (settle s w)) ≡ true
  known_settled place (standing.Callee f) g h = known_call place (callee_profile s f) g h
  known_settled place standing.Put g h = cc
  known_settled place (standing.Named t) g h = cc
  known_settled place (standing.Protected n) g h = cc
  known_settled place standing.Task g h = cc
  known_settled place (standing.Part r t) g h = refl
  known_settled place (standing.Fixed t v) g h = refl
  known_settled place (standing.Given t v) g h = refl
  known_settled place (standing.Plain z) g h = refl
  known_settled place standing.Statement g h = cc
  known_settled place standing.Other g h = cc
  known_settled place standing.Doubtful g h = absurd g

  pub known_all : (place : ℕ) (selectors : SelectorTrees) (w : Standing) → Good s w → selectors_faults s place w selectors ≡ []
      → value_rule place (select_all s w selectors) ≡ []
      → is_known (own_of_standing (select_all s w selectors)) ≡ true
  known_all place NoSelectors w g h v = known_settled place w g v
  known_all place (MoreSelectors x rest) w g h v =
      let here = front_empty (selector_faults s place w x) (selectors_faults s place (select s w x) rest) h in
      let later = back_empty (selector_faults s place w x) (selectors_faults s place (select s w x) rest) h in
      known_all place rest (select s w x) (good_select place w x g (part_unbroken place w x here)) later v

  -- a fixed value is of its type
  pub fixed_suits : (w : Standing) (v : Scalar) → Good s w → fixed_value w ≡ Some v → is_value_of s (own_of_standing w) (value_of v) ≡ true
  fixed_suits (standing.Fixed t c) v g h =
      let same : v ≡ g.value = same_some v g.value (sym h ∙ g.given) in
      ap (λ x. has_shape (type_shape s t.type_number) (value_of x)) same ∙ sym (subtype_values s t (value_of g.value)) ∙ g.suited
  fixed_suits (standing.Given t (Some x)) v g h = ap (λ y. has_shape (type_shape s t.type_number) (value_of y)) (sym (same_some x v h)) ∙ g
  fixed_suits (standing.Given t None) v g h = cc
  fixed_suits (standing.Plain z) v g h = ap (λ y. is_value_of s Universal (value_of y)) (sym (same_some (scalar.Number z) v h))
  fixed_suits (standing.Part r t) v g h = cc
  fixed_suits (standing.Named t) v g h = cc
  fixed_suits (standing.Callee f) v g h = cc
  fixed_suits standing.Put v g h = cc
  fixed_suits (standing.Protected n) v g h = cc
  fixed_suits standing.Statement v g h = cc
  fixed_suits standing.Task v g h = cc
  fixed_suits standing.Other v g h = cc
  fixed_suits standing.Doubtful v g h = cc
