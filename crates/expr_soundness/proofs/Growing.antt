-- What holds of the names of a scope holds of them in one with more names.
use Rattle.std.proofs.Common.{◌≡◌, ℕ, suc, ◌+◌, ◌++◌, List, [], ◌∷◌, Bool, true, false, inl, inr, Option, Some, None, refl, sym, ap, ◌∙◌, subst, arith}
use Rattle.std.specs.Prelude.{is_some, slice_get}
use Rattle.meaning.specs.types.specs.declared.entity.Subtype.{Subtype}
use Rattle.meaning.specs.types.specs.declared.entity.Role.{Role}
use Rattle.meaning.specs.types.specs.declared.entity.Role.TheVariants as role
use Rattle.meaning.specs.types.specs.declared.entity.RecordComponent.{RecordComponent}
use Rattle.meaning.specs.types.specs.declared.entity.FormalParameter.{FormalParameter}
use Rattle.meaning.specs.types.specs.declared.entity.PredefinedOperation.{PredefinedOperation}
use Rattle.meaning.specs.types.specs.declared.entity.PredefinedOperation.TheVariants as predefined
use Rattle.meaning.specs.types.specs.Entities.{TypeForm, Integers, Booleans, Times, Spans, Arrays, Records, Profile, Operation, Entity, OfType, OfSubtype, Object, Constant, Literal, Exception, Subprogram, Entry, Predefined, Put, Task, Protected, LibraryUnit, Doubtful}
use Rattle.meaning.specs.types.specs.Scopes.{Scope, Named, base_range_of, boolean_type, entity_at, form_at, form_of, integer_type}
use Rattle.meaning.specs.types.specs.Values.{Value, value_of}
use Rattle.meaning.specs.types.specs.Shapes.{Shape, entity_shape, has_shape, narrowed, shape_of, shape_or_none, shapes, shapes_after}
use Rattle.meaning.specs.types.specs.Places.{Meaning}
use Rattle.meaning.specs.expr_rules.specs.Typing.{is_integers, is_spans, is_times}
use Rattle.meaning.specs.expr_rules.specs.Laws.{type_shape}
use Rattle.meaning.specs.expr_rules.proofs.TypeShapes.{entity_named, kept_shape, type_entity}
use Rattle.expr_soundness.specs.SoundScopes.{AreEarlier, AreKnown, AreKnownParts, AreSoundOperations, HasOperation, IsEarlier, IsKnown, IsSoundEntity, IsSoundEntry, IsSoundForm, IsSoundObject, IsSoundOperation, IsSoundPredefined, IsSoundProfile, IsSoundResult, SoundScope}
use Rattle.expr_soundness.specs.Agreeing.{MeansOne}
use Rattle.expr_soundness.proofs.Positions.{entity_added, entity_kept}
use Rattle.expr_soundness.proofs.Parts.{same_values, shape_found}
use Rattle.expr_soundness.proofs.Goods.{not_empty}

split_shapes : (known : List Shape) (s more : Scope) → shapes_after known (s ++ more) ≡ shapes_after (shapes_after known s) more
split_shapes known [] more = refl
split_shapes known (x ∷ s) more = split_shapes (known ++ entity_shape known x.entity ∷ []) s more

module _ (s more : Scope) where
  pub form_kept : (n : ℕ) (form : TypeForm) → form_at s n ≡ Some form → form_at (s ++ more) n ≡ Some form
  form_kept n form h = let t = type_entity (entity_at s n) form h in ap form_of (entity_kept s more n (OfType form t.0) t.1)

  shape_kept : (n : ℕ) (x : Shape) → slice_get (shapes s) n ≡ Some x → slice_get (shapes (s ++ more)) n ≡ Some x
  shape_kept n x h = ap (λ l. slice_get l n) (split_shapes [] s more) ∙ kept_shape (shapes s) more n x h

  shape_stands : (n : ℕ) (form : TypeForm) → form_at s n ≡ Some form → (x : Shape) × (slice_get (shapes s) n ≡ Some x)
  shape_stands n form h =
      let one = type_entity (entity_at s n) form h in
      let item = entity_named (slice_get s n) (OfType form one.0) one.1 in
      let here : 0 + n ≡ n = omega arith in
      (_, sym (ap (slice_get (shapes s)) here) ∙ shape_found [] s n item.0 item.1)

  pub type_shape_kept : (n : ℕ) (form : TypeForm) → form_at s n ≡ Some form → type_shape (s ++ more) n ≡ type_shape s n
  type_shape_kept n form h =
      let x = shape_stands n form h in
      ap (λ o. narrowed (base_range_of n) (shape_or_none o)) (shape_kept n x.0 x.1 ∙ sym x.1)

-- ---- in a scope with the same types

-- the second has the types of the first, at the same numbers
pub record HasTypes (s u : Scope) : Type 0 where
  pub forms : (n : ℕ) (form : TypeForm) → form_at s n ≡ Some form → form_at u n ≡ Some form
  pub shapes : (n : ℕ) (form : TypeForm) → form_at s n ≡ Some form → type_shape u n ≡ type_shape s n

pub grown : (s more : Scope) → HasTypes s (s ++ more)
grown s more = record { forms = form_kept s more; shapes = type_shape_kept s more }

module _ (s u : Scope) (has : HasTypes s u) where
  pub test_kept : (test : Option TypeForm → Bool) → test None ≡ false → (n : ℕ) → test (form_at s n) ≡ true → test (form_at u n) ≡ true
  test_kept test none n h = by_form (form_at s n) refl h
    where
      by_form : (o : Option TypeForm) → form_at s n ≡ o → test o ≡ true → test (form_at u n) ≡ true
      by_form (Some form) e k = ap test (has.forms n form e) ∙ k
      by_form None e k = cc

  pub known_kept : (t : Subtype) → IsKnown s t → IsKnown u t
  known_kept t h = test_kept is_some refl t.type_number h

  pub values_kept : (t : Subtype) (v : Value) → IsKnown s t → has_shape (shape_of u t) v ≡ has_shape (shape_of s t) v
  values_kept t v h = let f = not_empty (form_at s t.type_number) h in same_values u s t v (has.shapes t.type_number f.0 f.1)

  earlier_kept : (n : ℕ) (t : Subtype) → IsEarlier s n t → IsEarlier u n t
  earlier_kept n t h = record { known = known_kept t h.known; before = h.before }

  components_kept : (n : ℕ) (cs : List RecordComponent) → AreEarlier s n cs → AreEarlier u n cs
  components_kept n [] h = tt
  components_kept n (c ∷ cs) h = (earlier_kept n c.subtype h.0, components_kept n cs h.1)

  form_sound : (n : ℕ) (form : TypeForm) → IsSoundForm s n form → IsSoundForm u n form
  form_sound n (Arrays index count element) h = record { integers = test_kept is_integers refl index.type_number h.integers; counted = h.counted; earlier = earlier_kept n element h.earlier }
  form_sound n (Records cs) h = components_kept n cs h
  form_sound n Integers h = tt
  form_sound n Booleans h = tt
  form_sound n Times h = tt
  form_sound n Spans h = tt

  formals_kept : (fs : List FormalParameter) → AreKnown s fs → AreKnown u fs
  formals_kept [] h = tt
  formals_kept (f ∷ fs) h = (known_kept f.subtype h.0, formals_kept fs h.1)

  result_kept : (fs : List FormalParameter) (r : Option Subtype) → IsSoundResult s fs r → IsSoundResult u fs r
  result_kept fs (Some t) h = (known_kept t h.0, h.1)
  result_kept fs None h = tt

  profile_kept : (p : Profile) → IsSoundProfile s p → IsSoundProfile u p
  profile_kept p h = record { known = formals_kept p.formals h.known; result = result_kept p.formals p.result h.result }

  entry_kept : (p : Profile) → IsSoundEntry s p → IsSoundEntry u p
  entry_kept p h = record { known = formals_kept p.formals h.known; none = h.none }

  operation_kept : (is_entry : Bool) (p : Profile) → IsSoundOperation s is_entry p → IsSoundOperation u is_entry p
  operation_kept true p h = entry_kept p h
  operation_kept false p h = profile_kept p h

  operations_kept : (os : List Operation) → AreSoundOperations s os → AreSoundOperations u os
  operations_kept [] h = tt
  operations_kept (o ∷ os) h = (operation_kept o.is_entry o.profile h.0, operations_kept os h.1)

  parts_kept : (cs : List RecordComponent) → AreKnownParts s cs → AreKnownParts u cs
  parts_kept [] h = tt
  parts_kept (c ∷ cs) h = (known_kept c.subtype h.0, parts_kept cs h.1)

  language_kept : (formals : List FormalParameter) (test : Option TypeForm → Bool) (p : Profile) → test None ≡ false → HasOperation s formals test p
      → HasOperation u formals test p
  language_kept formals test p none h = record { subtype = h.subtype; result = h.result; base = h.base; form = test_kept test none h.subtype.type_number h.form; takes = h.takes }

  predefined_kept : (o : PredefinedOperation) (p : Profile) → IsSoundPredefined s o p → IsSoundPredefined u o p
  predefined_kept predefined.Clock p h = language_kept _ is_times p refl h
  predefined_kept predefined.Milliseconds p h = language_kept _ is_spans p refl h
  predefined_kept predefined.Microseconds p h = language_kept _ is_spans p refl h
  predefined_kept predefined.Read p h = language_kept _ is_integers p refl h

  object_kept : (r : Role) (t : Subtype) → IsSoundObject s r t → IsSoundObject u r t
  object_kept role.LoopParameter t h = test_kept is_integers refl t.type_number h
  object_kept r t h = known_kept t h

  -- an object of the same scope of values, by its role
  pub one_kept : (here : Scope) (m : Meaning) (r : Role) (t : Subtype) → IsKnown s t → MeansOne s here m r t → MeansOne u here m r t
  one_kept here m role.LoopParameter t known h = h
  one_kept here m r t known h = record { value = h.value; is = h.is; suited = values_kept t h.value known ∙ h.suited }

  pub entity_sound : (n : ℕ) (e : Entity) → IsSoundEntity s n e → IsSoundEntity u n e
  entity_sound n (OfType form t) h = record { numbered = h.numbered; parts = form_sound n form h.parts }
  entity_sound n (OfSubtype t) h = known_kept t h
  entity_sound n (Object r t) h = object_kept r t h
  entity_sound n (Constant t v) h = record { known = known_kept t h.known; value = h.value; given = h.given; suited = values_kept t (value_of h.value) h.known ∙ h.suited }
  entity_sound n (Literal b) h = tt
  entity_sound n Exception h = tt
  entity_sound n (Subprogram p) h = profile_kept p h
  entity_sound n (Entry p) h = entry_kept p h
  entity_sound n (Predefined o p) h = predefined_kept o p h
  entity_sound n Put h = tt
  entity_sound n (Task priority) h = tt
  entity_sound n (Protected o) h = (operations_kept o.operations h.0, parts_kept o.components h.1)
  entity_sound n LibraryUnit h = tt
  entity_sound n Doubtful h = h

-- ---- with an object more

abbrev pub object_named : List ℕ → Role → Subtype → Named
object_named name r t = record { name = name; entity = Object r t }

module _ (s : Scope) (name : List ℕ) (r : Role) (t : Subtype) where
  pub form_before : (n : ℕ) (form : TypeForm) → form_at (s ++ object_named name r t ∷ []) n ≡ Some form → form_at s n ≡ Some form
  form_before n form h =
      let one = type_entity (entity_at (s ++ object_named name r t ∷ []) n) form h in
      elim (entity_added s (object_named name r t) n (OfType form one.0) one.1) [
        | inl e ↦ ap form_of e
        | inr e ↦ let k = e.1 in cc
      ]

  test_before : (test : Option TypeForm → Bool) → test None ≡ false → (n : ℕ) → test (form_at (s ++ object_named name r t ∷ []) n) ≡ true
      → test (form_at s n) ≡ true
  test_before test none n h = by_form (form_at (s ++ object_named name r t ∷ []) n) refl h
    where
      by_form : (o : Option TypeForm) → form_at (s ++ object_named name r t ∷ []) n ≡ o → test o ≡ true → test (form_at s n) ≡ true
      by_form (Some form) e k = ap test (form_before n form e) ∙ k
      by_form None e k = cc

  object_sound : IsSoundObject s r t → (n : ℕ) (e : Entity) → Object r t ≡ e → IsSoundEntity (s ++ object_named name r t ∷ []) n e
  object_sound known n e h = subst (λ x. IsSoundEntity (s ++ object_named name r t ∷ []) n x) h (object_kept s (s ++ object_named name r t ∷ []) (grown s (object_named name r t ∷ [])) r t known)

  pub sound_with_object : SoundScope s → IsSoundObject s r t → SoundScope (s ++ object_named name r t ∷ [])
  sound_with_object sound known =
      let more : Scope = object_named name r t ∷ [] in
      record {
        integer = form_kept s more integer_type Integers sound.integer;
        boolean = form_kept s more boolean_type Booleans sound.boolean;
        span = λ n h. test_kept s (s ++ more) (grown s more) is_spans refl (suc n) (sound.span n (test_before is_times refl n h));
        each = λ n e h. elim (entity_added s (object_named name r t) n e h) [ inl k ↦ entity_sound s (s ++ more) (grown s more) n e (sound.each n e k) | inr k ↦ object_sound known n e k.1 ];
      }
