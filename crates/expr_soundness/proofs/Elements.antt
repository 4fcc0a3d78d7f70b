-- The parts of values of a shape are there, and of the shapes of the parts.
use Rattle.std.proofs.Common.{◌≡◌, ℕ, zero, suc, ◌<◌, ℤ, ◌-ℤ◌, List, [], ◌∷◌, Bool, true, false, ◌&&◌, Some, refl, sym, ap, ◌∙◌, subst, arith}
use Rattle.std.specs.Prelude.{bytes_eq, cond, int_le, nat_eq, unsigned_abs}
use Rattle.std.proofs.lemmas.Int.{ints}
use Rattle.std.proofs.lemmas.Slice.Eq.{bytes_eq-Decides}
use Rattle.meaning.specs.types.specs.declared.entity.Subtype.{Subtype}
use Rattle.meaning.specs.types.specs.declared.entity.RecordComponent.{RecordComponent}
use Rattle.meaning.specs.types.specs.Entities.{Arrays, Records}
use Rattle.meaning.specs.types.specs.Scopes.{Scope, form_at}
use Rattle.meaning.specs.types.specs.Standings.{component_of}
use Rattle.meaning.specs.types.specs.Values.{Value, Number, Truth, Array, Record, Values, NoValues, MoreValues, Fields, NoFields, MoreFields, element_at, field_of, fits, is_within}
use Rattle.meaning.specs.types.specs.Shapes.{Shape, Repeated, Grouped, Shapes, all_values, component_shapes, count_values, has_shape, have_shapes, shape_among, shape_of}
use Rattle.meaning.specs.type_rules.specs.TypeRules.{length_of}
use Rattle.meaning.specs.expr_rules.specs.Laws.{type_shape}
use Rattle.expr_soundness.specs.SoundScopes.{SoundScope}
use Rattle.expr_soundness.proofs.Positions.{same_some}
use Rattle.expr_soundness.proofs.Parts.{before, part_shape, shape_by_form, subtype_values}
use Rattle.expr_soundness.proofs.Goods.{earlier_component, sound_form}

pub both_left : (a b : Bool) → (a && b) ≡ true → a ≡ true
both_left true b h = refl
both_left false b h = cc

pub both_right : (a b : Bool) → (a && b) ≡ true → b ≡ true
both_right true b h = h
both_right false b h = cc

-- ---- components of arrays

pub element_there : (x : Shape) (vs : Values) (n : ℕ) → all_values (has_shape x) vs ≡ true → n < count_values vs
    → (v : Value) × (element_at vs n ≡ Some v) × (has_shape x v ≡ true)
element_there x NoValues n h less = absurd (omega (arith, less))
element_there x (MoreValues v rest) zero h less = (v, refl, both_left (has_shape x v) (all_values (has_shape x) rest) h)
element_there x (MoreValues v rest) (suc n) h less =
    let shorter : n < count_values rest = omega (arith, less) in
    element_there x rest n (both_right (has_shape x v) (all_values (has_shape x) rest) h) shorter

pub record IsArray (length : ℕ) (x : Shape) (v : Value) : Type 0 where
  pub values : Values
  pub is : v ≡ Array values
  pub counted : nat_eq (count_values values) length ≡ true
  pub suited : all_values (has_shape x) values ≡ true

pub array_value : (length : ℕ) (x : Shape) (v : Value) → has_shape (Repeated length x) v ≡ true → IsArray length x v
array_value length x (Array vs) h =
    record {
      values = vs;
      is = refl;
      counted = both_left (nat_eq (count_values vs) length) (all_values (has_shape x) vs) h;
      suited = both_right (nat_eq (count_values vs) length) (all_values (has_shape x) vs) h;
    }
array_value length x (Number z) h = cc
array_value length x (Truth b) h = cc
array_value length x (Record fs) h = cc

-- a value of an index is the place of a component
pub index_within : (t : Subtype) (z : ℤ) → is_within t.first t.last z ≡ true → unsigned_abs (z -ℤ t.first) < length_of t
index_within t z h = near t.first z t.last (both_left (int_le t.first z) (int_le z t.last) h) (both_right (int_le t.first z) (int_le z t.last) h)
  where
    near : (first z last : ℤ) → int_le first z ≡ true → int_le z last ≡ true → unsigned_abs (z -ℤ first) < suc (unsigned_abs (last -ℤ first))
    near first z last h k = omega (arith, ints, h, k)

-- ---- components of records

pub record_value : (parts : Shapes) (v : Value) → has_shape (Grouped parts) v ≡ true → (fs : Fields) × (v ≡ Record fs) × (have_shapes parts fs ≡ true)
record_value parts (Record fs) h = (fs, refl, h)
record_value parts (Number z) h = cc
record_value parts (Truth b) h = cc
record_value parts (Array vs) h = cc

pub field_there : (known : List Shape) (cs : List RecordComponent) (fs : Fields) (name : List ℕ) (t : Subtype)
    → have_shapes (component_shapes known cs) fs ≡ true → component_of cs name ≡ Some t
    → (v : Value) × (field_of fs name ≡ Some v) × (has_shape (shape_among known t) v ≡ true)
field_there known [] fs name t h found = cc
field_there known (c ∷ cs) NoFields name t h found = cc
field_there known (c ∷ cs) (MoreFields own v rest) name t h found = by_test (bytes_eq c.name name) refl found (field_there known cs rest name t later)
  where
    suited : (has_shape (shape_among known c.subtype) v && have_shapes (component_shapes known cs) rest) ≡ true
    suited = both_right (bytes_eq own c.name) (has_shape (shape_among known c.subtype) v && have_shapes (component_shapes known cs) rest) h

    later : have_shapes (component_shapes known cs) rest ≡ true
    later = both_right (has_shape (shape_among known c.subtype) v) (have_shapes (component_shapes known cs) rest) suited

    same : own ≡ c.name
    same = (bytes_eq-Decides own c.name).0 (both_left (bytes_eq own c.name) (has_shape (shape_among known c.subtype) v && have_shapes (component_shapes known cs) rest) h)

    by_test : (b : Bool) → bytes_eq c.name name ≡ b → cond b (Some c.subtype) (component_of cs name) ≡ Some t
        → (component_of cs name ≡ Some t → (w : Value) × (field_of rest name ≡ Some w) × (has_shape (shape_among known t) w ≡ true))
        → (w : Value) × (field_of (MoreFields own v rest) name ≡ Some w) × (has_shape (shape_among known t) w ≡ true)
    by_test true e k more = (
      v,
      ap (λ b. cond b (Some v) (field_of rest name)) (ap (λ n. bytes_eq n name) same ∙ e),
      subst (λ u. has_shape (shape_among known u) v ≡ true) (same_some c.subtype t k) (both_left (has_shape (shape_among known c.subtype) v) (have_shapes (component_shapes known cs) rest) suited),
    )
    by_test false e k more = let found = more k in (found.0, ap (λ b. cond b (Some v) (field_of rest name)) (ap (λ n. bytes_eq n name) same ∙ e) ∙ found.1, found.2)

-- ---- parts of a value of a subtype

-- a value of a subtype is of the shape of its type
pub of_type : (s : Scope) (t : Subtype) (v : Value) (x : Shape) → type_shape s t.type_number ≡ x → has_shape (shape_of s t) v ≡ true → has_shape x v ≡ true
of_type s t v x h k = sym (ap (λ y. has_shape y v) h) ∙ sym (subtype_values s t v) ∙ k

-- a part of a type is of an earlier type
of_part : (s : Scope) (n : ℕ) (t : Subtype) (v : Value) → t.type_number < n → has_shape (shape_among (before s n) t) v ≡ true → has_shape (shape_of s t) v ≡ true
of_part s n t v less h = ap (λ x. has_shape x v) (sym (part_shape s n t less)) ∙ h

module _ (s : Scope) (sound : SoundScope s) where
  pub array_at : (t index : Subtype) (size : ℕ) (element : Subtype) (v : Value) (n : ℕ) → form_at s t.type_number ≡ Some (Arrays index size element)
      → has_shape (shape_of s t) v ≡ true → n < size
      → (vs : Values) × (v ≡ Array vs) × (x : Value) × (element_at vs n ≡ Some x) × (has_shape (shape_of s element) x ≡ true)
  array_at t index size element v n form suited less =
      let part = sound_form s sound t.type_number (Arrays index size element) form in
      let shape = shape_by_form s t.type_number (Arrays index size element) form in
      let inner = shape_among (before s t.type_number) element in
      let repeated = of_type s t v (Repeated size inner) shape.1 suited in
      let all = array_value size inner v repeated in
      let counted : count_values all.values ≡ size = (let e = all.counted in grind (arith, e)) in
      let inside : n < count_values all.values = subst (λ k. n < k) (sym counted) less in
      let found = element_there inner all.values n all.suited inside in
      (all.values, all.is, found.0, found.1, of_part s t.type_number element found.0 part.earlier.before found.2)

  pub array_element : (t index : Subtype) (size : ℕ) (element : Subtype) (v : Value) (z : ℤ) → form_at s t.type_number ≡ Some (Arrays index size element)
      → has_shape (shape_of s t) v ≡ true
      → fits index (Number z) ≡ true
      → (vs : Values) × (v ≡ Array vs) × (x : Value) × (element_at vs (unsigned_abs (z -ℤ index.first)) ≡ Some x) × (has_shape (shape_of s element) x ≡ true)
  array_element t index size element v z form suited within =
      let part = sound_form s sound t.type_number (Arrays index size element) form in
      array_at t index size element v (unsigned_abs (z -ℤ index.first)) form suited (subst (λ k. unsigned_abs (z -ℤ index.first) < k) (sym part.counted) (index_within index z within))

  pub record_field : (t : Subtype) (cs : List RecordComponent) (name : List ℕ) (u : Subtype) (v : Value) → form_at s t.type_number ≡ Some (Records cs)
      → has_shape (shape_of s t) v ≡ true
      → component_of cs name ≡ Some u → (fs : Fields) × (v ≡ Record fs) × (x : Value) × (field_of fs name ≡ Some x) × (has_shape (shape_of s u) x ≡ true)
  record_field t cs name u v form suited named =
      let shape = shape_by_form s t.type_number (Records cs) form in
      let grouped = of_type s t v (Grouped (component_shapes (before s t.type_number) cs)) shape.1 suited in
      let whole = record_value (component_shapes (before s t.type_number) cs) v grouped in
      let found = field_there (before s t.type_number) cs whole.0 name u whole.2 named in
      let earlier = earlier_component s sound t.type_number cs name u (sound_form s sound t.type_number (Records cs) form) named in
      (whole.0, whole.1, found.0, found.1, of_part s t.type_number u found.0 earlier.before found.2)
