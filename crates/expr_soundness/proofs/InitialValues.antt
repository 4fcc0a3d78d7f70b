-- An object without initial value begins in its subtype: by the numbers of types, since the parts of a type are of earlier ones.
use Rattle.std.proofs.Common.{◌≡◌, ℕ, zero, suc, ◌<◌, List, [], ◌∷◌, true, Some, refl, sym, ap, ◌∙◌, arith}
use Rattle.std.specs.Prelude.{ℤ, ◌&&◌, int_le, slice_get}
use Rattle.std.proofs.lemmas.Slice.Eq.{bytes_eq-Decides}
use Rattle.meaning.specs.types.specs.declared.entity.Subtype.{Subtype}
use Rattle.meaning.specs.types.specs.declared.entity.RecordComponent.{RecordComponent}
use Rattle.meaning.specs.types.specs.Entities.{TypeForm, Integers, Booleans, Times, Spans, Arrays, Records}
use Rattle.meaning.specs.types.specs.Scopes.{Scope, base_range_of, form_at}
use Rattle.meaning.specs.types.specs.Shapes.{Shape, Ranged, Logical, Timed, Repeated, Grouped, Shapeless, component_shapes, form_shape, initial, initial_fields, initial_of, narrowed, repeated, shape_among, shape_of, shape_or_none, shapes}
use Rattle.meaning.specs.types.specs.Values.{Value, is_within}
use Rattle.expr_soundness.specs.SoundScopes.{AreEarlier, IsKnown, IsSoundForm, SoundScope}
use Rattle.expr_soundness.proofs.Goods.{not_empty, sound_form}
use Rattle.expr_soundness.proofs.Parts.{before, part_shape, shape_by_form}
use Rattle.expr_soundness.specs.InitialLaw.{AllBeginInside, BeginsInside, InitialValuesLie, PartsBeginInside, begins_inside}
use Rattle.expr_soundness.specs.Lying.{elements_lie, fields_lie, lies}

narrowed_twice : (t u : Subtype) (x : Shape) → narrowed t (narrowed u x) ≡ narrowed t x
narrowed_twice t u (Ranged first) = refl
narrowed_twice t u Logical = refl
narrowed_twice t u Timed = refl
narrowed_twice t u (Repeated n x) = refl
narrowed_twice t u (Grouped parts) = refl
narrowed_twice t u Shapeless = refl

-- the shape of a subtype by the form of its type
subtype_shape : (s : Scope) (t : Subtype) (form : TypeForm) → form_at s t.type_number ≡ Some form
    → (u : Subtype) × (shape_of s t ≡ narrowed t (form_shape (before s t.type_number) u form))
subtype_shape s t form h =
    let found = shape_by_form s t.type_number form h in
    let own = shape_or_none (slice_get (shapes s) t.type_number) in (
      found.0,
      sym (narrowed_twice t (base_range_of t.type_number) own) ∙ ap (narrowed t) found.1
          ∙ narrowed_twice t (base_range_of t.type_number) (form_shape (before s t.type_number) found.0 form),
    )

first_within : (first last : ℤ) → int_le first last ≡ true → is_within first last first ≡ true
first_within first last h = grind (arith, h)

repeated_lies : (s : Scope) (index : Subtype) (size : ℕ) (element : Subtype) (v : Value) → lies s element v ≡ true → (n : ℕ)
    → elements_lie s (Some (Arrays index size element)) (repeated n v) ≡ true
repeated_lies s index size element v h zero = refl
repeated_lies s index size element v h (suc n) =
    ap (λ b. b && elements_lie s (Some (Arrays index size element)) (repeated n v)) h ∙ repeated_lies s index size element v h n

module _ (s : Scope) (sound : SoundScope s) (begin : (number : ℕ) (form : TypeForm) → form_at s number ≡ Some form → PartsBeginInside s form) where
  -- the subtypes of earlier types have their initial values
  abbrev Earlier : ℕ → Type 0
  Earlier n = (t : Subtype) → t.type_number < n → IsKnown s t → BeginsInside s t → lies s t (initial s t) ≡ true

  part_lies : (n : ℕ) → Earlier n → (t : Subtype) → t.type_number < n → IsKnown s t → BeginsInside s t
      → lies s t (initial_of (shape_among (before s n) t)) ≡ true
  part_lies n earlier t less known inside = ap (λ x. lies s t (initial_of x)) (part_shape s n t less) ∙ earlier t less known inside

  fields_begin : (n : ℕ) → Earlier n → (cs : List RecordComponent) → AreEarlier s n cs → AllBeginInside s cs
      → fields_lie s cs (initial_fields (component_shapes (before s n) cs)) ≡ true
  fields_begin n earlier [] parts inside = refl
  fields_begin n earlier (c ∷ cs) parts inside =
      let rest = fields_lie s cs (initial_fields (component_shapes (before s n) cs)) in
      let one = lies s c.subtype (initial_of (shape_among (before s n) c.subtype)) in
      ap (λ b. b && (one && rest)) ((bytes_eq-Decides c.name c.name).1 refl)
      ∙ ap (λ b. b && rest) (part_lies n earlier c.subtype parts.0.before parts.0.known inside.0)
      ∙ fields_begin n earlier cs parts.1 inside.1

  by_form : (t u : Subtype) (form : TypeForm) → form_at s t.type_number ≡ Some form → Earlier t.type_number → IsSoundForm s t.type_number form
      → begins_inside (Some form) t ≡ true → PartsBeginInside s form
      → lies s t (initial_of (narrowed t (form_shape (before s t.type_number) u form))) ≡ true
  by_form t u Integers is earlier parts inside all = first_within t.first t.last inside
  by_form t u Booleans is earlier parts inside all = refl
  by_form t u Times is earlier parts inside all = inside
  by_form t u Spans is earlier parts inside all = inside
  by_form t u (Arrays index size element) is earlier parts inside all =
      let v = initial_of (shape_among (before s t.type_number) element) in
      ap (λ o. elements_lie s o (repeated size v)) is
      ∙ repeated_lies s index size element v (part_lies t.type_number earlier element parts.earlier.before parts.earlier.known all) size
  by_form t u (Records cs) is earlier parts inside all =
      ap (λ o. fields_lie s (Rattle.expr_soundness.specs.Lying.components_of o) (initial_fields (component_shapes (before s t.type_number) cs))) is
      ∙ fields_begin t.type_number earlier cs parts all

  below : (n : ℕ) → Earlier n
  below zero t less known inside = absurd (omega (arith, less))
  below (suc n) t less known inside =
      let form = not_empty (form_at s t.type_number) known in
      let shape = subtype_shape s t form.0 form.1 in
      ap (λ x. lies s t (initial_of x)) shape.1
      ∙ by_form t shape.0 form.0 form.1 (λ u earlier. below n u (let k : u.type_number < n = omega (arith, less, earlier) in k))
      (sound_form s sound t.type_number form.0 form.1) (ap (λ o. begins_inside o t) (sym form.1) ∙ inside) (begin t.type_number form.0 form.1)

pub initial_values_lie : InitialValuesLie
initial_values_lie s sound begin t known inside = below s sound begin (suc t.type_number) t
    (let k : t.type_number < suc t.type_number = omega arith in k) known inside
