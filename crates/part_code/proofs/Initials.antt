-- The words of objects without initial value: that of a number or a truth value, and those of arrays and records, part by part.
use Rattle.std.proofs.Common.{◌≡◌, ℕ, zero, suc, ◌+◌, ◌<◌, ◌++◌, ℤ, List, [], ◌∷◌, append_assoc, length, Option, Some, None, refl, sym, ap, ◌∙◌, subst, arith}
use Rattle.std.specs.Prelude.{get_or, pos, slice_get}
use Rattle.std.proofs.lemmas.List.{append-nil}
use Rattle.types.specs.declared.entity.RecordComponent.{RecordComponent}
use Rattle.types.specs.declared.entity.Subtype.{Subtype}
use Rattle.types.specs.Entities.{Arrays, Booleans, Integers, Records, Spans, Times, TypeForm}
use Rattle.types.specs.Layouts.{words_of}
use Rattle.types.specs.Places.{Place}
use Rattle.types.specs.Scopes.{Scope, base_range_of, form_at}
use Rattle.types.specs.Shapes.{Grouped, Logical, Ranged, Repeated, Shape, Shapeless, Timed, component_shapes, fields_words, initial, initial_fields, initial_of, narrowed, repeated, shape_among, shape_of, shape_or_none, shapes, value_words, values_words, words}
use Rattle.types.specs.Values.{Value}
use Rattle.expr_soundness.specs.Agreeing.{Agrees}
use Rattle.expr_soundness.specs.expr_rules.proofs.TypeShapes.{shape_by_form}
use Rattle.expr_soundness.specs.SoundScopes.{AreEarlier, IsEarlier, IsKnown, SoundScope}
use Rattle.expr_soundness.proofs.Goods.{not_empty, sound_form}
use Rattle.part_code.specs.Emitting.{first_word}

-- ---- the word of an object without initial value

ranged_too : (b t : Subtype) (x : Shape) (first : ℤ) → narrowed b x ≡ Ranged first → narrowed t x ≡ Ranged t.first
ranged_too b t (Ranged z) first e = refl
ranged_too b t Logical first e = cc
ranged_too b t Timed first e = cc
ranged_too b t (Repeated n x) first e = cc
ranged_too b t (Grouped xs) first e = cc
ranged_too b t Shapeless first e = cc

logical_too : (b t : Subtype) (x : Shape) → narrowed b x ≡ Logical → narrowed t x ≡ Logical
logical_too b t (Ranged z) e = cc
logical_too b t Logical e = refl
logical_too b t Timed e = cc
logical_too b t (Repeated n x) e = cc
logical_too b t (Grouped xs) e = cc
logical_too b t Shapeless e = cc

timed_too : (b t : Subtype) (x : Shape) → narrowed b x ≡ Timed → narrowed t x ≡ Timed
timed_too b t (Ranged z) e = cc
timed_too b t Logical e = cc
timed_too b t Timed e = refl
timed_too b t (Repeated n x) e = cc
timed_too b t (Grouped xs) e = cc
timed_too b t Shapeless e = cc

-- the word is that of the initial value, and all of it
pub record IsWord (s : Scope) (t : Subtype) (word : ℤ) : Type 0 where
  pub words : value_words (initial s t) ≡ word ∷ []
  pub single : words_of s t ≡ 1

some_word : (a b : ℤ) → Some a ≡ Some b → a ≡ b
some_word a b h = cc

timed_word : (s : Scope) (t : Subtype) (word : ℤ)
    → narrowed (base_range_of t.type_number) (shape_or_none (slice_get (shapes s) t.type_number)) ≡ Timed → Some (pos 0) ≡ Some word → IsWord s t word
timed_word s t word is first =
    let shape : shape_of s t ≡ Timed =
    timed_too (base_range_of t.type_number) t (shape_or_none (slice_get (shapes s) t.type_number)) is in
    record { words = ap (λ x. value_words (initial_of x)) shape ∙ ap (λ z. z ∷ []) (some_word (pos 0) word first); single = ap words shape }

word_by_form : (s : Scope) (t : Subtype) (word : ℤ) (form : TypeForm) → form_at s t.type_number ≡ Some form → first_word (Some form) t ≡ Some word
    → IsWord s t word
word_by_form s t word Integers is first =
    let found = shape_by_form s t.type_number Integers is in
    let shape : shape_of s t ≡ Ranged t.first =
    ranged_too (base_range_of t.type_number) t (shape_or_none (slice_get (shapes s) t.type_number)) (base_range_of t.type_number).first found.2 in
    record { words = ap (λ x. value_words (initial_of x)) shape ∙ ap (λ z. z ∷ []) (some_word t.first word first); single = ap words shape }
word_by_form s t word Booleans is first =
    let found = shape_by_form s t.type_number Booleans is in
    let shape : shape_of s t ≡ Logical =
    logical_too (base_range_of t.type_number) t (shape_or_none (slice_get (shapes s) t.type_number)) found.2 in
    record { words = ap (λ x. value_words (initial_of x)) shape ∙ ap (λ z. z ∷ []) (some_word (pos 0) word first); single = ap words shape }
word_by_form s t word Times is first = timed_word s t word (shape_by_form s t.type_number Times is).2 first
word_by_form s t word Spans is first = timed_word s t word (shape_by_form s t.type_number Spans is).2 first
word_by_form s t word (Arrays index many element) is first = cc
word_by_form s t word (Records components) is first = cc

pub form_there : (o : Option TypeForm) (t : Subtype) (word : ℤ) → first_word o t ≡ Some word → (form : TypeForm) × (o ≡ Some form)
form_there (Some form) t word h = (form, refl)
form_there None t word h = cc

pub initial_word : (s : Scope) (t : Subtype) (word : ℤ) → first_word (form_at s t.type_number) t ≡ Some word → IsWord s t word
initial_word s t word h =
    let f = form_there (form_at s t.type_number) t word h in
    word_by_form s t word f.0 f.1 (ap (λ o. first_word o t) (sym f.1) ∙ h)

-- ---- the words of composites

pub repeated_more : (n : ℕ) (x : Value) → values_words (repeated (suc n) x) ≡ values_words (repeated n x) ++ value_words x
repeated_more zero x = append-nil (value_words x)
repeated_more (suc n) x =
    ap (λ l. value_words x ++ l) (repeated_more n x) ∙ sym (append_assoc (value_words x) (values_words (repeated n x)) (value_words x))

pub fields_more : (known : List Shape) (cs : List RecordComponent) (c : RecordComponent)
    → fields_words (initial_fields (component_shapes known (cs ++ c ∷ [])))
    ≡ fields_words (initial_fields (component_shapes known cs)) ++ value_words (initial_of (shape_among known c.subtype))
fields_more known [] c = append-nil (value_words (initial_of (shape_among known c.subtype)))
fields_more known (x ∷ cs) c =
    ap (λ l. value_words (initial_of (shape_among known x.subtype)) ++ l) (fields_more known cs c)
    ∙ sym (append_assoc (value_words (initial_of (shape_among known x.subtype))) (fields_words (initial_fields (component_shapes known cs)))
    (value_words (initial_of (shape_among known c.subtype))))

-- ---- the same shape at a place

same_narrowed : (b t : Subtype) (x y : Shape) → narrowed b x ≡ narrowed b y → narrowed t x ≡ narrowed t y
same_narrowed b t (Ranged f) (Ranged g) e = refl
same_narrowed b t (Ranged f) y e = cc
same_narrowed b t x (Ranged g) e = cc
same_narrowed b t x y e = e

pub shape_there : (s : Scope) (p : Place) → Agrees s p → (t : Subtype) → IsKnown s t → shape_of p.scope t ≡ shape_of s t
shape_there s p agrees t known =
    let form = not_empty (form_at s t.type_number) known in
    same_narrowed (base_range_of t.type_number) t (shape_or_none (slice_get (shapes p.scope) t.type_number))
    (shape_or_none (slice_get (shapes s) t.type_number))
    (agrees.shapes t.type_number form.0 form.1)

-- ---- composites, part by part

-- parts are of earlier types
pub earlier_element : (s : Scope) → SoundScope s → (t index : Subtype) (many : ℕ) (element : Subtype)
    → form_at s t.type_number ≡ Some (Arrays index many element) → element.type_number < t.type_number
earlier_element s sound t index many element form = (sound_form s sound t.type_number (Arrays index many element) form).earlier.before

pub known_element : (s : Scope) → SoundScope s → (t index : Subtype) (many : ℕ) (element : Subtype)
    → form_at s t.type_number ≡ Some (Arrays index many element) → IsKnown s element
known_element s sound t index many element form = (sound_form s sound t.type_number (Arrays index many element) form).earlier.known

among_components : (s : Scope) (n : ℕ) (all : List RecordComponent) (m : ℕ) (x : RecordComponent) → AreEarlier s n all → m < length all → x ≡ get_or all m x
    → IsEarlier s n x.subtype
among_components s n [] m x h less is = absurd (omega (arith, less))
among_components s n (y ∷ all) zero x h less is = subst (λ z. IsEarlier s n z.subtype) (sym is) h.0
among_components s n (y ∷ all) (suc m) x h less is = among_components s n all m x h.1 (omega (arith, less)) is

pub earlier_component : (s : Scope) → SoundScope s → (t : Subtype) (cs : List RecordComponent) (n : ℕ) (x : RecordComponent)
    → form_at s t.type_number ≡ Some (Records cs) → n < length cs → x ≡ get_or cs n x → x.subtype.type_number < t.type_number
earlier_component s sound t cs n x form less is =
    (among_components s t.type_number cs n x (sound_form s sound t.type_number (Records cs) form) less is).before

pub known_component : (s : Scope) → SoundScope s → (t : Subtype) (cs : List RecordComponent) (n : ℕ) (x : RecordComponent)
    → form_at s t.type_number ≡ Some (Records cs) → n < length cs → x ≡ get_or cs n x → IsKnown s x.subtype
known_component s sound t cs n x form less is =
    (among_components s t.type_number cs n x (sound_form s sound t.type_number (Records cs) form) less is).known
