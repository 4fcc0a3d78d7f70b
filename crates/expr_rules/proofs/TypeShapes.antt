-- Numbers and truth values by their types.
use Rattle.std.proofs.Common.{◌≡◌, ◌++◌, ℕ, zero, suc, ◌+◌, length, List, [], ◌∷◌, Bool, true, false, ◌||◌, Option, Some, None, refl, sym, ap, ◌∙◌, subst, arith}
use Rattle.std.specs.Prelude.{slice_get}
use Rattle.types.specs.declared.entity.Subtype.{Subtype}
use Rattle.types.specs.Entities.{TypeForm, Integers, Booleans, Times, Spans, Arrays, Records, Entity, OfType}
use Rattle.types.specs.Entities as entity
use Rattle.types.specs.Scopes.{Scope, Named, entity_of, entity_at, form_of, form_at, base_range_of}
use Rattle.types.specs.Values.{Value, Number, Truth, Array, Record}
use Rattle.types.specs.Shapes.{Shape, Ranged, Logical, Timed, has_shape, entity_shape, form_shape, narrowed, shape_or_none, shapes, shapes_after}
use Rattle.expr_rules.specs.declared.own.Own.{Own}
use Rattle.expr_rules.specs.declared.own.Own.TheVariants.{Unknown, Universal, Typed}
use Rattle.expr_rules.specs.Typing.{is_integers, is_booleans, is_times, is_spans, is_integral, is_boolean, is_time, is_span}
use Rattle.expr_rules.specs.Laws.{is_value_of, type_shape}

-- ---- the shape of a type is that of its form

kept_front : {X : Type 0} (xs ys : List X) (n : ℕ) (x : X) → slice_get xs n ≡ Some x → slice_get (xs ++ ys) n ≡ Some x
kept_front [] ys n x h = cc
kept_front (y ∷ xs) ys zero x h = h
kept_front (y ∷ xs) ys (suc n) x h = kept_front xs ys n x h

pub at_end : {X : Type 0} (xs : List X) (x : X) → slice_get (xs ++ x ∷ []) (length xs) ≡ Some x
at_end [] x = refl
at_end (y ∷ xs) x = at_end xs x

pub kept_shape : (known : List Shape) (s : Scope) (n : ℕ) (x : Shape) → slice_get known n ≡ Some x → slice_get (shapes_after known s) n ≡ Some x
kept_shape known [] n x h = h
kept_shape known (m ∷ rest) n x h = kept_shape (known ++ entity_shape known m.entity ∷ []) rest n x (kept_front known (entity_shape known m.entity ∷ []) n x h)

longer : {X : Type 0} (xs : List X) (x : X) → length (xs ++ x ∷ []) ≡ suc (length xs)
longer [] x = refl
longer (y ∷ xs) x = ap suc (longer xs x)

length_more : {X : Type 0} (xs : List X) (x : X) (n : ℕ) → length (xs ++ x ∷ []) + n ≡ length xs + suc n
length_more xs x n = ap (λ k. k + n) (longer xs x) ∙ (let e : suc (length xs) + n ≡ length xs + suc n = omega arith in e)

shape_at : (known : List Shape) (s : Scope) (n : ℕ) (m : Named) → slice_get s n ≡ Some m → (before : List Shape) × (slice_get (shapes_after known s) (length known + n) ≡ Some (entity_shape before m.entity))
shape_at known [] n m h = cc
shape_at known (x ∷ rest) zero m h =
    let e : x ≡ m = some_is x m h in
    let at : slice_get (known ++ entity_shape known x.entity ∷ []) (length known + 0) ≡ Some (entity_shape known x.entity) =
    subst (λ k. slice_get (known ++ entity_shape known x.entity ∷ []) k ≡ Some (entity_shape known x.entity)) (omega arith) (at_end known (entity_shape known x.entity)) in
    (known, kept_shape (known ++ entity_shape known x.entity ∷ []) rest (length known + 0) (entity_shape known x.entity) at ∙ ap (λ y. Some (entity_shape known y.entity)) e)
  where
    some_is : (a b : Named) → Some a ≡ Some b → a ≡ b
    some_is a b e = let f : Option Named → Named = λ o. elim o [ Some y ↦ y | None ↦ a ] in ap f e
shape_at known (x ∷ rest) (suc n) m h =
    let after = known ++ entity_shape known x.entity ∷ [] in
    let found = shape_at after rest n m h in
    (found.0, subst (λ k. slice_get (shapes_after after rest) k ≡ Some (entity_shape found.0 m.entity)) (length_more known (entity_shape known x.entity) n) found.1)

-- what stands for a type with a form
pub type_entity : (o : Option Entity) (form : TypeForm) → form_of o ≡ Some form → (t : Subtype) × (o ≡ Some (OfType form t))
type_entity (Some (OfType f t)) form h = let g : Option TypeForm → TypeForm = λ o. elim o [ Some y ↦ y | None ↦ f ] in (t, ap (λ y. Some (OfType y t)) (ap g h))
type_entity (Some (entity.OfSubtype t)) form h = cc
type_entity (Some (entity.Object r t)) form h = cc
type_entity (Some (entity.Constant t v)) form h = cc
type_entity (Some (entity.Literal b)) form h = cc
type_entity (Some entity.Exception) form h = cc
type_entity (Some (entity.Subprogram p)) form h = cc
type_entity (Some (entity.Entry p)) form h = cc
type_entity (Some (entity.Predefined o p)) form h = cc
type_entity (Some entity.Put) form h = cc
type_entity (Some (entity.Task n)) form h = cc
type_entity (Some (entity.Protected p)) form h = cc
type_entity (Some entity.LibraryUnit) form h = cc
type_entity (Some entity.Doubtful) form h = cc
type_entity None form h = cc

pub entity_named : (o : Option Named) (e : Entity) → entity_of o ≡ Some e → (m : Named) × (o ≡ Some m) × (m.entity ≡ e)
entity_named (Some m) e h = let g : Option Entity → Entity = λ o. elim o [ Some y ↦ y | None ↦ e ] in (m, refl, ap g h)
entity_named None e h = cc

pub shape_by_form : (s : Scope) (n : ℕ) (form : TypeForm) → form_at s n ≡ Some form → (before : List Shape) × (t : Subtype) × (type_shape s n ≡ narrowed (base_range_of n) (form_shape before t form))
shape_by_form s n form h =
    let one = type_entity (entity_at s n) form h in
    let named = entity_named (slice_get s n) (OfType form one.0) one.1 in
    let found = shape_at [] s n named.0 named.1 in
    let here : 0 + n ≡ n = omega arith in
    (found.0, one.0, ap (λ o. narrowed (base_range_of n) (shape_or_none o)) (sym (ap (slice_get (shapes s)) here) ∙ found.1 ∙ ap (λ e. Some (entity_shape found.0 e)) named.2))

-- ---- numbers and truth values

abbrev pub is_number : Value → Bool
is_number (Number z) = true
is_number v = false

abbrev pub is_truth : Value → Bool
is_truth (Truth b) = true
is_truth v = false

ranged_number : (first : _) (v : Value) → has_shape (Ranged first) v ≡ is_number v
ranged_number first (Number z) = refl
ranged_number first (Truth b) = refl
ranged_number first (Array vs) = refl
ranged_number first (Record fs) = refl

timed_number : (v : Value) → has_shape Timed v ≡ is_number v
timed_number (Number z) = refl
timed_number (Truth b) = refl
timed_number (Array vs) = refl
timed_number (Record fs) = refl

logical_truth : (v : Value) → has_shape Logical v ≡ is_truth v
logical_truth (Number z) = refl
logical_truth (Truth b) = refl
logical_truth (Array vs) = refl
logical_truth (Record fs) = refl

-- integer types and those of time, whose values are numbers
abbrev pub has_numbers : Option TypeForm → Bool
has_numbers form = is_integers form || (is_times form || is_spans form)

abbrev pub is_numeric : Scope → Own → Bool
is_numeric s own = is_integral s own || (is_time s own || is_span s own)

number_shape : (s : Scope) (n : ℕ) → has_numbers (form_at s n) ≡ true → (v : Value) → has_shape (type_shape s n) v ≡ is_number v
number_shape s n h v = by_form (form_at s n) refl h
  where
    by_form : (o : Option TypeForm) → form_at s n ≡ o → has_numbers o ≡ true → has_shape (type_shape s n) v ≡ is_number v
    by_form (Some Integers) e k = let x = shape_by_form s n Integers e in ap (λ y. has_shape y v) x.2 ∙ ranged_number (base_range_of n).first v
    by_form (Some Times) e k = let x = shape_by_form s n Times e in ap (λ y. has_shape y v) x.2 ∙ timed_number v
    by_form (Some Spans) e k = let x = shape_by_form s n Spans e in ap (λ y. has_shape y v) x.2 ∙ timed_number v
    by_form (Some Booleans) e k = cc
    by_form (Some (Arrays i l t)) e k = cc
    by_form (Some (Records cs)) e k = cc
    by_form None e k = cc

truth_shape : (s : Scope) (n : ℕ) → is_booleans (form_at s n) ≡ true → (v : Value) → has_shape (type_shape s n) v ≡ is_truth v
truth_shape s n h v = by_form (form_at s n) refl h
  where
    by_form : (o : Option TypeForm) → form_at s n ≡ o → is_booleans o ≡ true → has_shape (type_shape s n) v ≡ is_truth v
    by_form (Some Booleans) e k = let x = shape_by_form s n Booleans e in ap (λ y. has_shape y v) x.2 ∙ logical_truth v
    by_form (Some Integers) e k = cc
    by_form (Some Times) e k = cc
    by_form (Some Spans) e k = cc
    by_form (Some (Arrays i l t)) e k = cc
    by_form (Some (Records cs)) e k = cc
    by_form None e k = cc

pub numeric_value : (s : Scope) (a : Own) → is_numeric s a ≡ true → (v : Value) → is_value_of s a v ≡ is_number v
numeric_value s Unknown h v = cc
numeric_value s Universal h (Number z) = refl
numeric_value s Universal h (Truth b) = refl
numeric_value s Universal h (Array vs) = refl
numeric_value s Universal h (Record fs) = refl
numeric_value s (Typed n) h v = number_shape s n h v

pub boolean_value : (s : Scope) (a : Own) → is_boolean s a ≡ true → (v : Value) → is_value_of s a v ≡ is_truth v
boolean_value s Unknown h v = cc
boolean_value s Universal h v = cc
boolean_value s (Typed n) h v = truth_shape s n h v
