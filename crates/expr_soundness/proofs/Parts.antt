-- The shapes of types by their forms, and those of what they are made of.
use Rattle.std.proofs.Common.{◌≡◌, ℕ, zero, suc, ◌+◌, ◌<◌, ◌++◌, length, take, List, [], ◌∷◌, Some, refl, sym, ap, ◌∙◌, subst, arith}
use Rattle.std.specs.Prelude.{slice_get}
use Rattle.std.proofs.lemmas.List.{length-append}
use Rattle.meaning.specs.types.specs.declared.entity.Subtype.{Subtype}
use Rattle.meaning.specs.types.specs.Entities.{TypeForm, OfType}
use Rattle.meaning.specs.types.specs.Scopes.{Scope, Named, entity_at, form_at, base_range_of}
use Rattle.meaning.specs.types.specs.Values.{Value, Number, Truth, Array, Record}
use Rattle.meaning.specs.types.specs.Shapes.{Shape, Ranged, Logical, Timed, Repeated, Grouped, Shapeless, entity_shape, form_shape, has_shape, narrowed, shape_among, shape_of, shape_or_none, shapes, shapes_after}
use Rattle.meaning.specs.expr_rules.specs.Laws.{type_shape}
use Rattle.meaning.specs.expr_rules.proofs.TypeShapes.{at_end, entity_named, kept_shape, type_entity}
use Rattle.expr_soundness.proofs.Positions.{item_kept, same_some}

-- the first value of a subtype tells nothing of which values are of its shape
pub narrowed_alike : (t u : Subtype) (x : Shape) (v : Value) → has_shape (narrowed t x) v ≡ has_shape (narrowed u x) v
narrowed_alike t u (Ranged first) (Number z) = refl
narrowed_alike t u (Ranged first) (Truth b) = refl
narrowed_alike t u (Ranged first) (Array vs) = refl
narrowed_alike t u (Ranged first) (Record fs) = refl
narrowed_alike t u Logical v = refl
narrowed_alike t u Timed v = refl
narrowed_alike t u (Repeated length x) v = refl
narrowed_alike t u (Grouped parts) v = refl
narrowed_alike t u Shapeless v = refl

-- the values of a subtype are those of its type, but for their range
pub subtype_values : (s : Scope) (t : Subtype) (v : Value) → has_shape (shape_of s t) v ≡ has_shape (type_shape s t.type_number) v
subtype_values s t v = narrowed_alike t (base_range_of t.type_number) (shape_or_none (slice_get (shapes s) t.type_number)) v

-- two scopes with the same shape of a type have the same of its subtypes' values
pub same_values : (s u : Scope) (t : Subtype) (v : Value) → type_shape s t.type_number ≡ type_shape u t.type_number
    → has_shape (shape_of s t) v ≡ has_shape (shape_of u t) v
same_values s u t v h = subtype_values s t v ∙ ap (λ x. has_shape x v) h ∙ sym (subtype_values u t v)

-- ---- what is before a number

longer_by : {X : Type 0} (xs : List X) (x : X) (n : ℕ) → length (xs ++ x ∷ []) + n ≡ length xs + suc n
longer_by xs x n = let size = length-append xs (x ∷ []) in let e : length (xs ++ x ∷ []) + n ≡ length xs + suc n = omega (arith, size) in e

-- the shape of the name with this number, by the shapes of those before it
pub shape_found : (known : List Shape) (s : Scope) (n : ℕ) (m : Named) → slice_get s n ≡ Some m
    → slice_get (shapes_after known s) (length known + n) ≡ Some (entity_shape (shapes_after known (take n s)) m.entity)
shape_found known [] n m h = cc
shape_found known (x ∷ rest) zero m h =
    let at : slice_get (known ++ entity_shape known x.entity ∷ []) (length known + 0) ≡ Some (entity_shape known x.entity) =
    subst (λ k. slice_get (known ++ entity_shape known x.entity ∷ []) k ≡ Some (entity_shape known x.entity)) (omega arith) (at_end known (entity_shape known x.entity)) in
    kept_shape (known ++ entity_shape known x.entity ∷ []) rest (length known + 0) (entity_shape known x.entity) at
    ∙ ap (λ y. Some (entity_shape known y.entity)) (same_some x m h)
shape_found known (x ∷ rest) (suc n) m h =
    let after = known ++ entity_shape known x.entity ∷ [] in
    subst (λ k. slice_get (shapes_after after rest) k ≡ Some (entity_shape (shapes_after after (take n rest)) m.entity)) (longer_by known (entity_shape known x.entity) n)
    (shape_found after rest n m h)

some_within : {X : Type 0} (xs : List X) (k : ℕ) → k < length xs → (x : X) × (slice_get xs k ≡ Some x)
some_within [] k less = absurd (omega (arith, less))
some_within (x ∷ xs) zero less = (x, refl)
some_within (x ∷ xs) (suc k) less = some_within xs k (omega (arith, less))

-- those before it are the same in the whole
before_same : (known : List Shape) (s : Scope) (n k : ℕ) → k < length known + n
    → slice_get (shapes_after known (take n s)) k ≡ slice_get (shapes_after known s) k
before_same known [] zero k less = refl
before_same known [] (suc n) k less = refl
before_same known (x ∷ rest) zero k less =
    let here = some_within known k (omega (arith, less)) in
    here.1 ∙ sym (kept_shape (known ++ entity_shape known x.entity ∷ []) rest k here.0 (item_kept known (entity_shape known x.entity ∷ []) k here.0 here.1))
before_same known (x ∷ rest) (suc n) k less =
    let after = known ++ entity_shape known x.entity ∷ [] in
    let size = longer_by known (entity_shape known x.entity) n in
    before_same after rest n k (omega (arith, less, size))

-- ---- the shape of a type, and of its parts

-- the shapes before the type with this number
abbrev pub before : Scope → ℕ → List Shape
before s n = shapes (take n s)

pub shape_by_form : (s : Scope) (n : ℕ) (form : TypeForm) → form_at s n ≡ Some form
    → (t : Subtype) × (type_shape s n ≡ narrowed (base_range_of n) (form_shape (before s n) t form))
shape_by_form s n form h =
    let one = type_entity (entity_at s n) form h in
    let item = entity_named (slice_get s n) (OfType form one.0) one.1 in
    let here : 0 + n ≡ n = omega arith in
    let found = shape_found [] s n item.0 item.1 in
    (one.0, ap (λ o. narrowed (base_range_of n) (shape_or_none o)) (sym (ap (slice_get (shapes s)) here) ∙ found ∙ ap (λ e. Some (entity_shape (before s n) e)) item.2))

pub part_shape : (s : Scope) (n : ℕ) (t : Subtype) → t.type_number < n → shape_among (before s n) t ≡ shape_of s t
part_shape s n t less = ap (λ o. narrowed t (shape_or_none o)) (before_same [] s n t.type_number (omega (arith, less)))
