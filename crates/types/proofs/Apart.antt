-- Objects lie apart, and components have their places.
use Rattle.std.proofs.Common.{◌≡◌, ℕ, zero, suc, ◌+◌, ◌*◌, ◌<◌, ◌≤◌, List, [], ◌∷◌, ◌++◌, length, take, drop, slice_get, Bool, true, false, ◌&&◌, Option, Some, None, refl, sym, ap, ◌∙◌, arith, unwrap_or, if◌then◌else◌}
use Rattle.std.specs.Prelude.{ℤ, bytes_eq}
use Rattle.std.proofs.Math.Nat.{suc-mul}
use Rattle.std.proofs.Math.Seq.{drop-append-add, take-append_seam}
use Rattle.types.specs.Values.{Value, Values, NoValues, MoreValues, Fields, MoreFields, element_at, field_of}
use Rattle.types.specs.Shapes.{Shape, Shapes, MoreShapes, all_values, has_shape, have_shapes, value_words, values_words, fields_words, words}
use Rattle.types.specs.Layouts.{total, first_word, further, element_offset, field_offset}
use Rattle.types.specs.Laws.{ObjectsLieApart, PartsHavePlaces}
use Rattle.types.proofs.Words.{both_left, both_right, sized, taken, same_name}

-- ---- objects

some_is : {A : Type 0} {u v : A} → Some u ≡ Some v → u ≡ v
some_is {A} {u} {v} e = ap (λ r. unwrap_or r u) e

within : (ws : List ℕ) (m w : ℕ) → slice_get ws m ≡ Some w → first_word ws m + w ≤ total ws
within [] m w at = cc
within (u ∷ ws) zero w at = let e = some_is at in omega (arith, e)
within (u ∷ ws) (suc m) w at = let rest = within ws m w at in omega (arith, rest)

before : (ws : List ℕ) (m w : ℕ) → slice_get ws m ≡ Some w → (n : ℕ) → m < n → first_word ws m + w ≤ first_word ws n
before [] m w at n less = cc
before (u ∷ ws) m w at zero less = absurd (omega (arith, less))
before (u ∷ ws) zero w at (suc n) less = let e = some_is at in omega (arith, e)
before (u ∷ ws) (suc m) w at (suc n) less =
    let below : m < n = omega (arith, less) in
    let rest = before ws m w at n below in omega (arith, rest)

pub objects_lie_apart : ObjectsLieApart
objects_lie_apart ws m w at = record { before = before ws m w at; within = within ws m w at }

-- ---- components

elements_at :
    (x : Shape) (vs : Values) (n : ℕ) (v : Value)
    → all_values (has_shape x) vs ≡ true
    → element_at vs n ≡ Some v
    → take (words x) (drop (element_offset x n) (values_words vs)) ≡ value_words v
elements_at x NoValues n v h at = cc
elements_at x (MoreValues u rest) zero v h at =
    let none : 0 * words x ≡ 0 = omega arith in
    ap (λ m. take (words x) (drop m (values_words (MoreValues u rest)))) none
    ∙ taken (words x) (value_words u) (values_words rest) (sized x u (both_left (has_shape x u) (all_values (has_shape x) rest) h))
    ∙ ap value_words (some_is at)
elements_at x (MoreValues u rest) (suc n) v h at =
    let size = sized x u (both_left (has_shape x u) (all_values (has_shape x) rest) h) in
    let e : n * words x + words x ≡ words x + n * words x = omega arith in
    let place : suc n * words x ≡ length (value_words u) + n * words x = suc-mul n (words x) ∙ e ∙ ap (λ m. m + n * words x) (sym size) in
    ap (λ m. take (words x) (drop m (value_words u ++ values_words rest))) place
    ∙ ap (take (words x)) (drop-append-add (value_words u) (values_words rest) (n * words x))
    ∙ elements_at x rest n v (both_right (has_shape x u) (all_values (has_shape x) rest) h) at

-- the component is the first one, or one of the others
place_by :
    (test : Bool) (u v : Value) (rest : List ℤ) (w : ℕ) (found : Option Value) (offset : Option ℕ) (place : ℕ)
    → length (value_words u) ≡ w
    → (if test then Some u else found) ≡ Some v
    → (if test then Some 0 else further w offset) ≡ Some place
    → ((at : ℕ) → found ≡ Some v → offset ≡ Some at → take (length (value_words v)) (drop at rest) ≡ value_words v)
    → take (length (value_words v)) (drop place (value_words u ++ rest)) ≡ value_words v
place_by true u v rest w found offset place size f o later =
    let same : u ≡ v = some_is f in
    ap (λ m. take (length (value_words v)) (drop m (value_words u ++ rest))) (sym (some_is o))
    ∙ ap (λ x. take (length (value_words v)) (value_words x ++ rest)) same
    ∙ take-append_seam (value_words v) rest
place_by false u v rest w found None place size f o later = cc
place_by false u v rest w found (Some at) place size f o later =
    let behind : place ≡ length (value_words u) + at = sym (some_is o) ∙ ap (λ m. m + at) (sym size) in
    ap (λ m. take (length (value_words v)) (drop m (value_words u ++ rest))) behind
    ∙ ap (take (length (value_words v))) (drop-append-add (value_words u) rest at)
    ∙ later at f refl

fields_at :
    (parts : Shapes) (fs : Fields) (name : List ℕ) (v : Value) (place : ℕ)
    → have_shapes parts fs ≡ true
    → field_of fs name ≡ Some v
    → field_offset parts name ≡ Some place
    → take (length (value_words v)) (drop place (fields_words fs)) ≡ value_words v
fields_at (MoreShapes own x parts) (MoreFields also u fs) name v place h f o =
    let rest = both_right (bytes_eq also own) (has_shape x u && have_shapes parts fs) h in
    let same = same_name also own (both_left (bytes_eq also own) (has_shape x u && have_shapes parts fs) h) in
    place_by
    (bytes_eq own name)
    u
    v
    (fields_words fs)
    (words x)
    (field_of fs name)
    (field_offset parts name)
    place
    (sized x u (both_left (has_shape x u) (have_shapes parts fs) rest))
    (ap (λ n. if bytes_eq n name then Some u else field_of fs name) (sym same) ∙ f)
    o
    (λ at g p. fields_at parts fs name v at (both_right (has_shape x u) (have_shapes parts fs) rest) g p)
fields_at parts fs name v place h f o = cc

pub parts_have_places : PartsHavePlaces
parts_have_places = record { elements = elements_at; fields = fields_at }
