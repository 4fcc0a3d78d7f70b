-- The words of types, as scopes keep them.
use Rattle.std.proofs.Common.{◌≡◌, ◌<◌, ℕ, zero, suc, ◌+◌, List, [], ◌∷◌, ◌++◌, length, map, take, slice_get, option_map, Option, Some, None, refl, sym, ap, ◌∙◌, arith, unwrap_or}
use Rattle.std.proofs.lemmas.List.{length-append, map-append, take-map, take_all}
use Rattle.std.proofs.lemmas.Option.{slice_get-map}
use Rattle.std.proofs.Math.Seq.{take-append_seam}
use Rattle.types.specs.declared.entity.Subtype.{Subtype}
use Rattle.types.specs.declared.scope.Declared.{Declared}
use Rattle.types.specs.Entities.{entity_value}
use Rattle.types.specs.Scopes.{Scope, Named, entry_value}
use Rattle.types.specs.Shapes.{Shape, Ranged, Logical, Timed, Repeated, Grouped, Shapeless, shapes, shapes_after, entity_shape, shape_or_none, narrowed, words}
use Rattle.types.specs.Laws.{ShapesStay}
use Rattle.types.specs.Layouts.{capped, words_of}
use Rattle.types.specs.Kept.{capped_words, entry_words, entity_words}

-- ---- shapes of more names and of fewer

shapes_push : (known : List Shape) (s : Scope) (n : Named) → shapes_after known (s ++ n ∷ []) ≡ shapes_after known s ++ entity_shape (shapes_after known s) n.entity ∷ []
shapes_push known [] n = refl
shapes_push known (x ∷ s) n = shapes_push (known ++ entity_shape known x.entity ∷ []) s n

shorter : {X : Type 0} (xs ys : List X) (x : X) → take (length (xs ++ x ∷ [])) ys ≡ xs ++ x ∷ [] → take (length xs) ys ≡ xs
shorter [] ys x h = refl
shorter (y ∷ xs) [] x h = cc
shorter (y ∷ xs) (z ∷ ys) x h = (λ j. head_or y (h j) ∷ shorter xs ys x (λ i. tail_of (h i)) j)
  where
    head_or : {X : Type 0} → X → List X → X
    head_or x [] = x
    head_or x (y ∷ ys) = y

    tail_of : {X : Type 0} → List X → List X
    tail_of [] = []
    tail_of (y ∷ ys) = ys

-- those that are known stand first
first_known : (known : List Shape) (s : Scope) → take (length known) (shapes_after known s) ≡ known
first_known known [] = take_all (length known) known (omega arith)
first_known known (n ∷ s) =
    let more = known ++ entity_shape known n.entity ∷ [] in shorter known (shapes_after more s) (entity_shape known n.entity) (first_known more s)

shapes_take : (known : List Shape) (s : Scope) (n : ℕ) → shapes_after known (take n s) ≡ take (length known + n) (shapes_after known s)
shapes_take known [] zero = sym (take_all (length known + zero) known (omega arith))
shapes_take known [] (suc n) = sym (take_all (length known + suc n) known (omega arith))
shapes_take known (x ∷ s) zero = let e : length known + zero ≡ length known = omega arith in sym (ap (λ m. take m (shapes_after known (x ∷ s))) e ∙ first_known known (x ∷ s))
shapes_take known (x ∷ s) (suc n) =
    let more = known ++ entity_shape known x.entity ∷ [] in
    let size = length-append known (entity_shape known x.entity ∷ []) in
    let e : length more + n ≡ length known + suc n = omega (arith, size) in
    shapes_take more s n ∙ ap (λ m. take m (shapes_after more s)) e

within_take : {X : Type 0} (xs : List X) (m n : ℕ) → n < m → slice_get (take m xs) n ≡ slice_get xs n
within_take [] zero n less = refl
within_take [] (suc m) n less = refl
within_take (x ∷ xs) zero n less = absurd (omega (arith, less))
within_take (x ∷ xs) (suc m) zero less = refl
within_take (x ∷ xs) (suc m) (suc n) less = within_take xs m n (omega (arith, less))

pub shapes_stay : ShapesStay
shapes_stay s more t less =
    let all = shapes (s ++ more) in
    let e : 0 + length s ≡ length s = omega arith in
    let kept : shapes s ≡ take (length s) all = ap shapes (sym (take-append_seam s more)) ∙ shapes_take [] (s ++ more) (length s) ∙ ap (λ m. take m all) e in
    ap (λ o. narrowed t (shape_or_none o)) (sym (within_take all (length s) t.type_number less) ∙ ap (λ l. slice_get l t.type_number) (sym kept))

-- ---- what scopes keep

-- each entry keeps the words of its type
abbrev pub AreKept : List (List ℕ × Declared) → Type 0
AreKept es = map entry_words es ≡ map capped_words (shapes (map entry_value es))

pub kept_push : (es : List (List ℕ × Declared)) (e : List ℕ × Declared) → AreKept es → e.1.words ≡ capped (entity_words (map entry_value es) (entity_value e.1.entity)) → AreKept (es ++ e ∷ [])
kept_push es e kept is =
    map-append entry_words es (e ∷ [])
    ∙ (λ j. kept j ++ is j ∷ [])
    ∙ sym (map-append capped_words (shapes (map entry_value es)) (entity_shape (shapes (map entry_value es)) (entity_value e.1.entity) ∷ []))
    ∙ ap (map capped_words) (sym (shapes_push [] (map entry_value es) (entry_value e)))
    ∙ ap (λ l. map capped_words (shapes l)) (sym (map-append entry_value es (e ∷ [])))

pub kept_take : (es : List (List ℕ × Declared)) (n : ℕ) → AreKept es → AreKept (take n es)
kept_take es n kept =
    let e : 0 + n ≡ n = omega arith in
    sym (take-map entry_words n es)
    ∙ ap (take n) kept
    ∙ take-map capped_words n (shapes (map entry_value es))
    ∙ ap (λ m. map capped_words (take m (shapes (map entry_value es)))) (sym e)
    ∙ ap (map capped_words) (sym (shapes_take [] (map entry_value es) n))
    ∙ ap (λ l. map capped_words (shapes l)) (take-map entry_value n es)

-- ---- reading

narrowed_words : (t : Subtype) (x : Shape) → words (narrowed t x) ≡ words x
narrowed_words t (Ranged first) = refl
narrowed_words t Logical = refl
narrowed_words t Timed = refl
narrowed_words t (Repeated length x) = refl
narrowed_words t (Grouped parts) = refl
narrowed_words t Shapeless = refl

read : (o : Option Shape) (w : ℕ) → Some w ≡ option_map capped_words o → w ≡ capped (words (shape_or_none o))
read (Some x) w h = ap (λ r. unwrap_or r w) h
read None w h = cc

read_none : (o : Option Shape) → None ≡ option_map capped_words o → 0 ≡ capped (words (shape_or_none o))
read_none (Some x) h = cc
read_none None h = refl

at_number : (es : List (List ℕ × Declared)) (n : ℕ) → AreKept es → option_map entry_words (slice_get es n) ≡ option_map capped_words (slice_get (shapes (map entry_value es)) n)
at_number es n kept = sym (slice_get-map entry_words es n) ∙ ap (λ l. slice_get l n) kept ∙ slice_get-map capped_words (shapes (map entry_value es)) n

pub kept_words : (es : List (List ℕ × Declared)) (t : Subtype) (e : List ℕ × Declared) → AreKept es → Some e ≡ slice_get es t.type_number → e.1.words ≡ capped (words_of (map entry_value es) t)
kept_words es t e kept at =
    let o = slice_get (shapes (map entry_value es)) t.type_number in
    read o (entry_words e) (ap (option_map entry_words) at ∙ at_number es t.type_number kept) ∙ ap capped (sym (narrowed_words t (shape_or_none o)))

pub no_words : (es : List (List ℕ × Declared)) (t : Subtype) → AreKept es → None ≡ slice_get es t.type_number → 0 ≡ capped (words_of (map entry_value es) t)
no_words es t kept at =
    let o = slice_get (shapes (map entry_value es)) t.type_number in
    read_none o (ap (option_map entry_words) at ∙ at_number es t.type_number kept) ∙ ap capped (sym (narrowed_words t (shape_or_none o)))
