-- The first words of objects that are placed one behind the other.
use Rattle.std.proofs.Common.{◌≡◌, ℕ, zero, suc, ◌+◌, List, [], ◌∷◌, ◌++◌, map, slice_get, option_map, Some, sym, ap, ◌∙◌, arith, unwrap_or}
use Rattle.std.proofs.lemmas.List.{map-append}
use Rattle.std.proofs.lemmas.Option.{slice_get-map}
use Rattle.types.specs.declared.layout.Placed.{Placed}
use Rattle.types.specs.Layouts.{total, first_word}
use Rattle.types.specs.Kept.{first_words, placed_first, placed_words}

at_first : (from : ℕ) (ws : List ℕ) (n f : ℕ) → slice_get (first_words from ws) n ≡ Some f → f ≡ from + first_word ws n
at_first from [] n f h = cc
at_first from (w ∷ ws) zero f h = let e : from ≡ f = ap (λ r. unwrap_or r from) h in omega (arith, e)
at_first from (w ∷ ws) (suc n) f h = let e = at_first (from + w) ws n f h in omega (arith, e)

pub placed_at : (os : List Placed) (n : ℕ) (p : Placed) → map placed_first os ≡ first_words 0 (map placed_words os) → slice_get os n ≡ Some p → p.first ≡ first_word (map placed_words os) n
placed_at os n p kept at =
    let e = at_first 0 (map placed_words os) n p.first (sym (ap (λ l. slice_get l n) kept) ∙ slice_get-map placed_first os n ∙ ap (option_map placed_first) at) in omega (arith, e)

pub total_more : (ws : List ℕ) (w : ℕ) → total (ws ++ w ∷ []) ≡ total ws + w
total_more [] w = omega arith
total_more (v ∷ ws) w = let e = total_more ws w in omega (arith, e)

firsts_more : (from : ℕ) (ws : List ℕ) (w : ℕ) → first_words from (ws ++ w ∷ []) ≡ first_words from ws ++ (from + total ws) ∷ []
firsts_more from [] w = let e : from ≡ from + total [] = omega arith in ap (λ n. n ∷ []) e
firsts_more from (v ∷ ws) w =
    let e : from + v + total ws ≡ from + total (v ∷ ws) = omega arith in ap (λ l. from ∷ l) (firsts_more (from + v) ws w ∙ ap (λ n. first_words (from + v) ws ++ n ∷ []) e)

pub placed_more : (os : List Placed) (p : Placed) → map placed_first os ≡ first_words 0 (map placed_words os) → p.first ≡ total (map placed_words os) → map placed_first (os ++ p ∷ []) ≡ first_words 0 (map placed_words (os ++ p ∷ []))
placed_more os p kept is =
    let ws = map placed_words os in
    let e : p.first ≡ 0 + total ws = omega (arith, is) in
    map-append placed_first os (p ∷ [])
    ∙ (λ j. kept j ++ e j ∷ [])
    ∙ sym (firsts_more 0 ws p.words)
    ∙ ap (first_words 0) (sym (map-append placed_words os (p ∷ [])))
