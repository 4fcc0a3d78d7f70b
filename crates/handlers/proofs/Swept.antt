-- Rows in the order of their starts that a sweep lets through are nested in pairs, and so are they in any order.
use Rattle.std.proofs.Common.{◌≡◌, ℕ, zero, suc, ◌+◌, ◌-◌, ◌<◌, ◌≤◌, List, [], ◌∷◌, ◌++◌, length, take, reverse, Bool, true, false, cond, ◌&&◌, ◌||◌, Option, Some, None, nat_le, slice_get, slice_index_or, All, arith, ⊎_elim, ◌⊎◌, inl, inr, refl, sym, ap, ◌∙◌}
use Rattle.std.specs.List.{list_all, prefix_len}
use Rattle.std.specs.List.Sorted.{IsNonDecreasingBy, IsPermutation}
use Rattle.std.proofs.Math.Seq.{take-length}
use Rattle.std.proofs.lemmas.Bool.{true≢false, le-leb, leb-true}
use Rattle.std.proofs.lemmas.List.{length-reverse, reverse-append, reverse-reverse}
use Rattle.std.proofs.lemmas.List.Sorted.{All-permutation, IsPermutation-sym}
use Rattle.handlers.specs.declared.rows.Row.{Row}
use Rattle.handlers.specs.Nesting.{all_nested, are_nested}
use Rattle.handlers.specs.Sweeping.{closed, holds, reaches, sweeps}
use Rattle.handlers.proofs.Crossing.{nested_either_way}
use Rattle.handlers.proofs.Regions.{and-left, and-right, passes}

-- The same sweep with the innermost region first

abbrev dropped : ℕ → List ℕ → List ℕ
dropped p [] = []
dropped p (e ∷ s) = cond (nat_le e p) (dropped p s) (e ∷ s)

abbrev first_of : List ℕ → Option ℕ
first_of [] = None
first_of (e ∷ s) = Some e

abbrev swept : List ℕ → List Row → Bool
swept s [] = true
swept s (r ∷ rows) = reaches (first_of (dropped r.start s)) r.end_ && swept (r.end_ ∷ dropped r.start s) rows

reverse-cons : (e : ℕ) (s : List ℕ) → reverse (e ∷ s) ≡ reverse s ++ e ∷ []
reverse-cons e s = reverse-append (e ∷ []) s

take_front : (n : ℕ) (xs ys : List ℕ) → n ≤ length xs → take n (xs ++ ys) ≡ take n xs
take_front zero xs ys le = refl
take_front (suc n) [] ys le = absurd (omega (arith, le))
take_front (suc n) (x ∷ xs) ys le = ap (λ zs. x ∷ zs) (take_front n xs ys (omega (arith, le)))

module _ (p : ℕ) where
  abbrev ended_len : List ℕ → ℕ
  ended_len s = prefix_len (λ e. nat_le e p) s

  closed_step : (e : ℕ) (s : List ℕ) (b : Bool) → take (length s - ended_len s) (reverse s) ≡ reverse (dropped p s) → take (length (e ∷ s) - cond b (1 + ended_len s) 0) (reverse (e ∷ s)) ≡ reverse (cond b (dropped p s) (e ∷ s))
  closed_step e s true so =
      let long = length-reverse s in
      let count : length (e ∷ s) - (1 + ended_len s) ≡ length s - ended_len s = omega arith in
      ap (λ n. take n (reverse (e ∷ s))) count ∙ (ap (take (length s - ended_len s)) (reverse-cons e s) ∙ (take_front (length s - ended_len s) (reverse s) (e ∷ []) (omega (arith, long)) ∙ so))
  closed_step e s false so =
      let count : length (e ∷ s) - 0 ≡ length (reverse (e ∷ s)) = omega (arith, length-reverse (e ∷ s)) in
      ap (λ n. take n (reverse (e ∷ s))) count ∙ take-length (reverse (e ∷ s))

  closed_top : (s : List ℕ) → take (length s - ended_len s) (reverse s) ≡ reverse (dropped p s)
  closed_top [] = refl
  closed_top (e ∷ s) = closed_step e s (nat_le e p) (closed_top s)

  closed_is : (s : List ℕ) → closed p (reverse s) ≡ reverse (dropped p s)
  closed_is s = (λ j. take (length-reverse s j - ended_len (reverse-reverse s j)) (reverse s)) ∙ closed_top s

last_at : (xs : List ℕ) (e : ℕ) → slice_get (xs ++ e ∷ []) (length (xs ++ e ∷ []) - 1) ≡ Some e
last_at [] e = refl
last_at (x ∷ []) e = refl
last_at (x ∷ y ∷ xs) e =
    let count : length (x ∷ ((y ∷ xs) ++ e ∷ [])) - 1 ≡ suc (length ((y ∷ xs) ++ e ∷ []) - 1) = omega arith in
    ap (slice_get (x ∷ ((y ∷ xs) ++ e ∷ []))) count ∙ last_at (y ∷ xs) e

last_is : (s : List ℕ) → slice_get (reverse s) (length (reverse s) - 1) ≡ first_of s
last_is [] = refl
last_is (e ∷ s) = (λ j. slice_get (reverse-cons e s j) (length (reverse-cons e s j) - 1)) ∙ last_at (reverse s) e

sweeps_is : (s : List ℕ) (rows : List Row) → sweeps (reverse s) rows ≡ swept s rows
sweeps_is s [] = refl
sweeps_is s (r ∷ rows) =
    let t = dropped r.start s in
    let e = closed_is r.start s in
    let front : holds (closed r.start (reverse s)) r.end_ ≡ reaches (first_of t) r.end_ = ap (λ a. holds a r.end_) e ∙ ap (λ o. reaches o r.end_) (last_is t) in
    let rest : sweeps (closed r.start (reverse s) ++ r.end_ ∷ []) rows ≡ swept (r.end_ ∷ t) rows = ap (λ a. sweeps (a ++ r.end_ ∷ []) rows) e ∙ (ap (λ a. sweeps a rows) (sym (reverse-cons r.end_ t)) ∙ sweeps_is (r.end_ ∷ t) rows) in
    λ j. front j && rest j

-- What the sweep knows of the rows before

abbrev AtLeast : ℕ → List ℕ → Type 0
AtLeast e [] = Unit {0}
AtLeast e (t ∷ s) = (e ≤ t) × AtLeast e s

abbrev Rising : List ℕ → Type 0
Rising [] = Unit {0}
Rising (t ∷ s) = AtLeast t s × Rising s

abbrev Among : ℕ → List ℕ → Type 0
Among e [] = ⊥
Among e (t ∷ s) = (e ≡ t) ⊎ Among e s

record Known (s : List ℕ) (low : ℕ) (r : Row) : Type 0 where
  begun : r.start ≤ low
  over_or_around : (r.end_ ≤ low) ⊎ Among r.end_ s

abbrev AllKnown : List ℕ → ℕ → List Row → Type 0
AllKnown s low [] = Unit {0}
AllKnown s low (r ∷ rows) = Known s low r × AllKnown s low rows

abbrev InOrder : ℕ → List Row → Type 0
InOrder low [] = Unit {0}
InOrder low (r ∷ rows) = (low ≤ r.start) × InOrder r.start rows

at_least_less : (d e : ℕ) (s : List ℕ) → d ≤ e → AtLeast e s → AtLeast d s
at_least_less d e [] le all = tt
at_least_less d e (t ∷ s) le all = let first = all.0 in (omega (arith, le, first), at_least_less d e s le all.1)

rising_by : (b : Bool) (e : ℕ) (t s : List ℕ) → Rising t → Rising (e ∷ s) → Rising (cond b t (e ∷ s))
rising_by true e t s rest all = rest
rising_by false e t s rest all = all

dropped_rising : (p : ℕ) (s : List ℕ) → Rising s → Rising (dropped p s)
dropped_rising p [] all = tt
dropped_rising p (e ∷ s) all = rising_by (nat_le e p) e (dropped p s) s (dropped_rising p s all.1) all

among_by : (p x e : ℕ) (b : Bool) (s : List ℕ) → nat_le e p ≡ b → (Among x s → (x ≤ p) ⊎ Among x (dropped p s)) → Among x (e ∷ s) → (x ≤ p) ⊎ Among x (cond b (dropped p s) (e ∷ s))
among_by p x e true s is rest (inl same) = let le = leb-true e p is in inl (omega (arith, le, same))
among_by p x e true s is rest (inr more) = rest more
among_by p x e false s is rest h = inr h

dropped_among : (p x : ℕ) (s : List ℕ) → Among x s → (x ≤ p) ⊎ Among x (dropped p s)
dropped_among p x [] h = absurd h
dropped_among p x (e ∷ s) h = among_by p x e (nat_le e p) s refl (dropped_among p x s) h

known_on : (p low : ℕ) (s : List ℕ) (r : Row) → low ≤ p → Known s low r → Known (dropped p s) p r
known_on p low s r le k =
    let begun = k.begun in
    record { begun = omega (arith, le, begun); over_or_around = ⊎_elim (λ over. inl (omega (arith, le, over))) (λ h. dropped_among p r.end_ s h) k.over_or_around }

all_known_on : (p low : ℕ) (s : List ℕ) (rows : List Row) → low ≤ p → AllKnown s low rows → AllKnown (dropped p s) p rows
all_known_on p low s [] le all = tt
all_known_on p low s (r ∷ rows) le all = (known_on p low s r le all.0, all_known_on p low s rows le all.1)

all_known_more : (e p : ℕ) (s : List ℕ) (rows : List Row) → AllKnown s p rows → AllKnown (e ∷ s) p rows
all_known_more e p s [] all = tt
all_known_more e p s (r ∷ rows) all =
    (record { begun = all.0.begun; over_or_around = ⊎_elim inl (λ h. inr (inr h)) all.0.over_or_around }, all_known_more e p s rows all.1)

reached : (e : ℕ) (s : List ℕ) → reaches (first_of s) e ≡ true → Rising s → AtLeast e s
reached e [] h rising = tt
reached e (t ∷ s) h rising = let le = leb-true e t h in (le, at_least_less e t s le rising.0)

among_least : (e x : ℕ) (s : List ℕ) → AtLeast e s → Among x s → e ≤ x
among_least e x [] all h = absurd h
among_least e x (t ∷ s) all (inl same) = let le = all.0 in omega (arith, le, same)
among_least e x (t ∷ s) all (inr h) = among_least e x s all.1 h

or-first : (a b : Bool) → a ≡ true → (a || b) ≡ true
or-first true b e = refl
or-first false b e = absurd (true≢false (sym e))

or-second : (a b : Bool) → b ≡ true → (a || b) ≡ true
or-second true b e = refl
or-second false b e = e

both-true : (a b : Bool) → a ≡ true → b ≡ true → (a && b) ≡ true
both-true true b e f = f
both-true false b e f = e

-- a row nests with each known one where it lies in the innermost region
nests : (s : List ℕ) (q r : Row) → AtLeast q.end_ s → Known s q.start r → are_nested q r ≡ true
nests s q r all k = ⊎_elim
    (λ over. or-second (nat_le q.start r.start && nat_le r.end_ q.end_) _ (or-second (nat_le r.start q.start && nat_le q.end_ r.end_) _ (or-second (nat_le q.end_ r.start) _ (le-leb r.end_ q.start over))))
    (λ h. or-second (nat_le q.start r.start && nat_le r.end_ q.end_) _ (or-first (nat_le r.start q.start && nat_le q.end_ r.end_) _ (both-true _ _ (le-leb r.start q.start k.begun) (le-leb q.end_ r.end_ (among_least q.end_ r.end_ s all h)))))
    k.over_or_around

all_nest : (s : List ℕ) (q : Row) (rows : List Row) → AtLeast q.end_ s → AllKnown s q.start rows → list_all (are_nested q) rows ≡ true
all_nest s q [] all known = refl
all_nest s q (r ∷ rows) all known = both-true (are_nested q r) _ (nests s q r all known.0) (all_nest s q rows all known.1)

-- rows that nest with one more row and others
with_one : (q : Row) (before rows : List Row) → list_all (λ r. list_all (are_nested r) (q ∷ before)) rows ≡ true → (list_all (are_nested q) rows ≡ true) × (list_all (λ r. list_all (are_nested r) before) rows ≡ true)
with_one q before [] all = (refl, refl)
with_one q before (r ∷ rows) all =
    let here = and-left (list_all (are_nested r) (q ∷ before)) _ all in
    let rest = with_one q before rows (and-right (list_all (are_nested r) (q ∷ before)) _ all) in
    (both-true (are_nested q r) _ (nested_either_way q r ∙ and-left (are_nested r q) _ here) rest.0, both-true (list_all (are_nested r) before) _ (and-right (are_nested r q) _ here) rest.1)

let_through : (s : List ℕ) (low : ℕ) (before rows : List Row) → Rising s → AllKnown s low before → InOrder low rows → swept s rows ≡ true → (list_all (λ r. list_all (are_nested r) before) rows ≡ true) × (all_nested rows ≡ true)
let_through s low before [] rising known order all = (refl, refl)
let_through s low before (q ∷ rows) rising known order all =
    let t = dropped q.start s in
    let up = dropped_rising q.start s rising in
    let least = reached q.end_ t (and-left (reaches (first_of t) q.end_) _ all) up in
    let kept = all_known_on q.start low s before order.0 known in
    let own : Known (q.end_ ∷ t) q.start q = record { begun = omega arith; over_or_around = inr (inl refl) } in
    let rest = let_through (q.end_ ∷ t) q.start (q ∷ before) rows (least, up) (own, all_known_more q.end_ q.start t before kept) order.1 (and-right (reaches (first_of t) q.end_) _ all) in
    let two = with_one q before rows rest.0 in
    (both-true (list_all (are_nested q) before) _ (all_nest t q before least kept) two.1, both-true (list_all (are_nested q) rows) _ two.0 rest.1)

in_order : (low : ℕ) (rows : List Row) → IsNonDecreasingBy (λ r. r.start) rows → ((d : Row) → 0 < length rows → low ≤ (slice_index_or rows 0 d).start) → InOrder low rows
in_order low [] up first = tt
in_order low (r ∷ rows) up first =
    (first r (omega arith), in_order r.start rows (λ i j d le lt. up (suc i) (suc j) d (omega (arith, le)) (omega (arith, lt))) (λ d lt. up 0 1 d (omega arith) (omega (arith, lt))))

-- Pairs in any order

self_nested : (r : Row) → are_nested r r ≡ true
self_nested r = or-first (nat_le r.start r.start && nat_le r.end_ r.end_) _ (both-true _ _ (le-leb r.start r.start (omega arith)) (le-leb r.end_ r.end_ (omega arith)))

all_of : (p : Row → Bool) (rows : List Row) → All (λ r. p r ≡ true) rows → list_all p rows ≡ true
all_of p [] all = refl
all_of p (r ∷ rows) all = both-true (p r) _ (all 0 r (omega arith)) (all_of p rows (λ k d lt. all (suc k) d (omega (arith, lt))))

all_moved : (p : Row → Bool) (rows moved : List Row) → IsPermutation rows moved → list_all p moved ≡ true → list_all p rows ≡ true
all_moved p rows moved by all = all_of p rows (All-permutation (λ r. p r ≡ true) moved rows (IsPermutation-sym rows moved by) (λ k d lt. passes p moved k d all lt))

pairwise : (rows : List Row) → all_nested rows ≡ true → list_all (λ r. list_all (are_nested r) rows) rows ≡ true
pairwise [] all = refl
pairwise (q ∷ rows) all =
    let first = and-left (list_all (are_nested q) rows) _ all in
    both-true (list_all (are_nested q) (q ∷ rows)) _ (both-true (are_nested q q) _ (self_nested q) first) (one_more q rows rows first (pairwise rows (and-right (list_all (are_nested q) rows) _ all)))
  where
    one_more : (q : Row) (before rows : List Row) → list_all (are_nested q) rows ≡ true → list_all (λ r. list_all (are_nested r) before) rows ≡ true → list_all (λ r. list_all (are_nested r) (q ∷ before)) rows ≡ true
    one_more q before [] first rest = refl
    one_more q before (r ∷ rows) first rest =
        both-true (list_all (are_nested r) (q ∷ before)) _
        (both-true (are_nested r q) _ (nested_either_way r q ∙ and-left (are_nested q r) _ first) (and-left (list_all (are_nested r) before) _ rest))
        (one_more q before rows (and-right (are_nested q r) _ first) (and-right (list_all (are_nested r) before) _ rest))

from_pairs : (rows : List Row) → list_all (λ r. list_all (are_nested r) rows) rows ≡ true → all_nested rows ≡ true
from_pairs [] all = refl
from_pairs (q ∷ rows) all =
    let two = with_one q rows rows (and-right (list_all (are_nested q) (q ∷ rows)) _ all) in
    both-true (list_all (are_nested q) rows) _ two.0 (from_pairs rows two.1)

nested_moved : (rows moved : List Row) → IsPermutation rows moved → all_nested moved ≡ true → all_nested rows ≡ true
nested_moved rows moved by all =
    let pairs = pairwise moved all in
    let some : list_all (λ r. list_all (are_nested r) rows) moved ≡ true = all_of _ moved (λ k d lt. all_moved (are_nested (slice_index_or moved k d)) rows moved by (passes (λ r. list_all (are_nested r) moved) moved k d pairs lt)) in
    from_pairs rows (all_moved (λ r. list_all (are_nested r) rows) rows moved by some)

-- rows of which a sweep lets all through, in the order of their starts, are nested in pairs
pub sweep_nested : (rows sorted : List Row) → IsPermutation rows sorted → IsNonDecreasingBy (λ r. r.start) sorted → sweeps [] sorted ≡ true → all_nested rows ≡ true
sweep_nested rows sorted by up all =
    nested_moved rows sorted by (let_through [] 0 [] sorted tt tt (in_order 0 sorted up (λ d lt. omega arith)) (sym (sweeps_is [] sorted) ∙ all)).1
