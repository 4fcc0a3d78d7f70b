-- Places that are raised to the last alternatives behind those at the front, and choices that are earlier by the front.
use Rattle.std.proofs.Common.{◌≡◌, ◌⊎◌, ℕ, zero, suc, ◌+◌, ◌-◌, ◌*◌, ◌<◌, ◌≤◌, List, [], ◌∷◌, ◌++◌, length, drop, take, get_or, set, refl, sym, ap, subst, ◌∙◌, arith, inl, inr, ⊎_elim}
use Rattle.std.proofs.lemmas.Nat.{mul-le}
use Rattle.choices.specs.Slots.{Slot, number_of}
use Rattle.choices.specs.Places.{AreWithin, IsBefore, left}
use Rattle.choices.specs.Stepping.{IsFurther}
use Rattle.choices.proofs.Moving.{long_as, within_at}

pub within_set : (n : ℕ) (slots : List Slot) (ps : List ℕ) (v : ℕ) (d : Slot) → AreWithin slots ps → n < length slots
    → v < length (get_or slots n d).alternatives → AreWithin slots (set ps n v)
within_set n [] ps v d w h less = absurd (omega (arith, h))
within_set n (s ∷ slots) [] v d w h less = absurd w
within_set zero (s ∷ slots) (p ∷ ps) v d w h less = (less, w.1)
within_set (suc n) (s ∷ slots) (p ∷ ps) v d w h less = (w.0, within_set n slots ps v d w.1 (omega (arith, h)) less)

pub take_set : (front n : ℕ) (ps : List ℕ) (v : ℕ) → front ≤ n → take front (set ps n v) ≡ take front ps
take_set zero n ps v le = refl
take_set (suc front) n [] v le = refl
take_set (suc front) zero (p ∷ ps) v le = absurd (omega (arith, le))
take_set (suc front) (suc n) (p ∷ ps) v le = ap (λ l. p ∷ l) (take_set front n ps v (omega (arith, le)))

fewer_here : (len p v m rest : ℕ) → p ≤ v → (len - v - 1) * m + rest ≤ (len - p - 1) * m + rest
fewer_here len p v m rest le = let x = mul-le (len - v - 1) m (len - p - 1) m (omega (arith, le)) (omega arith) in omega (arith, x)

pub left_set : (n : ℕ) (slots : List Slot) (ps : List ℕ) (v : ℕ) → AreWithin slots ps → n < length slots → get_or ps n 0 ≤ v
    → left slots (set ps n v) ≤ left slots ps
left_set n [] ps v w h le = absurd (omega (arith, h))
left_set n (s ∷ slots) [] v w h le = absurd w
left_set zero (s ∷ slots) (p ∷ ps) v w h le = fewer_here (length s.alternatives) p v (number_of slots) (left slots ps) le
left_set (suc n) (s ∷ slots) (p ∷ ps) v w h le =
    let rest = left_set n slots ps v w.1 (omega (arith, h)) le in
    let a = (length s.alternatives - p - 1) * number_of slots in
    sums a (left slots (set ps n v)) (left slots ps) rest
  where
    sums : (a b c : ℕ) → b ≤ c → a + b ≤ a + c
    sums a b c less = omega (arith, less)

pub raised_none : (slots : List Slot) (front : ℕ) (ps : List ℕ) → AreWithin slots ps → IsFurther slots front ps ps
raised_none slots front ps w = record { within = w; front_is = refl; fewer = omega arith }

pub raised_more : (slots : List Slot) (front n : ℕ) (old ps : List ℕ) (v : ℕ) (d : Slot) → IsFurther slots front old ps → front ≤ n → n < length slots
    → v < length (get_or slots n d).alternatives → get_or ps n 0 ≤ v → IsFurther slots front old (set ps n v)
raised_more slots front n old ps v d r le h less up = record {
  within = within_set n slots ps v d r.within h less;
  front_is = take_set front n ps v le ∙ r.front_is;
  fewer = (let x = left_set n slots ps v r.within h up in let y = r.fewer in omega (arith, x, y));
}

pub raised_here : (slots : List Slot) (front at : ℕ) (old ps : List ℕ) (s : Slot) (count : ℕ) → IsFurther slots front old ps → front ≤ at → at < length slots
    → s ≡ get_or slots at s → count ≡ length s.alternatives → (1 ≤ count) × IsFurther slots front old (set ps at (count - 1))
raised_here slots front at old ps s count r le h is long =
    let all = long_as slots ps r.within in
    let low = within_at at slots ps s r.within (omega (arith, all, h)) in
    let same : length (get_or slots at s).alternatives ≡ count = ap (λ x. length x.alternatives) (sym is) ∙ sym long in (
      omega (arith, low, same),
      raised_more slots front at old ps (count - 1) s r le h (omega (arith, low, same)) (omega (arith, low, same)),
    )

-- ---- the order by the front

pub before_at : (at front : ℕ) (ps qs : List ℕ) → take at ps ≡ take at qs → get_or ps at 0 < get_or qs at 0 → at < front → at < length ps → at < length qs
    → IsBefore (take front ps) (take front qs)
before_at at zero ps qs same less h lp lq = absurd (omega (arith, h))
before_at at (suc front) [] qs same less h lp lq = absurd (omega (arith, lp))
before_at at (suc front) (p ∷ ps) [] same less h lp lq = absurd (omega (arith, lq))
before_at zero (suc front) (p ∷ ps) (q ∷ qs) same less h lp lq = inl less
before_at (suc at) (suc front) (p ∷ ps) (q ∷ qs) same less h lp lq =
    inr (ap (λ l. get_or l 0 0) same, before_at at front ps qs (ap (drop 1) same) less (omega (arith, h)) (omega (arith, lp)) (omega (arith, lq)))

-- so it is of the whole choices, with any alternatives of the other slots
pub before_whole : (ps qs more other : List ℕ) → IsBefore ps qs → IsBefore (ps ++ more) (qs ++ other)
before_whole [] qs more other b = absurd b
before_whole (p ∷ ps) [] more other b = absurd b
before_whole (p ∷ ps) (q ∷ qs) more other b = ⊎_elim (λ less. inl less) (λ same. inr (same.0, before_whole ps qs more other same.1)) b

-- what is before a choice has its front, or is before each choice with this front
pub before_front : (front : ℕ) (ds ps qs : List ℕ) → take front ps ≡ take front qs → length ds ≡ length ps → length ps ≡ length qs → IsBefore ds ps
    → (take front ds ≡ take front qs) ⊎ IsBefore ds qs
before_front zero ds ps qs same long along b = inl refl
before_front (suc front) [] ps qs same long along b = absurd b
before_front (suc front) (d ∷ ds) [] qs same long along b = absurd b
before_front (suc front) (d ∷ ds) (p ∷ ps) [] same long along b = absurd (omega (arith, along))
before_front (suc front) (d ∷ ds) (p ∷ ps) (q ∷ qs) same long along b =
    let here : p ≡ q = ap (λ l. get_or l 0 0) same in
    ⊎_elim
    (λ less. inr (inl (subst (λ x. d < x) here less)))
    (λ is. ⊎_elim (λ e. inl (λ j. (is.0 ∙ here) j ∷ e j)) (λ c. inr (inr (is.0 ∙ here, c)))
    (before_front front ds ps qs (ap (drop 1) same) (omega (arith, long)) (omega (arith, along)) is.1))
    b
