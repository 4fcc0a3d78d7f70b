-- The table of holders gives for each place what is found by its definition.
use Rattle.std.proofs.Common.{◌≡◌, ℕ, zero, suc, ◌+◌, ◌-◌, ◌<◌, ◌≤◌, List, [], ◌∷◌, ◌++◌, length, replicate, cond, Bool, true, false, not, Some, None, nat_lt, slice_get, arith, inl, inr, ⊎_elim, refl, ap, ◌∙◌}
use Rattle.std.specs.List.{position_or_len}
use Rattle.std.proofs.lemmas.Bool.{cases_lt, lt-ltb, ltb-true, ltb-false}
use Rattle.std.proofs.lemmas.Bool.Decides.{leb_tells}
use Rattle.std.proofs.lemmas.Option.{slice_get_past}
use Rattle.std.proofs.lemmas.List.{length-append, length-replicate}
use Rattle.handlers.specs.Handlers.{subprogram_at}
use Rattle.handlers.specs.Holding.{held, held_up_to}
use Rattle.handlers.proofs.Regions.{ends_after}

front : {X : Type 0} (xs ys : List X) (p : ℕ) → p < length xs → slice_get (xs ++ ys) p ≡ slice_get xs p
front [] ys p lt = absurd (omega (arith, lt))
front (x ∷ xs) ys zero lt = refl
front (x ∷ xs) ys (suc p) lt = front xs ys p (omega (arith, lt))

repeated : {X : Type 0} (n p : ℕ) (x : X) → p < n → slice_get (replicate n x) p ≡ Some x
repeated zero p x lt = absurd (omega (arith, lt))
repeated (suc n) zero x lt = refl
repeated (suc n) (suc p) x lt = repeated n p x (omega (arith, lt))

behind : {X : Type 0} (xs : List X) (n p : ℕ) (x : X) → length xs ≤ p → p < length xs + n → slice_get (xs ++ replicate n x) p ≡ Some x
behind [] n p x le lt = repeated n p x (omega (arith, lt))
behind (y ∷ xs) n zero x le lt = absurd (omega (arith, le))
behind (y ∷ xs) n (suc p) x le lt = behind xs n p x (omega (arith, le)) (omega (arith, lt))

longer : (numbers : List ℕ) (e n : ℕ) → length (held_up_to numbers e n) ≡ length numbers + (e - length numbers)
longer numbers e n = omega (arith, length-append numbers (replicate (e - length numbers) n), length-replicate (e - length numbers) n)

abbrev before : ℕ → List ℕ → ℕ
before p ends = position_or_len (ends_after p) ends

ends_first : (p e : ℕ) (ends : List ℕ) → p < e → before p (e ∷ ends) ≡ 0
ends_first p e ends lt = ap (λ b. cond (not b) (1 + before p ends) 0) (lt-ltb p e lt)

ends_later : (p e : ℕ) (ends : List ℕ) → e ≤ p → before p (e ∷ ends) ≡ 1 + before p ends
ends_later p e ends le = ⊎_elim (λ h. absurd (omega (arith, le, h.1))) (λ h. ap (λ b. cond (not b) (1 + before p ends) 0) h.0) (leb_tells (suc p) e)

-- a number that stands stays
stays : (ends numbers : List ℕ) (n p : ℕ) → p < length numbers → slice_get (held n numbers ends) p ≡ slice_get numbers p
stays [] numbers n p lt = refl
stays (e ∷ ends) numbers n p lt =
    let more = longer numbers e n in
    stays ends (held_up_to numbers e n) (n + 1) p (omega (arith, lt, more)) ∙ front numbers (replicate (e - length numbers) n) p lt

-- a place behind those has the number of the first subprogram that ends after it
found : (ends numbers : List ℕ) (n p : ℕ) → length numbers ≤ p → before p ends < length ends → slice_get (held n numbers ends) p ≡ Some (n + before p ends)
found [] numbers n p le lt = absurd (omega (arith, lt))
found (e ∷ ends) numbers n p le lt =
    let more = longer numbers e n in
    elim (cases_lt p e) [
      | inl below ↦
          let zero_ = ends_first p e ends below in
          let same : n ≡ n + before p (e ∷ ends) = omega (arith, zero_) in
          stays ends (held_up_to numbers e n) (n + 1) p (omega (arith, below, le, more)) ∙ (behind numbers (e - length numbers) p n le (omega (arith, below, le)) ∙ ap Some same)
      | inr above ↦
          let next = ends_later p e ends above in
          let same : (n + 1) + before p ends ≡ n + before p (e ∷ ends) = omega (arith, next) in
          found ends (held_up_to numbers e n) (n + 1) p (omega (arith, above, le, more)) (omega (arith, next, lt)) ∙ ap Some same
    ]

-- a place that no subprogram holds has none
missing : (ends numbers : List ℕ) (n p : ℕ) → length numbers ≤ p → length ends ≤ before p ends → slice_get (held n numbers ends) p ≡ None
missing [] numbers n p le all = slice_get_past numbers p le
missing (e ∷ ends) numbers n p le all =
    let more = longer numbers e n in
    elim (cases_lt p e) [
      | inl below ↦ let zero_ = ends_first p e ends below in absurd (omega (arith, zero_, all))
      | inr above ↦
          let next = ends_later p e ends above in
          missing ends (held_up_to numbers e n) (n + 1) p (omega (arith, above, le, more)) (omega (arith, next, all))
    ]

pub holds_each : (ends : List ℕ) (p : ℕ) → slice_get (held 0 [] ends) p ≡ subprogram_at ends p
holds_each ends p = by (nat_lt (before p ends) (length ends)) refl
  where
    by : (b : Bool) → nat_lt (before p ends) (length ends) ≡ b → slice_get (held 0 [] ends) p ≡ cond b (Some (before p ends)) None
    by true is = let same : 0 + before p ends ≡ before p ends = omega arith in found ends [] 0 p (omega arith) (ltb-true (before p ends) (length ends) is) ∙ ap Some same
    by false is = missing ends [] 0 p (omega arith) (ltb-false (before p ends) (length ends) is)
