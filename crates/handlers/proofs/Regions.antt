-- A place that a row covers lies in the row's subprogram.
use Rattle.std.proofs.Common.{◌≡◌, ℕ, zero, suc, ◌-◌, ◌<◌, ◌≤◌, List, [], ◌∷◌, length, Bool, true, false, cond, ◌&&◌, Option, Some, None, nat_lt, arith, slice_index_or, refl, sym, ap}
use Rattle.std.specs.List.{list_all, position_or_len}
use Rattle.std.proofs.lemmas.Bool.{true≢false, eqb-true}
use Rattle.std.proofs.lemmas.List.{get_or_default}
use Rattle.std.proofs.lemmas.Option.{none-some}
use Rattle.handlers.specs.declared.rows.Row.{Row}
use Rattle.handlers.specs.Handlers.{Handlers, LeadsWithin, are_same, are_within_one, is_within_one, share_subprogram, subprogram_at}

pub and-left : (a b : Bool) → (a && b) ≡ true → a ≡ true
and-left true b e = refl
and-left false b e = absurd (true≢false (sym e))

pub and-right : (a b : Bool) → (a && b) ≡ true → b ≡ true
and-right true b e = e
and-right false b e = absurd (true≢false (sym e))

abbrev pub ends_after : ℕ → ℕ → Bool
ends_after p e = nat_lt p e

-- a later place lies in no earlier subprogram
later_holder : (ends : List ℕ) (p q : ℕ) → p ≤ q → position_or_len (ends_after p) ends ≤ position_or_len (ends_after q) ends
later_holder [] p q h = omega arith
later_holder (e ∷ ends) p q h = grind (arith, later_holder ends p q h)

some_of : (b : Bool) (n m : ℕ) → cond b (Some n) None ≡ Some m → (b ≡ true) × (n ≡ m)
some_of true n m e = (refl, ap (λ o. by o) e)
  where
    by : Option ℕ → ℕ
    by None = n
    by (Some k) = k
some_of false n m e = absurd (none-some m e)

both_some : (a b : Option ℕ) → are_same a b ≡ true → (n : ℕ) × (a ≡ Some n) × (b ≡ Some n)
both_some None b e = absurd (true≢false (sym e))
both_some (Some m) None e = absurd (true≢false (sym e))
both_some (Some m) (Some n) e = (m, refl, ap Some (sym (eqb-true m n e)))

-- of places in order, of which one subprogram holds the first and the last, it holds each
held_between : (ends : List ℕ) (p q r : ℕ) → p ≤ q → q ≤ r → share_subprogram ends p r ≡ true → subprogram_at ends p ≡ subprogram_at ends q
held_between ends p q r low high e =
    let x = both_some (subprogram_at ends p) (subprogram_at ends r) e in
    let first = some_of _ _ x.0 x.1 in
    let last = some_of _ _ x.0 x.2 in
    let a : position_or_len (ends_after p) ends ≤ position_or_len (ends_after q) ends = later_holder ends p q low in
    let b : position_or_len (ends_after q) ends ≤ position_or_len (ends_after r) ends = later_holder ends q r high in
    let same : position_or_len (ends_after p) ends ≡ position_or_len (ends_after q) ends = omega (arith, a, b, first.1, last.1) in
    ap (λ n. cond (nat_lt n (length ends)) (Some n) None) same

-- what passes for all passes for each
pub passes : {X : Type 0} (p : X → Bool) (xs : List X) (k : ℕ) (d : X) → list_all p xs ≡ true → k < length xs → p (slice_index_or xs k d) ≡ true
passes p [] k d all lt = absurd (omega (arith, lt))
passes p (x ∷ xs) zero d all lt = and-left (p x) _ all
passes p (x ∷ xs) (suc k) d all lt = passes p xs k d (and-right (p x) _ all) (omega (arith, lt))

-- the target of a row that covers the place is one of its subprogram
pub leads_within : (h : Handlers) (k : ℕ) (d : Row) (p : ℕ) → are_within_one h.ends h.rows ≡ true → k < length h.rows → (slice_index_or h.rows k d).start ≤ p → p < (slice_index_or h.rows k d).end_ → LeadsWithin h p (slice_index_or h.rows k d).target
leads_within h k d p all lt low high =
    let r = slice_index_or h.rows k d in
    let own : is_within_one h.ends r ≡ true = passes (is_within_one h.ends) h.rows k d all lt in
    let region : share_subprogram h.ends r.start (r.end_ - 1) ≡ true = and-left _ _ (and-right (nat_lt r.start r.end_) _ own) in
    (k, r, lt, get_or_default h.rows k _ d lt, (held_between h.ends r.start p (r.end_ - 1) low (omega (arith, high)) region, refl))
