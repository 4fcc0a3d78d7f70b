-- Rows to which the value of one more run is added, one after the other.
use Rattle.std.proofs.Common.{◌≡◌, ◌≢◌, ℕ, zero, suc, ◌+◌, ◌<◌, ◌≤◌, List, [], ◌∷◌, ◌++◌, length, map, Option, Bool, true, false, cond, ⊎_elim, refl, sym, ap, subst, ◌∙◌, arith, rules}
use Rattle.std.proofs.lemmas.Bool.Decides.{eqb_tells}
use Rattle.std.proofs.lemmas.List.{get_or-set_other, get_or-set_same, length-map, length-set, map-append}
use Rattle.std.specs.Prelude.{All, nat_eq, nat_lt, slice_index_or, slice_set}
use Rattle.image.specs.Sections.{Sections}
use Rattle.set_measures.specs.Extremes.{IsExtremeOf, capped}
use Rattle.set_measures.specs.Quantities.{direction_of, value_of}
use Rattle.set_measures.specs.Runs.{Run}
use Rattle.set_measures.specs.Sets.{HasExtreme}
use Rattle.set_measures.specs.declared.extreme.Row.{Row}

-- the rows before this place have the value of one more run
abbrev pub runs_at : (at : ℕ) (runs : List Run) (r : Run) → ℕ → List Run
runs_at at runs r k = cond (nat_lt k at) (runs ++ r ∷ []) runs

abbrev pub AreFilled : Sections → (runs : List Run) (r : Run) (at : ℕ) → List Row → Type 0
AreFilled i runs r at rows = (k : ℕ) (d : Row) → k < length rows → HasExtreme i (runs_at at runs r k) (slice_index_or rows k d)

pub none_filled : (i : Sections) (runs : List Run) (r : Run) (rows : List Row) → All (HasExtreme i runs) rows → AreFilled i runs r 0 rows
none_filled i runs r rows all k d less =
    let test : nat_lt k 0 ≡ false = search rules in
    subst (λ b. HasExtreme i (cond b (runs ++ r ∷ []) runs) (slice_index_or rows k d)) (sym test) (all k d less)

pub all_filled : (i : Sections) (runs : List Run) (r : Run) (at : ℕ) (rows : List Row) → length rows ≤ at → AreFilled i runs r at rows
    → All (HasExtreme i (runs ++ r ∷ [])) rows
all_filled i runs r at rows le filled k d less =
    let within : k < at = omega (arith, le, less) in
    let test : nat_lt k at ≡ true = search (rules, within) in
    subst (λ b. HasExtreme i (cond b (runs ++ r ∷ []) runs) (slice_index_or rows k d)) test (filled k d less)

-- one row with the value of one more run
pub row_with : (i : Sections) (runs : List Run) (r : Run) (row new : Row) (value : Option ℕ) (number : ℕ) → number ≡ capped (length runs + 1)
    → value ≡ value_of i r row.measure → new.measure ≡ row.measure
    → ((values : List (Option ℕ)) → number ≡ capped (length values + 1) → IsExtremeOf (direction_of row.measure) values row.extreme
    → IsExtremeOf (direction_of row.measure) (values ++ value ∷ []) new.extreme)
    → HasExtreme i runs row → HasExtreme i (runs ++ r ∷ []) new
row_with i runs r row new value number is value_is same step has =
    let values = map (λ x. value_of i x row.measure) runs in
    let long : length values ≡ length runs = length-map runs (λ x. value_of i x row.measure) in
    let more : values ++ value ∷ [] ≡ map (λ x. value_of i x row.measure) (runs ++ r ∷ []) =
    ap (λ v. values ++ v ∷ []) value_is ∙ sym (map-append (λ x. value_of i x row.measure) runs (r ∷ [])) in
    let there = subst (λ vs. IsExtremeOf (direction_of row.measure) vs new.extreme) more (step values (is ∙ ap (λ n. capped (n + 1)) (sym long)) has) in
    subst (λ m. IsExtremeOf (direction_of m) (map (λ x. value_of i x m) (runs ++ r ∷ [])) new.extreme) (sym same) there

one_further : (k at : ℕ) → k ≢ at → nat_lt k (at + 1) ≡ nat_lt k at
one_further k at other = by (nat_lt k at) refl
  where
    by : (b : Bool) → nat_lt k at ≡ b → nat_lt k (at + 1) ≡ b
    by true e = let less : k < at = search (rules, e) in let later : k < at + 1 = omega (arith, less) in search (rules, later)
    by false e = let ge : at ≤ k = search (rules, e) in let later : at + 1 ≤ k = omega (arith, ge, other) in search (rules, later)

pub one_filled : (i : Sections) (runs : List Run) (r : Run) (at : ℕ) (rows : List Row) (new none : Row) → at < length rows → AreFilled i runs r at rows
    → (HasExtreme i runs (slice_index_or rows at none) → HasExtreme i (runs ++ r ∷ []) new) → AreFilled i runs r (at + 1) (slice_set rows at new)
one_filled i runs r at rows new none within filled step k d less =
    let long : length (slice_set rows at new) ≡ length rows = length-set rows at new in
    ⊎_elim
    (λ (h : (nat_eq k at ≡ true) × (k ≡ at)).
    let here : k < at + 1 = let e = h.1 in omega (arith, e) in
    let test : nat_lt k (at + 1) ≡ true = search (rules, here) in
    let not_yet : nat_lt at at ≡ false = search rules in
    let old = subst (λ b. HasExtreme i (cond b (runs ++ r ∷ []) runs) (slice_index_or rows at none)) not_yet (filled at none within) in
    let is : slice_index_or (slice_set rows at new) k d ≡ new = ap (λ n. slice_index_or (slice_set rows at new) n d) h.1 ∙ get_or-set_same rows at new d within in
    subst (λ b. HasExtreme i (cond b (runs ++ r ∷ []) runs) (slice_index_or (slice_set rows at new) k d)) (sym test)
    (subst (HasExtreme i (runs ++ r ∷ [])) (sym is) (step old)))
    (λ (h : (nat_eq k at ≡ false) × (k ≢ at)).
    let is : slice_index_or (slice_set rows at new) k d ≡ slice_index_or rows k d = get_or-set_other rows at k new d h.1 in
    subst (λ b. HasExtreme i (cond b (runs ++ r ∷ []) runs) (slice_index_or (slice_set rows at new) k d)) (sym (one_further k at h.1))
    (subst (HasExtreme i (runs_at at runs r k)) (sym is) (filled k d (omega (arith, less, long)))))
    (eqb_tells k at)

-- the measures of the rows stay
pub same_measures : (rows : List Row) (at : ℕ) (new d : Row) → at < length rows → new.measure ≡ (slice_index_or rows at d).measure
    → map (λ row. row.measure) (slice_set rows at new) ≡ map (λ row. row.measure) rows
same_measures [] at new d within same = absurd (omega (arith, within))
same_measures (row ∷ rows) zero new d within same = ap (λ m. m ∷ map (λ x. x.measure) rows) same
same_measures (row ∷ rows) (suc at) new d within same = ap (λ ms. row.measure ∷ ms) (same_measures rows at new d (omega (arith, within)) same)
