-- The search over the rows that cover a place, from one to the next outwards.
use Rattle.std.proofs.Common.{◌≡◌, ℕ, zero, suc, ◌+◌, ◌-◌, ◌≤◌, ◌<◌, List, [], ◌∷◌, length, drop, get_or, Bool, true, false, cond, ◌&&◌, Option, Some, None, IfSome, option_map, arith, refl, sym, ap, ◌∙◌, subst}
use Rattle.std.specs.List.{count_by, find}
use Rattle.std.proofs.lemmas.Bool.{leb-true, ltb-true}
use Rattle.std.proofs.lemmas.List.{length-drop}
use Rattle.std.proofs.lemmas.List.Sums.{sum_by-cons}
use Rattle.std.proofs.lemmas.Option.{none-some, same_Some}
use Rattle.handlers.specs.declared.counting.Candidate.{Candidate}
use Rattle.handlers.specs.declared.rows.Row.{Row}
use Rattle.handlers.specs.Handlers.{Handlers, LeadsWithin, are_within_one}
use Rattle.handlers.specs.Innermost.{covers, handles, innermost}
use Rattle.handlers.specs.Laws.{takes}
use Rattle.handlers.specs.Searching.{candidates_of, next_covering, rows_in}
use Rattle.handlers.proofs.Elements.{next_drop}
use Rattle.handlers.proofs.Ordered.{innermost_is}
use Rattle.handlers.proofs.Regions.{and-left, and-right, leads_within}

pub rows_of_candidates : (number : ℕ) (rows : List Row) → rows_in (candidates_of number rows) ≡ rows
rows_of_candidates number [] = refl
rows_of_candidates number (r ∷ rows) = ap (λ rest. r ∷ rest) (rows_of_candidates (suc number) rows)

-- the candidate at a place of the list
pub candidate_at : (number k : ℕ) (rows : List Row) (r : Row) (rest : List Row) (d : Candidate) → drop k rows ≡ r ∷ rest
    → get_or (candidates_of number rows) k d ≡ record { row = r; around = next_covering r.start (suc (number + k)) rest }
candidate_at number zero [] r rest d is = absurd (omega (arith, ap length is))
candidate_at number zero (x ∷ rows) r rest d is =
    ap (λ l. candidate (head_or x l) (tail l)) is ∙ ap (λ n. record { row = r; around = next_covering r.start (suc n) rest }) same
  where
    same : number ≡ number + 0
    same = omega arith

    head_or : Row → List Row → Row
    head_or y [] = y
    head_or y (z ∷ zs) = z

    tail : List Row → List Row
    tail [] = []
    tail (z ∷ zs) = zs

    candidate : Row → List Row → Candidate
    candidate q qs = record { row = q; around = next_covering q.start (suc number) qs }
candidate_at number (suc k) [] r rest d is = absurd (omega (arith, ap length is))
candidate_at number (suc k) (x ∷ rows) r rest d is =
    candidate_at (suc number) k rows r rest d is
    ∙ ap (λ n. candidate_from n) behind
  where
    candidate_from : ℕ → Candidate
    candidate_from n = record { row = r; around = next_covering r.start (suc n) rest }

    behind : suc number + k ≡ number + suc k
    behind = omega arith

module _ (ordered : List Row) (place x start : ℕ) where
  -- where the search stands before it looks at this row, with so many exceptions compared
  abbrev pub Stands : Option ℕ → ℕ → Type 0
  Stands None compared = (find (takes place x) ordered ≡ None) × (compared ≤ start + count_by (covers place) ordered)
  Stands (Some k) compared = (r : Row) × (rest : List Row) × (drop k ordered ≡ r ∷ rest) × (covers place r ≡ true)
      × (find (takes place x) ordered ≡ find (takes place x) (r ∷ rest)) × (compared + count_by (covers place) (r ∷ rest) ≤ start + count_by (covers place) ordered)

  -- it comes to the next row that covers the place
  pub arrives : (number : ℕ) (xs : List Row) (compared : ℕ) → drop number ordered ≡ xs → find (takes place x) ordered ≡ find (takes place x) xs
      → compared + count_by (covers place) xs ≤ start + count_by (covers place) ordered → Stands (next_covering place number xs) compared
  arrives number [] compared is same few = (same, omega (arith, few))
  arrives number (r ∷ xs) compared is same few = by (arrives (suc number) xs compared (next_drop number ordered r xs is)) (covers place r) refl
    where
      by : (find (takes place x) ordered ≡ find (takes place x) xs → compared + count_by (covers place) xs ≤ start + count_by (covers place) ordered → Stands (next_covering place (suc number) xs) compared)
          → (b : Bool) → covers place r ≡ b → Stands (cond b (Some number) (next_covering place (suc number) xs)) compared
      by further true here = (r, xs, is, here, same, few)
      by further false not =
          further (same ∙ ap (λ b. cond (b && handles x r) (Some r) (find (takes place x) xs)) not)
          (omega (arith, few, sum_by-cons (λ q. cond (covers place q) 1 0) r xs ∙ ap (λ b. cond b 1 0 + count_by (covers place) xs) not))

  -- ... behind a row that doesn't handle the exception
  pub passes_on : (k compared : ℕ) (r : Row) (rest : List Row) → drop k ordered ≡ r ∷ rest → covers place r ≡ true → find (takes place x) ordered ≡ find (takes place x) (r ∷ rest)
      → compared + count_by (covers place) (r ∷ rest) ≤ start + count_by (covers place) ordered → handles x r ≡ false → Stands (next_covering place (suc k) rest) (compared + 1)
  passes_on k compared r rest is here same few not =
      arrives (suc k) rest (compared + 1) (next_drop k ordered r rest is)
      (same ∙ (ap (λ b. cond (b && handles x r) (Some r) (find (takes place x) rest)) here ∙ ap (λ b. cond b (Some r) (find (takes place x) rest)) not))
      (omega (arith, few, sum_by-cons (λ q. cond (covers place q) 1 0) r rest ∙ ap (λ b. cond b 1 0 + count_by (covers place) rest) here))

-- how many rows are still to be looked at, at most
abbrev pub left : List Row → Option ℕ → ℕ
left ordered None = 0
left ordered (Some k) = length ordered - k

next_later : (place number : ℕ) (xs : List Row) (j : ℕ) → next_covering place number xs ≡ Some j → number ≤ j
next_later place number [] j is = absurd (none-some j is)
next_later place number (r ∷ xs) j is = by (λ e. next_later place (suc number) xs j e) (covers place r) is
  where
    by : (next_covering place (suc number) xs ≡ Some j → suc number ≤ j) → (b : Bool) → cond b (Some number) (next_covering place (suc number) xs) ≡ Some j → number ≤ j
    by rest true e = omega (arith, same_Some _ _ e)
    by rest false e = omega (arith, rest e)

module _ (candidates : List Candidate) (ordered : List Row) (view : rows_in candidates ≡ ordered) (linked : candidates ≡ candidates_of 0 (rows_in candidates))
    (onwards : (place k : ℕ) (r : Row) (rest : List Row) → drop k (rows_in candidates) ≡ r ∷ rest → covers place r ≡ true → next_covering r.start (suc k) rest ≡ next_covering place (suc k) rest)
    (place x start compared k : ℕ) (stands : Stands ordered place x start (Some k) compared) (v : Candidate) (there : v ≡ get_or candidates k v) where
  abbrev own : Row
  own = stands.0

  abbrev rest : List Row
  rest = stands.1

  is : v ≡ record { row = own; around = next_covering own.start (suc (0 + k)) rest }
  is = there ∙ (ap (λ l. get_or l k v) (linked ∙ ap (candidates_of 0) view) ∙ candidate_at 0 k ordered own rest v stands.2)

  -- it takes the exception
  pub takes_it : handles x v.row ≡ true → Some v.row.target ≡ option_map (λ r. r.target) (find (takes place x) ordered)
  takes_it does =
      let it : handles x own ≡ true = ap (λ c. handles x c.row) (sym is) ∙ does in
      let found : find (takes place x) ordered ≡ Some own = stands.4 ∙ (ap (λ b. cond (b && handles x own) (Some own) (find (takes place x) rest)) stands.3 ∙ ap (λ b. cond b (Some own) (find (takes place x) rest)) it) in
      ap (λ c. Some c.row.target) is ∙ sym (ap (option_map (λ r. r.target)) found)

  around : v.around ≡ next_covering place (suc k) rest
  around = ap (λ c. c.around) is ∙ (ap (λ n. next_covering own.start (suc n) rest) plus ∙ onwards place k own rest (subst (λ xs. drop k xs ≡ own ∷ rest) (sym view) stands.2) stands.3)
    where
      plus : 0 + k ≡ k
      plus = omega arith

  pub goes_on : handles x v.row ≡ false → Stands ordered place x start v.around (compared + 1)
  goes_on isnt =
      subst (λ o. Stands ordered place x start o (compared + 1)) (sym around)
      (passes_on ordered place x start k compared own rest stands.2 stands.3 stands.4 stands.5 (ap (λ c. handles x c.row) (sym is) ∙ isnt))

  pub fewer_left : left ordered v.around < left ordered (Some k)
  fewer_left = subst (λ o. left ordered o < left ordered (Some k)) (sym around) (by (next_covering place (suc k) rest) refl)
    where
      some : k < length ordered
      some = omega (arith, length-drop k ordered, ap length stands.2)

      by : (o : Option ℕ) → next_covering place (suc k) rest ≡ o → left ordered o < left ordered (Some k)
      by None e = omega (arith, some)
      by (Some j) e = omega (arith, some, next_later place (suc k) rest j e)

-- what is found leads within the subprogram
pub leads : (h : Handlers) (place x : ℕ) → are_within_one h.ends h.rows ≡ true → IfSome (option_map (λ r. r.target) (innermost h.rows place x)) (LeadsWithin h place)
leads h place x all = by (innermost h.rows place x) refl
  where
    by : (o : Option Row) → innermost h.rows place x ≡ o → IfSome (option_map (λ r. r.target) o) (LeadsWithin h place)
    by None none = _
    by (Some m) is =
        let own = innermost_is place x h.rows m is in
        let here = and-left (covers place m) (handles x m) own.fits_it in
        let row : get_or h.rows own.has.0 m ≡ m = own.has.2 in
        subst (λ r. LeadsWithin h place r.target) row
        (leads_within h own.has.0 m place all own.has.1
        (subst (λ r. r.start ≤ place) (sym row) (leb-true _ _ (and-left _ _ here))) (subst (λ r. place < r.end_) (sym row) (ltb-true _ _ (and-right _ _ here))))
