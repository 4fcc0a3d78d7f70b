-- The first row that breaks a rule, and that there is none of sound rows.
use Rattle.std.proofs.Common.{◌≡◌, ℕ, zero, suc, ◌+◌, ◌<◌, ◌≤◌, min, List, [], ◌∷◌, length, take, Bool, true, false, cond, ◌&&◌, ◌||◌, not, Option, Some, None, nat_le, nat_lt, slice_get, is_none, arith, ⊎_elim, ◌⊎◌, inl, inr, refl, sym, ap, ◌∙◌, subst}
use Rattle.std.specs.List.{list_all, position, prefix_len}
use Rattle.std.proofs.lemmas.Bool.{true≢false, ltb-true, ltb-false}
use Rattle.std.proofs.lemmas.Bool.Decides.{leb_tells}
use Rattle.std.proofs.lemmas.Option.{none-some}
use Rattle.handlers.specs.declared.rows.Row.{Row}
use Rattle.handlers.specs.Handlers.{is_within_one}
use Rattle.handlers.specs.Nesting.{IsFirst, all_nested, are_nested, are_sound, crosses_at, crosses_one, is_broken_at, lesser_of, some_and}
use Rattle.handlers.proofs.Regions.{and-left, and-right}

swapped : (a b c d : Bool) → (a || (b || (c || d))) ≡ (b || (a || (d || c)))
swapped true true c d = refl
swapped true false c d = refl
swapped false true c d = refl
swapped false false true true = refl
swapped false false true false = refl
swapped false false false true = refl
swapped false false false false = refl

pub nested_either_way : (r q : Row) → are_nested r q ≡ are_nested q r
nested_either_way r q = swapped (nat_le r.start q.start && nat_le q.end_ r.end_) (nat_le q.start r.start && nat_le r.end_ q.end_) (nat_le r.end_ q.start) (nat_le q.end_ r.start)

module _ (p : Row → Bool) where
  pub passes_there : (rows : List Row) (k : ℕ) (r : Row) → list_all p rows ≡ true → slice_get rows k ≡ Some r → p r ≡ true
  passes_there [] k r all is = absurd (none-some r is)
  passes_there (x ∷ rows) zero r all is = subst (λ o. some_and o p ≡ true) is (and-left (p x) _ all)
  passes_there (x ∷ rows) (suc k) r all is = passes_there rows k r (and-right (p x) _ all) is

  -- what passes at each place passes everywhere
  pub passes_all : (rows : List Row) → ((k : ℕ) (r : Row) → slice_get rows k ≡ Some r → p r ≡ true) → list_all p rows ≡ true
  passes_all [] each = refl
  passes_all (x ∷ rows) each = ap (λ b. b && list_all p rows) (each 0 x refl) ∙ passes_all rows (λ k r is. each (suc k) r is)

  abbrev fails_up_to : List Row → ℕ
  fails_up_to rows = prefix_len (λ r. not (p r)) rows

  fails_next : (r : Row) (rows : List Row) (b : Bool) (k : ℕ) → p r ≡ b → k < cond (not b) (1 + fails_up_to rows) 0 → ((k : ℕ) → k < fails_up_to rows → some_and (slice_get rows k) p ≡ false) → some_and (slice_get (r ∷ rows) k) p ≡ false
  fails_next r rows true k e lt rest = absurd (omega (arith, lt))
  fails_next r rows false zero e lt rest = e
  fails_next r rows false (suc k) e lt rest = rest k (omega (arith, lt))

  fails_before : (rows : List Row) (k : ℕ) → k < fails_up_to rows → some_and (slice_get rows k) p ≡ false
  fails_before [] k lt = refl
  fails_before (r ∷ rows) k lt = fails_next r rows (p r) k refl lt (fails_before rows)

  passes_next : (r : Row) (rows : List Row) (b : Bool) → p r ≡ b → cond (not b) (1 + fails_up_to rows) 0 < length (r ∷ rows) → (fails_up_to rows < length rows → some_and (slice_get rows (fails_up_to rows)) p ≡ true) → some_and (slice_get (r ∷ rows) (cond (not b) (1 + fails_up_to rows) 0)) p ≡ true
  passes_next r rows true e lt rest = e
  passes_next r rows false e lt rest =
      let next : 1 + fails_up_to rows ≡ suc (fails_up_to rows) = omega arith in
      rw next (rest (omega (arith, lt)))

  passes_at : (rows : List Row) → fails_up_to rows < length rows → some_and (slice_get rows (fails_up_to rows)) p ≡ true
  passes_at [] lt = absurd (omega (arith, lt))
  passes_at (r ∷ rows) lt = passes_next r rows (p r) refl lt (passes_at rows)

  first_at : (rows : List Row) (b : Bool) → nat_lt (fails_up_to rows) (length rows) ≡ b → fails_up_to rows ≤ length rows → IsFirst (λ k. some_and (slice_get rows k) p) (length rows) (cond b (Some (fails_up_to rows)) None)
  first_at rows true e le = (ltb-true (fails_up_to rows) (length rows) e, passes_at rows (ltb-true (fails_up_to rows) (length rows) e), fails_before rows)
  first_at rows false e le = λ k lt. let more = ltb-false (fails_up_to rows) (length rows) e in fails_before rows k (omega (arith, lt, more))

  within : (rows : List Row) → fails_up_to rows ≤ length rows
  within [] = omega arith
  within (r ∷ rows) = next (p r) (within rows)
    where
      next : (b : Bool) → fails_up_to rows ≤ length rows → cond (not b) (1 + fails_up_to rows) 0 ≤ length (r ∷ rows)
      next true le = omega arith
      next false le = omega (arith, le)

  -- `position` finds the first
  pub position_first : (rows : List Row) → IsFirst (λ k. some_and (slice_get rows k) p) (length rows) (position p rows)
  position_first rows = first_at rows (nat_lt (fails_up_to rows) (length rows)) refl (within rows)

not_false : (b : Bool) → not b ≡ false → b ≡ true
not_false true e = refl
not_false false e = absurd (true≢false e)

there : (rows : List Row) (k : ℕ) (r : Row) → slice_get rows k ≡ Some r → k < length rows
there [] k r is = absurd (none-some r is)
there (x ∷ rows) zero r is = omega arith
there (x ∷ rows) (suc k) r is = let lt = there rows k r is in omega (arith, lt)

-- all rows pass where none is found that doesn't
pub none_found_all : (p : Row → Bool) (rows : List Row) (o : Option ℕ) → IsFirst (λ k. some_and (slice_get rows k) (λ r. not (p r))) (length rows) o → is_none o ≡ list_all p rows
none_found_all p rows None first =
    sym (passes_all p rows (λ k r is. not_false (p r) (subst (λ o. some_and o (λ r. not (p r)) ≡ false) is (first k (there rows k r is)))))
none_found_all p rows (Some m) first = by (list_all p rows) refl
  where
    fails : (o : Option Row) → slice_get rows m ≡ o → list_all p rows ≡ true → some_and o (λ r. not (p r)) ≡ false
    fails None is all = refl
    fails (Some r) is all = ap not (passes_there p rows m r all is)

    by : (b : Bool) → list_all p rows ≡ b → false ≡ b
    by true all = absurd (true≢false (sym first.1 ∙ fails (slice_get rows m) refl all))
    by false all = refl

-- in rows that are nested in pairs none crosses one before it
pub nested_crosses_none : (rows : List Row) (k : ℕ) → all_nested rows ≡ true → crosses_at rows k ≡ false
nested_crosses_none [] k all = refl
nested_crosses_none (q ∷ rows) zero all = refl
nested_crosses_none (q ∷ rows) (suc k) all =
    by (slice_get rows k) refl (nested_crosses_none rows k (and-right (list_all (are_nested q) rows) _ all))
  where
    by : (o : Option Row) → slice_get rows k ≡ o → some_and o (crosses_one (take k rows)) ≡ false → some_and o (crosses_one (q ∷ take k rows)) ≡ false
    by None is rest = refl
    by (Some r) is rest =
        let own : are_nested r q ≡ true = nested_either_way r q ∙ passes_there (are_nested q) rows k r (and-left (list_all (are_nested q) rows) _ all) is in
        ap (λ b. not (b && list_all (are_nested r) (take k rows))) own ∙ rest

-- and rows of which none crosses one before it are nested in pairs
pub crosses_none_nested : (rows : List Row) → ((k : ℕ) → k < length rows → crosses_at rows k ≡ false) → all_nested rows ≡ true
crosses_none_nested [] none = refl
crosses_none_nested (q ∷ rows) none =
    ap (λ b. b && all_nested rows) (passes_all (are_nested q) rows around) ∙ crosses_none_nested rows (λ k lt. later k (slice_get rows k) (none (suc k) (omega (arith, lt))))
  where
    around : (k : ℕ) (r : Row) → slice_get rows k ≡ Some r → are_nested q r ≡ true
    around k r is =
        let here : some_and (slice_get rows k) (crosses_one (q ∷ take k rows)) ≡ false = none (suc k) (let lt = there rows k r is in omega (arith, lt)) in
        let own : not (are_nested r q && list_all (are_nested r) (take k rows)) ≡ false = subst (λ o. some_and o (crosses_one (q ∷ take k rows)) ≡ false) is here in
        nested_either_way q r ∙ and-left (are_nested r q) _ (not_false _ own)

    later : (k : ℕ) (o : Option Row) → some_and o (crosses_one (q ∷ take k rows)) ≡ false → some_and o (crosses_one (take k rows)) ≡ false
    later k None e = refl
    later k (Some r) e = ap not (and-right (are_nested r q) _ (not_false _ e))

-- the first crossing row is none of rows that are nested in pairs
pub no_crossing : (rows : List Row) (o : Option ℕ) → IsFirst (crosses_at rows) (length rows) o → is_none o ≡ all_nested rows
no_crossing rows None first = sym (crosses_none_nested rows first)
no_crossing rows (Some m) first = by (all_nested rows) refl
  where
    by : (b : Bool) → all_nested rows ≡ b → false ≡ b
    by true all = absurd (true≢false (sym first.1 ∙ nested_crosses_none rows m all))
    by false all = refl

or_either : (a b : Bool) → (a ≡ true) ⊎ (b ≡ true) → (a || b) ≡ true
or_either true b h = refl
or_either false b h = ⊎_elim (λ e. absurd (true≢false (sym e))) (λ e. e) h

neither : (a b : Bool) → a ≡ false → b ≡ false → (a || b) ≡ false
neither true b e f = e
neither false b e f = f

-- the first of two tests' firsts is the first that passes either
pub first_of_either : (s t : ℕ → Bool) (n : ℕ) (a b : Option ℕ) → IsFirst s n a → IsFirst t n b → IsFirst (λ k. s k || t k) n (lesser_of a b)
first_of_either s t n None None h i = λ k lt. neither (s k) (t k) (h k lt) (i k lt)
first_of_either s t n None (Some m) h i =
    (i.0, or_either (s m) (t m) (inr i.1), λ k lt. let less = i.0 in neither (s k) (t k) (h k (omega (arith, lt, less))) (i.2 k lt))
first_of_either s t n (Some m) None h i =
    (h.0, or_either (s m) (t m) (inl h.1), λ k lt. let less = h.0 in neither (s k) (t k) (h.2 k lt) (i k (omega (arith, lt, less))))
first_of_either s t n (Some m) (Some l) h i = ⊎_elim
    (λ le.
    let same : min m l ≡ m = omega (arith, le) in
    let less = h.0 in
    rw same (h.0, or_either (s m) (t m) (inl h.1), λ k lt. neither (s k) (t k) (h.2 k lt) (i.2 k (omega (arith, lt, le)))))
    (λ le.
    let same : min m l ≡ l = omega (arith, le) in
    let less = i.0 in
    rw same (i.0, or_either (s l) (t l) (inr i.1), λ k lt. neither (s k) (t k) (h.2 k (omega (arith, lt, le))) (i.2 k lt)))
    (either_le m l)
  where
    either_le : (m l : ℕ) → (m ≤ l) ⊎ (l ≤ m)
    either_le m l = ⊎_elim (λ h. inl h.1) (λ h. let more = h.1 in inr (omega (arith, more))) (leb_tells m l)

-- a row is broken by itself or crosses one before it
module _ (ends : List ℕ) (rows : List Row) where
  abbrev outside_at : ℕ → Bool
  outside_at k = some_and (slice_get rows k) (λ r. not (is_within_one ends r))

  by_two : (k : ℕ) (o : Option Row) → (some_and o (λ r. not (is_within_one ends r)) || some_and o (crosses_one (take k rows))) ≡ some_and o (λ r. not (is_within_one ends r) || crosses_one (take k rows) r)
  by_two k None = refl
  by_two k (Some r) = refl

  pub first_of_broken : (a b : Option ℕ) → a ≡ position (λ r. not (is_within_one ends r)) rows → IsFirst (crosses_at rows) (length rows) b → IsFirst (is_broken_at ends rows) (length rows) (lesser_of a b)
  first_of_broken a b is first =
      subst (λ t. IsFirst t (length rows) (lesser_of a b)) (λ j k. by_two k (slice_get rows k) j)
      (first_of_either outside_at (crosses_at rows) (length rows) a b (subst (IsFirst outside_at (length rows)) (sym is) (position_first (λ r. not (is_within_one ends r)) rows)) first)

  none_of_two : (a b : Option ℕ) → is_none (lesser_of a b) ≡ (is_none a && is_none b)
  none_of_two None None = refl
  none_of_two None (Some n) = refl
  none_of_two (Some m) None = refl
  none_of_two (Some m) (Some n) = refl

  pub none_broken : (a b : Option ℕ) → a ≡ position (λ r. not (is_within_one ends r)) rows → is_none b ≡ all_nested rows → is_none (lesser_of a b) ≡ are_sound ends rows
  none_broken a b is none =
      none_of_two a b
      ∙ (λ j. none_found_all (is_within_one ends) rows a (subst (IsFirst outside_at (length rows)) (sym is) (position_first (λ r. not (is_within_one ends r)) rows)) j && none j)
