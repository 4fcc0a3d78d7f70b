-- Rows in the order of their widths: the first of them that takes an exception is the innermost row.
use Rattle.std.proofs.Common.{rules, ◌≡◌, ℕ, zero, suc, ◌≤◌, ◌<◌, List, [], ◌∷◌, Bool, true, false, cond, ◌&&◌, nat_eq, nat_le, Option, Some, None, arith, refl, sym, ap, ◌∙◌, subst, IsPermutation}
use Rattle.std.specs.List.{Contains, filter, find}
use Rattle.std.specs.List.Sorted.{IsNonDecreasingBy, IsStableByKey, ties}
use Rattle.std.specs.Ordering.{is_lt, nat_cmp}
use Rattle.std.proofs.lemmas.Bool.{leb-true, true≢false}
use Rattle.std.proofs.lemmas.Bool.Decides.{leb_tells}
use Rattle.std.proofs.lemmas.List.Sorted.{Contains-permutation, IsNonDecreasingBy-drop, IsPermutation-sym, sum_by-IsPermutation}
use Rattle.std.proofs.lemmas.Option.{none-some, same_Some}
use Rattle.handlers.specs.declared.rows.Row.{Row}
use Rattle.handlers.specs.Innermost.{covers, inner_of, innermost, width}
use Rattle.handlers.specs.Laws.{takes}
use Rattle.handlers.specs.Searching.{AreEdges, AreByWidth, starts_and_ends}
use Rattle.handlers.proofs.Elements.{first_in, later_in}
use Rattle.handlers.proofs.Pieces.{end_in, start_in}

-- the rows as wide as this one
abbrev as_wide : Row → Row → Bool
as_wide = ties (λ x y. is_lt (nat_cmp (width x) (width y)))

alike : (r q : Row) → as_wide r q ≡ nat_eq (width r) (width q)
alike r q = search rules

-- ---- what is found in a list

module _ {X : Type 0} (test : X → Bool) where
  not_found : (xs : List X) → find test xs ≡ None → (x : X) → Contains xs x → test x ≡ false
  not_found [] none x (k, low, is) = absurd (omega (arith, low))
  not_found (y ∷ xs) none x has = by (λ e. not_found xs e x) (test y) refl none has
    where
      by : (find test xs ≡ None → Contains xs x → test x ≡ false) → (b : Bool) → test y ≡ b → cond b (Some y) (find test xs) ≡ None → Contains (y ∷ xs) x → test x ≡ false
      by rest true does e has = absurd (none-some y (sym e))
      by rest false isnt e (zero, low, is) = ap test (sym is) ∙ isnt
      by rest false isnt e (suc k, low, is) = rest e (k, omega (arith, low), is)

  is_found : (xs : List X) (x : X) → find test xs ≡ Some x → Contains xs x × (test x ≡ true)
  is_found [] x is = absurd (none-some x is)
  is_found (y ∷ xs) x is = by (is_found xs x) (test y) refl is
    where
      by : (find test xs ≡ Some x → Contains xs x × (test x ≡ true)) → (b : Bool) → test y ≡ b → cond b (Some y) (find test xs) ≡ Some x → Contains (y ∷ xs) x × (test x ≡ true)
      by rest true does e = let same : y ≡ x = same_Some _ _ e in (subst (Contains (y ∷ xs)) same (first_in y xs), ap test (sym same) ∙ does)
      by rest false isnt e = (later_in y x xs (rest e).0, (rest e).1)

  -- it is also the first of those that pass another test, if it does
  found_also : (more : X → Bool) (xs : List X) (x : X) → find test xs ≡ Some x → more x ≡ true → find (λ y. test y && more y) xs ≡ Some x
  found_also more [] x is too = absurd (none-some x is)
  found_also more (y ∷ xs) x is too = by (λ e. found_also more xs x e too) (test y) refl is
    where
      by : (find test xs ≡ Some x → find (λ z. test z && more z) xs ≡ Some x) → (b : Bool) → test y ≡ b → cond b (Some y) (find test xs) ≡ Some x → cond (test y && more y) (Some y) (find (λ z. test z && more z) xs) ≡ Some x
      by rest true does e =
          let same : y ≡ x = same_Some _ _ e in
          ap (λ b. cond (b && more y) (Some y) (find (λ z. test z && more z) xs)) does ∙ (ap (λ b. cond b (Some y) (find (λ z. test z && more z) xs)) (ap more same ∙ too) ∙ e)
      by rest false isnt e = ap (λ b. cond (b && more y) (Some y) (find (λ z. test z && more z) xs)) isnt ∙ rest e

  found_among : (more : X → Bool) (xs : List X) → find (λ y. test y && more y) xs ≡ find test (filter more xs)
  found_among more [] = refl
  found_among more (y ∷ xs) = by (found_among more xs) (more y) refl (test y) refl
    where
      by : find (λ z. test z && more z) xs ≡ find test (filter more xs) → (a : Bool) → more y ≡ a → (b : Bool) → test y ≡ b → find (λ z. test z && more z) (y ∷ xs) ≡ find test (filter more (y ∷ xs))
      by rest true does true too =
          ap (λ c. cond c (Some y) (find (λ z. test z && more z) xs)) (ap (λ c. c && more y) too ∙ does)
          ∙ sym (ap (λ c. find test (cond c (y ∷ filter more xs) (filter more xs))) does ∙ ap (λ c. cond c (Some y) (find test (filter more xs))) too)
      by rest true does false not =
          ap (λ c. cond (c && more y) (Some y) (find (λ z. test z && more z) xs)) not
          ∙ (rest ∙ sym (ap (λ c. find test (cond c (y ∷ filter more xs) (filter more xs))) does ∙ ap (λ c. cond c (Some y) (find test (filter more xs))) not))
      by rest false not true too =
          ap (λ c. cond c (Some y) (find (λ z. test z && more z) xs)) (ap (λ c. c && more y) too ∙ not)
          ∙ (rest ∙ sym (ap (λ c. find test (cond c (y ∷ filter more xs) (filter more xs))) not))
      by rest false not false isnt =
          ap (λ c. cond (c && more y) (Some y) (find (λ z. test z && more z) xs)) isnt
          ∙ (rest ∙ sym (ap (λ c. find test (cond c (y ∷ filter more xs) (filter more xs))) not))

-- in a list that rises none of those that pass is less
least_first : (test : Row → Bool) (xs : List Row) (x q : Row) → IsNonDecreasingBy width xs → find test xs ≡ Some x → Contains xs q → test q ≡ true → width x ≤ width q
least_first test [] x q rising is has too = absurd (none-some x is)
least_first test (y ∷ xs) x q rising is has too = by (λ e k. least_first test xs x q (IsNonDecreasingBy-drop width 1 (y ∷ xs) rising) e k too) (test y) refl is has
  where
    by : (find test xs ≡ Some x → Contains xs q → width x ≤ width q) → (b : Bool) → test y ≡ b → cond b (Some y) (find test xs) ≡ Some x → Contains (y ∷ xs) q → width x ≤ width q
    by rest true does e has = subst (λ z. width z ≤ width q) (same_Some _ _ e) (subst (λ z. width y ≤ width z) has.2 (rising 0 has.0 q (omega arith) has.1))
    by rest false isnt e (zero, low, same) = absurd (true≢false (sym too ∙ (ap test (sym same) ∙ isnt)))
    by rest false isnt e (suc k, low, same) = rest e (k, omega (arith, low), same)

-- ---- the innermost row

module _ (place x : ℕ) where
  abbrev pub fits : Row → Bool
  fits = takes place x

  found_none : (rows : List Row) → ((r : Row) → Contains rows r → fits r ≡ false) → innermost rows place x ≡ None
  found_none [] none = refl
  found_none (r ∷ rows) none =
      ap (λ b. cond b (Some (inner_of r (innermost rows place x))) (innermost rows place x)) (none r (first_in r rows)) ∙ found_none rows (λ s has. none s (later_in r s rows has))

  none_fits : (rows : List Row) → innermost rows place x ≡ None → (q : Row) → Contains rows q → fits q ≡ false
  none_fits [] none q (k, low, is) = absurd (omega (arith, low))
  none_fits (r ∷ rows) none q has = by (λ e. none_fits rows e q) (fits r) refl none has
    where
      by : (innermost rows place x ≡ None → Contains rows q → fits q ≡ false) → (b : Bool) → fits r ≡ b → cond b (Some (inner_of r (innermost rows place x))) (innermost rows place x) ≡ None → Contains (r ∷ rows) q → fits q ≡ false
      by rest true does e has = absurd (none-some (inner_of r (innermost rows place x)) (sym e))
      by rest false isnt e (zero, low, is) = ap fits (sym is) ∙ isnt
      by rest false isnt e (suc k, low, is) = rest e (k, omega (arith, low), is)

  -- the narrowest of those that take the exception, and the first of those that are as wide
  pub record IsInnermost (rows : List Row) (m : Row) : Type 0 where
    pub has : Contains rows m
    pub fits_it : fits m ≡ true
    pub least : (q : Row) → Contains rows q → fits q ≡ true → width m ≤ width q
    pub first : (wide : Row → Bool) → ((q : Row) → wide q ≡ nat_eq (width m) (width q)) → find (λ q. fits q && wide q) rows ≡ Some m

  -- by whether the first row fits, and which one is found behind it
  one_more : (r : Row) (rows : List Row) (m : Row) → ((n : Row) → innermost rows place x ≡ Some n → IsInnermost rows n)
      → (b : Bool) → fits r ≡ b → (o : Option Row) → innermost rows place x ≡ o → cond b (Some (inner_of r o)) o ≡ Some m → IsInnermost (r ∷ rows) m
  one_more r rows m behind false isnt o inner is =
      let rest = behind m (inner ∙ is) in
      record {
        has = later_in r m rows rest.has;
        fits_it = rest.fits_it;
        least = λ q has too. least rest q has too;
        first = λ wide same. ap (λ b. cond (b && wide r) (Some r) (find (λ q. fits q && wide q) rows)) isnt ∙ rest.first wide same;
      }
    where
      least : IsInnermost rows m → (q : Row) → Contains (r ∷ rows) q → fits q ≡ true → width m ≤ width q
      least rest q (zero, low, same) too = absurd (true≢false (sym too ∙ (ap fits (sym same) ∙ isnt)))
      least rest q (suc k, low, same) too = rest.least q (k, omega (arith, low), same) too
  one_more r rows m behind true does None inner is =
      let same : r ≡ m = same_Some _ _ is in
      subst (IsInnermost (r ∷ rows)) same
      (record {
        has = first_in r rows;
        fits_it = does;
        least = λ q has too. least q has too;
        first = λ wide same. ap (λ b. cond (b && wide r) (Some r) (find (λ q. fits q && wide q) rows)) does ∙ ap (λ b. cond b (Some r) (find (λ q. fits q && wide q) rows)) (same r ∙ itself (width r));
      })
    where
      itself : (n : ℕ) → nat_eq n n ≡ true
      itself n = grind arith

      least : (q : Row) → Contains (r ∷ rows) q → fits q ≡ true → width r ≤ width q
      least q (zero, low, same) too = subst (λ z. width r ≤ width z) same (omega arith)
      least q (suc k, low, same) too = absurd (true≢false (sym too ∙ none_fits rows inner q (k, omega (arith, low), same)))
  one_more r rows m behind true does (Some s) inner is = by (nat_le (width r) (width s)) refl is
    where
      rest : IsInnermost rows s
      rest = behind s inner

      itself : (n : ℕ) → nat_eq n n ≡ true
      itself n = grind arith

      by : (c : Bool) → nat_le (width r) (width s) ≡ c → Some (cond c r s) ≡ Some m → IsInnermost (r ∷ rows) m
      by true narrow e =
          subst (IsInnermost (r ∷ rows)) (same_Some _ _ e)
          (record {
            has = first_in r rows;
            fits_it = does;
            least = λ q has too. least q has too;
            first = λ wide same. ap (λ b. cond (b && wide r) (Some r) (find (λ q. fits q && wide q) rows)) does ∙ ap (λ b. cond b (Some r) (find (λ q. fits q && wide q) rows)) (same r ∙ itself (width r));
          })
        where
          least : (q : Row) → Contains (r ∷ rows) q → fits q ≡ true → width r ≤ width q
          least q (zero, low, same) too = subst (λ z. width r ≤ width z) same (omega arith)
          least q (suc k, low, same) too = omega (arith, leb-true _ _ narrow, rest.least q (k, omega (arith, low), same) too)
      by false wider e =
          subst (IsInnermost (r ∷ rows)) (same_Some _ _ e)
          (record {
            has = later_in r s rows rest.has;
            fits_it = rest.fits_it;
            least = λ q has too. least q has too;
            first = λ wide same. ap (λ b. cond (b && wide r) (Some r) (find (λ q. fits q && wide q) rows)) does ∙ (ap (λ b. cond b (Some r) (find (λ q. fits q && wide q) rows)) (same r ∙ differs) ∙ rest.first wide same);
          })
        where
          less : width s < width r
          less = grind (arith, leb_tells, wider)

          differs : nat_eq (width s) (width r) ≡ false
          differs = grind (arith, less)

          least : (q : Row) → Contains (r ∷ rows) q → fits q ≡ true → width s ≤ width q
          least q (zero, low, same) too = subst (λ z. width s ≤ width z) same (omega (arith, less))
          least q (suc k, low, same) too = rest.least q (k, omega (arith, low), same) too

  pub innermost_is : (rows : List Row) (m : Row) → innermost rows place x ≡ Some m → IsInnermost rows m
  innermost_is [] m is = absurd (none-some m is)
  innermost_is (r ∷ rows) m is = one_more r rows m (innermost_is rows) (fits r) refl (innermost rows place x) refl is

  module _ (rows ordered : List Row) (moved : IsPermutation rows ordered) (rising : IsNonDecreasingBy width ordered) (stable : IsStableByKey width nat_cmp rows ordered) where
    back : (r : Row) → Contains ordered r → Contains rows r
    back r has = Contains-permutation ordered rows r (IsPermutation-sym rows ordered moved) has

    same_one : (r m : Row) → find fits ordered ≡ Some r → innermost rows place x ≡ Some m → innermost rows place x ≡ find fits ordered
    same_one r m found is =
        let own = innermost_is rows m is in
        let there = is_found fits ordered r found in
        let low : width m ≤ width r = own.least r (back r there.0) there.1 in
        let high : width r ≤ width m = least_first fits ordered r m rising found (Contains-permutation rows ordered m moved own.has) own.fits_it in
        let equal : nat_eq (width m) (width r) ≡ true = grind (arith, low, high) in
        let wide : find (λ q. fits q && as_wide m q) ordered ≡ Some r = found_also fits (as_wide m) ordered r found (alike m r ∙ equal) in
        let same : find (λ q. fits q && as_wide m q) rows ≡ find (λ q. fits q && as_wide m q) ordered =
        found_among fits (as_wide m) rows ∙ (ap (find fits) (sym (stable m)) ∙ sym (found_among fits (as_wide m) ordered)) in
        is ∙ (sym (own.first (as_wide m) (alike m)) ∙ (same ∙ (wide ∙ sym found)))

    pub chosen : innermost rows place x ≡ find fits ordered
    chosen = by (find fits ordered) refl (innermost rows place x) refl
      where
        by : (o : Option Row) → find fits ordered ≡ o → (p : Option Row) → innermost rows place x ≡ p → innermost rows place x ≡ find fits ordered
        by None none p is = found_none rows (λ r has. not_found fits ordered none r (Contains-permutation rows ordered r moved has)) ∙ sym none
        by (Some r) found None none =
            let there = is_found fits ordered r found in
            absurd (true≢false (sym there.1 ∙ none_fits rows none r (back r there.0)))
        by (Some r) found (Some m) is = same_one r m found is

-- edges of the same rows
carried : (xs ys : List Row) → ((r : Row) → Contains xs r → Contains ys r) → (e : ℕ) → Contains (starts_and_ends xs) e → Contains (starts_and_ends ys) e
carried [] ys of e (k, low, is) = absurd (omega (arith, low))
carried (x ∷ xs) ys of e (zero, low, is) = subst (Contains (starts_and_ends ys)) is (start_in ys x (of x (first_in x xs)))
carried (x ∷ xs) ys of e (suc zero, low, is) = subst (Contains (starts_and_ends ys)) is (end_in ys x (of x (first_in x xs)))
carried (x ∷ xs) ys of e (suc (suc k), low, is) = carried xs ys (λ r has. of r (later_in x r xs has)) e (k, omega (arith, low), is)

module _ (rows ordered : List Row) (moved : IsPermutation rows ordered) where
  pub edges_of_both : (edges : List ℕ) → AreEdges ordered edges → AreEdges rows edges
  edges_of_both edges are = record {
    rising = are.rising;
    all = λ e has. are.all e (carried rows ordered (λ r. Contains-permutation rows ordered r moved) e has);
    only = λ e has. carried ordered rows (λ r. Contains-permutation ordered rows r (IsPermutation-sym rows ordered moved)) e (are.only e has);
  }

  pub in_order : IsNonDecreasingBy width ordered → IsStableByKey width nat_cmp rows ordered → AreByWidth rows ordered
  in_order rising stable = record {
    chosen = λ place x. chosen place x rows ordered moved rising stable;
    many = λ place. sum_by-IsPermutation (λ r. cond (covers place r) 1 0) rows ordered moved;
    edged = edges_of_both;
  }
