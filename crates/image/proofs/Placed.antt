-- Tests of a list from a place on, a step at a time.
use Rattle.std.proofs.Common.{◌≡◌, ℕ, ◌+◌, ◌<◌, ◌≤◌, List, [], ◌∷◌, length, drop, get_or, Bool, true, false, ◌&&◌, sym, ◌∙◌, subst}
use Rattle.std.proofs.Math.ListN.{drop_of_length-le}
use Rattle.image.specs.RuleLaws.{drop-next}
use Rattle.image.specs.Rules.{all_begun, all_placed}
use Rattle.image.specs.declared.subprograms.Subprogram.{Subprogram}
use Rattle.image.specs.declared.subprograms.Kind.TheVariants.{Plain}

module _ {X : Type 0} (test : ℕ → X → Bool) (xs : List X) (whole : Bool) (p : ℕ) (left : all_placed test p (drop p xs) ≡ whole) (ys : List X) (same : ys ≡ xs) (d : X) (within : p < length ys) where
  first_apart : (test p (get_or ys p d) && all_placed test (p + 1) (drop (p + 1) xs)) ≡ whole
  first_apart =
      let inside : p < length xs = subst (λ v. p < length v) same within in
      let next : drop p xs ≡ get_or ys p d ∷ drop (p + 1) xs = rw same (drop-next xs p d inside) in
      subst (λ v. all_placed test p v ≡ whole) next left

  -- the first of what is left passes the test: the others decide
  pub all_placed-passed : (b : Bool) → b ≡ test p (get_or ys p d) → b ≡ true → all_placed test (p + 1) (drop (p + 1) xs) ≡ whole
  all_placed-passed b is e =
      let passes : test p (get_or ys p d) ≡ true = sym is ∙ e in
      rw passes at first_apart

  -- it fails: so does the whole
  pub all_placed-failed : (b : Bool) → b ≡ test p (get_or ys p d) → b ≡ false → false ≡ whole
  all_placed-failed b is e =
      let fails : test p (get_or ys p d) ≡ false = sym is ∙ e in
      rw fails at first_apart

-- what is left where all have passed
pub all_placed-done : {X : Type 0} (test : ℕ → X → Bool) (xs : List X) (whole : Bool) (p : ℕ) → all_placed test p (drop p xs) ≡ whole → (ys : List X) → ys ≡ xs → length ys ≤ p → true ≡ whole
all_placed-done test xs whole p left ys same past =
    let none : drop p xs ≡ [] = drop_of_length-le xs (subst (λ v. length v ≤ p) same past) in
    subst (λ v. all_placed test p v ≡ whole) none left

module _ (test : ℕ → Subprogram → Bool) (xs : List Subprogram) (whole : Bool) (first p : ℕ) (left : all_begun test first (drop p xs) ≡ whole) (ys : List Subprogram) (same : ys ≡ xs) (d : Subprogram) (within : p < length ys) where
  begun_apart : (test first (get_or ys p d) && all_begun test (get_or ys p d).end_ (drop (p + 1) xs)) ≡ whole
  begun_apart =
      let inside : p < length xs = subst (λ v. p < length v) same within in
      let next : drop p xs ≡ get_or ys p d ∷ drop (p + 1) xs = rw same (drop-next xs p d inside) in
      subst (λ v. all_begun test first v ≡ whole) next left

  -- the next subprogram passes the test: the others decide
  pub all_begun-passed : test first (get_or ys p d) ≡ true → all_begun test (get_or ys p d).end_ (drop (p + 1) xs) ≡ whole
  all_begun-passed e = rw e at begun_apart

  -- it fails: so does the whole
  pub all_begun-failed : test first (get_or ys p d) ≡ false → false ≡ whole
  all_begun-failed e = rw e at begun_apart

pub all_begun-done : (test : ℕ → Subprogram → Bool) (xs : List Subprogram) (whole : Bool) (first p : ℕ) → all_begun test first (drop p xs) ≡ whole → (ys : List Subprogram) → ys ≡ xs → length ys ≤ p → true ≡ whole
all_begun-done test xs whole first p left ys same past =
    let none : drop p xs ≡ [] = drop_of_length-le xs (subst (λ v. length v ≤ p) same past) in
    subst (λ v. all_begun test first v ≡ whole) none left

pub no_subprogram : Subprogram
no_subprogram = record { kind = Plain; end_ = 0; parameters = 0; results = 0; locals = 0; stack = 0 }
