-- Laws of the tests that rules are made of, for proofs here and above: what a test of all elements, of an option, of subprograms from a place on says.
use Rattle.std.proofs.Common.{◌≡◌, ℕ, zero, suc, ◌+◌, ◌<◌, ◌≤◌, List, [], ◌∷◌, length, drop, get_or, Bool, true, false, cond, not, ◌||◌, Option, Some, None, refl, sym, ap, ◌∙◌, subst}
use Rattle.std.proofs.Math.Nat.{add-suc, add-zero, not-suc-le-zero, suc-add, zero-add}
use Rattle.std.proofs.Math.Seq.{drop-cons}
use Rattle.std.proofs.Math.Numerals.{suc-eq-add-one}
use Rattle.std.proofs.lemmas.Bool.{and_parts, le-ltb, lt-ltb, true≢false}
use Rattle.std.proofs.lemmas.Option.{none-some, same_Some, slice_get-get_or}
use Rattle.std.specs.Prelude.{nat_lt, slice_get}
use Rattle.std.specs.List.{list_all}
use Rattle.image.specs.Sections.{end_of, holder}
use Rattle.image.specs.Rules.{all_begun, all_placed, none_or, some_and}
use Rattle.image.specs.declared.subprograms.Subprogram.{Subprogram}

-- a test that is asked only where another holds
pub either : (a b : Bool) → (not a || b) ≡ true → a ≡ true → b ≡ true
either true b e is = e
either false b e is = absurd (true≢false (sym is))

-- options

pub some_and-true : {X : Type 0} (o : Option X) (test : X → Bool) → some_and o test ≡ true → (x : X) × (o ≡ Some x) × (test x ≡ true)
some_and-true None test e = absurd (true≢false (sym e))
some_and-true (Some x) test e = (x, refl, e)

pub some_and-at : {X : Type 0} (o : Option X) (test : X → Bool) (x : X) → o ≡ Some x → some_and o test ≡ true → test x ≡ true
some_and-at o test x is e = subst (λ v. some_and v test ≡ true) is e

pub none_or-at : {X : Type 0} (o : Option X) (test : X → Bool) (x : X) → o ≡ Some x → none_or o test ≡ true → test x ≡ true
none_or-at o test x is e = subst (λ v. none_or v test ≡ true) is e

-- all elements

one_later : (p n : ℕ) → (p + 1) + n ≡ p + suc n
one_later p n = sym (ap (λ m. m + n) (suc-eq-add-one p)) ∙ (suc-add p n ∙ sym (add-suc p n))

pub all_placed-at : {X : Type 0} (test : ℕ → X → Bool) (xs : List X) (p n : ℕ) (x : X) → all_placed test p xs ≡ true → slice_get xs n ≡ Some x
    → test (p + n) x ≡ true
all_placed-at test [] p n x all is = absurd (none-some x is)
all_placed-at test (y ∷ xs) p zero x all is =
    subst (λ m. test m x ≡ true) (sym (add-zero p)) (subst (λ v. test p v ≡ true) (same_Some y x is) (and_parts (test p y) _ all).0)
all_placed-at test (y ∷ xs) p (suc n) x all is = subst (λ m. test m x ≡ true) (one_later p n)
    (all_placed-at test xs (p + 1) n x (and_parts (test p y) _ all).1 is)

pub placed-at : {X : Type 0} (test : ℕ → X → Bool) (xs : List X) (n : ℕ) (x : X) → all_placed test 0 xs ≡ true → slice_get xs n ≡ Some x → test n x ≡ true
placed-at test xs n x all is = subst (λ m. test m x ≡ true) (zero-add n) (all_placed-at test xs 0 n x all is)

pub list_all-at : {X : Type 0} (test : X → Bool) (xs : List X) (n : ℕ) (x : X) → list_all test xs ≡ true → slice_get xs n ≡ Some x → test x ≡ true
list_all-at test [] n x all is = absurd (none-some x is)
list_all-at test (y ∷ xs) zero x all is = subst (λ v. test v ≡ true) (same_Some y x is) (and_parts (test y) _ all).0
list_all-at test (y ∷ xs) (suc n) x all is = list_all-at test xs n x (and_parts (test y) _ all).1 is

-- an element stands at each place below the length
pub slice_get_inside : {X : Type 0} (xs : List X) (n : ℕ) → n < length xs → (x : X) × (slice_get xs n ≡ Some x)
slice_get_inside [] n lt = absurd (not-suc-le-zero lt)
slice_get_inside (x ∷ xs) n lt = (get_or (x ∷ xs) n x, slice_get-get_or (x ∷ xs) n x lt)

-- a list from a place on is the element there and the list from the next place on
pub drop-next : {X : Type 0} → (xs : List X) (p : ℕ) (d : X) → p < length xs → drop p xs ≡ get_or xs p d ∷ drop (p + 1) xs
drop-next xs p d h = subst (λ n. drop p xs ≡ get_or xs p d ∷ drop n xs) (suc-eq-add-one p) (drop-cons xs p d h)

-- subprograms from a place on: where the one with this number begins, and that they rise

abbrev pub begin_of : ℕ → List Subprogram → ℕ → ℕ
begin_of first subprograms zero = first
begin_of first subprograms (suc n) = end_of (slice_get subprograms n)

pub begin_of-next : (first n : ℕ) (s : Subprogram) (subprograms : List Subprogram) → begin_of first (s ∷ subprograms) (suc n) ≡ begin_of s.end_ subprograms n
begin_of-next first zero s subprograms = refl
begin_of-next first (suc n) s subprograms = refl

pub all_begun-at : (test : ℕ → Subprogram → Bool) (subprograms : List Subprogram) (first n : ℕ) (s : Subprogram) → all_begun test first subprograms ≡ true
    → slice_get subprograms n ≡ Some s → test (begin_of first subprograms n) s ≡ true
all_begun-at test [] first n s all is = absurd (none-some s is)
all_begun-at test (x ∷ subprograms) first zero s all is = subst (λ v. test first v ≡ true) (same_Some x s is) (and_parts (test first x) _ all).0
all_begun-at test (x ∷ subprograms) first (suc n) s all is =
    subst (λ p. test p s ≡ true) (sym (begin_of-next first n x subprograms)) (all_begun-at test subprograms x.end_ n s (and_parts (test first x) _ all).1 is)

abbrev pub rises : ℕ → Subprogram → Bool
rises first s = nat_lt first s.end_

pub holder_here : (s : Subprogram) (subprograms : List Subprogram) (p : ℕ) → p < s.end_ → holder (s ∷ subprograms) p ≡ Some s
holder_here s subprograms p lt = ap (λ b. cond b (Some s) (holder subprograms p)) (lt-ltb p s.end_ lt)

pub holder_later : (s : Subprogram) (subprograms : List Subprogram) (p : ℕ) → s.end_ ≤ p → holder (s ∷ subprograms) p ≡ holder subprograms p
holder_later s subprograms p le = ap (λ b. cond b (Some s) (holder subprograms p)) (le-ltb p s.end_ le)
