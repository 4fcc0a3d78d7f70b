-- Lists of places and of trees.
use Rattle.std.proofs.Common.{◌≡◌, ℕ, zero, suc, ◌+◌, ◌<◌, ◌≤◌, ◌++◌, List, [], ◌∷◌, length, map, take, true, false, Some, refl, sym, ap, ◌∙◌, arith, rules, Bool, ◌||◌, ◌⊎◌, inl, inr}
use Rattle.std.specs.Prelude.{get_or, nat_eq, slice_get}
use Rattle.std.proofs.Math.Seq.{take-suc}

-- ---- lists

pub mapped_next : {A B : Type 0} (f : A → B) (all : List A) (n : ℕ) (x : A) → n < length all → x ≡ get_or all n x
    → map f (take (n + 1) all) ≡ map f (take n all) ++ f x ∷ []
mapped_next f all n x less is =
    let more : n + 1 ≡ suc n = omega arith in
    ap (λ m. map f (take m all)) more ∙ ap (map f) (take-suc all n x less) ∙ last (take n all) (get_or all n x) ∙ ap (λ y. map f (take n all) ++ f y ∷ []) (sym is)
  where
    last : (xs : List _) (y : _) → map f (xs ++ y ∷ []) ≡ map f xs ++ f y ∷ []
    last [] y = refl
    last (z ∷ xs) y = ap (λ l. f z ∷ l) (last xs y)

pub take_all : {A : Type 0} (xs : List A) (n : ℕ) → length xs ≤ n → take n xs ≡ xs
take_all [] zero up = refl
take_all [] (suc n) up = refl
take_all (x ∷ xs) zero up = absurd (omega (arith, up))
take_all (x ∷ xs) (suc n) up = ap (λ l. x ∷ l) (take_all xs n (omega (arith, up)))

pub shorter : {X : Type 0} (xs : List X) (k : ℕ) (x : X) → slice_get xs k ≡ Some x → k < length xs
shorter [] k x h = absurd cc
shorter (y ∷ xs) zero x h = omega arith
shorter (y ∷ xs) (suc k) x h = let below = shorter xs k x h in omega (arith, below)

pub some_same : {X : Type 0} (x y : X) → Some x ≡ Some y → x ≡ y
some_same x y e = cc

pub same_self : (n : ℕ) → nat_eq n n ≡ true
same_self zero = refl
same_self (suc n) = search rules

pub append_again : {X : Type 0} (xs ys zs : List X) → (xs ++ ys) ++ zs ≡ xs ++ (ys ++ zs)
append_again [] ys zs = refl
append_again (x ∷ xs) ys zs = ap (λ l. x ∷ l) (append_again xs ys zs)

pub append_none : {X : Type 0} (xs : List X) → xs ++ [] ≡ xs
append_none [] = refl
append_none (x ∷ xs) = ap (λ l. x ∷ l) (append_none xs)

pub one_of : (a b : Bool) → (a || b) ≡ true → (a ≡ true) ⊎ (b ≡ true)
one_of true b e = inl refl
one_of false b e = inr e
