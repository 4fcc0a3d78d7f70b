-- Lists whose first elements are taken one by one.
use Rattle.std.proofs.Common.{◌≡◌, ℕ, zero, suc, ◌+◌, ◌<◌, ◌≤◌, List, [], ◌∷◌, ◌++◌, length, map, take, refl, sym, ap, ◌∙◌, arith}
use Rattle.std.specs.Prelude.{get_or}
use Rattle.std.proofs.Math.Seq.{take-suc}

pub taken_next : {A : Type 0} (all : List A) (n : ℕ) (x : A) → n < length all → x ≡ get_or all n x → take (n + 1) all ≡ take n all ++ x ∷ []
taken_next all n x less is =
    let more : n + 1 ≡ suc n = omega arith in
    ap (λ m. take m all) more ∙ take-suc all n x less ∙ ap (λ y. take n all ++ y ∷ []) (sym is)

pub map_both : {A B : Type 0} (f : A → B) (xs ys : List A) → map f (xs ++ ys) ≡ map f xs ++ map f ys
map_both f [] ys = refl
map_both f (x ∷ xs) ys = ap (λ l. f x ∷ l) (map_both f xs ys)

pub mapped_next : {A B : Type 0} (f : A → B) (all : List A) (n : ℕ) (x : A) → n < length all → x ≡ get_or all n x → map f (take (n + 1) all) ≡ map f (take n all) ++ f x ∷ []
mapped_next f all n x less is = ap (map f) (taken_next all n x less is) ∙ map_both f (take n all) (x ∷ [])

pub take_all : {A : Type 0} (xs : List A) (n : ℕ) → length xs ≤ n → take n xs ≡ xs
take_all [] zero up = refl
take_all [] (suc n) up = refl
take_all (x ∷ xs) zero up = absurd (omega (arith, up))
take_all (x ∷ xs) (suc n) up = ap (λ l. x ∷ l) (take_all xs n (omega (arith, up)))
