-- Lists that are copied one element after the other.
use Rattle.std.proofs.Common.{◌≡◌, ℕ, zero, suc, ◌+◌, ◌<◌, ◌≤◌, List, [], ◌∷◌, length, length-set, map, set, take, get_or, refl, ap, subst, sym, ◌∙◌, arith, rules}
use Rattle.std.proofs.lemmas.List.{length-map, take_all}

more : {A : Type 0} (n : ℕ) (xs ys : List A) (d : A) → n < length xs → n < length ys → take n xs ≡ take n ys → take (suc n) (set xs n (get_or ys n d)) ≡ take (suc n) ys
more n [] ys d lt le e = absurd (omega (arith, lt))
more n (x ∷ xs) [] d lt le e = absurd (omega (arith, le))
more zero (x ∷ xs) (y ∷ ys) d lt le e = refl
more (suc n) (x ∷ xs) (y ∷ ys) d lt le e =
    let head : x ≡ y = search (rules, e) in
    let tail : take n xs ≡ take n ys = search (rules, e) in
    let rest = more n xs ys d (omega (arith, lt)) (omega (arith, le)) tail in
    λ i. head i ∷ rest i

-- one element more has been copied
pub one_more : {A : Type 0} (n : ℕ) (xs ys : List A) (d v : A) → n < length xs → n < length ys → take n xs ≡ take n ys → v ≡ get_or ys n d → take (n + 1) (set xs n v) ≡ take (n + 1) ys
one_more n xs ys d v lt le e is =
    let next : suc n ≡ n + 1 = omega arith in
    subst (λ k. take k (set xs n v) ≡ take k ys) next (ap (λ w. take (suc n) (set xs n w)) is ∙ more n xs ys d lt le e)

-- of rows that are lists one more has been copied, and there are as many as before
pub row_more : {A B : Type 0} (f : A → List B) (m n : ℕ) (rows copies copied : List A) (d list : List B) → n < m → length rows ≡ m → length copies ≡ m
    → take n (map f copies) ≡ take n (map f rows) → list ≡ get_or (map f rows) n d → map f copied ≡ set (map f copies) n list
    → (take (n + 1) (map f copied) ≡ take (n + 1) (map f rows)) × (length copied ≡ m)
row_more f m n rows copies copied d list less long held alike is put =
    let many = length-map copies f in
    let many_all = length-map rows f in (
      subst (λ x. take (n + 1) x ≡ take (n + 1) (map f rows)) (sym put)
          (one_more n (map f copies) (map f rows) d list (omega (arith, less, held, many)) (omega (arith, less, long, many_all)) alike is),
      sym (length-map copied f) ∙ (ap length put ∙ (length-set (map f copies) n list ∙ (many ∙ held))),
    )

-- all rows have been copied
pub rows_whole : {A B : Type 0} (f : A → List B) (m n : ℕ) (rows copies : List A) → m ≤ n → length rows ≡ m → length copies ≡ m
    → take n (map f copies) ≡ take n (map f rows) → map f copies ≡ map f rows
rows_whole f m n rows copies past long held alike =
    let many = length-map copies f in
    let many_all = length-map rows f in
    sym (take_all n (map f copies) (omega (arith, past, held, many))) ∙ (alike ∙ take_all n (map f rows) (omega (arith, past, long, many_all)))
