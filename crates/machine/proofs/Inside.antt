-- At most one task is inside an object.
use Rattle.std.proofs.Common.{◌≡◌, ℕ, zero, suc, ◌≤◌, List, [], ◌∷◌, ◌++◌, drop, length, map, Bool, true, false, cond, refl, sym, ap, ◌∙◌, subst, arith, append-nil, length-append}
use Rattle.std.proofs.lemmas.List.{drop_all, length-map}
use Rattle.kernel.specs.Exclusion.{FourStatements}
use Rattle.base.specs.declared.limits.TheConstants.{CHANNELS}
use Rattle.kernel.specs.State.{Kernel, actor, inside, inside_among, is_object_open}

module _ (barrier : ℕ → Bool) (k : Kernel) (four : FourStatements barrier k) (o : ℕ) where
  abbrev is_in : ℕ → Bool
  is_in t = is_object_open o (k.actions t)

  none_or : (n t : ℕ) → suc n ≤ t → is_in t ≡ true → inside_among n k o ≡ [] → (b : Bool) → is_in n ≡ b → inside_among n k o ++ cond b (n ∷ []) [] ≡ []
  none_or n t le here before true is = let same = four.one_inside o n t is here in absurd (omega (arith, le, same))
  none_or n t le here before false is = ap (λ l. l ++ []) before

  none_below : (n t : ℕ) → n ≤ t → is_in t ≡ true → inside_among n k o ≡ []
  none_below zero t le here = refl
  none_below (suc n) t le here = none_or n t le here (none_below n t (omega (arith, le)) here) (is_in n) refl

  few_or : (n : ℕ) → length (inside_among n k o) ≤ 1 → (b : Bool) → is_in n ≡ b → length (inside_among n k o ++ cond b (n ∷ []) []) ≤ 1
  few_or n before true is = let none = ap (λ l. length (l ++ n ∷ [])) (none_below n n (omega arith) is) in omega (arith, none)
  few_or n before false is = subst (λ l. length l ≤ 1) (sym (append-nil (inside_among n k o))) before

  pub one_at_most : (n : ℕ) → length (inside_among n k o) ≤ 1
  one_at_most zero = omega arith
  one_at_most (suc n) = few_or n (one_at_most n) (is_in n) refl

  -- so of tasks and handlers together
  pub few_inside : (same : Kernel) (list : List ℕ) → same ≡ k → list ≡ inside same o → length list ≤ 1
  few_inside same list is told = subst (λ l. length l ≤ 1) (sym (told ∙ ap (λ k. inside k o) is)) (one_at_most (suc (actor k.partition CHANNELS)))

-- ---- their numbers, as they are told

pub all_told : (f : ℕ → ℕ) (numbers list : List ℕ) (n : ℕ) → length list ≤ n → numbers ++ map f (drop n list) ≡ map f list → numbers ≡ map f list
all_told f numbers list n le is = sym (append-nil numbers) ∙ (ap (λ l. numbers ++ map f l) (sym (drop_all n list le)) ∙ is)

pub few_told : (f : ℕ → ℕ) (list : List ℕ) → length list ≤ 1 → length (map f list) ≤ 1
few_told f list few = let e = length-map list f in omega (arith, few, e)

pub room_told : (f : ℕ → ℕ) (numbers list : List ℕ) (n : ℕ) → length list ≤ 1 → numbers ++ map f (drop n list) ≡ map f list → length numbers ≤ 1
room_told f numbers list n few is =
    let sum = length-append numbers (map f (drop n list)) in
    let all = ap length is in
    let count = length-map list f in
    omega (arith, few, sum, all, count)
