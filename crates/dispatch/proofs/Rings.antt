-- Rings: what a change of places, start or count makes of the tasks in one; and the mask of those that hold somebody.
use Rattle.std.proofs.Common.{rules, arith, zero, suc, Option, Some, None, ◌≡◌, ◌<◌, ◌≤◌, ◌+◌, ◌-◌, ◌*◌, ◌^◌, ◌%◌, ℕ, List, [], ◌∷◌, ◌++◌, set, length, drop, add-one, get_or, nat_eq, Bool, true, false, refl, sym, ap, ◌∙◌, subst, get_or-set_same, get_or-set_other, bit_and, bit_or, w32}
use Rattle.std.specs.Int.{bit_at}
use Rattle.std.specs.Int.Count.{count_leading_zeros}
use Rattle.std.proofs.lemmas.Nat.{leading_top}
use Rattle.std.proofs.Math.Nat.{two-pow-succ}
use Rattle.std.proofs.lemmas.Nat.Bits.{bit_at_cat_high, bit_at_set_same, bit_at_set_other, bit_at_clear_same, bit_at_clear_other, bit_at_above, bit_at-zero}
use Rattle.std.proofs.lemmas.Bool.{eqb-true, eq-eqb}
use Rattle.dispatch.specs.Queues.{Queues, highest, highest_below, is_occupied, unless_empty}
use Rattle.dispatch.specs.Rings.{IsMask, bit_of, tasks_from}

true_false : true ≡ false → ⊥
true_false e = absurd cc

same_or : {P : Type 0} (a b : ℕ) → (a ≡ b → P) → ((a ≡ b → ⊥) → P) → P
same_or {P} a b yes' no' = go (nat_eq a b) refl where
  go : (v : Bool) → nat_eq a b ≡ v → P
  go true e = yes' (eqb-true a b e)
  go false e = no' (λ same. absurd (true_false (sym (eq-eqb a b same) ∙ e)))

-- places are read alike from starts that are the same round the end
pub same_from : (places : List ℕ) (a b count : ℕ) → a % 65 ≡ b % 65 → tasks_from places a count ≡ tasks_from places b count
same_from places a b zero e = refl
same_from places a b (suc count) e =
    let next : (a + 1) % 65 ≡ (b + 1) % 65 = omega (arith, e) in
    rw (e, same_from places (a + 1) (b + 1) count next) refl

pub length_from : (places : List ℕ) (at count : ℕ) → length (tasks_from places at count) ≡ count
length_from places at zero = refl
length_from places at (suc count) = ap suc (length_from places (at + 1) count)

-- a write at a place that is not read
pub not_read : (places : List ℕ) (k task at count : ℕ) → ((i : ℕ) → i < count → (at + i) % 65 ≡ k → ⊥)
    → tasks_from (set places k task) at count ≡ tasks_from places at count
not_read places k task at zero other = refl
not_read places k task at (suc count) other =
    let here : at % 65 ≡ k → ⊥ = λ e. other 0 (omega arith) (omega (arith, e)) in
    rw (get_or-set_other places k (at % 65) task 0 here, not_read places k task (at + 1) count (λ i h e. other (i + 1) (omega (arith, h)) (omega (arith, e)))) refl

-- one task more is read behind the others
one_more : (places : List ℕ) (at count : ℕ) → tasks_from places at (suc count) ≡ tasks_from places at count ++ get_or places ((at + count) % 65) 0 ∷ []
one_more places at zero = let e : at ≡ at + 0 = omega arith in ap (λ n. get_or places (n % 65) 0 ∷ []) e
one_more places at (suc count) =
    let e : at + 1 + count ≡ at + suc count = omega arith in
    ap (λ l. get_or places (at % 65) 0 ∷ l) (one_more places (at + 1) count ∙ ap (λ n. tasks_from places (at + 1) count ++ get_or places (n % 65) 0 ∷ []) e)

-- what the three changes of a ring make of its tasks
pub pushed_back : (places tasks : List ℕ) (start count task : ℕ) → tasks_from places start count ≡ tasks → length places ≡ 65 → count < 65
    → tasks_from (set places ((start + count) % 65) task) start (count + 1) ≡ tasks ++ task ∷ []
pushed_back places tasks start count task is long room =
    let k : ℕ = (start + count) % 65 in
    let at : k < length places = omega (arith, long) in
    ap (tasks_from (set places k task) start) (add-one count)
    ∙ one_more (set places k task) start count
    ∙ ap (λ l. l ++ get_or (set places k task) k 0 ∷ []) (not_read places k task start count (λ i h e. absurd (omega (arith, h, e, room))) ∙ is)
    ∙ ap (λ n. tasks ++ n ∷ []) (get_or-set_same places k task 0 at)

pub pushed_front : (places tasks : List ℕ) (start count task : ℕ) → tasks_from places start count ≡ tasks → length places ≡ 65 → count < 65 → start < 65
    → tasks_from (set places ((start + 65 - 1) % 65) task) ((start + 65 - 1) % 65) (count + 1) ≡ task ∷ tasks
pushed_front places tasks start count task is long room h =
    let k : ℕ = (start + 65 - 1) % 65 in
    let at : k < length places = omega (arith, long) in
    let here : k % 65 ≡ k = omega arith in
    let behind : (k + 1) % 65 ≡ start % 65 = omega (arith, h) in
    ap (tasks_from (set places k task) k) (add-one count)
    ∙ ap (λ l. get_or (set places k task) (k % 65) 0 ∷ l)
    (same_from (set places k task) (k + 1) start count behind ∙ not_read places k task start count (λ i lt e. absurd (omega (arith, lt, e, room, h))) ∙ is)
    ∙ ap (λ n. get_or (set places k task) n 0 ∷ tasks) here
    ∙ ap (λ n. n ∷ tasks) (get_or-set_same places k task 0 at)

pub popped : (places tasks : List ℕ) (start count : ℕ) → tasks_from places start count ≡ tasks → tasks_from places ((start + 1) % 65) (count - 1) ≡ drop 1 tasks
popped places tasks start zero is = ap (drop 1) is
popped places tasks start (suc count) is =
    let e : suc count - 1 ≡ count = omega arith in
    ap (tasks_from places ((start + 1) % 65)) e ∙ same_from places ((start + 1) % 65) (start + 1) count (omega arith) ∙ ap (drop 1) is

-- a list that holds somebody has its bit
pub marked : (mask k : ℕ) (lists : List (List ℕ)) (i : ℕ) (tasks : List ℕ) → i ≡ k → k < 32 → length lists ≡ 32 → is_occupied tasks ≡ true → IsMask mask lists
    → IsMask (bit_or mask (1 * 2 ^ k % 2 ^ 32)) (set lists i tasks)
marked mask k lists i tasks same h long full is p below = same_or p k
    (λ e. rw (e, same, get_or-set_same lists k tasks [] (subst (λ n. k < n) (sym long) h), full) (bit_at_set_same w32 mask k h))
    (λ other. bit_at_set_other w32 mask k h p other ∙ is p below
    ∙ sym (ap (λ l. bit_of (is_occupied l)) (get_or-set_other lists i p tasks [] (λ e. other (e ∙ same)))))

-- an empty one has none
pub unmarked : (mask k : ℕ) (lists : List (List ℕ)) (i : ℕ) (tasks : List ℕ) → i ≡ k → k < 32 → length lists ≡ 32 → is_occupied tasks ≡ false → IsMask mask lists
    → IsMask (bit_and mask (4294967295 - 1 * 2 ^ k % 2 ^ 32)) (set lists i tasks)
unmarked mask k lists i tasks same h long empty is p below = same_or p k
    (λ e. rw (e, same, get_or-set_same lists k tasks [] (subst (λ n. k < n) (sym long) h), empty) (bit_at_clear_same w32 mask k h))
    (λ other. bit_at_clear_other w32 mask k h p below other ∙ is p below
    ∙ sym (ap (λ l. bit_of (is_occupied l)) (get_or-set_other lists i p tasks [] (λ e. other (e ∙ same)))))

pub filled_behind : (tasks rest : List ℕ) (task : ℕ) → rest ≡ tasks ++ task ∷ [] → is_occupied rest ≡ true
filled_behind [] rest task e = ap is_occupied e
filled_behind (first ∷ tasks) rest task e = ap is_occupied e

bit_tells : (b : Bool) (n : ℕ) → n ≡ bit_of b → n ≡ 1 → b ≡ true
bit_tells true n e one = refl
bit_tells false n e one = absurd (omega (arith, e, one))

bit_denies : (b : Bool) (n : ℕ) → n ≡ bit_of b → n ≡ 0 → b ≡ false
bit_denies true n e none = absurd (omega (arith, e, none))
bit_denies false n e none = refl

chosen : (tasks : List ℕ) (n : ℕ) (lower : Option ℕ) → is_occupied tasks ≡ true → unless_empty tasks n lower ≡ Some n
chosen [] n lower full = absurd (true_false (sym full))
chosen (task ∷ tasks) n lower full = refl

passed : (tasks : List ℕ) (n : ℕ) (lower : Option ℕ) → is_occupied tasks ≡ false → unless_empty tasks n lower ≡ lower
passed [] n lower empty = refl
passed (task ∷ tasks) n lower empty = absurd (true_false empty)

nobody : (queues : Queues) (n : ℕ) → ((i : ℕ) → i < n → is_occupied (queues i) ≡ false) → highest_below n queues ≡ None
nobody queues zero none = refl
nobody queues (suc n) none = passed (queues n) n (highest_below n queues) (none n (omega arith)) ∙ nobody queues n (λ i h. none i (omega (arith, h)))

first_above : (queues : Queues) (n p : ℕ) → p < n → is_occupied (queues p) ≡ true → ((i : ℕ) → p < i → i < n → is_occupied (queues i) ≡ false)
    → highest_below n queues ≡ Some p
first_above queues zero p h full none = absurd (omega (arith, h))
first_above queues (suc n) p h full none = same_or n p
    (λ e. rw e (chosen (queues p) p (highest_below p queues) full))
    (λ other. passed (queues n) n (highest_below n queues) (none n (omega (arith, h, other)) (omega arith))
    ∙ first_above queues n p (omega (arith, h, other)) full (λ i above below. none i above (omega (arith, below))))

below_twice : (p q a : ℕ) → p ≤ a → a < q → q ≡ p + p → (1 * p + (a - p) ≡ a) × (a - p < p)
below_twice p q a low high twice = (omega (arith, low), omega (arith, low, high, twice))

le-refl : (n : ℕ) → n ≤ n
le-refl n = omega arith

minus-self : (n : ℕ) → n - n ≡ 0
minus-self n = omega arith

top_bit : (a j : ℕ) → 2 ^ j ≤ a → a < 2 ^ suc j → bit_at a j ≡ 1
top_bit a j low high =
    let rest = below_twice (2 ^ j) (2 ^ suc j) a low high (two-pow-succ j) in
    ap (λ n. bit_at n j) (sym rest.0) ∙ bit_at_cat_high 1 j (a - 2 ^ j) j rest.1 (le-refl j) ∙ ap (bit_at 1) (minus-self j)

-- the highest bit of a mask is the highest list
pub by_mask : (mask : ℕ) (lists : List (List ℕ)) → IsMask mask lists → mask < 2 ^ 32 → (mask ≡ 0 → ⊥)
    → Some (31 - count_leading_zeros 32 mask) ≡ highest (λ p. get_or lists p [])
unfolding highest
by_mask mask lists is small some =
    let top = leading_top 32 mask (omega (arith, some)) small in
    let j : ℕ = top.0 in
    let e : 31 - count_leading_zeros 32 mask ≡ j = omega (arith, top.1) in
    let h : j < 32 = omega (arith, top.1) in
    ap Some e ∙ sym (first_above (λ p. get_or lists p []) 32 j h (bit_tells _ _ (is j h) (top_bit mask j top.2 top.3))
    (λ i above below. bit_denies _ _ (is i below) (bit_at_above mask (suc j) i top.3 (omega (arith, above)))))

pub by_no_mask : (lists : List (List ℕ)) → IsMask 0 lists → None ≡ highest (λ p. get_or lists p [])
unfolding highest
by_no_mask lists is = sym (nobody (λ p. get_or lists p []) 32 (λ i h. bit_denies _ _ (is i h) (bit_at-zero i)))

-- rows of empty lists
pub no_lists : (lists : List (List ℕ)) → ((i : ℕ) (d : List ℕ) → i < length lists → get_or lists i d ≡ []) → (p : ℕ) → get_or lists p [] ≡ []
no_lists [] all p = refl
no_lists (l ∷ lists) all zero = all 0 [] (search rules)
no_lists (l ∷ lists) all (suc p) = no_lists lists (λ i d h. all (suc i) d (search (rules, h))) p
