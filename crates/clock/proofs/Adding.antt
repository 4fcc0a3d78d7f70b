-- Entries by their numbers: two lists whose numbers rise and that have the same entries are one.
use Rattle.std.proofs.Common.{append-nil, rules, arith, ◌≡◌, ◌<◌, ◌≤◌, ◌+◌, ℕ, zero, suc, List, [], ◌∷◌, ◌++◌, length, map, take, get_or, filter, nat_eq, nat_lt, not, Bool, true, false, cond, refl, sym, ap, subst, ◌∙◌, ◌⊎◌, inl, inr}
use Rattle.std.specs.Bool.{⊤}
use Rattle.std.specs.List.{AllByRecursion, Contains, IsDistinct}
use Rattle.std.specs.List.Sorted.{IsNonDecreasingBy, IsPermutation}
use Rattle.std.proofs.lemmas.Bool.{ltb-true, ltb-false, eqb-true, eq-eqb}
use Rattle.std.proofs.lemmas.List.{length-map, map-append}
use Rattle.std.proofs.lemmas.List.Sorted.{Contains-permutation, IsPermutation-append_comm, IsPermutation-map, IsPermutation-pop_more, IsPermutation-sym, IsPermutation-to_front}
use Rattle.std.proofs.lemmas.Map.Keys.{IsDistinct-IsPermutation, IsDistinct-tail}
use Rattle.base.specs.declared.limits.TheConstants.{TASKS}
use Rattle.clock.specs.declared.delays.Sleeper.{Sleeper}
use Rattle.clock.specs.declared.heap.Entry.{Entry}
use Rattle.clock.specs.Numbering.{Numbered, added as one_added, free_number}
use Rattle.clock.specs.Heaps.{AreDistinct, AreNumbered, IsAmong, IsWithin, by_number, insert, sleeper_of, sleepers_of}
use Rattle.clock.proofs.Heaps.{placed}

true_false : true ≡ false → ⊥
true_false e = absurd cc

-- both cases of a test
pub by_test : (P : Bool → Type 0) (b : Bool) → (b ≡ true → P true) → (b ≡ false → P false) → P b
by_test P true yes' no' = yes' refl
by_test P false yes' no' = no' refl

-- each number is below those behind it
abbrev pub Rising : List Entry → Type 0
Rising [] = ⊤
Rising (x ∷ xs) = ((z : Entry) → IsAmong z xs → x.number < z.number) × Rising xs

pub either : {P A B : Type 0} → A ⊎ B → (A → P) → (B → P) → P
either (inl a) f g = f a
either (inr b) f g = g b

lower : (a b : ℕ) → a < b → b < a → ⊥
lower a b p q = absurd (omega (arith, p, q))

never : (a b : ℕ) → a ≡ b → a < b → ⊥
never a b e p = absurd (omega (arith, e, p))

pub rising_same : (xs ys : List Entry) → Rising xs → Rising ys → IsWithin xs ys → IsWithin ys xs → xs ≡ ys
rising_same [] [] rx ry to from = refl
rising_same [] (y ∷ ys) rx ry to from = absurd (from y (inl refl))
rising_same (x ∷ xs) [] rx ry to from = absurd (to x (inl refl))
rising_same (x ∷ xs) (y ∷ ys) rx ry to from =
    let heads : x ≡ y =
    either (to x (inl refl)) (λ e. e) (λ behind. either (from y (inl refl)) (λ e. sym e)
    (λ later. absurd (lower x.number y.number (rx.0 y later) (ry.0 x behind)))) in
    let tails : xs ≡ ys = rising_same xs ys rx.1 ry.1
    (λ z has. either (to z (inr has)) (λ e. absurd (never x.number z.number (ap (λ e. e.number) (heads ∙ sym e)) (rx.0 z has))) (λ h. h))
    (λ z has. either (from z (inr has)) (λ e. absurd (never y.number z.number (ap (λ e. e.number) (sym heads ∙ sym e)) (ry.0 z has))) (λ h. h)) in
    rw (heads, tails) refl

-- what an insertion has
pub has_inserted : (x : Entry) (l : List Entry) (z : Entry) → IsAmong z (insert x l) → (z ≡ x) ⊎ IsAmong z l
has_inserted x [] z h = h
has_inserted x (y ∷ l) z h = by_test (λ b. IsAmong z (cond b (x ∷ y ∷ l) (y ∷ insert x l)) → (z ≡ x) ⊎ ((z ≡ y) ⊎ IsAmong z l)) (nat_lt x.number y.number)
    (λ e h. h)
    (λ e h. either h (λ a. inr (inl a)) (λ behind. either (has_inserted x l z behind) (λ a. inl a) (λ b. inr (inr b)))) h

pub inserted_has : (x : Entry) (l : List Entry) (z : Entry) → (z ≡ x) ⊎ IsAmong z l → IsAmong z (insert x l)
inserted_has x [] z h = h
inserted_has x (y ∷ l) z h = by_test (λ b. IsAmong z (cond b (x ∷ y ∷ l) (y ∷ insert x l))) (nat_lt x.number y.number)
    (λ e. h)
    (λ e. either h (λ a. inr (inserted_has x l z (inl a))) (λ later. either later (λ a. inl a) (λ b. inr (inserted_has x l z (inr b)))))

rising_insert : (x : Entry) (l : List Entry) → Rising l → ((z : Entry) → IsAmong z l → x.number ≡ z.number → ⊥) → Rising (insert x l)
rising_insert x [] r apart = (λ z h. absurd h, tt)
rising_insert x (y ∷ l) r apart = by_test (λ b. Rising (cond b (x ∷ y ∷ l) (y ∷ insert x l))) (nat_lt x.number y.number)
    (λ e.
    let less : x.number < y.number = ltb-true x.number y.number e in
    (λ z h. either h (λ a. subst (λ w. x.number < w.number) (sym a) less) (λ b. omega (arith, less, r.0 z b)), r))
    (λ e.
    let least : y.number ≤ x.number = ltb-false x.number y.number e in
    let other : x.number ≡ y.number → ⊥ = apart y (inl refl) in
    let less : y.number < x.number = omega (arith, least, other) in (
      λ z h. either (has_inserted x l z h) (λ a. subst (λ w. y.number < w.number) (sym a) less) (λ b. r.0 z b),
      rising_insert x l r.1 (λ z h. apart z (inr h)),
    ))

pub by_number_has : (xs : List Entry) → IsWithin xs (by_number xs)
by_number_has [] z h = h
by_number_has (x ∷ xs) z h = inserted_has x (by_number xs) z (either h (λ a. inl a) (λ b. inr (by_number_has xs z b)))

pub has_by_number : (xs : List Entry) → IsWithin (by_number xs) xs
has_by_number [] z h = h
has_by_number (x ∷ xs) z h = either (has_inserted x (by_number xs) z h) (λ a. inl a) (λ b. inr (has_by_number xs z b))

all_apart : (n : ℕ) (xs : List Entry) → AllByRecursion (λ m. nat_eq n m ≡ false) (map (λ e. e.number) xs) → (z : Entry) → IsAmong z xs → n ≡ z.number → ⊥
all_apart n [] a z has same = absurd has
all_apart n (y ∷ ys) a z (inl e) same = absurd (true_false (sym (eq-eqb n y.number (same ∙ ap (λ w. w.number) e)) ∙ a.0))
all_apart n (y ∷ ys) a z (inr has) same = all_apart n ys a.1 z has same

pub head_apart : (x : Entry) (xs : List Entry) → AreDistinct (x ∷ xs) → (z : Entry) → IsAmong z xs → x.number ≡ z.number → ⊥
unfolding IsDistinct
head_apart x xs d z has same = all_apart x.number xs d.0 z has same

pub rising_by_number : (xs : List Entry) → AreDistinct xs → Rising (by_number xs)
rising_by_number [] d = tt
rising_by_number (x ∷ xs) d =
    rising_insert x (by_number xs) (rising_by_number xs (IsDistinct-tail nat_eq x.number _ d)) (λ z h. head_apart x xs d z (has_by_number xs z h))

-- what changes of place keep
has_contained : (xs : List Entry) (z : Entry) → Contains xs z → IsAmong z xs
has_contained [] z c = absurd (omega (arith, c.1))
has_contained (x ∷ xs) z (zero, h, e) = inl (sym e)
has_contained (x ∷ xs) z (suc k, h, e) = inr (has_contained xs z (k, search (rules, h), e))

pub moved_within : (xs ys : List Entry) → IsPermutation xs ys → IsWithin xs ys
moved_within xs ys moved z has =
    let p = placed xs z has in
    has_contained ys z (Contains-permutation xs ys z moved (p.0, p.1, p.2 z))

pub moved_back : (xs ys : List Entry) → IsPermutation xs ys → IsWithin ys xs
moved_back xs ys moved = moved_within ys xs (IsPermutation-sym xs ys moved)

eq_flips : (x y : ℕ) → nat_eq x y ≡ nat_eq y x
eq_flips x y = go (nat_eq x y) (nat_eq y x) refl refl where
  go : (a b : Bool) → nat_eq x y ≡ a → nat_eq y x ≡ b → a ≡ b
  go true b p q = sym (eq-eqb y x (sym (eqb-true x y p))) ∙ q
  go false true p q = sym p ∙ eq-eqb x y (sym (eqb-true y x q))
  go false false p q = refl

pub moved_distinct : (xs ys : List Entry) → IsPermutation xs ys → AreDistinct xs → AreDistinct ys
moved_distinct xs ys moved d = IsDistinct-IsPermutation nat_eq eq_flips (map (λ e. e.number) xs) (map (λ e. e.number) ys) (IsPermutation-map (λ e. e.number) xs ys moved) d

pub moved_same : (xs ys : List Entry) → IsPermutation xs ys → AreDistinct xs → by_number xs ≡ by_number ys
moved_same xs ys moved d = rising_same (by_number xs) (by_number ys) (rising_by_number xs d) (rising_by_number ys (moved_distinct xs ys moved d))
    (λ z h. by_number_has ys z (moved_within xs ys moved z (has_by_number xs z h)))
    (λ z h. by_number_has xs z (moved_back xs ys moved z (has_by_number ys z h)))

rising_sorted : (xs : List Entry) → IsNonDecreasingBy (λ e. e.number) xs → AreDistinct xs → Rising xs
rising_sorted [] up d = tt
rising_sorted (x ∷ xs) up d = (
  λ z has.
      let p = placed xs z has in
      let least : x.number ≤ z.number = subst (λ w. x.number ≤ w.number) (p.2 x) (up 0 (suc p.0) x (omega arith) (search (rules, p.1))) in
      let other = head_apart x xs d z has in
      omega (arith, least, other),
  rising_sorted xs (λ i j e a b. up (suc i) (suc j) e (omega (arith, a)) (search (rules, b))) (IsDistinct-tail nat_eq x.number _ d),
)

pub sorted_is : (xs ys : List Entry) → AreDistinct xs → IsPermutation xs ys → IsNonDecreasingBy (λ e. e.number) ys → ys ≡ by_number xs
sorted_is xs ys d moved up = rising_same ys (by_number xs) (rising_sorted ys up (moved_distinct xs ys moved d)) (rising_by_number xs d)
    (λ z h. by_number_has xs z (moved_back xs ys moved z h))
    (λ z h. moved_within xs ys moved z (has_by_number xs z h))

-- a filter leaves what passes in its order
pub has_filtered : (p : Entry → Bool) (xs : List Entry) (z : Entry) → IsAmong z (filter p xs) → IsAmong z xs × (p z ≡ true)
has_filtered p [] z h = absurd h
has_filtered p (x ∷ xs) z h = by_test (λ b. IsAmong z (cond b (x ∷ filter p xs) (filter p xs)) → IsAmong z (x ∷ xs) × (p z ≡ true)) (p x)
    (λ e h. either h (λ a. (inl a, ap p a ∙ e)) (λ b. let r = has_filtered p xs z b in (inr r.0, r.1)))
    (λ e h. let r = has_filtered p xs z h in (inr r.0, r.1)) h

pub filtered_has : (p : Entry → Bool) (xs : List Entry) (z : Entry) → IsAmong z xs → p z ≡ true → IsAmong z (filter p xs)
filtered_has p [] z h passes = absurd h
filtered_has p (x ∷ xs) z h passes = by_test (λ b. IsAmong z (cond b (x ∷ filter p xs) (filter p xs))) (p x)
    (λ e. either h (λ a. inl a) (λ b. inr (filtered_has p xs z b passes)))
    (λ e. either h (λ a. absurd (true_false (sym passes ∙ ap p a ∙ e))) (λ b. filtered_has p xs z b passes))

rising_filter : (p : Entry → Bool) (xs : List Entry) → Rising xs → Rising (filter p xs)
rising_filter p [] r = tt
rising_filter p (x ∷ xs) r = by_test (λ b. Rising (cond b (x ∷ filter p xs) (filter p xs))) (p x)
    (λ e. (λ z h. r.0 z (has_filtered p xs z h).0, rising_filter p xs r.1))
    (λ e. rising_filter p xs r.1)

has_left : (xs ys : List Entry) (z : Entry) → IsAmong z xs → IsAmong z (xs ++ ys)
has_left [] ys z h = absurd h
has_left (x ∷ xs) ys z (inl e) = inl e
has_left (x ∷ xs) ys z (inr h) = inr (has_left xs ys z h)

has_right : (xs ys : List Entry) (z : Entry) → IsAmong z ys → IsAmong z (xs ++ ys)
has_right [] ys z h = h
has_right (x ∷ xs) ys z h = inr (has_right xs ys z h)

pub has_either : (xs ys : List Entry) (z : Entry) → IsAmong z (xs ++ ys) → IsAmong z xs ⊎ IsAmong z ys
has_either [] ys z h = inr h
has_either (x ∷ xs) ys z (inl e) = inl (inl e)
has_either (x ∷ xs) ys z (inr h) = either (has_either xs ys z h) (λ a. inl (inr a)) (λ b. inr b)

distinct_right : (xs ys : List Entry) → AreDistinct (xs ++ ys) → AreDistinct ys
distinct_right [] ys d = d
distinct_right (x ∷ xs) ys d = distinct_right xs ys (IsDistinct-tail nat_eq x.number _ d)

-- a list falls into two parts
module _ (all left right : List Entry) (moved : IsPermutation all (left ++ right)) where
  pub right_distinct : AreDistinct all → AreDistinct right
  right_distinct d = distinct_right left right (moved_distinct all (left ++ right) moved d)

  pub left_distinct : AreDistinct all → AreDistinct left
  left_distinct d =
      distinct_right right left (moved_distinct (left ++ right) (right ++ left) (IsPermutation-append_comm left right) (moved_distinct all (left ++ right) moved d))

  pub right_within : IsWithin right all
  right_within z h = moved_back all (left ++ right) moved z (has_right left right z h)

-- those that pass a test and those that don't
module _ (p : Entry → Bool) (all passing failing : List Entry) (moved : IsPermutation all (passing ++ failing)) (d : AreDistinct all)
    (pass : (z : Entry) → IsAmong z passing → p z ≡ true) (fail : (z : Entry) → IsAmong z failing → p z ≡ false) where
  pub passing_are : by_number passing ≡ filter p (by_number all)
  passing_are = rising_same (by_number passing) (filter p (by_number all)) (rising_by_number passing (left_distinct all passing failing moved d)) (rising_filter p (by_number all) (rising_by_number all d))
      (λ z h. let q = has_by_number passing z h in
      filtered_has p (by_number all) z (by_number_has all z (moved_back all (passing ++ failing) moved z (has_left passing failing z q))) (pass z q))
      (λ z h. let q = has_filtered p (by_number all) z h in
      by_number_has passing z (either (has_either passing failing z (moved_within all (passing ++ failing) moved z (has_by_number all z q.0)))
      (λ a. a) (λ b. absurd (true_false (sym q.1 ∙ fail z b)))))

  pub failing_are : by_number failing ≡ filter (λ e. not (p e)) (by_number all)
  failing_are = rising_same (by_number failing) (filter (λ e. not (p e)) (by_number all)) (rising_by_number failing (right_distinct all passing failing moved d))
      (rising_filter (λ e. not (p e)) (by_number all) (rising_by_number all d))
      (λ z h. let q = has_by_number failing z h in
      filtered_has (λ e. not (p e)) (by_number all) z (by_number_has all z (right_within all passing failing moved z q)) (ap not (fail z q)))
      (λ z h. let q = has_filtered (λ e. not (p e)) (by_number all) z h in
      by_number_has failing z (either (has_either passing failing z (moved_within all (passing ++ failing) moved z (has_by_number all z q.0)))
      (λ a. absurd (true_false (sym q.1 ∙ ap not (pass z a)))) (λ b. b)))

-- one more with a greater number stands behind the others
insert_behind : (x e : Entry) (l : List Entry) → x.number < e.number → insert x (l ++ e ∷ []) ≡ insert x l ++ e ∷ []
insert_behind x e [] less = go (nat_lt x.number e.number) refl where
  go : (b : Bool) → nat_lt x.number e.number ≡ b → cond b (x ∷ e ∷ []) (e ∷ x ∷ []) ≡ x ∷ e ∷ []
  go true eq = refl
  go false eq = absurd (omega (arith, less, ltb-false x.number e.number eq))
insert_behind x e (y ∷ l) less =
    by_test (λ b. cond b (x ∷ y ∷ l ++ e ∷ []) (y ∷ insert x (l ++ e ∷ [])) ≡ cond b (x ∷ y ∷ l) (y ∷ insert x l) ++ e ∷ []) (nat_lt x.number y.number)
    (λ same. refl) (λ same. ap (λ r. y ∷ r) (insert_behind x e l less))

pub newest : (xs : List Entry) (e : Entry) → ((z : Entry) → IsAmong z xs → z.number < e.number) → by_number (xs ++ e ∷ []) ≡ by_number xs ++ e ∷ []
newest [] e least = refl
newest (x ∷ xs) e least =
    ap (insert x) (newest xs e (λ z h. least z (inr h))) ∙ insert_behind x e (by_number xs) (least x (inl refl))

all_passed : (n : ℕ) (xs : List Entry) → ((z : Entry) → IsAmong z xs → z.number < n) → AllByRecursion (λ m. nat_eq n m ≡ false) (map (λ e. e.number) xs)
all_passed n [] least = tt
all_passed n (x ∷ xs) least = (go (nat_eq n x.number) refl, all_passed n xs (λ z h. least z (inr h))) where
  go : (b : Bool) → nat_eq n x.number ≡ b → nat_eq n x.number ≡ false
  go true e = absurd (omega (arith, least x (inl refl), eqb-true n x.number e))
  go false e = e

distinct_front : (e : Entry) (xs : List Entry) → ((z : Entry) → IsAmong z xs → z.number < e.number) → AreDistinct xs → AreDistinct (e ∷ xs)
unfolding IsDistinct
distinct_front e xs least d = (all_passed e.number xs least, d)

-- an entry is added with the next number
pub added : (xs ys : List Entry) (e : Entry) → IsPermutation (xs ++ e ∷ []) ys → AreNumbered e.number xs
    → (by_number ys ≡ by_number xs ++ e ∷ []) × AreNumbered (e.number + 1) ys
added xs ys e moved n =
    let front : AreDistinct (xs ++ e ∷ []) = moved_distinct (e ∷ xs) (xs ++ e ∷ []) (IsPermutation-sym _ _ (IsPermutation-to_front xs e)) (distinct_front e xs n.1 n.0) in (
      sym (moved_same (xs ++ e ∷ []) ys moved front) ∙ newest xs e n.1,
      (
        moved_distinct (xs ++ e ∷ []) ys moved front,
        λ z h. either (has_either xs (e ∷ []) z (moved_back (xs ++ e ∷ []) ys moved z h))
            (λ a. let less = n.1 z a in omega (arith, less)) (λ b. either b (λ c. let same : z.number ≡ e.number = ap (λ w. w.number) c in omega (arith, same)) (λ f. absurd f)),
      ),
    )

-- a turn that takes one out
pub one_taken : (all done done' left rest : List Entry) (x : Entry) → IsPermutation all (done ++ left) → IsPermutation left (x ∷ rest) → done' ≡ done ++ x ∷ []
    → IsPermutation all (done' ++ rest)
one_taken all done done' left rest x moved out grown = rw grown (IsPermutation-pop_more all done left rest x moved out)

pub all_grown : (p : Entry → Bool) (done done' : List Entry) (x : Entry) → ((z : Entry) → IsAmong z done → p z ≡ true) → p x ≡ true → done' ≡ done ++ x ∷ []
    → (z : Entry) → IsAmong z done' → p z ≡ true
all_grown p done done' x pass passes grown z h =
    either (has_either done (x ∷ []) z (subst (IsAmong z) grown h)) (λ a. pass z a) (λ b. either b (λ e. ap p e ∙ passes) (λ f. absurd f))

pub emptied : (all done left : List Entry) → IsPermutation all (done ++ left) → left ≡ [] → IsPermutation all done
emptied all done left moved none = subst (IsPermutation all) (append-nil done) (subst (λ l. IsPermutation all (done ++ l)) none moved)

pub empty_numbered : (next : ℕ) (xs : List Entry) → xs ≡ [] → (length xs ≤ TASKS) × AreNumbered next xs
unfolding IsDistinct
empty_numbered next xs none = rw none (search rules, (tt, λ z h. absurd h))

length_inserted : (x : Entry) (l : List Entry) → length (insert x l) ≡ suc (length l)
length_inserted x [] = refl
length_inserted x (y ∷ l) = by_test (λ b. length (cond b (x ∷ y ∷ l) (y ∷ insert x l)) ≡ suc (suc (length l))) (nat_lt x.number y.number)
    (λ e. refl) (λ e. ap suc (length_inserted x l))

pub length_by_number : (xs : List Entry) → length (by_number xs) ≡ length xs
length_by_number [] = refl
length_by_number (x ∷ xs) = length_inserted x (by_number xs) ∙ ap suc (length_by_number xs)

pub length_sleepers : (xs : List Entry) → length (sleepers_of xs) ≡ length xs
length_sleepers xs = length-map (by_number xs) sleeper_of ∙ length_by_number xs

pub begins_empty : (xs : List Entry) → xs ≡ [] → (sleepers_of xs ≡ []) × (length xs ≡ 0) × (zero ≡ zero) × AreNumbered 0 xs
begins_empty xs none = (ap sleepers_of none, ap length none, refl, (empty_numbered 0 xs none).1)

-- the same for sleepers
pub one_more_sleeper : (xs ys : List Entry) (sleepers : List Sleeper) (e : Entry) → IsPermutation (xs ++ e ∷ []) ys → AreNumbered e.number xs → sleepers_of xs ≡ sleepers
    → (sleepers_of ys ≡ sleepers ++ sleeper_of e ∷ []) × AreNumbered (e.number + 1) ys
one_more_sleeper xs ys sleepers e moved n same =
    let a = added xs ys e moved n in
    (ap (map sleeper_of) a.0 ∙ map-append sleeper_of (by_number xs) (e ∷ []) ∙ ap (λ l. l ++ sleeper_of e ∷ []) same, a.1)

-- sleepers and next number after one more
pub numbered_next : (d : Numbered) (s : Sleeper) (sleepers : List Sleeper) (next : ℕ) → sleepers ≡ d.sleepers ++ s ∷ [] → next ≡ free_number d.next d.sleepers + 1
    → record { sleepers = sleepers; next = next } ≡ one_added d s
numbered_next d s sleepers next grown counted =
    ap (λ l. record { sleepers = l; next = next }) grown ∙ ap (λ n. record { sleepers = d.sleepers ++ s ∷ []; next = n }) counted

pub next_taken : (xs : List Entry) (i : ℕ) (d : Entry) → i < length xs → map sleeper_of (take i xs) ++ sleeper_of (get_or xs i d) ∷ [] ≡ map sleeper_of (take (i + 1) xs)
next_taken [] i d h = absurd (omega (arith, h))
next_taken (x ∷ xs) zero d h = refl
next_taken (x ∷ xs) (suc i) d h =
    let e : suc (i + 1) ≡ suc i + 1 = omega arith in
    ap (λ l. sleeper_of x ∷ l) (next_taken xs i d (search (rules, h))) ∙ ap (λ n. map sleeper_of (take n (x ∷ xs))) e
