-- What a change of one task's open actions makes of all.
use Rattle.std.proofs.Common.{rules, arith, ◌≡◌, ◌⊎◌, ◌<◌, ◌≤◌, ◌+◌, ℕ, zero, suc, max, List, [], ◌∷◌, ◌++◌, length, map, replicate, set, drop, drop-cons, add-one, get_or, nat_eq, nat_lt, cond, length-set, Bool, true, false, Option, refl, sym, ap, subst, ⊎_elim, ◌∙◌, get_or-set_same, get_or-set_other}
use Rattle.std.specs.List.{AllByRecursion, IsDistinct, list_any}
use Rattle.std.specs.Prelude.{◌||◌}
use Rattle.std.proofs.lemmas.Bool.{eqb-true, eq-eqb}
use Rattle.std.proofs.lemmas.List.{get_or-map, length-map, map-set}
use Rattle.std.proofs.lemmas.Map.Steps.{length-le_from_distinct_below}
use Rattle.std.specs.Prelude.{Result, Ok, Err}
use Rattle.std.proofs.lemmas.List.Sorted.{IsPermutation-sym, IsPermutation-to_front}
use Rattle.std.proofs.lemmas.Map.Keys.{IsDistinct-IsPermutation}
use Rattle.protected.specs.declared.refusal.Refusal.{Refusal}
use Rattle.protected.specs.declared.refusal.Refusal.TheVariants.{AboveCeiling, SameObject}
use Rattle.base.specs.declared.limits.TheConstants.{ACTOR, TASKS}
use Rattle.protected.specs.Actions.{Actions, IsTaskOrHandler, active_of, ceiling_of, is_among, opened_by, opening, raised, row_of, with_opened}
use Rattle.protected.specs.Kept.{AllAreBelow, AreObjects, KeepsActions}

true_false : true ≡ false → ⊥
true_false e = absurd cc

same_or : {P : Type 0} (a b : ℕ) → (a ≡ b → P) → ((a ≡ b → ⊥) → P) → P
same_or {P} a b yes' no' = go (nat_eq a b) refl where
  go : (v : Bool) → nat_eq a b ≡ v → P
  go true e = yes' (eqb-true a b e)
  go false e = no' (λ same. absurd (true_false (sym (eq-eqb a b same) ∙ e)))

-- the greatest of priorities, however it is reckoned
raised_more : (ceilings : List ℕ) (base m : ℕ) (objects : List ℕ) → raised ceilings (max base m) objects ≡ max m (raised ceilings base objects)
raised_more ceilings base m [] = omega arith
raised_more ceilings base m (o ∷ objects) =
    let more = raised_more ceilings base m objects in
    greater (ceiling_of ceilings o) _ m _ more where
      greater : (c r m s : ℕ) → r ≡ max m s → max c r ≡ max m (max c s)
      greater c r m s e = omega (arith, e)

pub raised_by : (ceilings : List ℕ) (base o : ℕ) (objects : List ℕ) → raised ceilings (max base (ceiling_of ceilings o)) objects ≡ raised ceilings base (o ∷ objects)
raised_by ceilings base o objects = raised_more ceilings base (ceiling_of ceilings o) objects

or_true : (b : Bool) → (b || true) ≡ true
or_true true = refl
or_true false = refl

among_at : (objects : List ℕ) (i d : ℕ) → i < length objects → is_among (get_or objects i d) objects ≡ true
among_at [] i d h = absurd (omega (arith, h))
among_at (o ∷ objects) zero d h = ap (λ b. b || is_among o objects) (eq-eqb o o refl)
among_at (o ∷ objects) (suc i) d h = ap (λ b. nat_eq o (get_or objects i d) || b) (among_at objects i d (search (rules, h))) ∙ or_true (nat_eq o (get_or objects i d))

pub all_known : (count : ℕ) (objects : List ℕ) → AreObjects count objects → AllAreBelow count objects
all_known count objects are i d h = are.1 (get_or objects i d) (among_at objects i d h)

pub known_here : (count count' : ℕ) (objects now : List ℕ) → AreObjects count objects → now ≡ objects → count ≡ count' → AllAreBelow count' now
known_here count count' objects now are same counted = subst (λ n. AllAreBelow n now) counted (subst (AllAreBelow count) (sym same) (all_known count objects are))

pub raised_turn : (ceilings : List ℕ) (base m i : ℕ) (objects : List ℕ) (d : ℕ) → i < length objects → m ≡ max base (ceiling_of ceilings (get_or objects i d))
    → raised ceilings m (drop (i + 1) objects) ≡ raised ceilings base (drop i objects)
raised_turn ceilings base m i objects d h is =
    ap (λ n. raised ceilings n (drop (i + 1) objects)) is
    ∙ raised_by ceilings base (get_or objects i d) (drop (i + 1) objects)
    ∙ ap (raised ceilings base) (rest i objects d h) where
      rest : (i : ℕ) (objects : List ℕ) (d : ℕ) → i < length objects → get_or objects i d ∷ drop (i + 1) objects ≡ drop i objects
      rest i objects d h = rw (add-one, drop-cons objects i d) refl

-- the open actions of a task
pub opened_at : {A : Type 0} (f : A → List ℕ) (lists : List A) (seen : List (List ℕ)) (k task : ℕ) (d : A) → map f lists ≡ seen → k ≡ task → task < length seen
    → f (get_or lists k d) ≡ get_or seen task []
opened_at f lists seen k task d same is h =
    sym (get_or-map f lists k d [] (subst (λ n. k < n) (length-map lists f) (subst (λ qs. k < length qs) (sym same) (subst (λ n. n < length seen) (sym is) h))))
    ∙ ap (λ (qs : List (List ℕ)). get_or qs k []) same ∙ ap (λ n. get_or seen n []) is

either_false : (a b : Bool) → (a || b) ≡ false → (a ≡ false) × (b ≡ false)
either_false true b e = absurd (true_false e)
either_false false b e = (refl, e)

flips : (x y : ℕ) → nat_eq x y ≡ nat_eq y x
flips x y = go (nat_eq x y) (nat_eq y x) refl refl where
  go : (a b : Bool) → nat_eq x y ≡ a → nat_eq y x ≡ b → a ≡ b
  go true b p q = sym (eq-eqb y x (sym (eqb-true x y p))) ∙ q
  go false true p q = sym p ∙ eq-eqb x y (sym (eqb-true y x q))
  go false false p q = refl

-- an object that isn't among others differs from each
apart : (o : ℕ) (objects : List ℕ) → is_among o objects ≡ false → AllByRecursion (λ y. nat_eq o y ≡ false) objects
apart o [] none = tt
apart o (x ∷ objects) none = let e = either_false (nat_eq x o) (is_among o objects) none in (flips o x ∙ e.0, apart o objects e.1)

distinct_front : (o : ℕ) (objects : List ℕ) → is_among o objects ≡ false → IsDistinct nat_eq objects → IsDistinct nat_eq (o ∷ objects)
unfolding IsDistinct
distinct_front o objects none d = (apart o objects none, d)

in_front : (count o : ℕ) (objects : List ℕ) → AreObjects count objects → o < count → (p : ℕ) → is_among p (o ∷ objects) ≡ true → p < count
in_front count o objects are known p among = go (nat_eq o p) refl among where
  go : (b : Bool) → nat_eq o p ≡ b → (b || is_among p objects) ≡ true → p < count
  go true e h = subst (λ n. n < count) (eqb-true o p e) known
  go false e h = are.1 p h

flipped_among : (p : ℕ) (objects : List ℕ) → list_any (nat_eq p) objects ≡ is_among p objects
flipped_among p [] = refl
flipped_among p (x ∷ objects) = ap (λ b. b || list_any (nat_eq p) objects) (flips p x) ∙ ap (λ b. nat_eq x p || b) (flipped_among p objects)

-- there is room for one more
pub room : (count o : ℕ) (objects : List ℕ) → AreObjects count objects → count ≤ 64 → o < count → is_among o objects ≡ false → length objects < 64
room count o objects are few known none =
    let long : suc (length objects) ≤ count = length-le_from_distinct_below (o ∷ objects) count (distinct_front o objects none are.0)
    (λ p h. in_front count o objects are known p (sym (flipped_among p (o ∷ objects)) ∙ h)) in
    omega (arith, long, few)

among_behind : (p o : ℕ) (objects : List ℕ) → is_among p (objects ++ o ∷ []) ≡ is_among p (o ∷ objects)
among_behind p o [] = refl
among_behind p o (x ∷ objects) = ap (λ b. nat_eq x p || b) (among_behind p o objects) ∙ swapped (nat_eq x p) (nat_eq o p) (is_among p objects) where
  swapped : (a b c : Bool) → (a || (b || c)) ≡ (b || (a || c))
  swapped true true c = refl
  swapped true false c = refl
  swapped false b c = refl

pub one_more : (count o : ℕ) (objects : List ℕ) → AreObjects count objects → o < count → is_among o objects ≡ false → AreObjects count (objects ++ o ∷ [])
one_more count o objects are known none = (
  IsDistinct-IsPermutation nat_eq flips (o ∷ objects) (objects ++ o ∷ []) (IsPermutation-sym _ _ (IsPermutation-to_front objects o)) (distinct_front o objects none are.0),
  λ p h. in_front count o objects are known p (sym (among_behind p o objects) ∙ h),
)

all_left : (o : ℕ) (left right : List ℕ) → AllByRecursion (λ y. nat_eq o y ≡ false) (left ++ right) → AllByRecursion (λ y. nat_eq o y ≡ false) left
all_left o [] right all = tt
all_left o (x ∷ left) right all = (all.0, all_left o left right all.1)

distinct_left : (left right : List ℕ) → IsDistinct nat_eq (left ++ right) → IsDistinct nat_eq left
unfolding IsDistinct
distinct_left [] right d = tt
distinct_left (x ∷ left) right d = (all_left x left right d.0, distinct_left left right d.1)

among_left : (p : ℕ) (left right : List ℕ) → is_among p left ≡ true → is_among p (left ++ right) ≡ true
among_left p [] right h = absurd (true_false (sym h))
among_left p (x ∷ left) right h = go (nat_eq x p) (among_left p left right) h where
  go : (b : Bool) → (is_among p left ≡ true → is_among p (left ++ right) ≡ true) → (b || is_among p left) ≡ true → (b || is_among p (left ++ right)) ≡ true
  go true more e = refl
  go false more e = more e

pub one_less : (count : ℕ) (objects left right : List ℕ) → AreObjects count objects → objects ≡ left ++ right → AreObjects count left
one_less count objects left right are split = (
  distinct_left left right (subst (IsDistinct nat_eq) split are.0),
  λ p h. are.1 p (ap (is_among p) split ∙ among_left p left right h),
)

-- a task, and the handler of an interrupt, has a row
pub row_low : (task count : ℕ) → (task < count) ⊎ (task ≡ ACTOR) → count ≤ TASKS → row_of task < TASKS + 1
row_low task count h few = by_test (nat_eq task ACTOR) refl
  where
    by_test : (b : Bool) → nat_eq task ACTOR ≡ b → cond b TASKS task < TASKS + 1
    by_test true e = omega arith
    by_test false e = ⊎_elim (λ less. omega (arith, less, few)) (λ is. absurd (true_false (sym (eq-eqb task ACTOR is) ∙ e))) h

-- the open actions of one task change
pub kept_put : {A : Type 0} (f : A → List ℕ) (bases ceilings : List ℕ) (lists : List A) (queued : List (Option ℕ)) (k : ℕ) (l : A)
    → KeepsActions bases ceilings (map f lists) queued → k < TASKS + 1 → AreObjects (length ceilings) (f l)
    → KeepsActions bases ceilings (map f (set lists k l)) queued
kept_put f bases ceilings lists queued k l kept low are =
    let within : k < length (map f lists) = omega (arith, kept.rows, low) in record {
      tasks = kept.tasks;
      objects = kept.objects;
      rows = ap length (map-set f lists k l) ∙ length-set (map f lists) k (f l) ∙ kept.rows;
      queues = kept.queues;
      opened_are = λ t. subst (λ ls. AreObjects (length ceilings) (get_or ls t [])) (sym (map-set f lists k l))
          (same_or t k
          (λ e. subst (AreObjects (length ceilings)) (sym (ap (λ n. get_or (set (map f lists) k (f l)) n []) e ∙ get_or-set_same (map f lists) k (f l) [] within)) are)
          (λ other. subst (AreObjects (length ceilings)) (sym (get_or-set_other (map f lists) k t (f l) [] other)) (kept.opened_are t)));
    }

pub put_view : {A : Type 0} (f : A → List ℕ) (bases ceilings : List ℕ) (lists : List A) (queued : List (Option ℕ)) (k task : ℕ) (l : A) (objects : List ℕ) (a : Actions)
    → record { bases = bases; ceilings = ceilings; opened = map f lists; queued = queued } ≡ a → k ≡ row_of task → f l ≡ objects
    → record { bases = bases; ceilings = ceilings; opened = map f (set lists k l); queued = queued } ≡ with_opened task objects a
put_view f bases ceilings lists queued k task l objects a same is put =
    ap (with_list bases ceilings queued) (map-set f lists k l ∙ ap (λ n. set (map f lists) n (f l)) is ∙ ap (set (map f lists) (row_of task)) put)
    ∙ ap (with_opened task objects) same where
      with_list : List ℕ → List ℕ → List (Option ℕ) → List (List ℕ) → Actions
      with_list bases ceilings queued opened = record { bases = bases; ceilings = ceilings; opened = opened; queued = queued }

-- an action that may be opened is of an object of which none is open
pub none_open : (a : Actions) (task object : ℕ) → opening a task object ≡ Ok tt → is_among object (opened_by a task) ≡ false
none_open a task object h = go (is_among object (opened_by a task)) (nat_lt (ceiling_of a.ceilings object) (active_of a task)) h where
  go : (b c : Bool) → ◌≡◌ {A = Result (Unit {0}) Refusal} (cond b (Err SameObject) (cond c (Err AboveCeiling) (Ok (tt {0})))) (Ok (tt {0})) → b ≡ false
  go true c e = absurd cc
  go false c e = refl

pub carried : (count count' : ℕ) (xs ys : List ℕ) → AreObjects count xs → count' ≡ count → ys ≡ xs → AreObjects count' ys
carried count count' xs ys are counted same = subst (λ n. AreObjects n ys) (sym counted) (subst (AreObjects count) (sym same) are)

-- what holds of the fields holds of the value, and so the open actions of a task are those of the value
pub opened_kept : {A : Type 0} (f : A → List ℕ) (bases ceilings : List ℕ) (lists : List A) (queued : List (Option ℕ)) (a : Actions) (k task : ℕ) (d : A)
    → record { bases = bases; ceilings = ceilings; opened = map f lists; queued = queued } ≡ a → KeepsActions bases ceilings (map f lists) queued → k ≡ row_of task
    → IsTaskOrHandler a task → (f (get_or lists k d) ≡ opened_by a task) × KeepsActions a.bases a.ceilings a.opened a.queued
opened_kept f bases ceilings lists queued a k task d same kept is h =
    let whole = subst (λ v. KeepsActions v.bases v.ceilings v.opened v.queued) same kept in (
      opened_at f lists a.opened k (row_of task) d (ap (λ v. v.opened) same) is
          (let low = row_low task (length a.bases) h whole.tasks in omega (arith, low, whole.rows)),
      whole,
    )

-- at the start nothing is open
pub none_at_start : {A : Type 0} (f : A → List ℕ) (lists : List A) (n : ℕ) → length lists ≡ n → ((i : ℕ) (d : A) → i < length lists → f (get_or lists i d) ≡ [])
    → map f lists ≡ replicate n []
none_at_start f [] zero long none = refl
none_at_start f [] (suc n) long none = absurd (omega (arith, long))
none_at_start f (l ∷ lists) zero long none = absurd (omega (arith, long))
none_at_start f (l ∷ lists) (suc n) long none =
    let first : f l ≡ [] = none 0 l (search rules) in
    rw (first, none_at_start f lists n (omega (arith, long)) (λ i d h. none (suc i) d (search (rules, h)))) refl

nothing_at : (n t : ℕ) → get_or (replicate {A = List ℕ} n []) t [] ≡ []
nothing_at zero t = refl
nothing_at (suc n) zero = refl
nothing_at (suc n) (suc t) = nothing_at n t

nothing_open : (count : ℕ) → AreObjects count []
unfolding IsDistinct
nothing_open count = (tt, λ o h. absurd (true_false (sym h)))

pub kept_at_start : (bases ceilings given given' : List ℕ) (opened : List (List ℕ)) (queued : List (Option ℕ)) → bases ≡ given → ceilings ≡ given' → length given ≤ 65
    → length given' ≤ 64 → opened ≡ replicate 66 [] → length queued ≡ 64 → KeepsActions bases ceilings opened queued
kept_at_start bases ceilings given given' opened queued same same' tasks objects none queues = record {
  tasks = subst (λ l. length l ≤ 65) (sym same) tasks;
  objects = subst (λ l. length l ≤ 64) (sym same') objects;
  rows = ap length none;
  queues = queues;
  opened_are = λ t. subst (AreObjects (length ceilings)) (sym (ap (λ ls. get_or ls t []) none ∙ nothing_at 66 t)) (nothing_open (length ceilings));
}

pub view_at_start : (bases ceilings given given' : List ℕ) (opened opened' : List (List ℕ)) (queued : List (Option ℕ)) → bases ≡ given → ceilings ≡ given' → opened ≡ opened'
    → ◌≡◌ {A = Actions} record { bases = bases; ceilings = ceilings; opened = opened; queued = queued } record { bases = given; ceilings = given'; opened = opened'; queued = queued }
view_at_start bases ceilings given given' opened opened' queued same same' none = rw (same, same', none) refl
