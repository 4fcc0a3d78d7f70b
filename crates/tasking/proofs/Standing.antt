-- Each task stands once at most: what moves make of that, and the room that it gives.
use Rattle.std.proofs.Common.{◌≡◌, ◌≢◌, inr, ℕ, zero, suc, ◌+◌, ◌<◌, ◌≤◌, ℤ, List, [], ◌∷◌, ◌++◌, Option, Some, None, IfSome, Bool, true, false, cond, eqb, ltb}
use Rattle.std.proofs.Common.{length, map, refl, sym, ap, ◌∙◌, subst, ⊎_elim, arith}
use Rattle.std.specs.Prelude.{◌||◌}
use Rattle.std.specs.List.{AllByRecursion, IsDistinct, list_any}
use Rattle.std.proofs.lemmas.Bool.{cases_lt, le-ltb, lt-ltb}
use Rattle.std.proofs.lemmas.Map.Steps.{length-le_from_distinct_below}
use Rattle.base.specs.declared.limits.TheConstants.{PRIORITIES}
use Rattle.kernel.specs.State.{Kernel, Action, Sleeper, active, object_of, put, raised}
use Rattle.kernel.specs.Dispatching.{becomes_ready, leaves, preempted, runs_from, runs_head}
use Rattle.kernel.specs.Clock.{falls_asleep}
use Rattle.kernel.specs.Invariant.{count, naps}
use Rattle.kernel.specs.PutLaws.{eqb_other, eqb_same, same_or_not, put_other, put_same}
use Rattle.tasking.specs.Orderly.{IsNowhere, IsOrderly, IsTask, StandsThere, listings, once, runs_as, standing}

-- Counts

counts : (t : ℕ) (xs ys : List ℕ) → count t (xs ++ ys) ≡ count t xs + count t ys
counts t [] ys = omega arith
counts t (x ∷ xs) ys = let i = counts t xs ys in omega arith

napping : (t : ℕ) (xs ys : List Sleeper) → naps t (xs ++ ys) ≡ naps t xs + naps t ys
napping t [] ys = omega arith
napping t (x ∷ xs) ys = let i = napping t xs ys in omega arith

one_of : (t u : ℕ) → t ≡ u → count t (u ∷ []) ≡ 1
one_of t u e = ap (λ v. cond v 1 0 + 0) (eqb_same t u e)

pub none_of : (t u : ℕ) → t ≢ u → count t (u ∷ []) ≡ 0
none_of t u ne = ap (λ v. cond v 1 0 + 0) (eqb_other t u ne)

pub once_one : (k : Kernel) (t : ℕ) → IsTask k t → once k t ≡ 1
once_one k t h = ap (λ b. cond b 1 (runs_as t k.running)) (lt-ltb t k.partition.tasks h)

pub once_beyond : (k : Kernel) (t : ℕ) → k.partition.tasks ≤ t → once k t ≡ runs_as t k.running
once_beyond k t h = ap (λ b. cond b 1 (runs_as t k.running)) (le-ltb t k.partition.tasks h)

runs_low : (t : ℕ) (r : Option ℕ) → runs_as t r ≤ 1
runs_low t None = omega arith
runs_low t (Some r) = low (eqb t r) where
  low : (b : Bool) → cond b 1 0 ≤ 1
  low true = omega arith
  low false = omega arith

pub once_low : (k : Kernel) (t : ℕ) → once k t ≤ 1
once_low k t = low (ltb t k.partition.tasks) where
  low : (b : Bool) → cond b 1 (runs_as t k.running) ≤ 1
  low true = omega arith
  low false = runs_low t k.running

-- who stands somewhere else than in the processor is a task
pub task_of : (k : Kernel) (t : ℕ) → 1 + runs_as t k.running ≤ once k t → IsTask k t
task_of k t h = ⊎_elim (λ lt. lt) (λ ge. let e = once_beyond k t ge in absurd (omega (arith, h, e))) (cases_lt t k.partition.tasks)

-- a number that no task has is neither ready nor asleep
waits_low : (k : Kernel) (u : ℕ) → IsOrderly k → listings PRIORITIES u k.ready + naps u k.sleepers ≤ cond (ltb u k.partition.tasks) 1 0
waits_low k u o =
    let i = o.2 u in
    ⊎_elim
    (λ lt.
    let a = once_one k u lt in
    let e : ◌≡◌ {A = ℕ} (cond (ltb u k.partition.tasks) 1 0) 1 = ap (λ b. cond b 1 0) (lt-ltb u k.partition.tasks lt) in
    omega (arith, i, a, e))
    (λ ge.
    let a = once_beyond k u ge in
    let e : ◌≡◌ {A = ℕ} (cond (ltb u k.partition.tasks) 1 0) 0 = ap (λ b. cond b 1 0) (le-ltb u k.partition.tasks ge) in
    omega (arith, i, a, e))
    (cases_lt u k.partition.tasks)

pub runs_one : (k : Kernel) (t : ℕ) → k.running ≡ Some t → runs_as t k.running ≡ 1
runs_one k t e = ap (runs_as t) e ∙ ap (λ v. cond v 1 0) (eqb_same t t refl)

-- Rooms

apart : (x : ℕ) (xs : List ℕ) → count x xs ≡ 0 → AllByRecursion (λ y. eqb x y ≡ false) xs
apart x [] e = tt
apart x (y ∷ ys) e =
    ⊎_elim
    (λ same. let one : count x (y ∷ ys) ≡ 1 + count x ys = ap (λ v. cond v 1 0 + count x ys) (eqb_same x y same) in absurd (omega arith))
    (λ ne. let none : count x (y ∷ ys) ≡ 0 + count x ys = ap (λ v. cond v 1 0 + count x ys) (eqb_other x y ne) in (eqb_other x y ne, apart x ys (omega arith)))
    (same_or_not x y)

fewer : (t x : ℕ) (xs : List ℕ) → count t xs ≤ count t (x ∷ xs)
fewer t x xs = more (eqb t x) (count t xs) where
  more : (b : Bool) (n : ℕ) → n ≤ cond b 1 0 + n
  more b n = omega arith

distinct : (xs : List ℕ) → ((t : ℕ) → count t xs ≤ 1) → IsDistinct eqb xs
unfolding IsDistinct
distinct [] all = tt
distinct (x ∷ xs) all =
    let one : count x (x ∷ xs) ≡ 1 + count x xs = ap (λ v. cond v 1 0 + count x xs) (eqb_same x x refl) in
    (apart x xs (let i = all x in omega arith), distinct xs (λ t. let i = all t in let j = fewer t x xs in omega arith))

counted : (q : ℕ) (xs : List ℕ) → list_any (eqb q) xs ≡ true → 1 ≤ count q xs
counted q [] h = absurd (cc)
counted q (x ∷ xs) h = here (eqb q x) (counted q xs) h where
  here : (b : Bool) → (list_any (eqb q) xs ≡ true → 1 ≤ count q xs) → (b || list_any (eqb q) xs) ≡ true → 1 ≤ cond b 1 0 + count q xs
  here true more e = omega arith
  here false more e = let i = more e in omega arith

bit_low : (b : Bool) (c : ℕ) → c ≤ cond b 1 0 → c ≤ 1
bit_low true c le = le
bit_low false c le = omega arith

bit_task : (q n : ℕ) → 1 ≤ cond (ltb q n) 1 0 → q < n
bit_task q n le = ⊎_elim (λ lt. lt)
    (λ ge. let e : ◌≡◌ {A = ℕ} (cond (ltb q n) 1 0) 0 = ap (λ b. cond b 1 0) (le-ltb q n ge) in absurd (omega (arith, le, e))) (cases_lt q n)

distinct_first : (t : ℕ) (xs : List ℕ) → count t xs ≡ 0 → ((u : ℕ) → count u xs ≤ 1) → IsDistinct eqb (t ∷ xs)
unfolding IsDistinct
distinct_first t xs none few = (apart t xs none, distinct xs few)

-- where each task stands in a list once at most, and one of them doesn't, there is room for it
pub room : (xs : List ℕ) (n t : ℕ) → ((u : ℕ) → count u xs ≤ cond (ltb u n) 1 0) → count t xs ≡ 0 → t < n → length xs < n
room xs n t all none h =
    let long : suc (length xs) ≤ n =
    length-le_from_distinct_below (t ∷ xs) n
    (distinct_first t xs none (λ u. bit_low (ltb u n) (count u xs) (all u)))
    (λ q e.
    ⊎_elim
    (λ same. subst (λ m. m < n) (sym same) h)
    (λ ne.
    let c = counted q (t ∷ xs) e in
    let z : count q (t ∷ xs) ≡ 0 + count q xs = ap (λ v. cond v 1 0 + count q xs) (eqb_other q t ne) in
    let i = all q in
    bit_task q n (omega arith))
    (same_or_not q t)) in
    omega arith

-- Lists of priorities

untouched : (n a t : ℕ) (x : List ℕ) (r : ℕ → List ℕ) → n ≤ a → listings n t (put a x r) ≡ listings n t r
unfolding listings
untouched zero a t x r le = refl
untouched (suc n) a t x r le = let i = untouched n a t x r (omega arith) in let e = ap (count t) (put_other a n x r (λ same. omega arith)) in omega arith

pub put_listings : (n a t : ℕ) (x : List ℕ) (r : ℕ → List ℕ) → a < n → listings n t (put a x r) + count t (r a) ≡ listings n t r + count t x
unfolding listings
put_listings zero a t x r lt = absurd (omega arith)
put_listings (suc n) a t x r lt =
    ⊎_elim
    (λ same. let i = untouched n a t x r (omega arith) in let e = ap (count t) (put_same a n x r same) in let f = ap (λ m. count t (r m)) same in omega arith)
    (λ ne. let i = put_listings n a t x r (omega arith) in let e = ap (count t) (put_other a n x r ne) in omega arith)
    (same_or_not n a)

listed_in : (n a t : ℕ) (r : ℕ → List ℕ) → a < n → count t (r a) ≤ listings n t r
unfolding listings
listed_in zero a t r lt = absurd (omega arith)
listed_in (suc n) a t r lt =
    ⊎_elim
    (λ same. let f = ap (λ m. count t (r m)) same in omega arith)
    (λ ne. let i = listed_in n a t r (omega arith) in omega arith)
    (same_or_not n a)

-- Moves

raised_low : (c : ℕ → ℕ) (b n : ℕ) (l : List Action) → b < n → ((o : ℕ) → c o < n) → raised c b l < n
raised_low c b n [] h i = h
raised_low c b n (a ∷ l) h i = let j = raised_low c b n l h i in let m = i (object_of a) in omega arith

pub active_low : (k : Kernel) (t : ℕ) → IsOrderly k → active k t < PRIORITIES
active_low k t o = raised_low k.partition.ceiling (k.partition.base t) PRIORITIES (k.actions t) (o.0 t) o.1

-- who runs changes, and the lists and the sleepers stay
module _ (k l : Kernel) (same : l.partition.tasks ≡ k.partition.tasks) (o : IsOrderly k) (u : ℕ)
    (waits : listings PRIORITIES u l.ready + naps u l.sleepers + runs_as u l.running ≤ listings PRIORITIES u k.ready + naps u k.sleepers + runs_as u k.running)
    (rest : k.partition.tasks ≤ u → listings PRIORITIES u l.ready + naps u l.sleepers ≤ listings PRIORITIES u k.ready + naps u k.sleepers) where
  runs_elsewhere : standing l u ≤ once l u
  runs_elsewhere =
      let i = o.2 u in
      ⊎_elim
      (λ lt. let a = once_one k u lt in let b = once_one l u (omega (arith, lt, same)) in omega (arith, i, a, b, waits))
      (λ ge.
      let a = once_beyond k u ge in
      let b = once_beyond l u (omega (arith, ge, same)) in
      let c = rest ge in
      omega (arith, i, a, b, c))
      (cases_lt u k.partition.tasks)

pub leaves_orderly : (k : Kernel) (t : ℕ) → IsOrderly k → IsOrderly (leaves t k)
leaves_orderly k t o = (o.0, o.1, λ u. runs_elsewhere k (leaves t k) refl o u (omega arith) (λ ge. omega arith))

pub leaves_nowhere : (k : Kernel) (t : ℕ) → IsOrderly k → k.running ≡ Some t → IsNowhere (leaves t k) t
leaves_nowhere k t o run = let i = o.2 t in let one = runs_one k t run in let low = once_low k t in omega arith

-- a handler begins to run, and is over
pub begins_orderly : (k l : Kernel) (a : ℕ) → k.running ≡ None → l.running ≡ Some a → k.partition.tasks ≤ a → l.partition ≡ k.partition → l.ready ≡ k.ready
    → l.sleepers ≡ k.sleepers
    → IsOrderly k
    → IsOrderly l
begins_orderly k l a idle run beyond partition ready sleepers o = (
  λ t. subst (λ p. p.base t < PRIORITIES) (sym partition) (o.0 t),
  λ p'. subst (λ p. p.ceiling p' < PRIORITIES) (sym partition) (o.1 p'),
  λ u.
      let i = o.2 u in
      let n = ap (runs_as u) idle in
      let r = ap (runs_as u) run in
      let same = ap (λ p. p.tasks) partition in
      let q = ap (listings PRIORITIES u) ready in
      let s = ap (naps u) sleepers in
      ⊎_elim
      (λ lt.
      let x = once_one k u lt in
      let y = once_one l u (omega (arith, lt, same)) in
      let z : runs_as u (Some a) ≡ 0 = ap (λ v. cond v 1 0) (eqb_other u a (λ e. omega (arith, e, lt, beyond))) in
      omega (arith, i, n, r, q, s, x, y, z))
      (λ ge.
      let x = once_beyond k u ge in
      let y = once_beyond l u (omega (arith, ge, same)) in
      omega (arith, i, n, r, q, s, x, y))
      (cases_lt u k.partition.tasks),
)

pub ready_standing : (k : Kernel) (t u : ℕ) → active k t < PRIORITIES → standing (becomes_ready t k) u ≡ standing k u + count u (t ∷ [])
ready_standing k t u low =
    let a = active k t in
    let l = put_listings PRIORITIES a u (k.ready a ++ t ∷ []) k.ready low in
    let c = counts u (k.ready a) (t ∷ []) in
    omega arith

pub ready_orderly : (k : Kernel) (t : ℕ) → IsTask k t → IsNowhere k t → IsOrderly k → IsOrderly (becomes_ready t k)
ready_orderly k t task none o = (
  o.0,
  o.1,
  λ u.
      let s = ready_standing k t u (active_low k t o) in
      let i = o.2 u in
      ⊎_elim
      (λ e. let one = one_of u t e in let m = once_one k u (subst (λ v. v < k.partition.tasks) (sym e) task) in let z : standing k u
      ≡ 0 = ap (standing k) e ∙ none in omega arith)
      (λ ne. let zero = none_of u t ne in omega arith)
      (same_or_not u t),
)

pub preempted_orderly : (k : Kernel) (t : ℕ) → IsTask k t → k.running ≡ Some t → IsOrderly k → IsOrderly (preempted t k)
preempted_orderly k t task run o = (
  o.0,
  o.1,
  λ u.
      let a = active k t in
      let l = put_listings PRIORITIES a u (t ∷ k.ready a) k.ready (active_low k t o) in
      let r = ap (runs_as u) run in
      runs_elsewhere k (preempted t k) refl o u (omega arith)
      (λ ge.
      let z : runs_as u (Some t) ≡ 0 = ap (λ v. cond v 1 0) (eqb_other u t (λ e. omega (arith, e, ge, task))) in
      omega arith),
)

pub asleep_orderly : (k : Kernel) (t : ℕ) (w : ℤ) → IsTask k t → IsNowhere k t → IsOrderly k → IsOrderly (falls_asleep t w k)
asleep_orderly k t w task none o = (
  o.0,
  o.1,
  λ u.
      let me : Sleeper = record { task = t; wake = w } in
      let c = napping u k.sleepers (me ∷ []) in
      let i = o.2 u in
      ⊎_elim
      (λ e. let one : naps u (me ∷ []) ≡ 1 = one_of u t e in let m = once_one k u
      (subst (λ v. v < k.partition.tasks) (sym e) task) in let z : standing k u ≡ 0 = ap (standing k) e ∙ none in omega arith)
      (λ ne. let zero : naps u (me ∷ []) ≡ 0 = none_of u t ne in omega arith)
      (same_or_not u t),
)

head_orderly : (k : Kernel) (h : ℕ) (l : List ℕ) → k.ready h ≡ l → h < PRIORITIES → k.running ≡ None → IsOrderly k → IsOrderly (runs_head l h k)
head_orderly k h [] e low none o = o
head_orderly k h (t ∷ ts) e low none o = (
  o.0,
  o.1,
  λ u.
      let l = put_listings PRIORITIES h u ts k.ready low in
      let c = ap (count u) e in
      let r = ap (runs_as u) none in
      runs_elsewhere k (runs_head (t ∷ ts) h k) refl o u (omega arith) (λ ge. omega arith),
)

pub runs_orderly : (k : Kernel) (o : Option ℕ) → ((h : ℕ) → o ≡ Some h → h < PRIORITIES) → k.running ≡ None → IsOrderly k → IsOrderly (runs_from o k)
runs_orderly k None low none o = o
runs_orderly k (Some h) low none o = head_orderly k h (k.ready h) refl (low h refl) none o

-- the room in a list of ready tasks
pub ready_room : (k : Kernel) (n t a : ℕ) → k.partition.tasks ≤ n → IsTask k t → listings PRIORITIES t k.ready ≡ 0 → a < PRIORITIES → IsOrderly k
    → length (k.ready a) < n
ready_room k n t a few task none low o =
    let r = room (k.ready a) k.partition.tasks t (λ u. let i = waits_low k u o in let j = listed_in PRIORITIES a u k.ready low in omega arith)
    (let j = listed_in PRIORITIES a t k.ready low in omega arith) task in omega arith

naps_count : (t : ℕ) (ss : List Sleeper) → naps t ss ≡ count t (map (λ s. s.task) ss)
naps_count t [] = refl
naps_count t (s ∷ ss) = ap (λ n. cond (eqb t s.task) 1 0 + n) (naps_count t ss)

map_long : (ss : List Sleeper) → length (map {B = ℕ} (λ s. s.task) ss) ≡ length ss
map_long [] = refl
map_long (s ∷ ss) = ap suc (map_long ss)

pub sleeping_room : (k : Kernel) (n t : ℕ) → k.partition.tasks ≤ n → IsTask k t → IsNowhere k t → IsOrderly k → length k.sleepers < n
sleeping_room k n t few task none o =
    let r = room (map (λ s. s.task) k.sleepers) k.partition.tasks t (λ u. let i = waits_low k u o in let j = naps_count u k.sleepers in omega arith)
    (let j = naps_count t k.sleepers in omega arith) task in
    let e = map_long k.sleepers in omega arith

-- where a ready task stands in a list, it is a task
pub head_task : (k : Kernel) (h t : ℕ) (ts : List ℕ) → h < PRIORITIES → k.ready h ≡ t ∷ ts → IsOrderly k → IsTask k t
head_task k h t ts low e o =
    task_of k t (let i = o.2 t in let j = listed_in PRIORITIES h t k.ready low in let c = ap (count t) e in let one : count t (t ∷ ts)
    ≡ 1 + count t ts = ap (λ v. cond v 1 0 + count t ts) (eqb_same t t refl) in omega arith)

pub some_there : (k : Kernel) → IfSome k.running (λ t. StandsThere k t)
some_there k = go k.running refl where
  go : (r : Option ℕ) → k.running ≡ r → IfSome r (λ t. StandsThere k t)
  go None e = tt
  go (Some t) e = inr e
