-- Laws of runs and counts, generic in what is kept beside the kernel: proved terms, since a contract cannot speak of all types.
use Rattle.std.proofs.Common.{◌≡◌, ℕ, zero, suc, ◌+◌, ◌≤◌, List, [], ◌++◌, Option, Some, None, Bool, refl, sym, ap, ◌∙◌, subst, arith, append_assoc}
use Rattle.std.proofs.lemmas.List.{append-nil}
use Rattle.kernel.specs.State.{Kernel, Outcome, Line}
use Rattle.kernel.specs.PutLaws.{put_same, put_put, put_self}
use Rattle.kernel.specs.Effects.{Closes, after}
use Rattle.kernel.specs.Worlds.{World, Local, step_of, step, run, Tasks, Solo, Behaviour, ending, reached, solo_of, put_back, among}
use Rattle.kernel.specs.Calm.{IsRunner}
use Rattle.kernel.specs.Counting.{Unseen, Spends, Done, Own, Calls, next_kernel, next_solo}
use Rattle.kernel.specs.Invariant.{Kept, Passed, IsBarrierHeld}
use Rattle.kernel.specs.Laws.{KeptByEvery, LinesGrow}

-- Runs

pub run_plus : {D : Type 0} (f : Local D) (i j : ℕ) (w : World D) → run f (i + j) w ≡ run f j (run f i w)
run_plus f zero j w = let e : zero + j ≡ j = omega arith in ap (λ n. run f n w) e
run_plus f (suc i) j w = let e : suc i + j ≡ suc (i + j) = omega arith in ap (λ n. run f n w) e ∙ run_plus f i j (step f w)

-- the step where a task runs
pub step_running : {D : Type 0} (f : Local D) (k : Kernel) (t : ℕ) (d : D) → IsRunner k t
    → step f (record { kernel = k; rest = d }) ≡ record { kernel = after t (f k t d).effect k; rest = (f k t d).rest }
step_running f k t d runs = ap (λ o. step_of f k d o k.running) runs.on ∙ ap (λ r. step_of f k d None r) runs.running

step_over : {D : Type 0} (f : Local D) (w : World D) (o : Outcome) → w.kernel.outcome ≡ Some o → step f w ≡ w
step_over f w o e = ap (λ x. step_of f w.kernel w.rest x w.kernel.running) e

-- a world with an outcome does not change
pub run_over : {D : Type 0} (f : Local D) (n : ℕ) (w : World D) (o : Outcome) → w.kernel.outcome ≡ Some o → run f n w ≡ w
run_over f zero w o e = refl
run_over f (suc n) w o e = ap (run f n) (step_over f w o e) ∙ run_over f n w o e

step_lines : {D : Type 0} (f : Local D) → LinesGrow → (k : Kernel) (d : D) (o : Option Outcome) (r : Option ℕ) → (more : List Line)
    × ((step_of f k d o r).kernel.lines ≡ k.lines ++ more)
step_lines f grow k d (Some o) r = ([], sym (append-nil k.lines))
step_lines f grow k d None None = ([], sym (append-nil k.lines))
step_lines f grow k d None (Some t) = grow t (f k t d).effect k

-- the lines of a world begin those of each later one
pub run_lines : {D : Type 0} (f : Local D) → LinesGrow → (n : ℕ) (w : World D) → (more : List Line) × ((run f n w).kernel.lines ≡ w.kernel.lines ++ more)
run_lines f grow zero w = ([], sym (append-nil w.kernel.lines))
run_lines f grow (suc n) w =
    let one = step_lines f grow w.kernel w.rest w.kernel.outcome w.kernel.running in
    let rest = run_lines f grow n (step f w) in
    (one.0 ++ rest.0, rest.1 ∙ (ap (λ l. l ++ rest.0) one.1 ∙ append_assoc w.kernel.lines one.0 rest.0))

-- The invariant in runs

-- what the steps of a world owe, by an invariant of its own
pub record Behaves {D : Type 0} (f : Local D) (barrier : D → ℕ → Bool) (Own : World D → Type 0) (k : Kernel) (t : ℕ) (d : D) : Type 0 where
  pub held : IsBarrierHeld (barrier d) (barrier (f k t d).rest) k t
  pub passed : Passed (barrier (f k t d).rest) k t (f k t d).effect
  pub own : Own (record { kernel = after t (f k t d).effect k; rest = (f k t d).rest })

module _ {D : Type 0} (f : Local D) (barrier : D → ℕ → Bool) (Own : World D → Type 0) (every : KeptByEvery) (behaves : (k : Kernel) (t : ℕ) (d : D)
    → Own (record { kernel = k; rest = d }) → Kept (barrier d) k → IsRunner k t → Behaves f barrier Own k t d) where
  step_kept : (k : Kernel) (d : D) (o : Option Outcome) (r : Option ℕ) → k.outcome ≡ o → k.running ≡ r → Own (record { kernel = k; rest = d })
      → Kept (barrier d) k → (let w = step_of f k d o r in Own w × Kept (barrier w.rest) w.kernel)
  step_kept k d (Some o) r on running own kept = (own, kept)
  step_kept k d None None on running own kept = (own, kept)
  step_kept k d None (Some t) on running own kept =
      let x = behaves k t d own kept (record { on = on; running = running }) in
      (x.own, every (barrier d) (barrier (f k t d).rest) k t (f k t d).effect running x.held x.passed kept)

  -- the invariant holds after any number of steps
  pub run_kept : (n : ℕ) (w : World D) → Own w → Kept (barrier w.rest) w.kernel → (let v = run f n w in Own v × Kept (barrier v.rest) v.kernel)
  run_kept zero w own kept = (own, kept)
  run_kept (suc n) w own kept =
      let x = step_kept w.kernel w.rest w.kernel.outcome w.kernel.running refl refl own kept in
      run_kept n (step f w) x.0 x.1

-- Unseen steps

pub solo_back : {M T : Type 0} (t : ℕ) (d : Tasks M T) (s : Solo M T) → solo_of t (put_back t d s) ≡ s
solo_back t d s = λ i. record { memory = s.memory; task = put_same t t s.task d.tasks refl i }

pub back_back : {M T : Type 0} (t : ℕ) (d : Tasks M T) (s r : Solo M T) → put_back t (put_back t d s) r ≡ put_back t d r
back_back t d s r = λ i. record { memory = r.memory; tasks = λ u. put_put t r.task s.task d.tasks u i }

pub back_self : {M T : Type 0} (t : ℕ) (d : Tasks M T) → put_back t d (solo_of t d) ≡ d
back_self t d = λ i. record { memory = d.memory; tasks = λ u. put_self t d.tasks u i }

module _ {M T G : Type 0} (b : Behaviour M T G) (t : ℕ) where
  -- a step that reaches no other task changes what the task itself holds
  pub among_alone : (k : Kernel) (d : Tasks M T) → ending k t (b.act k t (solo_of t d)).effect ≡ Closes
      → (among b k t d).rest ≡ put_back t d (b.act k t (solo_of t d)).solo
  among_alone k d e =
      let a = b.act k t (solo_of t d) in
      ap (λ x. record { memory = a.solo.memory; tasks = reached b t x a.given (put_back t d a.solo).tasks }) e

  pub unseen_trans : (i j : ℕ) (k : Kernel) (s : Solo M T) (l : Kernel) (r : Solo M T) (m : Kernel) (v : Solo M T) → Unseen b t i k s l r
      → Unseen b t j l r m v → Unseen b t (i + j) k s m v
  unseen_trans zero j k s l r m v p q = let e : zero + j ≡ j = omega arith in subst
      (λ n. Unseen b t n k s m v) (sym e) (subst (λ x. Unseen b t j x s m v) (sym p.0) (subst (λ x. Unseen b t j l x m v) (sym p.1) q))
  unseen_trans (suc i) j k s l r m v p q =
      let e : suc i + j ≡ suc (i + j) = omega arith in
      subst (λ n. Unseen b t n k s m v) (sym e) (p.0, unseen_trans i j (next_kernel b t k s) (next_solo b t k s) l r m v p.1 q)

  unseen_from : (j : ℕ) (d : Tasks M T) (k : Kernel) (s : Solo M T) (l : Kernel) (r : Solo M T) → Unseen b t j k s l r
      → run (among b) j (record { kernel = k; rest = put_back t d s }) ≡ record { kernel = l; rest = put_back t d r }
  unseen_from zero d k s l r p = λ i. record { kernel = p.0 i; rest = put_back t d (p.1 i) }
  unseen_from (suc j) d k s l r p =
      let e = put_back t d s in
      let same = solo_back t d s in
      let there : (among b k t e).rest ≡ put_back t d (next_solo b t k s) =
      among_alone k e (subst (λ x. ending k t (b.act k t x).effect ≡ Closes) (sym same) p.0.closes)
      ∙ (ap (λ x. put_back t e (b.act k t x).solo) same ∙ back_back t d s (next_solo b t k s)) in
      let kernel : after t (among b k t e).effect k ≡ next_kernel b t k s = ap (λ x. after t (b.act k t x).effect k) same in
      let one : step (among b) (record { kernel = k; rest = e }) ≡ record { kernel = next_kernel b t k s; rest = put_back t d (next_solo b t k s) } =
      step_running (among b) k t e p.0.runs ∙ (λ i. record { kernel = kernel i; rest = there i }) in
      ap (run (among b) j) one ∙ unseen_from j d (next_kernel b t k s) (next_solo b t k s) l r p.1

  -- unseen steps of a task are steps of the run
  pub unseen_run : (j : ℕ) (d : Tasks M T) (k l : Kernel) (r : Solo M T) → Unseen b t j k (solo_of t d) l r
      → run (among b) j (record { kernel = k; rest = d }) ≡ record { kernel = l; rest = put_back t d r }
  unseen_run j d k l r p = ap (λ x. run (among b) j (record { kernel = k; rest = x })) (sym (back_self t d)) ∙ unseen_from j d k (solo_of t d) l r p

  -- Counted steps

  module _ (frames : T → ℕ) (limit : T → ℕ) where
    pub spends_unseen : {d n : ℕ} {k l : Kernel} {s r : Solo M T} → Spends b t frames limit d n k s l r → (j : ℕ) × Unseen b t j k s l r
    spends_unseen {k = k} {s = s} Done = (0, (refl, refl))
    spends_unseen (Own alone here rest) = let x = spends_unseen rest in (suc x.0, (alone, x.1))
    spends_unseen {k = k} {s = s} (Calls {l = l} {o = o} {r = r} {v = v} alone here above low rest) =
        let x = spends_unseen above in
        let y = spends_unseen rest in
        (suc (x.0 + y.0), (alone, unseen_trans x.0 y.0 (next_kernel b t k s) (next_solo b t k s) l r o v x.1 y.1))

    pub spends_more : {d n : ℕ} {k l : Kernel} {s r : Solo M T} (m : ℕ) → n ≤ m → Spends b t frames limit d n k s l r → Spends b t frames limit d m k s l r
    spends_more m le Done = Done
    spends_more zero le (Own alone here rest) = absurd (omega arith)
    spends_more (suc m) le (Own alone here rest) = Own alone here (spends_more m (omega arith) rest)
    spends_more zero le (Calls alone here above low rest) = absurd (omega arith)
    spends_more (suc m) le (Calls alone here above low rest) = Calls alone here above low (spends_more m (omega arith) rest)

    pub spends_trans : {d n : ℕ} {k l : Kernel} {s r : Solo M T} (m : ℕ) (o : Kernel) (v : Solo M T) → Spends b t frames limit d n k s l r
        → Spends b t frames limit d m l r o v → Spends b t frames limit d (n + m) k s o v
    spends_trans {n = n} m o v Done q = spends_more (n + m) (omega arith) q
    spends_trans {d = d} {k = k} {s = s} m o v (Own {n = n} alone here rest) q =
        let e : suc (n + m) ≡ suc n + m = omega arith in subst (λ x. Spends b t frames limit d x k s o v) e (Own alone here (spends_trans m o v rest q))
    spends_trans {d = d} {k = k} {s = s} m o v (Calls {n = n} alone here above low rest) q =
        let e : suc (n + m) ≡ suc n + m = omega arith in subst
        (λ x. Spends b t frames limit d x k s o v) e (Calls alone here above low (spends_trans m o v rest q))
