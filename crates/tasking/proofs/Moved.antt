-- What a write to the fields makes of the kernel that they are seen as.
use Rattle.std.proofs.Common.{◌≡◌, inl, ℕ, zero, suc, ◌<◌, ◌≤◌, cond, eqb, List, [], ◌∷◌, ◌++◌, Option, Some, None, drop, get_or, length, length-set, set, refl, sym, ap, ◌∙◌}
use Rattle.std.proofs.Common.{arith, subst, ⊎_elim}
use Rattle.base.specs.declared.limits.TheConstants.{PRIORITIES}
use Rattle.dispatch.specs.Queues.{Queues, head_at, head_of, highest, highest_below, unless_empty, without_head}
use Rattle.std.proofs.lemmas.Bool.{cases_lt, le-ltb, lt-ltb}
use Rattle.kernel.specs.State.{Kernel, IsFinished, IsRunning, active, put}
use Rattle.kernel.specs.Dispatching.{becomes_ready, preempted, runs_from, runs_head}
use Rattle.kernel.specs.PutLaws.{put_other, by_put}
use Rattle.tasking.specs.declared.reports.Place.{Place as Stand}
use Rattle.tasking.specs.declared.reports.Place.TheVariants as places
use Rattle.tasking.specs.Held.{Held, is_handler, kernel_of, lists_below, place_at, place_of, stands_at}
use Rattle.tasking.specs.Orderly.{AreRows, HandlesAlone}
use Rattle.tasking.proofs.Places.{list_at, lists_put, set_is}

-- what becomes of a kernel, seen from the value
pub carried : (h old : Held) (new : Kernel) (f : Kernel → Kernel) → h ≡ old → new ≡ f (kernel_of h) → new ≡ f (kernel_of old)
carried h old new f same e = e ∙ ap (λ x. f (kernel_of x)) same

-- the place of a task, in the row
pub stand_task : (h : Held) (u : ℕ) → u < length h.objects.bases → stands_at h u ≡ place_at h.places u
stand_task h u lt = ap (λ b. cond b (place_at h.places u) (cond (is_handler h.handler u) IsRunning IsFinished)) (lt-ltb u (length h.objects.bases) lt)

pub stand_beyond : (h : Held) (u : ℕ) → length h.objects.bases ≤ u → stands_at h u ≡ cond (is_handler h.handler u) IsRunning IsFinished
stand_beyond h u ge = ap (λ b. cond b (place_at h.places u) (cond (is_handler h.handler u) IsRunning IsFinished)) (le-ltb u (length h.objects.bases) ge)

pub placed : (g : Held) (k t : ℕ) (x : Stand) → k ≡ t → t < length g.objects.bases → t < length g.places → (u : ℕ)
    → stands_at (record g { places = set g.places k x }) u ≡ put t (place_of x) (kernel_of g).place u
placed g k t x is task h u =
    ⊎_elim
    (λ lt.
    stand_task (record g { places = set g.places k x }) u lt
    ∙ (set_is place_of g.places k t x places.Finished is h u
    ∙ ap (λ y. cond (eqb u t) (place_of x) y) (sym (stand_task g u lt))))
    (λ ge.
    stand_beyond (record g { places = set g.places k x }) u ge
    ∙ (sym (stand_beyond g u ge)
    ∙ sym (put_other t u (place_of x) (kernel_of g).place (λ e. omega (arith, e, ge, task)))))
    (cases_lt u (length g.objects.bases))

-- only a task's place is written
pub rows_placed : (g h : Held) (k : ℕ) (x : Stand) → AreRows g
    → AreRows (record g { running = h.running; ready = h.ready; sleepers = h.sleepers; places = set g.places k x; time = h.time; outcome = h.outcome })
rows_placed g h k x r = record {
  few_tasks = r.few_tasks;
  few_objects = r.few_objects;
  queues = r.queues;
  opened = r.opened;
  kinds = r.kinds;
  places = length-set g.places k x ∙ r.places;
  short = r.short;
  paired = r.paired;
  channels = r.channels;
  attached = r.attached;
}

pub rows_same : (g h : Held) → AreRows g
    → AreRows (record g { running = h.running; handler = h.handler; ready = h.ready; sleepers = h.sleepers; time = h.time; outcome = h.outcome })
rows_same g h r = record {
  few_tasks = r.few_tasks;
  few_objects = r.few_objects;
  queues = r.queues;
  opened = r.opened;
  kinds = r.kinds;
  places = r.places;
  short = r.short;
  paired = r.paired;
  channels = r.channels;
  attached = r.attached;
}

-- who runs stays, or is a task that begins or ends to run
pub handles_same : (g h : Held) → HandlesAlone g
    → HandlesAlone (record g { ready = h.ready; sleepers = h.sleepers; kinds = h.kinds; places = h.places; time = h.time; outcome = h.outcome })
handles_same g h x = record { alone = x.alone; runner = x.runner; free = x.free }

-- where a task runs no handler is there
pub no_handler : (g : Held) → HandlesAlone g → (t : ℕ) → g.running ≡ Some t → t < length g.objects.bases → (a : ℕ) → g.handler ≡ Some a → ⊥
no_handler g x t run task a is =
    let there : g.running ≡ Some a = (x.alone a is).0 in
    let here : g.running ≡ Some t = run in
    let same : a ≡ t = cc in
    let beyond = (x.alone a is).1 in
    omega (arith, same, beyond, task)

pub handles_left : (g h : Held) (t : ℕ) → g.running ≡ Some t → t < length g.objects.bases → HandlesAlone g
    → HandlesAlone (record g { running = None; ready = h.ready; sleepers = h.sleepers; places = h.places; time = h.time; outcome = h.outcome })
handles_left g h t run task x = record {
  alone = λ a is. absurd (no_handler g x t run task a is);
  runner = λ u e. cc;
  free = x.free;
}

pub handles_begun : (g h : Held) (t : ℕ) → g.running ≡ None → t < length g.objects.bases → HandlesAlone g
    → HandlesAlone (record g { running = Some t; ready = h.ready; sleepers = h.sleepers; places = h.places; time = h.time; outcome = h.outcome })
handles_begun g h t idle task x = record {
  alone = λ a is. (let there : g.running ≡ Some a = (x.alone a is).0 in let none : g.running ≡ None = idle in absurd (cc));
  runner = λ u e. (let same : t ≡ u = cc in inl (subst (λ v. v < length g.objects.bases) same task));
  free = x.free;
}

-- a list of ready tasks is written
listed : (q r : Queues) (a b : ℕ) (f : List ℕ → List ℕ) → a ≡ b → a < PRIORITIES → ((p : ℕ) → r p ≡ put a (f (q a)) q p)
    → (h : ℕ) → get_or (lists_below PRIORITIES r) h [] ≡ put b (f (get_or (lists_below PRIORITIES q) b [])) (λ p. get_or (lists_below PRIORITIES q) p []) h
listed q r a b f is low e h =
    lists_put q r a (f (q a)) low e h
    ∙ (ap (λ l. put a (f l) (λ p. get_or (lists_below PRIORITIES q) p []) h) (sym (list_at PRIORITIES q a low))
    ∙ ap (λ n. put n (f (get_or (lists_below PRIORITIES q) n [])) (λ p. get_or (lists_below PRIORITIES q) p []) h) is)

module _ (g : Held) (q r : Queues) where
  before : Held
  before = record g { ready = lists_below PRIORITIES q }

  pub ready_is : (k t a : ℕ) → k ≡ t → t < length g.objects.bases → t < length g.places → a ≡ active (kernel_of g) t → a < PRIORITIES → ((p : ℕ) → r p ≡ put a (q a ++ t ∷ []) q p)
      → kernel_of (record g { ready = lists_below PRIORITIES r; places = set g.places k places.Ready })
      ≡ becomes_ready t (kernel_of (record g { ready = lists_below PRIORITIES q }))
  ready_is k t a is task h same low e = λ i.
      record (kernel_of g) {
        ready = λ p. listed q r a (active (kernel_of g) t) (λ l. l ++ t ∷ []) same low e p i;
        place = λ u. placed g k t places.Ready is task h u i;
      }

  pub preempted_is : (k t a : ℕ) → k ≡ t → t < length g.objects.bases → t < length g.places → a ≡ active (kernel_of g) t → a < PRIORITIES → ((p : ℕ) → r p ≡ put a (t ∷ q a) q p)
      → kernel_of (record g { running = None; ready = lists_below PRIORITIES r; places = set g.places k places.Ready })
      ≡ preempted t (kernel_of (record g { ready = lists_below PRIORITIES q }))
  preempted_is k t a is task h same low e = λ i.
      record (kernel_of g) {
        running = None;
        ready = λ p. listed q r a (active (kernel_of g) t) (λ l. t ∷ l) same low e p i;
        place = λ u. placed g k t places.Ready is task h u i;
      }

  head_split : (l : List ℕ) (t : ℕ) → head_of l ≡ Some t → l ≡ t ∷ drop 1 l
  head_split [] t e = absurd (cc)
  head_split (u ∷ us) t e = let same : u ≡ t = cc in ap (λ v. v ∷ us) same

  -- the head of the list h runs
  head_is : (h k t : ℕ) → h < PRIORITIES → head_of (q h) ≡ Some t → ((p : ℕ) → r p ≡ put h (drop 1 (q h)) q p) → k ≡ t → t < length g.objects.bases
      → t < length g.places
      → kernel_of (record g { running = Some t; ready = lists_below PRIORITIES r; places = set g.places k places.Running })
      ≡ runs_from (Some h) (kernel_of (record g { ready = lists_below PRIORITIES q }))
  head_is h k t low e left is task lt =
      let kern = kernel_of (record g { ready = lists_below PRIORITIES q }) in
      let here : kern.ready h ≡ t ∷ drop 1 (q h) = list_at PRIORITIES q h low ∙ head_split (q h) t e in
      (λ i.
      record (kernel_of g) {
        running = Some t;
        ready = λ p. lists_put q r h (drop 1 (q h)) low left p i;
        place = λ u. placed g k t places.Running is task lt u i;
      })
      ∙ sym (ap (λ l. runs_head l h kern) here)

  pub head_runs_is : (o : Option ℕ) (k t : ℕ) → ((h : ℕ) → o ≡ Some h → h < PRIORITIES) → head_at o q ≡ Some t → ((p : ℕ) → r p ≡ without_head o q p)
      → k ≡ t → t < length g.objects.bases → t < length g.places
      → kernel_of (record g { running = Some t; ready = lists_below PRIORITIES r; places = set g.places k places.Running })
      ≡ runs_from o (kernel_of (record g { ready = lists_below PRIORITIES q }))
  head_runs_is None k t low e left is task lt = absurd (cc)
  head_runs_is (Some h) k t low e left is task lt = head_is h k t (low h refl) e left is task lt

  empty_of : (l : List ℕ) → head_of l ≡ None → l ≡ []
  empty_of [] e = refl
  empty_of (u ∷ us) e = absurd (cc)

  unchanged : ((p : ℕ) → r p ≡ q p) → kernel_of (record g { ready = lists_below PRIORITIES r }) ≡ kernel_of (record g { ready = lists_below PRIORITIES q })
  unchanged e = ap (λ s. kernel_of (record g { ready = lists_below PRIORITIES s })) (λ i p. e p i)

  pub none_runs_is : (o : Option ℕ) → ((h : ℕ) → o ≡ Some h → h < PRIORITIES) → head_at o q ≡ None → ((p : ℕ) → r p ≡ without_head o q p)
      → kernel_of (record g { ready = lists_below PRIORITIES r }) ≡ runs_from o (kernel_of (record g { ready = lists_below PRIORITIES q }))
  none_runs_is None low e left = unchanged left
  none_runs_is (Some h) low e left =
      let kern = kernel_of (record g { ready = lists_below PRIORITIES q }) in
      let here = empty_of (q h) e in
      unchanged (λ p. left p ∙ by_put (λ l. l ≡ q p) h p (drop 1 (q h)) q (λ same. ap (drop 1) here ∙ sym (ap q same ∙ here)) (λ ne. refl))
      ∙ sym (ap (λ l. runs_head l h kern) (list_at PRIORITIES q h (low h refl) ∙ here))

below_of : (n h : ℕ) (q : Queues) → highest_below n q ≡ Some h → h < n
below_of zero h q e = absurd (cc)
below_of (suc n) h q e = go (q n) (highest_below n q) (below_of n h q) e where
  go : (l : List ℕ) (o : Option ℕ) → (o ≡ Some h → h < n) → unless_empty l n o ≡ Some h → h < suc n
  go [] o low e = let i = low e in omega arith
  go (t ∷ ts) o low e = let same : n ≡ h = cc in omega arith

pub highest_low : (q : Queues) (h : ℕ) → highest q ≡ Some h → h < PRIORITIES
unfolding highest
highest_low q h e = below_of PRIORITIES h q e
