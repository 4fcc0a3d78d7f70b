-- The moves, from what holds of the fields before and what the keepers of ready and sleeping tasks promise.
use Rattle.std.proofs.Common.{◌≡◌, ℕ, ◌<◌, ◌≤◌, ℤ, List, [], ◌∷◌, ◌++◌, Option, Some, None, length, map, set, refl, sym, ap, ◌∙◌, subst, arith}
use Rattle.base.specs.declared.limits.TheConstants.{PRIORITIES, TASKS}
use Rattle.dispatch.specs.Queues.{Queues, head_at, head_of, highest, without_head}
use Rattle.kernel.specs.State.{Kernel, active, put}
use Rattle.kernel.specs.Dispatching.{becomes_ready, highest as kernel_highest, leaves, preempted, runs_from}
use Rattle.kernel.specs.Clock.{falls_asleep}
use Rattle.std.proofs.lemmas.List.{length-map, map-append}
use Rattle.clock.specs.declared.delays.Sleeper.{Sleeper as Row}
use Rattle.tasking.specs.declared.pause.Tables.{Tables}
use Rattle.tasking.specs.declared.reports.Place.TheVariants as places
use Rattle.tasking.specs.Held.{Held, kernel_of, lists_below, sleeper_of, sleepers_of}
use Rattle.tasking.specs.Orderly.{IsKeptOrderly, IsNowhere, IsOrderly, IsTask, StandsThere, standing}
use Rattle.tasking.proofs.Places.{highest_same, list_at}
use Rattle.tasking.proofs.Standing.{asleep_orderly, sleeping_room, head_task, leaves_nowhere, leaves_orderly, once_low, preempted_orderly, ready_orderly, ready_room}
use Rattle.tasking.proofs.Standing.{runs_one, runs_orderly}
use Rattle.tasking.proofs.Moved.{handles_begun, handles_left, handles_same, head_runs_is, highest_low, none_runs_is, placed, preempted_is, ready_is, rows_placed, rows_same}

-- the value before, as the fields are seen
abbrev pub seen : {h old : Held} → h ≡ old → Held
seen {h = h} e = h

-- the value with other tables of actions
abbrev pub with_tables : Held → Tables → Held
with_tables h tables = record h { objects = tables.objects; kinds = map (λ l. l.items) tables.kinds }

-- with its own tables where they are lent
module _ (h : Held) {lent own : Tables} (is : lent ≡ own) where
  pub lent_same : {old : Held} → with_tables h own ≡ old → with_tables h lent ≡ old
  lent_same same = ap (with_tables h) is ∙ same

  pub lent_kept : IsKeptOrderly (with_tables h own) → IsKeptOrderly (with_tables h lent)
  lent_kept kept = subst (λ t. IsKeptOrderly (with_tables h t)) (sym is) kept

module _ (h old : Held) (same : h ≡ old) (kept : IsKeptOrderly h) where
  pub task_here : (t : ℕ) → IsTask (kernel_of old) t → IsTask (kernel_of h) t
  task_here t task = subst (λ v. IsTask (kernel_of v) t) (sym same) task

  pub there_here : (t : ℕ) → StandsThere (kernel_of old) t → StandsThere (kernel_of h) t
  there_here t there = subst (λ v. StandsThere (kernel_of v) t) (sym same) there

  pub in_row : (k t : ℕ) → k ≡ t → IsTask (kernel_of h) t → k < TASKS
  in_row k t is task = let r = kept.rows in let f = r.few_tasks in omega arith

  pub in_places : (t : ℕ) → IsTask (kernel_of h) t → t < length h.places
  in_places t task = let r = kept.rows in let f = r.few_tasks in let p = r.places in omega arith

  pub runs_here : (t : ℕ) → old.running ≡ Some t → h.running ≡ Some t
  runs_here t run = ap (λ v. v.running) same ∙ run

module _ (g : Held) (q r : Queues) (old : Held) (same : record g { ready = lists_below PRIORITIES q } ≡ old)
    (kept : IsKeptOrderly (record g { ready = lists_below PRIORITIES q })) where
  abbrev h : Held
  h = record g { ready = lists_below PRIORITIES q }

  few : (kernel_of h).partition.tasks ≤ TASKS
  few = kept.rows.few_tasks

  -- a task that is nowhere becomes ready
  pub becomes_room : (t a : ℕ) → IsTask (kernel_of old) t → IsNowhere (kernel_of old) t → a < PRIORITIES → length (q a) < TASKS
  becomes_room t a task none low =
      let z : standing (kernel_of h) t ≡ 0 = ap (λ v. standing (kernel_of v) t) same ∙ none in
      let l = ready_room (kernel_of h) TASKS t a few (task_here h old same kept t task) (omega arith) low kept.orderly in
      subst (λ xs. length xs < TASKS) (list_at PRIORITIES q a low) l

  module _ (t k a : ℕ) (is : k ≡ t) (task : IsTask (kernel_of old) t) (a_is : a ≡ active (kernel_of old) t) (low : a < PRIORITIES) where
    a_here : a ≡ active (kernel_of h) t
    a_here = a_is ∙ ap (λ v. active (kernel_of v) t) (sym same)

    in_them : t < length g.places
    in_them = in_places h old same kept t (task_here h old same kept t task)

    becomes_path : ((p : ℕ) → r p ≡ put a (q a ++ t ∷ []) q p)
        → kernel_of (record g { ready = lists_below PRIORITIES r; places = set g.places k places.Ready }) ≡ becomes_ready t (kernel_of h)
    becomes_path e = ready_is g q r k t a is (task_here h old same kept t task) in_them a_here low e

    pub becomes_is : ((p : ℕ) → r p ≡ put a (q a ++ t ∷ []) q p)
        → kernel_of (record g { ready = lists_below PRIORITIES r; places = set g.places k places.Ready }) ≡ becomes_ready t (kernel_of old)
    becomes_is e = becomes_path e ∙ ap (λ v. becomes_ready t (kernel_of v)) same

    pub becomes_kept : IsNowhere (kernel_of old) t → ((p : ℕ) → r p ≡ put a (q a ++ t ∷ []) q p)
        → IsKeptOrderly (record g { ready = lists_below PRIORITIES r; places = set g.places k places.Ready })
    becomes_kept none e = record {
      orderly = subst IsOrderly (sym (becomes_path e))
          (ready_orderly (kernel_of h) t (task_here h old same kept t task) (ap (λ v. standing (kernel_of v) t) same ∙ none) kept.orderly);
      rows = rows_placed h (record g { ready = lists_below PRIORITIES r }) k places.Ready kept.rows;
      handles = handles_same h (record g { ready = lists_below PRIORITIES r; places = set g.places k places.Ready }) kept.handles;
    }

    preempted_path : ((p : ℕ) → r p ≡ put a (t ∷ q a) q p) → kernel_of
        (record g { running = None; ready = lists_below PRIORITIES r; places = set g.places k places.Ready }) ≡ preempted t (kernel_of h)
    preempted_path e = preempted_is g q r k t a is (task_here h old same kept t task) in_them a_here low e

    pub outranked_is : ((p : ℕ) → r p ≡ put a (t ∷ q a) q p) → kernel_of
        (record g { running = None; ready = lists_below PRIORITIES r; places = set g.places k places.Ready }) ≡ preempted t (kernel_of old)
    outranked_is e = preempted_path e ∙ ap (λ v. preempted t (kernel_of v)) same

    pub outranked_kept : old.running ≡ Some t → ((p : ℕ) → r p ≡ put a (t ∷ q a) q p)
        → IsKeptOrderly (record g { running = None; ready = lists_below PRIORITIES r; places = set g.places k places.Ready })
    outranked_kept run e = record {
      orderly = subst IsOrderly (sym (preempted_path e)) (preempted_orderly (kernel_of h) t (task_here h old same kept t task) (runs_here h old same kept t run) kept.orderly);
      rows = rows_placed h (record g { running = None; ready = lists_below PRIORITIES r }) k places.Ready kept.rows;
      handles = handles_left h (record g { ready = lists_below PRIORITIES r; places = set g.places k places.Ready }) t (runs_here h old same kept t run)
          (task_here h old same kept t task) kept.handles;
    }

  -- the running task is in no list
  pub preempted_room : (t a : ℕ) → IsTask (kernel_of old) t → old.running ≡ Some t → a < PRIORITIES → length (q a) < TASKS
  preempted_room t a task run low =
      let here = runs_here h old same kept t run in
      let o = kept.orderly.2 t in
      let one = runs_one (kernel_of h) t here in
      let at_most = once_low (kernel_of h) t in
      let l = ready_room (kernel_of h) TASKS t a few (task_here h old same kept t task) (omega arith) low kept.orderly in
      subst (λ xs. length xs < TASKS) (list_at PRIORITIES q a low) l

  -- the head of the highest list runs
  module _ (none : old.running ≡ None) (left : (p : ℕ) → r p ≡ without_head (highest q) q p) where
    none_here : h.running ≡ None
    none_here = ap (λ v. v.running) same ∙ none

    from_highest : (f : Option ℕ → Kernel) → f (highest q) ≡ f (kernel_highest (kernel_of h).ready PRIORITIES)
    from_highest f = ap f (sym (highest_same q))

    old_is : runs_from (highest q) (kernel_of h) ≡ runs_from (kernel_highest (kernel_of old).ready PRIORITIES) (kernel_of old)
    old_is = ap (λ o. runs_from o (kernel_of h)) (sym (highest_same q))
        ∙ ap (λ v. runs_from (kernel_highest (kernel_of v).ready PRIORITIES) (kernel_of v)) same

    module _ (t : ℕ) (e : head_at (highest q) q ≡ Some t) where
      pub head_is_task : IsTask (kernel_of h) t
      head_is_task = go (highest q) refl e where
        go : (o : Option ℕ) → highest q ≡ o → head_at o q ≡ Some t → IsTask (kernel_of h) t
        go None is f = absurd (cc)
        go (Some p) is f = at (q p) (list_at PRIORITIES q p (highest_low q p is)) f where
          at : (l : List ℕ) → (kernel_of h).ready p ≡ l → head_of l ≡ Some t → IsTask (kernel_of h) t
          at [] here f = absurd (cc)
          at (u ∷ us) here f = let e : u ≡ t = cc in head_task (kernel_of h) p t us (highest_low q p is) (here ∙ ap (λ v. v ∷ us) e) kept.orderly

      module _ (k : ℕ) (is : k ≡ t) where
        head_path : kernel_of (record g { running = Some t; ready = lists_below PRIORITIES r; places = set g.places k places.Running })
            ≡ runs_from (highest q) (kernel_of h)
        head_path = head_runs_is g q r (highest q) k t (λ p i. highest_low q p i) e left is head_is_task (in_places h old same kept t head_is_task)

        pub run_is : kernel_of (record g { running = Some t; ready = lists_below PRIORITIES r; places = set g.places k places.Running })
            ≡ runs_from (kernel_highest (kernel_of old).ready PRIORITIES) (kernel_of old)
        run_is = head_path ∙ old_is

        pub run_kept : IsKeptOrderly (record g { running = Some t; ready = lists_below PRIORITIES r; places = set g.places k places.Running })
        run_kept = record {
          orderly = subst IsOrderly (sym head_path) (runs_orderly (kernel_of h) (highest q) (λ p i. highest_low q p i) none_here kept.orderly);
          rows = rows_placed h (record g { running = Some t; ready = lists_below PRIORITIES r }) k places.Running kept.rows;
          handles = handles_begun h (record g { ready = lists_below PRIORITIES r; places = set g.places k places.Running }) t none_here head_is_task kept.handles;
        }

    module _ (e : head_at (highest q) q ≡ None) where
      idle_path : kernel_of (record g { ready = lists_below PRIORITIES r }) ≡ runs_from (highest q) (kernel_of h)
      idle_path = none_runs_is g q r (highest q) (λ p i. highest_low q p i) e left

      pub idle_is : kernel_of (record g { ready = lists_below PRIORITIES r }) ≡ runs_from (kernel_highest (kernel_of old).ready PRIORITIES) (kernel_of old)
      idle_is = idle_path ∙ old_is

      pub idle_kept : IsKeptOrderly (record g { ready = lists_below PRIORITIES r })
      idle_kept = record {
        orderly = subst IsOrderly (sym idle_path) (runs_orderly (kernel_of h) (highest q) (λ p i. highest_low q p i) none_here kept.orderly);
        rows = rows_same h (record g { ready = lists_below PRIORITIES r }) kept.rows;
        handles = handles_same h (record g { ready = lists_below PRIORITIES r }) kept.handles;
      }

-- a task that is nowhere sleeps
module _ (h old : Held) (same : h ≡ old) (kept : IsKeptOrderly h) (t : ℕ) where
  pub asleep_room : IsTask (kernel_of old) t → IsNowhere (kernel_of old) t → length h.sleepers < TASKS
  asleep_room task none =
      let l = sleeping_room (kernel_of h) TASKS t kept.rows.few_tasks (task_here h old same kept t task)
      (ap (λ v. standing (kernel_of v) t) same ∙ none) kept.orderly in
      let e : length (sleepers_of h.sleepers) ≡ length h.sleepers = length-map h.sleepers sleeper_of in
      omega arith

  pub asleep_is : (k : ℕ) (w : ℤ) (rows : List Row) → k ≡ t → IsTask (kernel_of old) t → rows ≡ h.sleepers ++ record { task = t; wake = w } ∷ []
      → kernel_of (record h { sleepers = rows; places = set h.places k places.Asleep }) ≡ falls_asleep t w (kernel_of old)
  asleep_is k w rows is task e =
      let here = task_here h old same kept t task in
      let sleepers = ap sleepers_of e ∙ map-append sleeper_of h.sleepers (record { task = t; wake = w } ∷ []) in
      (λ i. record (kernel_of h) { sleepers = sleepers i; place = λ u. placed h k t places.Asleep is here (in_places h old same kept t here) u i })
      ∙ ap (λ v. falls_asleep t w (kernel_of v)) same

  pub asleep_kept : (k : ℕ) (w : ℤ) (rows : List Row) → k ≡ t → IsTask (kernel_of old) t → IsNowhere (kernel_of old) t → rows
      ≡ h.sleepers ++ record { task = t; wake = w } ∷ []
      → IsKeptOrderly (record h { sleepers = rows; places = set h.places k places.Asleep })
  asleep_kept k w rows is task none e = record {
    orderly = subst (λ ss. IsOrderly (record (falls_asleep t w (kernel_of h)) { sleepers = ss }))
        (sym (ap sleepers_of e ∙ map-append sleeper_of h.sleepers (record { task = t; wake = w } ∷ [])))
        (asleep_orderly (kernel_of h) t w (task_here h old same kept t task) (ap (λ v. standing (kernel_of v) t) same ∙ none) kept.orderly);
    rows = rows_placed h (record h { sleepers = rows }) k places.Asleep kept.rows;
    handles = handles_same h (record h { sleepers = rows; places = set h.places k places.Asleep }) kept.handles;
  }

-- the running task leaves
module _ (h old : Held) (same : h ≡ old) (kept : IsKeptOrderly h) (k t : ℕ) (is : k ≡ t) (task : IsTask (kernel_of old) t) (run : old.running ≡ Some t) where
  leaves_path : kernel_of (record h { running = None; places = set h.places k places.Finished }) ≡ leaves t (kernel_of h)
  leaves_path =
      let here = task_here h old same kept t task in
      (λ i. record (kernel_of h) { running = None; place = λ u. placed h k t places.Finished is here (in_places h old same kept t here) u i })

  pub leaves_is : kernel_of (record h { running = None; places = set h.places k places.Finished }) ≡ leaves t (kernel_of old)
  leaves_is = leaves_path ∙ ap (λ v. leaves t (kernel_of v)) same

  pub left_nowhere : IsNowhere (kernel_of (record h { running = None; places = set h.places k places.Finished })) t
  left_nowhere = subst (λ x. IsNowhere x t) (sym leaves_path) (leaves_nowhere (kernel_of h) t kept.orderly (runs_here h old same kept t run))

  pub leaves_kept : IsKeptOrderly (record h { running = None; places = set h.places k places.Finished })
  leaves_kept = record {
    orderly = subst IsOrderly (sym leaves_path) (leaves_orderly (kernel_of h) t kept.orderly);
    rows = rows_placed h (record h { running = None }) k places.Finished kept.rows;
    handles = handles_left h (record h { places = set h.places k places.Finished }) t (runs_here h old same kept t run) (task_here h old same kept t task)
        kept.handles;
  }
