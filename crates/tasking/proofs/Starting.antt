-- The fields before any task is ready, and the tasks becoming ready one after the other.
use Rattle.std.proofs.Common.{◌≡◌, ℕ, zero, suc, ◌+◌, ◌<◌, ◌≤◌, Bool, true, false, cond, nat_lt, pos, List, [], ◌∷◌, Option, None, rules, get_or, length, map, replicate, refl, sym, ap, ◌∙◌}
use Rattle.std.proofs.Common.{subst, ⊎_elim, arith}
use Rattle.std.proofs.lemmas.Bool.{cases_lt}
use Rattle.std.proofs.lemmas.List.{length-replicate}
use Rattle.base.specs.declared.limits.TheConstants.{CHANNELS, OBJECTS, PRIORITIES, TASKS}
use Rattle.base.specs.declared.schedule.ScheduleLine.{ScheduleLine}
use Rattle.clock.specs.declared.delays.Sleeper.{Sleeper as Row}
use Rattle.dispatch.specs.Queues.{Queues}
use Rattle.protected.specs.Actions.{Actions}
use Rattle.kernel.specs.State.{Action, Interrupt, IsFinished, Kernel, Partition, TaskPlace}
use Rattle.kernel.specs.Effects.{activated, blank}
use Rattle.kernel.specs.Invariant.{AreAttached, Fits, count}
use Rattle.tasking.specs.declared.reports.Place.TheVariants as places
use Rattle.tasking.specs.declared.reports.Kind.{Kind}
use Rattle.tasking.specs.Held.{Held, actions_at, kernel_of, lists_below, partition_of, pending_of, place_of, row_actions, sleepers_of, stands_at}
use Rattle.tasking.specs.Orderly.{IsKeptOrderly, IsNowhere, IsOrderly, IsTask, listings, standing}
use Rattle.tasking.proofs.Places.{list_at, list_past}
use Rattle.tasking.proofs.Standing.{active_low, none_of, ready_orderly, ready_standing}
use Rattle.tasking.proofs.Objects.{none_at}

all_same : {A : Type 0} (n t : ℕ) (x : A) → get_or (replicate n x) t x ≡ x
all_same zero t x = refl
all_same (suc n) zero x = refl
all_same (suc n) (suc t) x = all_same n t x

pub no_kinds : {A : Type 0} (f : A → List Kind) (lists : List A) → ((i : ℕ) (d : A) → i < length lists → f (get_or lists i d) ≡ []) → (t : ℕ)
    → get_or (map f lists) t [] ≡ []
no_kinds f [] all t = refl
no_kinds f (l ∷ lists) all zero = all 0 l (search rules)
no_kinds f (l ∷ lists) all (suc t) = no_kinds f lists (λ i d h. all (suc i) d (search (rules, h))) t

no_lists : (q : Queues) → ((p : ℕ) → q p ≡ []) → (h : ℕ) → get_or (lists_below PRIORITIES q) h [] ≡ []
no_lists q none h = ⊎_elim (λ lt. list_at PRIORITIES q h lt ∙ none h) (λ ge. list_past PRIORITIES q h ge) (cases_lt h PRIORITIES)

no_listings : (n t : ℕ) → listings n t (λ h. []) ≡ 0
unfolding listings
no_listings zero t = refl
no_listings (suc n) t = let i = no_listings n t in omega arith

blank_orderly : (p : Partition) (interrupts : List Interrupt) → Fits p → IsOrderly (blank p interrupts)
blank_orderly p interrupts fits = (fits.base_low, fits.ceiling_low, λ t. let z = no_listings PRIORITIES t in omega arith)

module _ (bases ceilings : List ℕ) (q : Queues) (rows : List Row) (objects : Actions) (ks : List (List Kind)) (given : List (Option ℕ)) (lines : List ScheduleLine)
    (fits : Fits (partition_of bases ceilings)) (no_ready : (p : ℕ) → q p ≡ []) (no_rows : rows ≡ []) (objects_are : objects
    ≡ record { bases = bases; ceilings = ceilings; opened = replicate (TASKS + 1) []; queued = replicate OBJECTS None })
    (no_ks : (t : ℕ) → get_or ks t [] ≡ []) (long : length ks ≡ TASKS + 1) (few_tasks : length bases ≤ TASKS) (few_objects : length ceilings ≤ OBJECTS)
    (few_channels : length given ≤ CHANNELS + 1) (all_attached : AreAttached (partition_of bases ceilings) (pending_of given lines)) where
  abbrev start_with : Actions → Held
  start_with a = record {
    running = None;
    handler = None;
    ready = lists_below PRIORITIES q;
    sleepers = rows;
    objects = a;
    kinds = ks;
    places = replicate TASKS places.Finished;
    time = pos 0;
    outcome = None;
    attached = given;
    ahead = lines;
  }

  abbrev plain : Actions
  plain = record { bases = bases; ceilings = ceilings; opened = replicate (TASKS + 1) []; queued = replicate OBJECTS None }

  no_row : (u : ℕ) → row_actions (start_with plain) u ≡ []
  no_row u = none_at (get_or (replicate (TASKS + 1) []) u []) (get_or ks u []) (all_same (TASKS + 1) u [])

  no_actions : (u : ℕ) → actions_at (start_with plain) u ≡ []
  no_actions u = ap (λ l. cond (nat_lt u (length bases)) l []) (no_row u) ∙ by_test (nat_lt u (length bases))
    where
      by_test : (b : Bool) → ◌≡◌ {A = List Action} (cond b [] []) []
      by_test true = refl
      by_test false = refl

  no_place : (u : ℕ) → stands_at (start_with plain) u ≡ IsFinished
  no_place u = ap (λ x. cond (nat_lt u (length bases)) (place_of x) IsFinished) (all_same TASKS u places.Finished) ∙ by_test (nat_lt u (length bases))
    where
      by_test : (b : Bool) → ◌≡◌ {A = TaskPlace} (cond b IsFinished IsFinished) IsFinished
      by_test true = refl
      by_test false = refl

  plain_is : kernel_of (start_with plain) ≡ blank (partition_of bases ceilings) (pending_of given lines)
  plain_is = λ i. record (blank (partition_of bases ceilings) (pending_of given lines)) {
    ready = λ h. no_lists q no_ready h i;
    sleepers = sleepers_of (no_rows i);
    queued = λ o. all_same OBJECTS o None i;
    actions = λ t. no_actions t i;
    place = λ t. no_place t i;
  }

  pub blank_is : kernel_of (start_with objects) ≡ blank (partition_of bases ceilings) (pending_of given lines)
  blank_is = ap (λ a. kernel_of (start_with a)) objects_are ∙ plain_is

  pub blank_kept : IsKeptOrderly (start_with objects)
  blank_kept = subst (λ a. IsKeptOrderly (start_with a)) (sym objects_are) (record {
    orderly = subst IsOrderly (sym plain_is) (blank_orderly (partition_of bases ceilings) (pending_of given lines) fits);
    rows = record {
      few_tasks = few_tasks;
      few_objects = few_objects;
      queues = length-replicate {A = Option ℕ} OBJECTS None;
      opened = length-replicate {A = List ℕ} (TASKS + 1) [];
      kinds = long;
      places = length-replicate TASKS places.Finished;
      short = λ t. let e = ap length (no_ks t) in omega (arith, e);
      paired = λ t. ap length (no_ks t) ∙ sym (ap length (all_same (TASKS + 1) t []));
      channels = few_channels;
      attached = all_attached;
    };
    handles = record { alone = λ a e. cc; runner = λ t e. cc; free = λ e. all_same (TASKS + 1) TASKS [] };
  })

-- one task after the other becomes ready
module _ (p : Partition) (interrupts : List Interrupt) (fits : Fits p) where
  pub started : (n : ℕ) → n ≤ p.tasks → IsOrderly (activated n (blank p interrupts)) ×
      (((u : ℕ) → n ≤ u → IsNowhere (activated n (blank p interrupts)) u) × ((activated n (blank p interrupts)).partition ≡ p))
  started zero le = (blank_orderly p interrupts fits, ((λ u ge. let z = no_listings PRIORITIES u in omega arith), refl))
  started (suc n) le =
      let x = started n (omega arith) in
      let k = activated n (blank p interrupts) in
      let task : IsTask k n = subst (λ v. n < v.tasks) (sym x.1.1) (omega arith) in (
        ready_orderly k n task (x.1.0 n (omega arith)) x.0,
        (
          (λ u ge. let s = ready_standing k n u (active_low k n x.0) in let z : standing k u
              ≡ 0 = x.1.0 u (omega arith) in let o = none_of u n (λ e. omega arith) in omega arith),
          x.1.1,
        ),
      )

  pub next_starts : (n count : ℕ) (k : Kernel) → k ≡ activated n (blank p interrupts) → n < count → count ≡ p.tasks → IsTask k n × IsNowhere k n
  next_starts n count k e lt few =
      let x = started n (omega (arith, lt, few)) in (
        subst (λ k'. IsTask k' n) (sym e) (subst (λ v. n < v.tasks) (sym x.1.1) (omega (arith, lt, few))),
        subst (λ k'. IsNowhere k' n) (sym e) (x.1.0 n (omega arith)),
      )
