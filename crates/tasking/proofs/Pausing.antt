-- What a copy holds of what the kernel's code holds, and the other way round.
use Rattle.std.proofs.Common.{◌≡◌, ℕ, zero, suc, ◌+◌, ◌≤◌, ℤ, List, [], ◌∷◌, ◌++◌, length, Option, None, refl, sym, ap, subst, ◌∙◌}
use Rattle.base.specs.declared.limits.TheConstants.{CHANNELS, PRIORITIES}
use Rattle.base.specs.declared.schedule.ScheduleLine.{ScheduleLine}
use Rattle.clock.specs.declared.delays.Sleeper.{Sleeper as Row}
use Rattle.dispatch.specs.Queues.{Queues, highest, highest_below, unless_empty}
use Rattle.protected.specs.Actions.{Actions}
use Rattle.kernel.specs.Invariant.{AreAttached}
use Rattle.tasking.specs.declared.reports.Kind.{Kind}
use Rattle.tasking.specs.declared.reports.Outcome.{Outcome as End}
use Rattle.tasking.specs.declared.reports.Place.{Place as Stand}
use Rattle.tasking.specs.Held.{Held, kernel_of, lists_below, partition_of, pending_of}
use Rattle.tasking.specs.Orderly.{IsKeptOrderly, IsOrderly}

-- no list holds anybody where there is no highest one
none_by : (n : ℕ) (l : List ℕ) (lower : Option ℕ) → unless_empty l n lower ≡ None → (l ≡ []) × (lower ≡ None)
none_by n [] lower e = (refl, e)
none_by n (t ∷ l) lower e = absurd (cc)

empty_lists : (n : ℕ) (q : Queues) → highest_below n q ≡ None → lists_below n q ≡ lists_below n (λ p. [])
unfolding lists_below
empty_lists zero q e = refl
empty_lists (suc n) q e =
    let both = none_by n (q n) (highest_below n q) e in
    let rest = empty_lists n q both.1 in
    λ i. rest i ++ both.0 i ∷ []

pub nobody_ready : (q : Queues) → highest q ≡ None → lists_below PRIORITIES q ≡ lists_below PRIORITIES (λ p. [])
unfolding highest
nobody_ready q e = empty_lists PRIORITIES q e

pub new_lists : (q : Queues) → ((p : ℕ) → q p ≡ []) → lists_below PRIORITIES (λ p. []) ≡ lists_below PRIORITIES q
new_lists q none = sym (ap (lists_below PRIORITIES) (λ i p. none p i))

module _ (running handler : Option ℕ) (time : ℤ) (stands : List Stand) where
  abbrev pub held_with : List (List ℕ) → List Row → Actions → List (List Kind) → Option End → List (Option ℕ) → List ScheduleLine → Held
  held_with ready rows objects kinds outcome attached ahead = record {
    running = running;
    handler = handler;
    ready = ready;
    sleepers = rows;
    objects = objects;
    kinds = kinds;
    places = stands;
    time = time;
    outcome = outcome;
    attached = attached;
    ahead = ahead;
  }

  -- with the same lists, and other interrupts
  pub still_kept : (ready other : List (List ℕ)) (rows : List Row) (objects : Actions) (kinds : List (List Kind)) (outcome later : Option End)
      (attached again : List (Option ℕ)) (ahead lines : List ScheduleLine) → ready ≡ other
      → IsKeptOrderly (held_with ready rows objects kinds outcome attached ahead) → length again ≤ CHANNELS + 1
      → AreAttached (partition_of objects.bases objects.ceilings) (pending_of again lines)
      → IsKeptOrderly (held_with other rows objects kinds later again lines)
  still_kept ready other rows objects kinds outcome later attached again ahead lines e k channels all = record {
    orderly = subst (λ r. IsOrderly (kernel_of (held_with r rows objects kinds later again lines))) e k.orderly;
    rows = record {
      few_tasks = k.rows.few_tasks;
      few_objects = k.rows.few_objects;
      queues = k.rows.queues;
      opened = k.rows.opened;
      kinds = k.rows.kinds;
      places = k.rows.places;
      short = k.rows.short;
      paired = k.rows.paired;
      channels = channels;
      attached = all;
    };
    handles = record { alone = k.handles.alone; runner = k.handles.runner; free = k.handles.free };
  }

  -- the copies are the same rows
  pub copied_kept : (ready : List (List ℕ)) (rows others : List Row) (objects copies : Actions) (kinds again : List (List Kind)) (outcome : Option End)
      (attached : List (Option ℕ)) (ahead : List ScheduleLine) → others ≡ rows → copies ≡ objects → again ≡ kinds
      → IsKeptOrderly (held_with ready rows objects kinds outcome attached ahead) → IsKeptOrderly (held_with ready others copies again outcome attached ahead)
  copied_kept ready rows others objects copies kinds again outcome attached ahead a b c k =
      subst (λ r. IsKeptOrderly (held_with ready r copies again outcome attached ahead)) (sym a)
      (subst (λ o. IsKeptOrderly (held_with ready rows o again outcome attached ahead)) (sym b)
      (subst (λ l. IsKeptOrderly (held_with ready rows objects l outcome attached ahead)) (sym c) k))

  pub same_kernel : (ready other : List (List ℕ)) (rows others : List Row) (objects copies : Actions) (kinds again : List (List Kind)) (outcome : Option End)
      (attached listed : List (Option ℕ)) (ahead lines : List ScheduleLine) → ready ≡ other → others ≡ rows → copies ≡ objects → again ≡ kinds → outcome ≡ None
      → kernel_of (held_with other others copies again None listed lines)
      ≡ record (kernel_of (held_with ready rows objects kinds outcome attached ahead)) { pending = pending_of listed lines }
  same_kernel ready other rows others objects copies kinds again outcome attached listed ahead lines e a b c none =
      (λ i. kernel_of (held_with (sym e i) (a i) (b i) (c i) None listed lines))
      ∙ (λ i. record (kernel_of (held_with ready rows objects kinds (sym none i) attached ahead)) { pending = pending_of listed lines })
