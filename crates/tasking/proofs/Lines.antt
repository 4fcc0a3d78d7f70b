-- Other lines change nothing in effects, dispatching and the clock.
use Rattle.std.proofs.Common.{◌≡◌, ℕ, ℤ, List, [], ◌∷◌, ◌++◌, Option, Some, None, Bool, true, false, cond, nat_lt, refl, sym, ap, ◌∙◌, append-nil}
use Rattle.std.specs.Prelude.{int_lt}
use Rattle.base.specs.declared.limits.TheConstants.{PRIORITIES}
use Rattle.kernel.specs.State.{Interrupt, Kernel, Line, Sleeper, Action, Reads, Writes, Serves, active}
use Rattle.kernel.specs.Dispatching.{becomes_ready, dispatch, dispatch_from, highest, leaves, preempted, preempts, runs_from, runs_head}
use Rattle.kernel.specs.Clock.{clock, clock_from, falls_asleep, next, released, time_moves, wakes_due, wakes_if_due}
use Rattle.kernel.specs.Interrupts.{delivers, starts}
use Rattle.kernel.specs.Effects.{Quiet, Finishes, Breaks, Says, Delays, Opens, Views, Queues, Ends, Dies, effect, ending_of, ends, goes_if, is_over, outer_of, service}
use Rattle.kernel.specs.Invariant.{Sound}
use Rattle.tasking.specs.Laws.{KeptWithLines, LinesApart}

abbrev with : List Line → Kernel → Kernel
with l k = record k { lines = l }

by_cond : (l : List Line) (b : Bool) (x y v w : Kernel) → x ≡ with l v → y ≡ with l w → cond b x y ≡ with l (cond b v w)
by_cond l true x y v w e f = e
by_cond l false x y v w e f = f

module _ (l : List Line) where
  head_apart : (ts : List ℕ) (h : ℕ) (k : Kernel) → runs_head ts h (with l k) ≡ with l (runs_head ts h k)
  head_apart [] h k = refl
  head_apart (t ∷ ts) h k = refl

  from_apart : (o : Option ℕ) (k : Kernel) → runs_from o (with l k) ≡ with l (runs_from o k)
  from_apart None k = refl
  from_apart (Some h) k = head_apart (k.ready h) h k

  preempts_apart : (t : ℕ) (o : Option ℕ) (k : Kernel) → preempts t o (with l k) ≡ with l (preempts t o k)
  preempts_apart t None k = refl
  preempts_apart t (Some h) k =
      by_cond l (nat_lt (active k t) h) (runs_from (Some h) (preempted t (with l k))) (with l k) (runs_from (Some h) (preempted t k)) k
      (from_apart (Some h) (preempted t k)) refl

  dispatch_at : (r o : Option ℕ) (k : Kernel) → highest k.ready PRIORITIES ≡ o → dispatch_from r (with l k) ≡ with l (dispatch_from r k)
  dispatch_at None o k e = from_apart (highest k.ready PRIORITIES) k
  dispatch_at (Some t) o k e = preempts_apart t (highest k.ready PRIORITIES) k

  dispatch_apart : (k : Kernel) → dispatch (with l k) ≡ with l (dispatch k)
  dispatch_apart k = dispatch_at k.running (highest k.ready PRIORITIES) k refl

  wakes_one : (s : Sleeper) (k : Kernel) → wakes_if_due s (with l k) ≡ with l (wakes_if_due s k)
  wakes_one s k = by_cond l (int_lt k.now s.wake) _ _ (record k { sleepers = k.sleepers ++ s ∷ [] }) (becomes_ready s.task (released s.task k)) refl refl

  wakes_apart : (ss : List Sleeper) (k : Kernel) → wakes_due ss (with l k) ≡ with l (wakes_due ss k)
  wakes_apart [] k = refl
  wakes_apart (s ∷ ss) k = ap (wakes_due ss) (wakes_one s k) ∙ wakes_apart ss (wakes_if_due s k)

  delivers_apart : (is : List Interrupt) (k : Kernel) → delivers is (with l k) ≡ with l (delivers is k)
  delivers_apart [] k = refl
  delivers_apart (i ∷ is) k = by_cond l (int_lt k.now i.time) _ _ k (starts i (record k { pending = is })) refl refl

  goes_apart : (b : Bool) (t : ℕ) (k : Kernel) → goes_if b t (with l k) ≡ with l (goes_if b t k)
  goes_apart false t k = refl
  goes_apart true t k = delivers_apart k.pending (leaves t k)

  time_apart : (o : Option ℤ) (k : Kernel) → time_moves o (with l k) ≡ with l (time_moves o k)
  time_apart None k = refl
  time_apart (Some time) k =
      let now : Kernel = record k { now = time; sleepers = [] } in
      let woken : Kernel = wakes_due k.sleepers now in
      ap (λ v. dispatch (delivers v.pending v)) (wakes_apart k.sleepers now)
      ∙ (ap dispatch (delivers_apart woken.pending woken) ∙ dispatch_apart (delivers woken.pending woken))

  clock_at : (r : Option ℕ) (k : Kernel) → clock_from r (with l k) ≡ with l (clock_from r k)
  clock_at (Some t) k = refl
  clock_at None k = time_apart (next k) k

  clock_apart : (k : Kernel) → clock (with l k) ≡ with l (clock k)
  clock_apart k = clock_at k.running k

  -- dispatching and the clock behind an effect that does the same
  settled : (j k : Kernel) → j ≡ with l k → clock (dispatch j) ≡ with l (clock (dispatch k))
  settled j k e = ap (λ v. clock (dispatch v)) e ∙ (ap clock (dispatch_apart k) ∙ clock_apart (dispatch k))

  service_apart : (t o : ℕ) (is_open : Bool) (q : Option ℕ) (outer : List Action) (k : Kernel) → ends t (service is_open o q) outer (with l k)
      ≡ with l (ends t (service is_open o q) outer k)
  service_apart t o false q outer k = refl
  service_apart t o true None outer k = refl
  service_apart t o true (Some u) outer k = refl

  ends_apart : (t : ℕ) (is_open : Bool) (actions : List Action) (k : Kernel)
      → ends t (ending_of is_open actions k.queued) (outer_of actions) (with l k) ≡ with l (ends t (ending_of is_open actions k.queued) (outer_of actions) k)
  ends_apart t is_open [] k = refl
  ends_apart t is_open (Reads o ∷ outer) k = refl
  ends_apart t is_open (Writes o ∷ outer) k = service_apart t o is_open (k.queued o) outer k
  ends_apart t is_open (Serves o u ∷ outer) k = refl

none_more : (l : List Line) (j k : Kernel) → j ≡ with l k → j ≡ with (l ++ []) k
none_more l j k e = e ∙ ap (λ m. with m k) (sym (append-nil l))

pub lines_apart : LinesApart
lines_apart t Quiet k l = none_more l _ (clock (dispatch k)) (settled l (with l k) k refl)
lines_apart t (Says label value) k l =
    let more : Line = record { time = k.now; task = t; label = label; value = value } in
    let all = l ++ more ∷ [] in
    settled all (with all k) (with (k.lines ++ more ∷ []) k) refl
lines_apart t (Delays until) k l =
    none_more l _ (clock (dispatch (effect t (Delays until) k))) (settled l _ (effect t (Delays until) k)
    (by_cond l (int_lt k.now until) (falls_asleep t until (leaves t (with l k))) (becomes_ready t (leaves t (with l k)))
    (falls_asleep t until (leaves t k)) (becomes_ready t (leaves t k)) refl refl))
lines_apart t (Opens o) k l = none_more l _ (clock (dispatch (effect t (Opens o) k))) (settled l _ (effect t (Opens o) k) refl)
lines_apart t (Views o) k l = none_more l _ (clock (dispatch (effect t (Views o) k))) (settled l _ (effect t (Views o) k) refl)
lines_apart t (Queues o) k l = none_more l _ (clock (dispatch (effect t (Queues o) k))) (settled l _ (effect t (Queues o) k) refl)
lines_apart t (Ends is_open) k l =
    let e = ending_of is_open (k.actions t) k.queued in
    let over = is_over k.partition t (k.actions t) e in
    none_more l _ (clock (dispatch (effect t (Ends is_open) k)))
    (settled l _ (effect t (Ends is_open) k)
    (ap (goes_if over t) (ends_apart l t is_open (k.actions t) k) ∙ goes_apart l over t (ends t e (outer_of (k.actions t)) k)))
lines_apart t Finishes k l = none_more l _ (clock (dispatch (effect t Finishes k))) (settled l _ (effect t Finishes k) refl)
lines_apart t (Dies x) k l = none_more l _ (effect t (Dies x) k) refl
lines_apart t Breaks k l = none_more l _ (effect t Breaks k) refl

sound_with : (b : ℕ → Bool) (k : Kernel) (l : List Line) → Sound b k [] → Sound b (with l k) []
sound_with b k l s = record {
  base_low = s.base_low;
  ceiling_low = s.ceiling_low;
  urgent = s.urgent;
  attached = s.attached;
  gone = s.gone;
  runs = s.runs;
  runner = s.runner;
  lists = s.lists;
  naps_once = s.naps_once;
  queue = s.queue;
  waits = s.waits;
  awake = s.awake;
  stacked = s.stacked;
  once = s.once;
  serving = s.serving;
  closed = s.closed;
  below = s.below;
  apart = s.apart;
  heads = s.heads;
}

pub kept_with_lines : KeptWithLines
kept_with_lines b k l kept = record {
  sound = sound_with b k l kept.sound;
  settled = record { first = kept.settled.first; nobody = kept.settled.nobody };
  served = kept.served;
  within = kept.within;
  over = kept.over;
}
