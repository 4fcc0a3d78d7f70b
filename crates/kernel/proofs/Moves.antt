-- The moves of which effects, dispatching and the clock are made keep a kernel sound.
use Rattle.std.proofs.Common.{◌≡◌, ◌≢◌, ◌⊎◌, inl, inr, ℕ, ◌+◌, ◌<◌, ◌≤◌, ℤ, List, [], ◌∷◌, ◌++◌, Option, Some, None, Bool, false, cond, refl, sym, ap, ◌∙◌, subst, ⊎_elim, arith}
use Rattle.std.proofs.lemmas.Bool.{cases_lt}
use Rattle.kernel.specs.State.{Kernel, TaskPlace, IsRunning, IsReady, IsAsleep, IsQueued, IsServed, IsFinished, Action, Sleeper, Line, Outcome, active, raised, put}
use Rattle.kernel.specs.Dispatching.{leaves, becomes_ready, preempted}
use Rattle.kernel.specs.Clock.{falls_asleep, released}
use Rattle.kernel.specs.Effects.{with_actions, queues}
use Rattle.kernel.specs.Invariant.{HasAction, IsInsideObject, Busy, CanWrite, ServesCall, Once, Stacked, count, naps, listed, asleep, Sound}
use Rattle.kernel.specs.PutLaws.{same_or_not, eqb_same, eqb_other, put_same, put_other, by_put, of_put}
use Rattle.kernel.proofs.Lists.{base_raised, count_append, naps_append, idle, served_at}
use Rattle.kernel.proofs.Places.{unlisted, ready_listed, ready_unlisted, listed_at, napping, idle_if}

-- other barriers
pub held : (b c : ℕ → Bool) (k : Kernel) (p : List Sleeper) (t : ℕ) → ((o : ℕ) → (c o ≡ b o) ⊎ HasAction (CanWrite o) (k.actions t)) → Sound b k p → Sound c k p
held b c k p t h s = record {
  base_low = s.base_low;
  ceiling_low = s.ceiling_low;
  urgent = s.urgent;
  attached = s.attached;
  gone = s.gone;
  runs = s.runs;
  runner = s.runner;
  lists = s.lists;
  naps_once = s.naps_once;
  queue = s.queue;
  waits = s.waits;
  awake = s.awake;
  stacked = s.stacked;
  once = s.once;
  serving = s.serving;
  closed = λ o u q. ⊎_elim (λ e. ⊎_elim (λ f. inl (e ∙ f)) (λ w. inr w) (s.closed o u q)) (λ w. inr (t, w)) (h o);
  below = s.below;
  apart = s.apart;
  heads = s.heads;
}

-- what the four statements do not see, and sleepers handed over
pub beside : (b : ℕ → Bool) (k : Kernel) (p q ss : List Sleeper) (n : ℤ) (l : List Line) (o : Option Outcome) → ((t : ℕ) → naps t ss + naps t q ≡ naps t k.sleepers + naps t p) → Sound b k p → Sound b (record k { sleepers = ss; now = n; lines = l; outcome = o }) q
beside b k p q ss n l o h s = record {
  base_low = s.base_low;
  ceiling_low = s.ceiling_low;
  urgent = s.urgent;
  attached = s.attached;
  gone = s.gone;
  runs = s.runs;
  runner = s.runner;
  lists = s.lists;
  naps_once = λ t. h t ∙ s.naps_once t;
  queue = s.queue;
  waits = s.waits;
  awake = s.awake;
  stacked = s.stacked;
  once = s.once;
  serving = s.serving;
  closed = s.closed;
  below = s.below;
  apart = s.apart;
  heads = s.heads;
}

pub leaves_sound : (b : ℕ → Bool) (k : Kernel) (p : List Sleeper) (t : ℕ) → k.running ≡ Some t → k.actions t ≡ [] → Sound b k p → Sound b (leaves t k) p
leaves_sound b k p t run none s =
    let here : k.place t ≡ IsRunning = s.runs t run in
    let at : (u : ℕ) → u ≡ t → k.place u ≡ IsRunning = λ u e. ap k.place e ∙ here in
    record {
      base_low = s.base_low;
      ceiling_low = s.ceiling_low;
      urgent = s.urgent;
      attached = s.attached;
      gone = λ u le. by_put (λ x. (x ≡ IsFinished) ⊎ (None ≡ Some u)) t u IsFinished k.place (λ e. inl refl) (λ ne. ⊎_elim (λ f. inl f) (λ r. absurd (ne (cc))) (s.gone u le));
      runs = λ u e. absurd (cc);
      runner = λ u h. of_put (λ x. x ≡ IsRunning) (None ≡ Some u) t u IsFinished k.place h (λ e i. absurd (cc)) (λ ne i. absurd (ne (let j = s.runner u i in cc)));
      lists = λ u h. by_put (λ x. count u (k.ready h) ≡ listed x (active k u) h) t u IsFinished k.place (λ e. listed_at b k p s u h IsRunning (at u e)) (λ ne. s.lists u h);
      naps_once = λ u. by_put (λ x. naps u k.sleepers + naps u p ≡ asleep x) t u IsFinished k.place (λ e. napping b k p s u IsRunning (at u e)) (λ ne. s.naps_once u);
      queue = λ o u q. by_put (λ x. x ≡ IsQueued o) t u IsFinished k.place (λ e. let i = at u e in let j = s.queue o u q in absurd (cc)) (λ ne. s.queue o u q);
      waits = λ o u h. of_put (λ x. x ≡ IsQueued o) (k.queued o ≡ Some u) t u IsFinished k.place h (λ e i. absurd (cc)) (λ ne i. s.waits o u i);
      awake = λ u busy. by_put (λ x. (x ≡ IsRunning) ⊎ (x ≡ IsReady)) t u IsFinished k.place (λ e. absurd (idle (k.actions u) (ap k.actions e ∙ none) busy)) (λ ne. s.awake u busy);
      stacked = s.stacked;
      once = s.once;
      serving = λ v o u h. (by_put (λ x. x ≡ IsServed o) t u IsFinished k.place (λ e. let i = at u e in let j = (s.serving v o u h).0 in absurd (cc)) (λ ne. (s.serving v o u h).0), (s.serving v o u h).1);
      closed = s.closed;
      below = λ r u e. absurd (cc);
      apart = s.apart;
      heads = λ u busy h. of_put (λ x. x ≡ IsReady) ((ts : List ℕ) × (k.ready (active k u) ≡ u ∷ ts)) t u IsFinished k.place h (λ e i. absurd (cc)) (λ ne i. s.heads u busy i);
    }

-- a task that is nowhere has no open action
pub nowhere_idle : (b : ℕ → Bool) (k : Kernel) (p : List Sleeper) (t : ℕ) → k.place t ≡ IsFinished → Sound b k p → k.actions t ≡ []
nowhere_idle b k p t here s = idle_if b k p s t IsFinished here (λ e. cc) (λ e. cc)

-- an actor that is not gone runs
pub not_waiting : (b : ℕ → Bool) (k : Kernel) (p : List Sleeper) (u : ℕ) (w : TaskPlace) → k.place u ≡ w → w ≢ IsFinished → k.partition.tasks ≤ u → Sound b k p → k.running ≡ Some u
not_waiting b k p u w here ne le s = ⊎_elim (λ f. absurd (ne (sym here ∙ f))) (λ r. r) (s.gone u le)

-- who waits or is ready is a task
pub waiting_task : (b : ℕ → Bool) (k : Kernel) (p : List Sleeper) (u : ℕ) (w : TaskPlace) → k.place u ≡ w → w ≢ IsFinished → w ≢ IsRunning → Sound b k p → u < k.partition.tasks
waiting_task b k p u w here ne no_run s =
    ⊎_elim (λ lt. lt) (λ le. absurd (no_run (sym here ∙ s.runs u (not_waiting b k p u w here ne le s)))) (cases_lt u k.partition.tasks)

pub ready_sound : (b : ℕ → Bool) (k : Kernel) (p : List Sleeper) (t : ℕ) → t < k.partition.tasks → k.place t ≡ IsFinished → Sound b k p → Sound b (becomes_ready t k) p
ready_sound b k p t task here s =
    let at : (u : ℕ) → u ≡ t → k.place u ≡ IsFinished = λ u e. ap k.place e ∙ here in
    let a = active k t in
    let new = k.ready a ++ t ∷ [] in
    let level : (u : ℕ) → u ≡ t → active k u ≡ a = λ u e. ap (active k) e in
    record {
      base_low = s.base_low;
      ceiling_low = s.ceiling_low;
      urgent = s.urgent;
      attached = s.attached;
      gone = λ u le. by_put (λ x. (x ≡ IsFinished) ⊎ (k.running ≡ Some u)) t u IsReady k.place (λ e. absurd (omega arith)) (λ ne. s.gone u le);
      runs = λ u e. by_put (λ x. x ≡ IsRunning) t u IsReady k.place (λ i. let j = at u i in let l = s.runs u e in absurd (cc)) (λ ne. s.runs u e);
      runner = λ u h. of_put (λ x. x ≡ IsRunning) (k.running ≡ Some u) t u IsReady k.place h (λ e i. absurd (cc)) (λ ne i. s.runner u i);
      lists = λ u h.
          by_put (λ x. count u (put a new k.ready h) ≡ listed x (active k u) h) t u IsReady k.place
          (λ e.
          by_put (λ l. count u l ≡ listed IsReady (active k u) h) a h new k.ready
          (λ i. let c = count_append u (k.ready a) (t ∷ []) in let z = listed_at b k p s u a IsFinished (at u e) in let one : count u (t ∷ []) ≡ 1 = ap (λ v. cond v 1 0 + 0) (eqb_same u t e) in let j = ready_listed (active k u) h (i ∙ sym (level u e)) in omega arith)
          (λ i. let z = listed_at b k p s u h IsFinished (at u e) in let j = ready_unlisted (active k u) h (λ m. i (m ∙ level u e)) in omega arith))
          (λ ne.
          by_put (λ l. count u l ≡ listed (k.place u) (active k u) h) a h new k.ready
          (λ i. let c = count_append u (k.ready a) (t ∷ []) in let z : count u (k.ready a) ≡ listed (k.place u) (active k u) h = ap (λ m. count u (k.ready m)) (sym i) ∙ s.lists u h in let none : count u (t ∷ []) ≡ 0 = ap (λ v. cond v 1 0 + 0) (eqb_other u t ne) in omega arith)
          (λ i. s.lists u h));
      naps_once = λ u. by_put (λ x. naps u k.sleepers + naps u p ≡ asleep x) t u IsReady k.place (λ e. napping b k p s u IsFinished (at u e)) (λ ne. s.naps_once u);
      queue = λ o u q. by_put (λ x. x ≡ IsQueued o) t u IsReady k.place (λ e. let i = at u e in let j = s.queue o u q in absurd (cc)) (λ ne. s.queue o u q);
      waits = λ o u h. of_put (λ x. x ≡ IsQueued o) (k.queued o ≡ Some u) t u IsReady k.place h (λ e i. absurd (cc)) (λ ne i. s.waits o u i);
      awake = λ u busy. by_put (λ x. (x ≡ IsRunning) ⊎ (x ≡ IsReady)) t u IsReady k.place (λ e. inr refl) (λ ne. s.awake u busy);
      stacked = s.stacked;
      once = s.once;
      serving = λ v o u h. (by_put (λ x. x ≡ IsServed o) t u IsReady k.place (λ e. let i = at u e in let j = (s.serving v o u h).0 in absurd (cc)) (λ ne. (s.serving v o u h).0), (s.serving v o u h).1);
      closed = s.closed;
      below = s.below;
      apart = s.apart;
      heads = λ u busy h.
          of_put (λ x. x ≡ IsReady) ((ts : List ℕ) × (put a new k.ready (active k u) ≡ u ∷ ts)) t u IsReady k.place h
          (λ e i. absurd (idle (k.actions u) (ap k.actions e ∙ nowhere_idle b k p t here s) busy))
          (λ ne i.
          let w = s.heads u busy i in
          by_put (λ l. (ts : List ℕ) × (l ≡ u ∷ ts)) a (active k u) new k.ready
          (λ e. (w.0 ++ t ∷ [], ap (λ l. l ++ t ∷ []) (ap k.ready (sym e) ∙ w.1)))
          (λ ne'. w));
    }

pub asleep_sound : (b : ℕ → Bool) (k : Kernel) (p : List Sleeper) (t : ℕ) (w : ℤ) → t < k.partition.tasks → k.place t ≡ IsFinished → Sound b k p → Sound b (falls_asleep t w k) p
asleep_sound b k p t w task here s =
    let at : (u : ℕ) → u ≡ t → k.place u ≡ IsFinished = λ u e. ap k.place e ∙ here in
    let me : Sleeper = record { task = t; wake = w } in
    record {
      base_low = s.base_low;
      ceiling_low = s.ceiling_low;
      urgent = s.urgent;
      attached = s.attached;
      gone = λ u le. by_put (λ x. (x ≡ IsFinished) ⊎ (k.running ≡ Some u)) t u IsAsleep k.place (λ e. absurd (omega arith)) (λ ne. s.gone u le);
      runs = λ u e. by_put (λ x. x ≡ IsRunning) t u IsAsleep k.place (λ i. let j = at u i in let l = s.runs u e in absurd (cc)) (λ ne. s.runs u e);
      runner = λ u h. of_put (λ x. x ≡ IsRunning) (k.running ≡ Some u) t u IsAsleep k.place h (λ e i. absurd (cc)) (λ ne i. s.runner u i);
      lists = λ u h. by_put (λ x. count u (k.ready h) ≡ listed x (active k u) h) t u IsAsleep k.place (λ e. listed_at b k p s u h IsFinished (at u e)) (λ ne. s.lists u h);
      naps_once = λ u.
          by_put (λ x. naps u (k.sleepers ++ me ∷ []) + naps u p ≡ asleep x) t u IsAsleep k.place
          (λ e. let c = naps_append u k.sleepers (me ∷ []) in let z = napping b k p s u IsFinished (at u e) in let one : naps u (me ∷ []) ≡ 1 = ap (λ v. cond v 1 0 + 0) (eqb_same u t e) in omega arith)
          (λ ne. let c = naps_append u k.sleepers (me ∷ []) in let z = s.naps_once u in let none : naps u (me ∷ []) ≡ 0 = ap (λ v. cond v 1 0 + 0) (eqb_other u t ne) in omega arith);
      queue = λ o u q. by_put (λ x. x ≡ IsQueued o) t u IsAsleep k.place (λ e. let i = at u e in let j = s.queue o u q in absurd (cc)) (λ ne. s.queue o u q);
      waits = λ o u h. of_put (λ x. x ≡ IsQueued o) (k.queued o ≡ Some u) t u IsAsleep k.place h (λ e i. absurd (cc)) (λ ne i. s.waits o u i);
      awake = λ u busy. by_put (λ x. (x ≡ IsRunning) ⊎ (x ≡ IsReady)) t u IsAsleep k.place (λ e. absurd (idle (k.actions u) (ap k.actions e ∙ nowhere_idle b k p t here s) busy)) (λ ne. s.awake u busy);
      stacked = s.stacked;
      once = s.once;
      serving = λ v o u h. (by_put (λ x. x ≡ IsServed o) t u IsAsleep k.place (λ e. let i = at u e in let j = (s.serving v o u h).0 in absurd (cc)) (λ ne. (s.serving v o u h).0), (s.serving v o u h).1);
      closed = s.closed;
      below = s.below;
      apart = s.apart;
      heads = λ u busy h. of_put (λ x. x ≡ IsReady) ((ts : List ℕ) × (k.ready (active k u) ≡ u ∷ ts)) t u IsAsleep k.place h (λ e i. absurd (cc)) (λ ne i. s.heads u busy i);
    }

pub queues_sound : (b : ℕ → Bool) (k : Kernel) (p : List Sleeper) (t o : ℕ) → t < k.partition.tasks → k.place t ≡ IsFinished → b o ≡ false → k.queued o ≡ None → ((u : ℕ) → IsInsideObject o (k.actions u) → ⊥) → Sound b k p → Sound b (queues t o k) p
queues_sound b k p t o task here shut free nobody s =
    let at : (u : ℕ) → u ≡ t → k.place u ≡ IsFinished = λ u e. ap k.place e ∙ here in
    record {
      base_low = s.base_low;
      ceiling_low = s.ceiling_low;
      urgent = s.urgent;
      attached = s.attached;
      gone = λ u le. by_put (λ x. (x ≡ IsFinished) ⊎ (k.running ≡ Some u)) t u (IsQueued o) k.place (λ e. absurd (omega arith)) (λ ne. s.gone u le);
      runs = λ u e. by_put (λ x. x ≡ IsRunning) t u (IsQueued o) k.place (λ i. let j = at u i in let l = s.runs u e in absurd (cc)) (λ ne. s.runs u e);
      runner = λ u h. of_put (λ x. x ≡ IsRunning) (k.running ≡ Some u) t u (IsQueued o) k.place h (λ e i. absurd (cc)) (λ ne i. s.runner u i);
      lists = λ u h. by_put (λ x. count u (k.ready h) ≡ listed x (active k u) h) t u (IsQueued o) k.place (λ e. listed_at b k p s u h IsFinished (at u e)) (λ ne. s.lists u h);
      naps_once = λ u. by_put (λ x. naps u k.sleepers + naps u p ≡ asleep x) t u (IsQueued o) k.place (λ e. napping b k p s u IsFinished (at u e)) (λ ne. s.naps_once u);
      queue = λ r u q.
          of_put (λ x. x ≡ Some u) (put t (IsQueued o) k.place u ≡ IsQueued r) o r (Some t) k.queued q
          (λ e i. let same : u ≡ t = cc in put_same t u (IsQueued o) k.place same ∙ ap IsQueued (sym e))
          (λ ne i. by_put (λ x. x ≡ IsQueued r) t u (IsQueued o) k.place (λ e. let i' = at u e in let j = s.queue r u i in absurd (cc)) (λ ne'. s.queue r u i));
      waits = λ r u h.
          of_put (λ x. x ≡ IsQueued r) (put o (Some t) k.queued r ≡ Some u) t u (IsQueued o) k.place h
          (λ e i. let same : r ≡ o = cc in put_same o r (Some t) k.queued same ∙ ap Some (sym e))
          (λ ne i. by_put (λ x. x ≡ Some u) o r (Some t) k.queued (λ e. let j = s.waits r u i in let m : k.queued r ≡ None = ap k.queued e ∙ free in absurd (cc)) (λ ne'. s.waits r u i));
      awake = λ u busy. by_put (λ x. (x ≡ IsRunning) ⊎ (x ≡ IsReady)) t u (IsQueued o) k.place (λ e. absurd (idle (k.actions u) (ap k.actions e ∙ nowhere_idle b k p t here s) busy)) (λ ne. s.awake u busy);
      stacked = s.stacked;
      once = s.once;
      serving = λ v r u h. (
        by_put (λ x. x ≡ IsServed r) t u (IsQueued o) k.place (λ e. let i = at u e in let j = (s.serving v r u h).0 in absurd (cc)) (λ ne. (s.serving v r u h).0),
        by_put (λ x. x ≡ None) o r (Some t) k.queued (λ e. absurd (nobody v (subst (λ x. IsInsideObject x (k.actions v)) e (served_at r u (k.actions v) h)))) (λ ne. (s.serving v r u h).1),
      );
      closed = λ r u q. of_put (λ x. x ≡ Some u) ((b r ≡ false) ⊎ ((v : ℕ) × HasAction (CanWrite r) (k.actions v))) o r (Some t) k.queued q (λ e i. inl (ap b e ∙ shut)) (λ ne i. s.closed r u i);
      below = s.below;
      apart = s.apart;
      heads = λ u busy h. of_put (λ x. x ≡ IsReady) ((ts : List ℕ) × (k.ready (active k u) ≡ u ∷ ts)) t u (IsQueued o) k.place h (λ e i. absurd (cc)) (λ ne i. s.heads u busy i);
    }

-- a waiting task is nowhere any more
pub released_sound : (b : ℕ → Bool) (k : Kernel) (p q : List Sleeper) (t : ℕ) (w : TaskPlace) → k.place t ≡ w → w ≢ IsRunning → w ≢ IsReady → ((o : ℕ) → w ≢ IsQueued o) → ((v o : ℕ) → HasAction (ServesCall o t) (k.actions v) → ⊥) → ((u : ℕ) → naps u k.sleepers + naps u q ≡ asleep (put t IsFinished k.place u)) → Sound b k p → Sound b (released t k) q
released_sound b k p q t w here no_run no_ready no_queue no_serve nap s =
    let at : (u : ℕ) → u ≡ t → k.place u ≡ w = λ u e. ap k.place e ∙ here in
    record {
      base_low = s.base_low;
      ceiling_low = s.ceiling_low;
      urgent = s.urgent;
      attached = s.attached;
      gone = λ u le. by_put (λ x. (x ≡ IsFinished) ⊎ (k.running ≡ Some u)) t u IsFinished k.place (λ e. inl refl) (λ ne. s.gone u le);
      runs = λ u e. by_put (λ x. x ≡ IsRunning) t u IsFinished k.place (λ i. absurd (no_run (sym (at u i) ∙ s.runs u e))) (λ ne. s.runs u e);
      runner = λ u h. of_put (λ x. x ≡ IsRunning) (k.running ≡ Some u) t u IsFinished k.place h (λ e i. absurd (cc)) (λ ne i. s.runner u i);
      lists = λ u h. by_put (λ x. count u (k.ready h) ≡ listed x (active k u) h) t u IsFinished k.place (λ e. listed_at b k p s u h w (at u e) ∙ unlisted w (active k u) h no_ready) (λ ne. s.lists u h);
      naps_once = nap;
      queue = λ o u q. by_put (λ x. x ≡ IsQueued o) t u IsFinished k.place (λ e. absurd (no_queue o (sym (at u e) ∙ s.queue o u q))) (λ ne. s.queue o u q);
      waits = λ o u h. of_put (λ x. x ≡ IsQueued o) (k.queued o ≡ Some u) t u IsFinished k.place h (λ e i. absurd (cc)) (λ ne i. s.waits o u i);
      awake = λ u busy. by_put (λ x. (x ≡ IsRunning) ⊎ (x ≡ IsReady)) t u IsFinished k.place (λ e. absurd (idle (k.actions u) (idle_if b k p s u w (at u e) no_run no_ready) busy)) (λ ne. s.awake u busy);
      stacked = s.stacked;
      once = s.once;
      serving = λ v o u h. (by_put (λ x. x ≡ IsServed o) t u IsFinished k.place (λ e. absurd (no_serve v o (subst (λ x. HasAction (ServesCall o x) (k.actions v)) e h))) (λ ne. (s.serving v o u h).0), (s.serving v o u h).1);
      closed = s.closed;
      below = s.below;
      apart = s.apart;
      heads = λ u busy h. of_put (λ x. x ≡ IsReady) ((ts : List ℕ) × (k.ready (active k u) ≡ u ∷ ts)) t u IsFinished k.place h (λ e i. absurd (cc)) (λ ne i. s.heads u busy i);
    }

-- the queued call of an object_of is taken out
pub unqueues_sound : (b : ℕ → Bool) (k : Kernel) (p : List Sleeper) (u o : ℕ) → k.queued o ≡ Some u → Sound b k p → Sound b (record k { queued = put o None k.queued; place = put u (IsServed o) k.place }) p
unqueues_sound b k p u o was s =
    let here : k.place u ≡ IsQueued o = s.queue o u was in
    let at : (v : ℕ) → v ≡ u → k.place v ≡ IsQueued o = λ v e. ap k.place e ∙ here in
    record {
      base_low = s.base_low;
      ceiling_low = s.ceiling_low;
      urgent = s.urgent;
      attached = s.attached;
      gone = λ v le. by_put (λ x. (x ≡ IsFinished) ⊎ (k.running ≡ Some v)) u v (IsServed o) k.place (λ e. inr (not_waiting b k p v (IsQueued o) (at v e) (λ i. cc) le s)) (λ ne. s.gone v le);
      runs = λ v e. by_put (λ x. x ≡ IsRunning) u v (IsServed o) k.place (λ i. let j = at v i in let l = s.runs v e in absurd (cc)) (λ ne. s.runs v e);
      runner = λ v h. of_put (λ x. x ≡ IsRunning) (k.running ≡ Some v) u v (IsServed o) k.place h (λ e i. absurd (cc)) (λ ne i. s.runner v i);
      lists = λ v h. by_put (λ x. count v (k.ready h) ≡ listed x (active k v) h) u v (IsServed o) k.place (λ e. listed_at b k p s v h (IsQueued o) (at v e)) (λ ne. s.lists v h);
      naps_once = λ v. by_put (λ x. naps v k.sleepers + naps v p ≡ asleep x) u v (IsServed o) k.place (λ e. napping b k p s v (IsQueued o) (at v e)) (λ ne. s.naps_once v);
      queue = λ r v q.
          of_put (λ x. x ≡ Some v) (put u (IsServed o) k.place v ≡ IsQueued r) o r None k.queued q (λ e i. absurd (cc))
          (λ ne i. by_put (λ x. x ≡ IsQueued r) u v (IsServed o) k.place (λ e. let i' = at v e in let j = s.queue r v i in absurd (ne (cc))) (λ ne'. s.queue r v i));
      waits = λ r v h.
          of_put (λ x. x ≡ IsQueued r) (put o None k.queued r ≡ Some v) u v (IsServed o) k.place h (λ e i. absurd (cc))
          (λ ne i. by_put (λ x. x ≡ Some v) o r None k.queued (λ e. let j = s.waits r v i in let m : k.queued r ≡ Some u = ap k.queued e ∙ was in absurd (ne (cc))) (λ ne'. s.waits r v i));
      awake = λ v busy. by_put (λ x. (x ≡ IsRunning) ⊎ (x ≡ IsReady)) u v (IsServed o) k.place (λ e. absurd (idle (k.actions v) (idle_if b k p s v (IsQueued o) (at v e) (λ e. cc) (λ e. cc)) busy)) (λ ne. s.awake v busy);
      stacked = s.stacked;
      once = s.once;
      serving = λ v r x h. (
        by_put (λ y. y ≡ IsServed r) u x (IsServed o) k.place (λ e. let i = at x e in let j = (s.serving v r x h).0 in absurd (cc)) (λ ne. (s.serving v r x h).0),
        by_put (λ y. y ≡ None) o r None k.queued (λ e. refl) (λ ne. (s.serving v r x h).1),
      );
      closed = λ r v q. of_put (λ x. x ≡ Some v) ((b r ≡ false) ⊎ ((w : ℕ) × HasAction (CanWrite r) (k.actions w))) o r None k.queued q (λ e i. absurd (cc)) (λ ne i. s.closed r v i);
      below = s.below;
      apart = s.apart;
      heads = λ v busy h. of_put (λ x. x ≡ IsReady) ((ts : List ℕ) × (k.ready (active k v) ≡ v ∷ ts)) u v (IsServed o) k.place h (λ e i. absurd (cc)) (λ ne i. s.heads v busy i);
    }

-- the running task with_actions other actions
pub actions_sound : (b : ℕ → Bool) (k : Kernel) (p : List Sleeper) (t : ℕ) (new : List Action) → k.running ≡ Some t →
    Stacked k.partition.ceiling (k.partition.base t) new → Once new → ((o u : ℕ) → HasAction (ServesCall o u) new → (k.place u ≡ IsServed o) × (k.queued o ≡ None)) →
    ((o u : ℕ) → k.queued o ≡ Some u → (b o ≡ false) ⊎ ((v : ℕ) × HasAction (CanWrite o) (put t new k.actions v))) → Sound b k p → Sound b (with_actions t new k) p
actions_sound b k p t new run stacked_new once_new serving_new closed_new s =
    let here : k.place t ≡ IsRunning = s.runs t run in
    let at : (u : ℕ) → u ≡ t → k.place u ≡ IsRunning = λ u e. ap k.place e ∙ here in
    let level : ℕ → ℕ = λ u. raised k.partition.ceiling (k.partition.base u) (put t new k.actions u) in
    let other : (u : ℕ) → u ≢ t → put t new k.actions u ≡ k.actions u = λ u ne. put_other t u new k.actions ne in
    let same_level : (u : ℕ) → u ≢ t → level u ≡ active k u = λ u ne. ap (raised k.partition.ceiling (k.partition.base u)) (other u ne) in
    let under : (u : ℕ) → u ≢ t → Busy (put t new k.actions u) → level u < k.partition.base t = λ u ne busy. subst (λ x. x < k.partition.base t) (sym (same_level u ne)) (s.below t u run ne (subst Busy (other u ne) busy)) in
    record {
      base_low = s.base_low;
      ceiling_low = s.ceiling_low;
      urgent = s.urgent;
      attached = s.attached;
      gone = s.gone;
      runs = s.runs;
      runner = s.runner;
      lists = λ u h. ⊎_elim (λ e. listed_at b k p s u h IsRunning (at u e) ∙ sym (ap (λ x. listed x (level u) h) (at u e))) (λ ne. s.lists u h ∙ ap (λ x. listed (k.place u) x h) (sym (same_level u ne))) (same_or_not u t);
      naps_once = s.naps_once;
      queue = s.queue;
      waits = s.waits;
      awake = λ u busy. ⊎_elim (λ e. inl (at u e)) (λ ne. s.awake u (subst Busy (other u ne) busy)) (same_or_not u t);
      stacked = λ u. by_put (Stacked k.partition.ceiling (k.partition.base u)) t u new k.actions (λ e. subst (λ x. Stacked k.partition.ceiling (k.partition.base x) new) (sym e) stacked_new) (λ ne. s.stacked u);
      once = λ u. by_put Once t u new k.actions (λ e. once_new) (λ ne. s.once u);
      serving = λ v o u h. of_put (HasAction (ServesCall o u)) ((k.place u ≡ IsServed o) × (k.queued o ≡ None)) t v new k.actions h (λ e i. serving_new o u i) (λ ne i. s.serving v o u i);
      closed = closed_new;
      below = λ r u e ne busy. let i : t ≡ r = cc in subst (λ x. level u < k.partition.base x) i (under u (λ j. ne (j ∙ i)) busy);
      apart = λ u v ne bu bv.
          ⊎_elim
          (λ e. inr (subst (λ x. level v < k.partition.base x) (sym e) (under v (λ j. ne (e ∙ sym j)) bv)))
          (λ nu.
          ⊎_elim
          (λ e. inl (subst (λ x. level u < k.partition.base x) (sym e) (under u nu bu)))
          (λ nv. ⊎_elim (λ lt. inl (subst (λ x. x < k.partition.base v) (sym (same_level u nu)) lt)) (λ lt. inr (subst (λ x. x < k.partition.base u) (sym (same_level v nv)) lt)) (s.apart u v ne (subst Busy (other u nu) bu) (subst Busy (other v nv) bv)))
          (same_or_not v t))
          (same_or_not u t);
      heads = λ u busy h.
          ⊎_elim (λ e. let i = at u e in absurd (cc)) (λ ne. let w = s.heads u (subst Busy (other u ne) busy) h in (w.0, ap k.ready (same_level u ne) ∙ w.1)) (same_or_not u t);
    }

pub preempted_sound : (b : ℕ → Bool) (k : Kernel) (p : List Sleeper) (t : ℕ) → t < k.partition.tasks → k.running ≡ Some t → Sound b k p → Sound b (preempted t k) p
preempted_sound b k p t task run s =
    let here : k.place t ≡ IsRunning = s.runs t run in
    let at : (u : ℕ) → u ≡ t → k.place u ≡ IsRunning = λ u e. ap k.place e ∙ here in
    let a = active k t in
    let new = t ∷ k.ready a in
    let level : (u : ℕ) → u ≡ t → active k u ≡ a = λ u e. ap (active k) e in
    record {
      base_low = s.base_low;
      ceiling_low = s.ceiling_low;
      urgent = s.urgent;
      attached = s.attached;
      gone = λ u le. by_put (λ x. (x ≡ IsFinished) ⊎ (None ≡ Some u)) t u IsReady k.place (λ e. absurd (omega arith)) (λ ne. ⊎_elim (λ f. inl f) (λ r. absurd (ne (cc))) (s.gone u le));
      runs = λ u e. absurd (cc);
      runner = λ u h. of_put (λ x. x ≡ IsRunning) (None ≡ Some u) t u IsReady k.place h (λ e i. absurd (cc)) (λ ne i. absurd (ne (let j = s.runner u i in cc)));
      lists = λ u h.
          by_put (λ x. count u (put a new k.ready h) ≡ listed x (active k u) h) t u IsReady k.place
          (λ e.
          by_put (λ l. count u l ≡ listed IsReady (active k u) h) a h new k.ready
          (λ i. let z = listed_at b k p s u a IsRunning (at u e) in let one : count u new ≡ 1 + count u (k.ready a) = ap (λ v. cond v 1 0 + count u (k.ready a)) (eqb_same u t e) in let j = ready_listed (active k u) h (i ∙ sym (level u e)) in omega arith)
          (λ i. let z = listed_at b k p s u h IsRunning (at u e) in let j = ready_unlisted (active k u) h (λ m. i (m ∙ level u e)) in omega arith))
          (λ ne.
          by_put (λ l. count u l ≡ listed (k.place u) (active k u) h) a h new k.ready
          (λ i. let z : count u (k.ready a) ≡ listed (k.place u) (active k u) h = ap (λ m. count u (k.ready m)) (sym i) ∙ s.lists u h in let none : count u new ≡ 0 + count u (k.ready a) = ap (λ v. cond v 1 0 + count u (k.ready a)) (eqb_other u t ne) in omega arith)
          (λ i. s.lists u h));
      naps_once = λ u. by_put (λ x. naps u k.sleepers + naps u p ≡ asleep x) t u IsReady k.place (λ e. napping b k p s u IsRunning (at u e)) (λ ne. s.naps_once u);
      queue = λ o u q. by_put (λ x. x ≡ IsQueued o) t u IsReady k.place (λ e. let i = at u e in let j = s.queue o u q in absurd (cc)) (λ ne. s.queue o u q);
      waits = λ o u h. of_put (λ x. x ≡ IsQueued o) (k.queued o ≡ Some u) t u IsReady k.place h (λ e i. absurd (cc)) (λ ne i. s.waits o u i);
      awake = λ u busy. by_put (λ x. (x ≡ IsRunning) ⊎ (x ≡ IsReady)) t u IsReady k.place (λ e. inr refl) (λ ne. s.awake u busy);
      stacked = s.stacked;
      once = s.once;
      serving = λ v o u h. (by_put (λ x. x ≡ IsServed o) t u IsReady k.place (λ e. let i = at u e in let j = (s.serving v o u h).0 in absurd (cc)) (λ ne. (s.serving v o u h).0), (s.serving v o u h).1);
      closed = s.closed;
      below = λ r u e. absurd (cc);
      apart = s.apart;
      heads = λ u busy h.
          of_put (λ x. x ≡ IsReady) ((ts : List ℕ) × (put a new k.ready (active k u) ≡ u ∷ ts)) t u IsReady k.place h
          (λ e i. (k.ready a, put_same a (active k u) new k.ready (level u e) ∙ ap (λ v. v ∷ k.ready a) (sym e)))
          (λ ne i.
          let w = s.heads u busy i in
          let lt = s.below t u run ne busy in
          let ge = base_raised k.partition.ceiling (k.partition.base t) (k.actions t) in
          (w.0, put_other a (active k u) new k.ready (λ e. omega arith) ∙ w.1));
    }
