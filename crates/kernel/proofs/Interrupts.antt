-- Delivering an interrupt keeps a kernel sound, and a handler that begins is within its own action.
use Rattle.std.proofs.Common.{◌≡◌, ◌⊎◌, inl, inr, ℕ, suc, ◌+◌, ◌<◌, ◌≤◌, ℤ, List, [], ◌∷◌, Some, None, Bool, false, refl, sym, ap, ◌∙◌, subst, ⊎_elim, arith}
use Rattle.std.specs.Prelude.{int_lt}
use Rattle.std.proofs.lemmas.Bool.{cond_both}
use Rattle.base.specs.declared.limits.TheConstants.{PRIORITIES}
use Rattle.kernel.specs.State.{Interrupt, Kernel, IsRunning, IsReady, IsQueued, IsServed, IsFinished, Writes, Sleeper, actor, active, put}
use Rattle.kernel.specs.Interrupts.{starts, delivers}
use Rattle.kernel.specs.Invariant.{HasAction, Busy, CanWrite, ServesCall, count, naps, listed, asleep, AreAttached, IsInOwn, HandlesWithin, Sound}
use Rattle.kernel.specs.Laws.{Delivers}
use Rattle.kernel.specs.PutLaws.{by_put, of_put}
use Rattle.kernel.proofs.Lists.{either}
use Rattle.kernel.proofs.Places.{listed_at, napping}
use Rattle.kernel.proofs.Moves.{nowhere_idle, actions_sound}
use Rattle.kernel.proofs.Served.{Serv, moved, grown}

-- other interrupts are pending
passes_sound : (b : ℕ → Bool) (k : Kernel) (p : List Sleeper) (is : List Interrupt) → AreAttached k.partition is → Sound b k p
    → Sound b (record k { pending = is }) p
passes_sound b k p is all s = record {
  base_low = s.base_low;
  ceiling_low = s.ceiling_low;
  urgent = s.urgent;
  attached = all;
  gone = s.gone;
  runs = s.runs;
  runner = s.runner;
  lists = s.lists;
  naps_once = s.naps_once;
  queue = s.queue;
  waits = s.waits;
  awake = s.awake;
  stacked = s.stacked;
  once = s.once;
  serving = s.serving;
  closed = s.closed;
  below = s.below;
  apart = s.apart;
  heads = s.heads;
}

-- whoever is within an action stands below all handlers
abbrev pub StandUnder : Kernel → Type 0
StandUnder k = (u : ℕ) → Busy (k.actions u) → suc (active k u) < PRIORITIES

module _ (b : ℕ → Bool) (k : Kernel) (p : List Sleeper) (i : Interrupt) (none : k.running ≡ None) (s : Sound b k p) where
  beyond : k.partition.tasks ≤ actor k.partition i.channel
  beyond = omega arith

  nowhere : k.place (actor k.partition i.channel) ≡ IsFinished
  nowhere = ⊎_elim (λ f. f) (λ r. absurd (cc)) (s.gone (actor k.partition i.channel) beyond)

  pub idle_before : k.actions (actor k.partition i.channel) ≡ []
  idle_before = nowhere_idle b k p (actor k.partition i.channel) nowhere s

  starts_serv : Serv k → Serv (starts i k)
  starts_serv sv =
      let a = actor k.partition i.channel in
      let new = Writes i.object ∷ [] in
      moved a IsRunning k.place (put a new k.actions) (λ o e. cc)
      (grown a new k (λ o u h. let h' : HasAction (ServesCall o u) [] = subst (HasAction (ServesCall o u)) idle_before h in absurd h') sv)

  module _ (under : StandUnder k) where
    -- the actor runs, and has no action open yet
    called_sound : Sound b (record k { running = Some (actor k.partition i.channel); place = put (actor k.partition i.channel) IsRunning k.place }) p
    called_sound =
        let a = actor k.partition i.channel in
        let top = s.urgent a beyond in
        let at : (u : ℕ) → u ≡ a → k.place u ≡ IsFinished = λ u e. ap k.place e ∙ nowhere in
        record {
          base_low = s.base_low;
          ceiling_low = s.ceiling_low;
          urgent = s.urgent;
          attached = s.attached;
          gone = λ u le.
              by_put (λ x. (x ≡ IsFinished) ⊎ (Some a ≡ Some u)) a u IsRunning k.place
              (λ e. inr (ap Some (sym e)))
              (λ ne. ⊎_elim (λ f. inl f) (λ r. absurd (cc)) (s.gone u le));
          runs = λ u e. by_put (λ x. x ≡ IsRunning) a u IsRunning k.place (λ j. refl) (λ ne. absurd (ne (cc)));
          runner = λ u e.
              of_put (λ x. x ≡ IsRunning) (Some a ≡ Some u) a u IsRunning k.place e
              (λ j l. ap Some (sym j))
              (λ ne l. let j = s.runner u l in absurd (cc));
          lists = λ u h.
              by_put (λ x. count u (k.ready h) ≡ listed x (active k u) h) a u IsRunning k.place
              (λ e. listed_at b k p s u h IsFinished (at u e))
              (λ ne. s.lists u h);
          naps_once = λ u.
              by_put (λ x. naps u k.sleepers + naps u p ≡ asleep x) a u IsRunning k.place
              (λ e. napping b k p s u IsFinished (at u e))
              (λ ne. s.naps_once u);
          queue = λ o u q.
              by_put (λ x. x ≡ IsQueued o) a u IsRunning k.place
              (λ e. let m = at u e in let j = s.queue o u q in absurd (cc))
              (λ ne. s.queue o u q);
          waits = λ o u e.
              of_put (λ x. x ≡ IsQueued o) (k.queued o ≡ Some u) a u IsRunning k.place e (λ j l. absurd (cc)) (λ ne l. s.waits o u l);
          awake = λ u busy. by_put (λ x. (x ≡ IsRunning) ⊎ (x ≡ IsReady)) a u IsRunning k.place (λ e. inl refl) (λ ne. s.awake u busy);
          stacked = s.stacked;
          once = s.once;
          serving = λ v o u w. (
            by_put (λ x. x ≡ IsServed o) a u IsRunning k.place
                (λ e. let m = at u e in let j = (s.serving v o u w).0 in absurd (cc))
                (λ ne. (s.serving v o u w).0),
            (s.serving v o u w).1,
          );
          closed = s.closed;
          below = λ r u e ne busy.
              let same : a ≡ r = cc in
              let lt : active k u < k.partition.base a = let j = under u busy in omega arith in
              subst (λ x. active k u < k.partition.base x) same lt;
          apart = s.apart;
          heads = λ u busy e.
              of_put (λ x. x ≡ IsReady) ((ts : List ℕ) × (k.ready (active k u) ≡ u ∷ ts)) a u IsRunning k.place e
              (λ j l. absurd (cc))
              (λ ne l. s.heads u busy l);
        }

    starts_sound : suc (k.partition.ceiling i.object) ≡ PRIORITIES → Sound b (starts i k) p
    starts_sound high =
        let a = actor k.partition i.channel in
        let top = s.urgent a beyond in
        let new = Writes i.object ∷ [] in
        let called : Kernel = record k { running = Some a; place = put a IsRunning k.place } in
        actions_sound b called p a new refl
        (let low : k.partition.base a ≤ k.partition.ceiling i.object = omega arith in (low, tt))
        (λ h. h, tt)
        (λ o u h. ⊎_elim (λ x. absurd x) (λ x. absurd x) h)
        (λ o u q.
        ⊎_elim
        (λ f. inl f)
        (λ w.
        inr (
          w.0,
          by_put (HasAction (CanWrite o)) a w.0 new k.actions
              (λ e. let h : HasAction (CanWrite o) [] = subst (HasAction (CanWrite o)) (ap k.actions e ∙ idle_before) w.1 in absurd h)
              (λ ne. w.1),
        ))
        (s.closed o u q))
        called_sound

module _ (b : ℕ → Bool) (k : Kernel) (p : List Sleeper) (none : k.running ≡ None) (s : Sound b k p) where
  pub delivers_sound : (is : List Interrupt) → AreAttached k.partition is → StandUnder k → Sound b (delivers is k) p
  delivers_sound [] all under = s
  delivers_sound (i ∷ is) all under =
      either (λ l. Sound b l p) (int_lt k.now i.time) k (starts i (record k { pending = is })) s
      (starts_sound b (record k { pending = is }) p i none (passes_sound b k p is all.1 s) under all.0)

  pub delivers_serv : (is : List Interrupt) → AreAttached k.partition is → Serv k → Serv (delivers is k)
  delivers_serv [] all sv = sv
  delivers_serv (i ∷ is) all sv =
      either Serv (int_lt k.now i.time) k (starts i (record k { pending = is })) sv
      (starts_serv b (record k { pending = is }) p i none (passes_sound b k p is all.1 s) sv)

pub delivers_within : (is : List Interrupt) (k : Kernel) → k.running ≡ None → HandlesWithin (delivers is k)
delivers_within [] k none = λ u le r. absurd (cc)
delivers_within (i ∷ is) k none =
    let a = actor k.partition i.channel in
    either HandlesWithin (int_lt k.now i.time) k (starts i (record k { pending = is })) (λ u le r. absurd (cc))
    (λ u le r. by_put IsInOwn a u (Writes i.object ∷ []) k.actions (λ e. tt) (λ ne. absurd (ne (cc))))

-- none is delivered, or the first
pub delivers_first : (is : List Interrupt) (k : Kernel) → k.pending ≡ is → (delivers is k ≡ k) ⊎ ((i : Interrupt) × Delivers k (delivers is k) i)
delivers_first [] k e = inl refl
delivers_first (i ∷ is) k e =
    cond_both (int_lt k.now i.time) k (starts i (record k { pending = is })) (λ l. (l ≡ k) ⊎ ((j : Interrupt) × Delivers k l j))
    (λ not_yet. inl refl)
    (λ due. inr (i, record { first = e; due = due; handled = refl }))

-- the time of the first interrupt has come
abbrev pub HasCome : ℤ → List Interrupt → Type 0
HasCome now [] = ⊥
HasCome now (i ∷ is) = int_lt now i.time ≡ false

pub come_runs : (is : List Interrupt) (k : Kernel) → HasCome k.now is → (u : ℕ) × ((delivers is k).running ≡ Some u)
come_runs [] k h = absurd h
come_runs (i ∷ is) k h = (
  actor k.partition i.channel,
  cond_both (int_lt k.now i.time) k (starts i (record k { pending = is })) (λ l. l.running ≡ Some (actor k.partition i.channel))
      (λ not_yet. absurd (cc))
      (λ due. refl),
)
