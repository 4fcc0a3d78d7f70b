-- In whose entry call a task waits is told by the queues and the open actions alone, which dispatching and the clock leave as they are (RM 9.5.3).
use Rattle.std.proofs.Common.{◌≡◌, ◌≢◌, ◌⊎◌, inl, inr, ℕ, List, [], ◌∷◌, Option, Some, None, Bool, true, false, ◌||◌, eqb, refl, sym, ap, subst, ⊎_elim}
use Rattle.kernel.specs.State.{Kernel, Interrupt, TaskPlace, IsRunning, IsReady, IsAsleep, IsFinished, IsQueued, IsServed, Action, Reads, Serves, Writes, actor, is_object_open, object_of, put}
use Rattle.kernel.specs.Invariant.{IsInsideObject, HasAction, Kept, Once, ServesCall}
use Rattle.kernel.specs.Laws.{FourHold, HandlerBegins, SettlesTo}
use Rattle.kernel.specs.PutLaws.{eqb_same, of_put, put_other, put_same, same_or_not}
use Rattle.program_soundness.specs.SoundWorlds.{awaited}

-- the call of task u waits in the queue of object o, or a task runs the entry body for it
abbrev pub Awaits : (queued : ℕ → Option ℕ) (actions : ℕ → List Action) (u o : ℕ) → Type 0
Awaits queued actions u o = (queued o ≡ Some u) ⊎ ((t : ℕ) × HasAction (ServesCall o u) (actions t))

-- ---- options

pub same_option : {A : Type 0} (x y : Option A) → ((a : A) → x ≡ Some a → y ≡ Some a) → ((a : A) → y ≡ Some a → x ≡ Some a) → x ≡ y
same_option None None forth back = refl
same_option None (Some b) forth back = back b refl
same_option (Some a) y forth back = sym (forth a refl)

pub none_if : {A : Type 0} (x : Option A) → ((a : A) → x ≡ Some a → ⊥) → x ≡ None
none_if None never = refl
none_if (Some a) never = absurd (never a refl)

-- ---- places

by_place : (queued : ℕ → Option ℕ) (actions : ℕ → List Action) (u o : ℕ) (p : TaskPlace)
    → ((a : ℕ) → p ≡ IsQueued a → queued a ≡ Some u)
    → ((a : ℕ) → p ≡ IsServed a → (t : ℕ) × HasAction (ServesCall a u) (actions t))
    → awaited p ≡ Some o
    → Awaits queued actions u o
by_place queued actions u o IsRunning in_queue in_service e = absurd (cc)
by_place queued actions u o IsReady in_queue in_service e = absurd (cc)
by_place queued actions u o IsAsleep in_queue in_service e = absurd (cc)
by_place queued actions u o IsFinished in_queue in_service e = absurd (cc)
by_place queued actions u o (IsQueued a) in_queue in_service e = let i : a ≡ o = cc in inl (in_queue o (ap IsQueued i))
by_place queued actions u o (IsServed a) in_queue in_service e = let i : a ≡ o = cc in inr (in_service o (ap IsServed i))

module _ (barrier : ℕ → Bool) (k : Kernel) (kept : Kept barrier k) where
  pub awaits_of : (u o : ℕ) → awaited (k.place u) ≡ Some o → Awaits k.queued k.actions u o
  awaits_of u o e = by_place k.queued k.actions u o (k.place u) (λ a i. kept.sound.waits a u i) (λ a i. kept.served u a i) e

  pub awaited_if : (u o : ℕ) → Awaits k.queued k.actions u o → awaited (k.place u) ≡ Some o
  awaited_if u o (inl q) = ap awaited (kept.sound.queue o u q)
  awaited_if u o (inr s) = ap awaited (kept.sound.serving s.0 o u s.1).0

  -- who runs waits in no call
  pub runner_awaits : (t : ℕ) → k.running ≡ Some t → awaited (k.place t) ≡ None
  runner_awaits t run = ap awaited (kept.sound.runs t run)

-- a task for which queues and actions tell the same waits for the same
pub awaited_stays : (before later : ℕ → Bool) (k l : Kernel) → Kept before k → Kept later l → (u : ℕ)
    → ((o : ℕ) → Awaits k.queued k.actions u o → Awaits l.queued l.actions u o)
    → ((o : ℕ) → Awaits l.queued l.actions u o → Awaits k.queued k.actions u o)
    → awaited (l.place u) ≡ awaited (k.place u)
awaited_stays before later k l kept next u forth back =
    same_option (awaited (l.place u)) (awaited (k.place u))
    (λ o e. awaited_if before k kept u o (back o (awaits_of later l next u o e)))
    (λ o e. awaited_if later l next u o (forth o (awaits_of before k kept u o e)))

-- ---- actions that one task has opened or closed

pub awaits_as : (queued next_queued : ℕ → Option ℕ) (actions next_actions : ℕ → List Action) (u o : ℕ) → next_queued ≡ queued
    → next_actions ≡ actions
    → Awaits queued actions u o
    → Awaits next_queued next_actions u o
awaits_as queued next_queued actions next_actions u o same_queue same_actions awaits =
    subst (λ f. Awaits f next_actions u o) (sym same_queue) (subst (λ f. Awaits queued f u o) (sym same_actions) awaits)

module _ (t : ℕ) (new : List Action) (actions : ℕ → List Action) (u o : ℕ) where
  pub served_then : (HasAction (ServesCall o u) (actions t) → HasAction (ServesCall o u) new) → (v : ℕ) × HasAction (ServesCall o u) (actions v)
      → (v : ℕ) × HasAction (ServesCall o u) (put t new actions v)
  served_then forth has =
      ⊎_elim
      (λ e. (t, subst (HasAction (ServesCall o u)) (sym (put_same t t new actions refl)) (forth (subst (λ v. HasAction (ServesCall o u) (actions v)) e has.1))))
      (λ ne. (has.0, subst (HasAction (ServesCall o u)) (sym (put_other t has.0 new actions ne)) has.1))
      (same_or_not has.0 t)

  pub served_before : (HasAction (ServesCall o u) new → HasAction (ServesCall o u) (actions t)) → (v : ℕ) × HasAction (ServesCall o u) (put t new actions v)
      → (v : ℕ) × HasAction (ServesCall o u) (actions v)
  served_before back has =
      of_put (HasAction (ServesCall o u)) ((v : ℕ) × HasAction (ServesCall o u) (actions v)) t has.0 new actions has.1 (λ e i. (t, back i)) (λ ne i. (has.0, i))

-- ---- a handler that begins serves nobody

nobody_served : (o u p : ℕ) → HasAction (ServesCall o u) (Writes p ∷ []) → ⊥
nobody_served o u p (inl h) = h
nobody_served o u p (inr h) = h

module _ (x l : Kernel) (s : SettlesTo x l) (u o : ℕ) where
  abbrev new_of : Interrupt → List Action
  new_of i = Writes i.object ∷ []

  -- who waits in the kernel that settles, and before
  pub awaits_before : Awaits l.queued l.actions u o → Awaits x.queued x.actions u o
  awaits_before awaits = by_start s.actions
    where
      by_start : ((l.pending ≡ x.pending) × (l.actions ≡ x.actions)) ⊎ ((i : Interrupt) × HandlerBegins x l i) → Awaits x.queued x.actions u o
      by_start (inl same) = awaits_as l.queued x.queued l.actions x.actions u o (sym s.queued) (sym same.1) awaits
      by_start (inr h) =
          let a = actor x.partition h.0.channel in
          ⊎_elim inl
          (λ served. inr (served_before a (new_of h.0) x.actions u o (λ f. absurd (nobody_served o u h.0.object f)) served))
          (awaits_as l.queued x.queued l.actions (put a (new_of h.0) x.actions) u o (sym s.queued) (sym h.1.actions) awaits)

  pub awaits_after : Awaits x.queued x.actions u o → Awaits l.queued l.actions u o
  awaits_after awaits = by_start s.actions
    where
      by_start : ((l.pending ≡ x.pending) × (l.actions ≡ x.actions)) ⊎ ((i : Interrupt) × HandlerBegins x l i) → Awaits l.queued l.actions u o
      by_start (inl same) = awaits_as x.queued l.queued x.actions l.actions u o s.queued same.1 awaits
      by_start (inr h) =
          let a = actor x.partition h.0.channel in
          awaits_as x.queued l.queued (put a (new_of h.0) x.actions) l.actions u o s.queued h.1.actions
          (⊎_elim inl
          (λ served. inr (served_then a (new_of h.0) x.actions u o (λ f. absurd (subst (HasAction (ServesCall o u)) h.1.idle f)) served)) awaits)

-- ---- who is served is served by one task, in one action

pub served_object : (o u : ℕ) (a : Action) → ServesCall o u a → object_of a ≡ o
served_object o u (Reads p) h = absurd h
served_object o u (Writes p) h = absurd h
served_object o u (Serves p v) h = h.0

pub served_at : (o u : ℕ) (actions : List Action) → HasAction (ServesCall o u) actions → IsInsideObject o actions
served_at o u [] h = absurd h
served_at o u (a ∷ outer) (inl h) = inl (served_object o u a h)
served_at o u (a ∷ outer) (inr h) = inr (served_at o u outer h)

open_at : (o : ℕ) (actions : List Action) → IsInsideObject o actions → is_object_open o actions ≡ true
open_at o [] h = absurd h
open_at o (a ∷ outer) (inl e) = ap (λ b. b || is_object_open o outer) (eqb_same (object_of a) o e)
open_at o (a ∷ outer) (inr h) = by_test (eqb (object_of a) o) (open_at o outer h)
  where
    by_test : (b : Bool) → is_object_open o outer ≡ true → (b || is_object_open o outer) ≡ true
    by_test true e = refl
    by_test false e = e

-- where the action of a service closes, nobody serves the caller any more
pub service_over : FourHold → (barrier : ℕ → Bool) (k : Kernel) (t o u : ℕ) (outer : List Action) → Kept barrier k
    → k.actions t ≡ Serves o u ∷ outer
    → (p : ℕ)
    → Awaits k.queued (put t outer k.actions) u p
    → ⊥
service_over four barrier k t o u outer kept is p awaits = by_case awaits
  where
    mine : HasAction (ServesCall o u) (k.actions t)
    mine = subst (HasAction (ServesCall o u)) (sym is) (inl (refl, refl))

    place : k.place u ≡ IsServed o
    place = (kept.sound.serving t o u mine).0

    once : Once (Serves o u ∷ outer)
    once = subst Once is (kept.sound.once t)

    inner : HasAction (ServesCall p u) outer → ⊥
    inner h =
        let there : k.place u ≡ IsServed p = (kept.sound.serving t p u (subst (HasAction (ServesCall p u)) (sym is) (inr h))).0 in
        let here : k.place u ≡ IsServed o = place in
        let same : p ≡ o = cc in
        once.0 (served_at o u outer (subst (λ x. HasAction (ServesCall x u) outer) same h))

    elsewhere : (v : ℕ) → v ≢ t → HasAction (ServesCall p u) (k.actions v) → ⊥
    elsewhere v other h =
        let there : k.place u ≡ IsServed p = (kept.sound.serving v p u h).0 in
        let here : k.place u ≡ IsServed o = place in
        let same : p ≡ o = cc in
        let open_there = open_at o (k.actions v) (served_at o u (k.actions v) (subst (λ x. HasAction (ServesCall x u) (k.actions v)) same h)) in
        other ((four barrier k kept).one_inside o v t open_there (open_at o (k.actions t) (served_at o u (k.actions t) mine)))

    by_case : Awaits k.queued (put t outer k.actions) u p → ⊥
    by_case (inl q) = let there : k.place u ≡ IsQueued p = kept.sound.queue p u q in let here : k.place u ≡ IsServed o = place in cc
    by_case (inr has) = of_put (HasAction (ServesCall p u)) ⊥ t has.0 outer k.actions has.1 (λ e i. inner i) (λ ne i. elsewhere has.0 ne i)
