-- Who is being served is served by somebody: kept by dispatching, by the clock and by every effect.
use Rattle.std.proofs.Common.{◌≡◌, ◌≢◌, inl, inr, ℕ, List, [], ◌∷◌, ◌++◌, Option, Some, None, Bool, true, false, ltb, refl, sym, ap, ◌∙◌, subst, ⊎_elim}
use Rattle.std.specs.Prelude.{int_lt}
use Rattle.kernel.specs.State.{Kernel, TaskPlace, IsRunning, IsReady, IsAsleep, IsQueued, IsServed, IsFinished, Action, Reads, Writes, Serves, Sleeper, active, put}
use Rattle.kernel.specs.Dispatching.{leaves, becomes_ready, runs_head, runs_from, preempted, preempts, dispatch_from, dispatch}
use Rattle.kernel.specs.Clock.{falls_asleep, released, wakes_if_due, wakes_due}
use Rattle.kernel.specs.Effects.{Effect, Quiet, Says, Delays, Opens, Views, Queues, Ends, Finishes, Dies, Breaks, HandsBack, service, ending_of, outer_of, with_actions, takes_over, ends, effect}
use Rattle.kernel.specs.Invariant.{HasAction, ServesCall, Served}
use Rattle.kernel.specs.PutLaws.{put_same, by_put, of_put}
use Rattle.kernel.proofs.Lists.{either}

abbrev pub Serv : Kernel → Type 0
Serv k = Served k.place k.actions

pub moved : (t : ℕ) (w : TaskPlace) (place : ℕ → TaskPlace) (actions : ℕ → List Action) → ((o : ℕ) → w ≢ IsServed o) → Served place actions → Served (put t w place) actions
moved t w place actions not s u o e = of_put (λ x. x ≡ IsServed o) ((v : ℕ) × HasAction (ServesCall o u) (actions v)) t u w place e (λ i j. absurd (not o j)) (λ ne i. s u o i)

taken : (l : List ℕ) (h : ℕ) (k : Kernel) → Serv k → Serv (runs_head l h k)
taken [] h k s = s
taken (t ∷ ts) h k s = moved t IsRunning k.place k.actions (λ o e. cc) s

chosen : (r : Option ℕ) (k : Kernel) → Serv k → Serv (runs_from r k)
chosen None k s = s
chosen (Some h) k s = taken (k.ready h) h k s

preempted_serv : (t : ℕ) (r : Option ℕ) (k : Kernel) → Serv k → Serv (preempts t r k)
preempted_serv t None k s = s
preempted_serv t (Some h) k s = either Serv (ltb (active k t) h) (runs_from (Some h) (preempted t k)) k (chosen (Some h) (preempted t k) (moved t IsReady k.place k.actions (λ o e. cc) s)) s

dispatch_serv_at : (r : Option ℕ) (k : Kernel) → Serv k → Serv (dispatch_from r k)
dispatch_serv_at None k s = chosen _ k s
dispatch_serv_at (Some t) k s = preempted_serv t _ k s

pub dispatch_serv : (k : Kernel) → Serv k → Serv (dispatch k)
dispatch_serv k s = dispatch_serv_at k.running k s

wakes_serv : (x : Sleeper) (k : Kernel) → Serv k → Serv (wakes_if_due x k)
wakes_serv x k s =
    let t = x.task in
    either Serv (int_lt k.now x.wake) (record k { sleepers = k.sleepers ++ x ∷ [] }) (becomes_ready t (released t k)) s
    (moved t IsReady (put t IsFinished k.place) k.actions (λ o e. cc) (moved t IsFinished k.place k.actions (λ o e. cc) s))

pub wakes_all_serv : (ss : List Sleeper) (k : Kernel) → Serv k → Serv (wakes_due ss k)
wakes_all_serv [] k s = s
wakes_all_serv (x ∷ ss) k s = wakes_all_serv ss (wakes_if_due x k) (wakes_serv x k s)

-- an action opens that was not there
pub grown : (t : ℕ) (new : List Action) (k : Kernel) → ((o u : ℕ) → HasAction (ServesCall o u) (k.actions t) → HasAction (ServesCall o u) new) → Serv k → Serv (with_actions t new k)
grown t new k more s u o e =
    let w = s u o e in
    (w.0, by_put (HasAction (ServesCall o u)) t w.0 new k.actions (λ i. more o u (subst (λ x. HasAction (ServesCall o u) (k.actions x)) i w.1)) (λ ne. w.1))

-- an action that serves nobody closes
closed : (t : ℕ) (a : Action) (outer : List Action) (k : Kernel) → k.actions t ≡ a ∷ outer → ((o u : ℕ) → ServesCall o u a → ⊥) → Serv k → Serv (with_actions t outer k)
closed t a outer k e plain s = grown t outer k (λ o u h. ⊎_elim (λ i. absurd (plain o u i)) (λ i. i) (subst (HasAction (ServesCall o u)) e h)) s

takes_serv : (t o u : ℕ) (outer : List Action) (k : Kernel) → k.actions t ≡ Writes o ∷ outer → Serv k → Serv (takes_over t o u outer k)
takes_serv t o u outer k e s v p i =
    let new = Serves o u ∷ outer in
    of_put (λ x. x ≡ IsServed p) ((w : ℕ) × HasAction (ServesCall p v) (put t new k.actions w)) u v (IsServed o) k.place i
    (λ same j. let m : o ≡ p = cc in (t, subst (HasAction (ServesCall p v)) (sym (put_same t t new k.actions refl)) (inl (m, sym same))))
    (λ ne j. grown t new k (λ q x h. ⊎_elim (λ y. absurd y) (λ y. inr y) (subst (HasAction (ServesCall q x)) e h)) s v p j)

hands_serv : (t o u : ℕ) (outer : List Action) (k : Kernel) → k.actions t ≡ Serves o u ∷ outer → Serv k → Serv (ends t (HandsBack u) outer k)
hands_serv t o u outer k e s v p i =
    of_put (λ x. x ≡ IsServed p) ((w : ℕ) × HasAction (ServesCall p v) (put t outer k.actions w)) u v IsReady (put u IsFinished k.place) i (λ same j. absurd (cc))
    (λ ne j.
    of_put (λ x. x ≡ IsServed p) ((w : ℕ) × HasAction (ServesCall p v) (put t outer k.actions w)) u v IsFinished k.place j (λ same m. absurd (cc))
    (λ ne' m.
    let w = s v p m in
    (w.0, by_put (HasAction (ServesCall p v)) t w.0 outer k.actions (λ x. ⊎_elim (λ y. absurd (ne (sym y.1))) (λ y. y) (subst (HasAction (ServesCall p v)) (ap k.actions x ∙ e) w.1)) (λ nx. w.1))))

service_serv : (is_open : Bool) (t o : ℕ) (outer : List Action) (q : Option ℕ) (k : Kernel) → k.actions t ≡ Writes o ∷ outer → Serv k → Serv (ends t (service is_open o q) outer k)
service_serv false t o outer q k e s = closed t (Writes o) outer k e (λ p u h. h) s
service_serv true t o outer None k e s = closed t (Writes o) outer k e (λ p u h. h) s
service_serv true t o outer (Some u) k e s = takes_serv t o u outer k e s

pub ends_serv : (is_open : Bool) (t : ℕ) (l : List Action) (k : Kernel) → k.actions t ≡ l → Serv k → Serv (ends t (ending_of is_open l k.queued) (outer_of l) k)
ends_serv is_open t [] k e s = grown t [] k (λ p u h. subst (HasAction (ServesCall p u)) e h) s
ends_serv is_open t (Reads o ∷ outer) k e s = closed t (Reads o) outer k e (λ p u h. h) s
ends_serv is_open t (Writes o ∷ outer) k e s = service_serv is_open t o outer (k.queued o) k e s
ends_serv is_open t (Serves o u ∷ outer) k e s = hands_serv t o u outer k e s

-- the end of a body apart, after which a handler may be gone
pub effect_serv : (t : ℕ) (e : Effect) (k : Kernel) → ((is_open : Bool) → e ≡ Ends is_open → Serv (effect t e k)) → Serv k → Serv (effect t e k)
effect_serv t Quiet k ended s = s
effect_serv t (Says label value) k ended s = s
effect_serv t (Delays w) k ended s =
    let gone = moved t IsFinished k.place k.actions (λ o e. cc) s in
    either Serv (int_lt k.now w) (falls_asleep t w (leaves t k)) (becomes_ready t (leaves t k)) (moved t IsAsleep (put t IsFinished k.place) k.actions (λ o e. cc) gone) (moved t IsReady (put t IsFinished k.place) k.actions (λ o e. cc) gone)
effect_serv t (Opens o) k ended s = grown t (Writes o ∷ k.actions t) k (λ p u h. inr h) s
effect_serv t (Views o) k ended s = grown t (Reads o ∷ k.actions t) k (λ p u h. inr h) s
effect_serv t (Queues o) k ended s = moved t (IsQueued o) (put t IsFinished k.place) k.actions (λ p e. cc) (moved t IsFinished k.place k.actions (λ p e. cc) s)
effect_serv t (Ends c) k ended s = ended c refl
effect_serv t Finishes k ended s = moved t IsFinished k.place k.actions (λ o e. cc) s
effect_serv t (Dies x) k ended s = s
effect_serv t Breaks k ended s = s
