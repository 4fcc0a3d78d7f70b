-- A handler that is there runs; a step delivers at most the first interrupt, and its handler runs.
use Rattle.std.proofs.Common.{◌≡◌, ◌⊎◌, ◌≤◌, inl, inr, ℕ, ℤ, List, [], ◌∷◌, Option, Some, None, Bool, true, false, refl, sym, ap, ◌∙◌, subst, ⊎_elim, arith}
use Rattle.std.specs.Prelude.{int_lt}
use Rattle.kernel.specs.State.{Interrupt, Kernel, Action, actor}
use Rattle.kernel.specs.Dispatching.{leaves, becomes_ready, dispatch}
use Rattle.kernel.specs.Clock.{falls_asleep, next, time_moves, clock_from, clock}
use Rattle.kernel.specs.Effects.{Effect, Quiet, Says, Delays, Opens, Views, Queues, Ends, Finishes, Dies, Breaks, Ending, Closes, TakesOver, HandsBack, is_inside_any, ending_of, outer_of, is_over, ends, goes_if, effect, after}
use Rattle.kernel.specs.Invariant.{IsInOwn, Sound, Settled, HandlesWithin, Passed}
use Rattle.kernel.specs.Worlds.{is_handler_over}
use Rattle.kernel.specs.Laws.{HandlersGoOn, HandlersRun, Delivers, DeliversOnce}
use Rattle.kernel.proofs.Departing.{ends_partition, ends_running, outside_task}
use Rattle.kernel.proofs.Lists.{base_raised, either}
use Rattle.kernel.proofs.Places.{low}
use Rattle.kernel.proofs.Moves.{held}
use Rattle.kernel.proofs.Dispatch.{handler_still, dispatch_sound}
use Rattle.kernel.proofs.Unmoved.{dispatch_alike}
use Rattle.kernel.proofs.Interrupts.{delivers_first}
use Rattle.kernel.proofs.Clock.{moved_delivers}
use Rattle.kernel.proofs.Steps.{effect_sound}

inside_own : (l : List Action) → IsInOwn l → elim l as (λ x. Bool) [ [] ↦ false | a ∷ outer ↦ true ] ≡ true
inside_own [] own = absurd own
inside_own (a ∷ outer) own = refl

pub handlers_run : HandlersRun
handlers_run b k u kept le there =
    let s = kept.sound in
    let run : k.running ≡ Some u = ⊎_elim (λ f. absurd (there f)) (λ r. r) (s.gone u le) in
    let top = s.urgent u le in
    let over = base_raised k.partition.ceiling (k.partition.base u) (k.actions u) in
    let under = low b k [] s u in
    record { running = run; within = inside_own (k.actions u) (kept.within u le run); highest = omega arith }

-- what was delivered from one kernel on is no longer pending in the next
abbrev AtMostFirst : Kernel → Kernel → Type 0
AtMostFirst k l = (l.pending ≡ k.pending) ⊎ ((i : Interrupt) × Delivers k l i)

goes_first : (t : ℕ) (c : Bool) (k l : Kernel) → l.pending ≡ k.pending → AtMostFirst k (goes_if c t l)
goes_first t false k l e = inl e
goes_first t true k l e =
    ⊎_elim
    (λ idle. inl (ap (λ x. x.pending) idle ∙ e))
    (λ w. inr (w.0, record { first = sym e ∙ w.1.first; due = w.1.due; handled = w.1.handled }))
    (delivers_first l.pending (leaves t l) refl)

ends_pending : (t : ℕ) (e : Ending) (outer : List Action) (k : Kernel) → (ends t e outer k).pending ≡ k.pending
ends_pending t Closes outer k = refl
ends_pending t (TakesOver o u) outer k = refl
ends_pending t (HandsBack u) outer k = refl

effect_first : (t : ℕ) (e : Effect) (k : Kernel) → AtMostFirst k (effect t e k)
effect_first t Quiet k = inl refl
effect_first t (Says label value) k = inl refl
effect_first t (Delays until) k =
    either (AtMostFirst k) (int_lt k.now until) (falls_asleep t until (leaves t k)) (becomes_ready t (leaves t k)) (inl refl) (inl refl)
effect_first t (Opens o) k = inl refl
effect_first t (Views o) k = inl refl
effect_first t (Queues o) k = inl refl
effect_first t (Ends is_open) k =
    let e = ending_of is_open (k.actions t) k.queued in
    let outer = outer_of (k.actions t) in
    goes_first t (is_over k.partition t (k.actions t) e) k (ends t e outer k) (ends_pending t e outer k)
effect_first t Finishes k = inl refl
effect_first t (Dies x) k = inl refl
effect_first t Breaks k = inl refl

clock_first : (b : ℕ → Bool) (k : Kernel) (r : Option ℕ) (o : Option ℤ) → k.running ≡ r → next k ≡ o → Sound b k [] → Settled k → AtMostFirst k (clock_from r k)
clock_first b k (Some t) o e i s st = inl refl
clock_first b k None None e i s st = subst (λ x. AtMostFirst k (time_moves x k)) (sym i) (inl refl)
clock_first b k None (Some n) e i s st = subst (λ x. AtMostFirst k (time_moves x k)) (sym i) (moved_delivers b k e s st n)

-- dispatching and the clock deliver nothing more where a handler begins
finish_first : (b : ℕ → Bool) (k l : Kernel) → Sound b l [] → AtMostFirst k l → AtMostFirst k (clock (dispatch l))
finish_first b k l s first =
    ⊎_elim
    (λ e.
    let d = dispatch_sound b l [] s in
    let same : (dispatch l).pending ≡ k.pending = (dispatch_alike l).pending ∙ e in
    ⊎_elim
    (λ i. inl (i ∙ same))
    (λ w. inr (w.0, record { first = sym same ∙ w.1.first; due = w.1.due; handled = w.1.handled }))
    (clock_first b (dispatch l) (dispatch l).running (next (dispatch l)) refl refl d.0 d.1))
    (λ w.
    let still = handler_still b l [] (actor l.partition w.0.channel) w.1.handled (omega arith) s in
    let stands : clock (dispatch l) ≡ l = ap clock still ∙ ap (λ r. clock_from r l) w.1.handled in
    inr (w.0, subst (λ x. Delivers k x w.0) (sym stands) w.1))
    first

module _ (b : ℕ → Bool) (k : Kernel) (t : ℕ) (run : k.running ≡ Some t) (s : Sound b k []) (w : HandlesWithin k) where
  -- what a step does but an unhandled exception and an image fault
  step_first : (e : Effect) → Passed b k t e → AtMostFirst k (clock (dispatch (effect t e k)))
  step_first e c = finish_first b k (effect t e k) (effect_sound b k t run s w e c) (effect_first t e k)

  after_first : (e : Effect) → Passed b k t e → AtMostFirst k (after t e k)
  after_first (Dies x) c = inl refl
  after_first Breaks c = inl refl
  after_first Quiet c = step_first Quiet c
  after_first (Says label value) c = step_first (Says label value) c
  after_first (Delays until) c = step_first (Delays until) c
  after_first (Opens o) c = step_first (Opens o) c
  after_first (Views o) c = step_first (Views o) c
  after_first (Queues o) c = step_first (Queues o) c
  after_first (Ends is_open) c = step_first (Ends is_open) c
  after_first Finishes c = step_first Finishes c

pub delivers_once : DeliversOnce
delivers_once before later k t e run h c kept = after_first later k t run (held before later k [] t h kept.sound) kept.within e c

-- a handler that is not over runs on

stays_on : (b : ℕ → Bool) (l : Kernel) (t : ℕ) → l.running ≡ Some t → l.partition.tasks ≤ t → Sound b l [] → (clock (dispatch l)).running ≡ Some t
stays_on b l t run le s =
    let still = handler_still b l [] t run le s in
    ap (λ x. (clock x).running) still ∙ (ap (λ r. (clock_from r l).running) run ∙ run)

module _ (b : ℕ → Bool) (k : Kernel) (t : ℕ) (run : k.running ≡ Some t) (le : k.partition.tasks ≤ t) (s : Sound b k []) (w : HandlesWithin k) where
  -- what may block is refused
  within_any : is_inside_any k t ≡ false → ⊥
  within_any e = let lt = outside_task k t run e w in omega arith

  ends_on : (is_open : Bool) → Passed b k t (Ends is_open) → is_handler_over k t (Ends is_open) ≡ false → (after t (Ends is_open) k).running ≡ Some t
  ends_on is_open c on =
      let e = ending_of is_open (k.actions t) k.queued in
      let l = ends t e (outer_of (k.actions t)) k in
      let same : effect t (Ends is_open) k ≡ l = ap (λ x. goes_if x t l) on in
      let sound : Sound b l [] = subst (λ x. Sound b x []) same (effect_sound b k t run s w (Ends is_open) c) in
      let beyond : l.partition.tasks ≤ t = subst (λ p. p.tasks ≤ t) (sym (ends_partition t e (outer_of (k.actions t)) k)) le in
      ap (λ x. (clock (dispatch x)).running) same ∙ stays_on b l t (ends_running t is_open (k.actions t) k run) beyond sound

  goes_on : (e : Effect) → Passed b k t e → is_handler_over k t e ≡ false → (after t e k).running ≡ Some t
  goes_on Quiet c on = stays_on b k t run le s
  goes_on (Says label value) c on = stays_on b (effect t (Says label value) k) t run le (effect_sound b k t run s w (Says label value) c)
  goes_on (Delays until) c on = absurd (within_any c)
  goes_on (Opens o) c on = stays_on b (effect t (Opens o) k) t run le (effect_sound b k t run s w (Opens o) c)
  goes_on (Views o) c on = stays_on b (effect t (Views o) k) t run le (effect_sound b k t run s w (Views o) c)
  goes_on (Queues o) c on = absurd (within_any c.0)
  goes_on (Ends is_open) c on = ends_on is_open c on
  goes_on Finishes c on = absurd (within_any c)
  goes_on (Dies x) c on = run
  goes_on Breaks c on = run

pub handlers_go_on : HandlersGoOn
handlers_go_on before later k t e run le h c kept on = goes_on later k t run le (held before later k [] t h kept.sound) kept.within e c on
