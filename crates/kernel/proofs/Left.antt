-- What a step leaves of open actions and pending interrupts beside its effect.
use Rattle.std.proofs.Common.{◌≡◌, inl, ℕ, ◌≤◌, ℤ, List, [], ◌∷◌, Option, Some, None, Bool, true, false, not, ◌&&◌, refl, sym, ap, ◌∙◌, subst, ⊎_elim, arith}
use Rattle.std.proofs.lemmas.Bool.{true≢false}
use Rattle.std.specs.Prelude.{int_lt}
use Rattle.kernel.specs.State.{Kernel, Action, Reads, Writes, Serves, actor, is_task}
use Rattle.kernel.specs.Dispatching.{becomes_ready, leaves, dispatch}
use Rattle.kernel.specs.Interrupts.{delivers}
use Rattle.kernel.specs.Clock.{falls_asleep, next, time_moves, clock_from, clock}
use Rattle.kernel.specs.Effects.{Effect, Quiet, Says, Delays, Opens, Views, Queues, Ends, Finishes, Dies, Breaks, Ending, Closes, TakesOver, HandsBack, activated, after, blank, done, effect, ending_of, ends, goes_if, is_inside_any, is_last, is_over, outer_of}
use Rattle.kernel.specs.Invariant.{HandlesWithin, IsInOwn, Passed, Settled, Sound}
use Rattle.kernel.specs.Worlds.{ending, is_handler_over}
use Rattle.kernel.specs.Laws.{SettlesTo, StartSettles, StepsSettle}
use Rattle.kernel.proofs.Always.{activated_sound}
use Rattle.kernel.proofs.Clock.{moved_settles}
use Rattle.kernel.proofs.Departing.{effect_within, ends_partition, ends_running, outside_task, over_facts}
use Rattle.kernel.proofs.Lists.{either}
use Rattle.kernel.proofs.Dispatch.{dispatch_sound, handler_still}
use Rattle.kernel.proofs.Interrupts.{delivers_first}
use Rattle.kernel.proofs.Moves.{held, leaves_sound}
use Rattle.kernel.proofs.Settling.{alike_settles, delivers_settles, settles_from}
use Rattle.kernel.proofs.Steps.{effect_sound, ends_sound}
use Rattle.kernel.proofs.Unmoved.{dispatch_alike}

itself : (k : Kernel) → SettlesTo k k
itself k = record { partition = refl; queued = refl; actions = inl (refl, refl) }

clock_settles : (b : ℕ → Bool) (k : Kernel) (r : Option ℕ) (o : Option ℤ) → k.running ≡ r → next k ≡ o → Sound b k [] → Settled k → SettlesTo k (clock_from r k)
clock_settles b k (Some t) o e i s st = itself k
clock_settles b k None None e i s st =
    subst (λ x. SettlesTo k (time_moves x k)) (sym i) (record { partition = refl; queued = refl; actions = inl (refl, refl) })
clock_settles b k None (Some n) e i s st = subst (λ x. SettlesTo k (time_moves x k)) (sym i) (moved_settles b k e s st n)

finish_settles : (b : ℕ → Bool) (k : Kernel) → Sound b k [] → SettlesTo k (clock (dispatch k))
finish_settles b k s =
    let d = dispatch_sound b k [] s in
    alike_settles k (dispatch k) (clock (dispatch k)) (dispatch_alike k) (clock_settles b (dispatch k) (dispatch k).running (next (dispatch k)) refl refl d.0 d.1)

-- a handler that is over goes, and the next one begins or time goes on
module _ (b : ℕ → Bool) (l : Kernel) (t : ℕ) (run : l.running ≡ Some t) (s : Sound b l []) (none : l.actions t ≡ []) (begun : Sound b (delivers l.pending (leaves t l)) []) where
  abbrev gone : Kernel
  gone = leaves t l

  abbrev told : Kernel
  told = delivers l.pending gone

  goes_settles : SettlesTo l (clock (dispatch told))
  goes_settles =
      let free : Sound b gone [] = leaves_sound b l [] t run none s in
      let there : SettlesTo gone (clock (dispatch told)) =
      ⊎_elim
      (λ idle. subst (λ x. SettlesTo gone (clock (dispatch x))) (sym idle) (finish_settles b gone free))
      (λ w.
      let still = handler_still b told [] (actor told.partition w.0.channel) w.1.handled (omega arith) begun in
      let stands : clock (dispatch told) ≡ told = ap clock still ∙ ap (λ r. clock_from r told) w.1.handled in
      subst (SettlesTo gone) (sym stands) (delivers_settles b gone refl free l.pending refl))
      (delivers_first l.pending gone refl) in
      settles_from gone l (clock (dispatch told)) refl refl refl refl there

module _ (b : ℕ → Bool) (k : Kernel) (t : ℕ) (run : k.running ≡ Some t) (s : Sound b k []) (w : HandlesWithin k) where
  finish_step : (e : Effect) → Passed b k t e → SettlesTo (effect t e k) (clock (dispatch (effect t e k)))
  finish_step e c = finish_settles b (effect t e k) (effect_sound b k t run s w e c)

  ended : (is_open : Bool) → Passed b k t (Ends is_open) → (c : Bool)
      → is_over k.partition t (k.actions t) (ending_of is_open (k.actions t) k.queued) ≡ c
      → SettlesTo (done t (Ends is_open) k) (clock (dispatch (goes_if c t (done t (Ends is_open) k))))
  ended is_open p false over = finish_settles b (done t (Ends is_open) k) (ends_sound b k t run s is_open (k.actions t) refl p)
  ended is_open p true over =
      let e = ending_of is_open (k.actions t) k.queued in
      let facts = over_facts t e (k.actions t) k over in
      let same : effect t (Ends is_open) k ≡ goes_if true t (done t (Ends is_open) k) = ap (λ x. goes_if x t (done t (Ends is_open) k)) over in
      goes_settles b (done t (Ends is_open) k) t (ends_running t is_open (k.actions t) k run) (ends_sound b k t run s is_open (k.actions t) refl p) facts.1
      (subst (λ x. Sound b x []) same (effect_sound b k t run s w (Ends is_open) p))

  settles : (e : Effect) → Passed b k t e → SettlesTo (done t e k) (after t e k)
  settles Quiet c = finish_step Quiet c
  settles (Says label value) c = finish_step (Says label value) c
  settles (Delays until) c = finish_step (Delays until) c
  settles (Opens o) c = finish_step (Opens o) c
  settles (Views o) c = finish_step (Views o) c
  settles (Queues o) c = finish_step (Queues o) c
  settles (Ends is_open) c = ended is_open c (is_over k.partition t (k.actions t) (ending_of is_open (k.actions t) k.queued)) refl
  settles Finishes c = finish_step Finishes c
  settles (Dies x) c = itself (effect t (Dies x) k)
  settles Breaks c = itself (effect t Breaks k)

pub steps_settle : StepsSettle
steps_settle before later k t e run h c kept = settles later k t run (held before later k [] t h kept.sound) kept.within e c

pub start_settles : StartSettles
start_settles p is fits all = finish_settles (λ o. false) (activated p.tasks (blank p is)) (activated_sound (λ o. false) p is fits all p.tasks (omega arith)).0

-- what the effect alone leaves

ends_pending : (t : ℕ) (e : Ending) (outer : List Action) (k : Kernel) → (ends t e outer k).pending ≡ k.pending
ends_pending t Closes outer k = refl
ends_pending t (TakesOver o u) outer k = refl
ends_pending t (HandsBack u) outer k = refl

pub done_pending : (t : ℕ) (e : Effect) (k : Kernel) → (done t e k).pending ≡ k.pending
done_pending t Quiet k = refl
done_pending t (Says label value) k = refl
done_pending t (Delays until) k =
    either (λ l. l.pending ≡ k.pending) (int_lt k.now until) (falls_asleep t until (leaves t k)) (becomes_ready t (leaves t k)) refl refl
done_pending t (Opens o) k = refl
done_pending t (Views o) k = refl
done_pending t (Queues o) k = refl
done_pending t (Ends is_open) k = ends_pending t (ending_of is_open (k.actions t) k.queued) (outer_of (k.actions t)) k
done_pending t Finishes k = refl
done_pending t (Dies x) k = refl
done_pending t Breaks k = refl

pub done_partition : (t : ℕ) (e : Effect) (k : Kernel) → (done t e k).partition ≡ k.partition
done_partition t Quiet k = refl
done_partition t (Says label value) k = refl
done_partition t (Delays until) k =
    either (λ l. l.partition ≡ k.partition) (int_lt k.now until) (falls_asleep t until (leaves t k)) (becomes_ready t (leaves t k)) refl refl
done_partition t (Opens o) k = refl
done_partition t (Views o) k = refl
done_partition t (Queues o) k = refl
done_partition t (Ends is_open) k = ends_partition t (ending_of is_open (k.actions t) k.queued) (outer_of (k.actions t)) k
done_partition t Finishes k = refl
done_partition t (Dies x) k = refl
done_partition t Breaks k = refl

-- a handler that is over has no action open
pub over_gone : (t : ℕ) (e : Effect) (k : Kernel) → is_handler_over k t e ≡ true → (k.partition.tasks ≤ t) × ((done t e k).actions t ≡ [])
over_gone t (Ends is_open) k over =
    let e = ending_of is_open (k.actions t) k.queued in
    let facts = over_facts t e (k.actions t) k over in
    (subst (λ p. p.tasks ≤ t) (ends_partition t e (outer_of (k.actions t)) k) facts.0, facts.1)
over_gone t Quiet k over = absurd (true≢false (sym over))
over_gone t (Says label value) k over = absurd (true≢false (sym over))
over_gone t (Delays until) k over = absurd (true≢false (sym over))
over_gone t (Opens o) k over = absurd (true≢false (sym over))
over_gone t (Views o) k over = absurd (true≢false (sym over))
over_gone t (Queues o) k over = absurd (true≢false (sym over))
over_gone t Finishes k over = absurd (true≢false (sym over))
over_gone t (Dies x) k over = absurd (true≢false (sym over))
over_gone t Breaks k over = absurd (true≢false (sym over))

-- one that is not is within its own
module _ (b : ℕ → Bool) (k : Kernel) (t : ℕ) (run : k.running ≡ Some t) (w : HandlesWithin k) (le : k.partition.tasks ≤ t) where
  within_any : is_inside_any k t ≡ false → ⊥
  within_any e = let lt = outside_task k t run e w in omega arith

  ends_in_own : (is_open : Bool) → is_handler_over k t (Ends is_open) ≡ false → IsInOwn ((done t (Ends is_open) k).actions t)
  ends_in_own is_open on =
      let e = ending_of is_open (k.actions t) k.queued in
      let l = done t (Ends is_open) k in
      let same : effect t (Ends is_open) k ≡ l = ap (λ x. goes_if x t l) on in
      let within : HandlesWithin l = subst HandlesWithin same (effect_within t (Ends is_open) k run w) in
      within t (subst (λ p. p.tasks ≤ t) (sym (ends_partition t e (outer_of (k.actions t)) k)) le) (ends_running t is_open (k.actions t) k run)

  pub handler_within : (e : Effect) → Passed b k t e → is_handler_over k t e ≡ false → IsInOwn ((done t e k).actions t)
  handler_within Quiet c on = w t le run
  handler_within (Says label value) c on = w t le run
  handler_within (Delays until) c on = absurd (within_any c)
  handler_within (Opens o) c on = effect_within t (Opens o) k run w t le run
  handler_within (Views o) c on = effect_within t (Views o) k run w t le run
  handler_within (Queues o) c on = absurd (within_any c.0)
  handler_within (Ends is_open) c on = ends_in_own is_open on
  handler_within Finishes c on = absurd (within_any c)
  handler_within (Dies x) c on = w t le run
  handler_within Breaks c on = w t le run

-- where a queued call is taken over no handler is over
last_takes : (l : List Action) (o u : ℕ) → is_last l (TakesOver o u) ≡ false
last_takes [] o u = refl
last_takes (Reads p ∷ outer) o u = refl
last_takes (Writes p ∷ []) o u = refl
last_takes (Writes p ∷ a ∷ outer) o u = refl
last_takes (Serves p v ∷ []) o u = refl
last_takes (Serves p v ∷ a ∷ outer) o u = refl

pub takes_goes_on : (t : ℕ) (e : Effect) (k : Kernel) (o u : ℕ) → ending k t e ≡ TakesOver o u → is_handler_over k t e ≡ false
takes_goes_on t (Ends is_open) k o u is =
    ap (is_over k.partition t (k.actions t)) is ∙ ap (λ x. x && not (is_task k.partition t)) (last_takes (k.actions t) o u)
takes_goes_on t Quiet k o u is = refl
takes_goes_on t (Says label value) k o u is = refl
takes_goes_on t (Delays until) k o u is = refl
takes_goes_on t (Opens p) k o u is = refl
takes_goes_on t (Views p) k o u is = refl
takes_goes_on t (Queues p) k o u is = refl
takes_goes_on t Finishes k o u is = refl
takes_goes_on t (Dies x) k o u is = refl
takes_goes_on t Breaks k o u is = refl
