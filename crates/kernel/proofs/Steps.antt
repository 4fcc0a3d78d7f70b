-- Every effect keeps a kernel sound, and so every step keeps it.
use Rattle.std.proofs.Common.{◌≡◌, inl, inr, ℕ, ◌+◌, ◌≤◌, List, [], ◌∷◌, Option, Some, None, Bool, true, false, refl, sym, ap, ◌∙◌, subst, ⊎_elim, arith}
use Rattle.std.specs.Prelude.{int_lt}
use Rattle.kernel.specs.State.{Kernel, IsServed, IsFinished, Action, Reads, Writes, Serves, object_of, Unhandled, ImageFault, active, put}
use Rattle.kernel.specs.Dispatching.{leaves, becomes_ready, dispatch}
use Rattle.kernel.specs.Clock.{falls_asleep, released, clock}
use Rattle.kernel.specs.Effects.{Effect, Quiet, Says, Delays, Opens, Views, Queues, Ends, Finishes, Dies, Breaks, service, ending_of, outer_of, with_actions, takes_over, ends, effect, after}
use Rattle.kernel.specs.Invariant.{HasAction, IsInsideObject, CanWrite, ServesCall, Once, Stacked, naps, asleep, Sound, Settled, HandlesWithin, Kept, Tells, Passed, IsBarrierHeld}
use Rattle.kernel.specs.PutLaws.{same_or_not, put_same, put_other, by_put, of_put}
use Rattle.kernel.proofs.Lists.{base_raised, ceiling_raised, at_busy, idle, served_at, either}
use Rattle.kernel.proofs.Passed.{outside, not_above, may_call, not_full}
use Rattle.kernel.proofs.Places.{one_inside, napping}
use Rattle.kernel.proofs.Moves.{held, beside, waiting_task, leaves_sound, ready_sound, asleep_sound, queues_sound, released_sound, unqueues_sound, actions_sound}
use Rattle.kernel.proofs.Clock.{finish}
use Rattle.kernel.proofs.Served.{Serv, ends_serv, effect_serv}
use Rattle.kernel.proofs.Departing.{outside_task, ends_running, departs_sound, departs_serv, effect_within}

-- the task of a put is there
left : (t : ℕ) (k : Kernel) → (leaves t k).place t ≡ IsFinished
left t k = put_same t t IsFinished k.place refl

module _ (b : ℕ → Bool) (k : Kernel) (t : ℕ) (run : k.running ≡ Some t) (s : Sound b k []) where
  opens_sound : (a : Action) → (IsInsideObject (object_of a) (k.actions t) → ⊥) → active k t ≤ k.partition.ceiling (object_of a) → ((o u : ℕ) → ServesCall o u a → ⊥) → Sound b (with_actions t (a ∷ k.actions t) k) []
  opens_sound a other low plain =
      actions_sound b k [] t (a ∷ k.actions t) run
      (low, s.stacked t)
      (other, s.once t)
      (λ o u h. ⊎_elim (λ i. absurd (plain o u i)) (λ i. s.serving t o u i) h)
      (λ o u q. ⊎_elim (λ e. inl e) (λ w. inr (w.0, by_put (HasAction (CanWrite o)) t w.0 (a ∷ k.actions t) k.actions (λ e. inr (subst (λ x. HasAction (CanWrite o) (k.actions x)) e w.1)) (λ ne. w.1))) (s.closed o u q))
      s

  closes_sound : (a : Action) (outer : List Action) → k.actions t ≡ a ∷ outer → ((o u : ℕ) → k.queued o ≡ Some u → CanWrite o a → b o ≡ false) → Sound b (with_actions t outer k) []
  closes_sound a outer e shut =
      actions_sound b k [] t outer run
      (subst (Stacked k.partition.ceiling (k.partition.base t)) e (s.stacked t)).1
      (subst Once e (s.once t)).1
      (λ o u h. s.serving t o u (subst (HasAction (ServesCall o u)) (sym e) (inr h)))
      (λ o u q.
      ⊎_elim (λ f. inl f)
      (λ w.
      ⊎_elim
      (λ i.
      ⊎_elim
      (λ c. inl (shut o u q c))
      (λ r. inr (t, subst (HasAction (CanWrite o)) (sym (put_same t t outer k.actions refl)) r))
      (subst (HasAction (CanWrite o)) (ap k.actions i ∙ e) w.1))
      (λ ne. inr (w.0, subst (HasAction (CanWrite o)) (sym (put_other t w.0 outer k.actions ne)) w.1))
      (same_or_not w.0 t))
      (s.closed o u q))
      s

  takes_sound : (o u : ℕ) (outer : List Action) → k.actions t ≡ Writes o ∷ outer → k.queued o ≡ Some u → Sound b (takes_over t o u outer k) []
  takes_sound o u outer e q =
      let l : Kernel = record k { queued = put o None k.queued; place = put u (IsServed o) k.place } in
      let s' : Sound b l [] = unqueues_sound b k [] u o q s in
      let once : Once (Writes o ∷ outer) = subst Once e (s.once t) in
      actions_sound b l [] t (Serves o u ∷ outer) run
      (let st : Stacked k.partition.ceiling (k.partition.base t) (Writes o ∷ outer) = subst (Stacked k.partition.ceiling (k.partition.base t)) e (s.stacked t) in st)
      once
      (λ p v h.
      ⊎_elim
      (λ i. (subst (λ x. put u (IsServed o) k.place x ≡ IsServed p) i.1 (put_same u u (IsServed o) k.place refl ∙ ap IsServed i.0), put_same o p None k.queued (sym i.0)))
      (λ i. s'.serving t p v (subst (HasAction (ServesCall p v)) (sym e) (inr i)))
      h)
      (λ p v i.
      ⊎_elim (λ f. inl f)
      (λ w. inr (w.0, by_put (HasAction (CanWrite p)) t w.0 (Serves o u ∷ outer) k.actions (λ j. ⊎_elim (λ c. inl c) (λ c. inr c) (subst (HasAction (CanWrite p)) (ap k.actions j ∙ e) w.1)) (λ ne. w.1)))
      (s'.closed p v i))
      s'

  ends_served : (u o : ℕ) (outer : List Action) → k.actions t ≡ Serves o u ∷ outer → Sound b (becomes_ready u (released u (with_actions t outer k))) []
  ends_served u o outer e =
      let mine : HasAction (ServesCall o u) (k.actions t) = subst (HasAction (ServesCall o u)) (sym e) (inl (refl, refl)) in
      let in_o : IsInsideObject o (k.actions t) = served_at o u (k.actions t) mine in
      let is = s.serving t o u mine in
      let once : Once (Serves o u ∷ outer) = subst Once e (s.once t) in
      let l = with_actions t outer k in
      let s1 : Sound b l [] = closes_sound (Serves o u) outer e (λ p v q c. let j : k.queued p ≡ None = ap k.queued (sym c) ∙ is.1 in absurd (cc)) in
      let s2 : Sound b (released u l) [] =
      released_sound b l [] [] u (IsServed o) is.0 (λ i. cc) (λ i. cc) (λ p i. cc)
      (λ v p h.
      let there : k.place u ≡ IsServed p = (s1.serving v p u h).0 in
      let same : p ≡ o = let x = is.0 in cc in
      let h' : HasAction (ServesCall o u) (put t outer k.actions v) = subst (λ x. HasAction (ServesCall x u) (put t outer k.actions v)) same h in
      of_put (HasAction (ServesCall o u)) ⊥ t v outer k.actions h'
      (λ i w. once.0 (served_at o u outer w))
      (λ ne w. ne (one_inside b k [] s o v t (served_at o u (k.actions v) w) in_o)))
      (λ v. by_put (λ x. naps v k.sleepers + 0 ≡ asleep x) u v IsFinished k.place (λ i. napping b k [] s v (IsServed o) (ap k.place i ∙ is.0)) (λ ne. s.naps_once v))
      s1 in
      ready_sound b (released u l) [] u (waiting_task b k [] u (IsServed o) is.0 (λ i. cc) (λ i. cc) s) (put_same u u IsFinished k.place refl) s2

  service_sound : (is_open : Bool) (o : ℕ) (outer : List Action) (q : Option ℕ) → k.actions t ≡ Writes o ∷ outer → is_open ≡ b o → k.queued o ≡ q → Sound b (ends t (service is_open o q) outer k) []
  service_sound false o outer q e tell i = closes_sound (Writes o) outer e (λ p u j c. ap b (sym c) ∙ sym tell)
  service_sound true o outer None e tell i = closes_sound (Writes o) outer e (λ p u j c. let m : k.queued p ≡ None = ap k.queued (sym c) ∙ i in absurd (cc))
  service_sound true o outer (Some u) e tell i = takes_sound o u outer e i

  -- where no action is open, none closes
  closes_none : k.actions t ≡ [] → Sound b (with_actions t [] k) []
  closes_none e =
      let same : (u : ℕ) → put t [] k.actions u ≡ k.actions u = λ u. by_put (λ l. l ≡ k.actions u) t u [] k.actions (λ i. sym (ap k.actions i ∙ e)) (λ ne. refl) in
      subst (λ f. Sound b (record k { actions = f }) []) (λ i u. sym (same u) i) s

  pub ends_sound : (is_open : Bool) (l : List Action) → k.actions t ≡ l → Tells b is_open l → Sound b (ends t (ending_of is_open l k.queued) (outer_of l) k) []
  ends_sound is_open [] e tell = closes_none e
  ends_sound is_open (Reads o ∷ outer) e tell = closes_sound (Reads o) outer e (λ p u j w. absurd w)
  ends_sound is_open (Writes o ∷ outer) e tell = service_sound is_open o outer (k.queued o) e tell refl
  ends_sound is_open (Serves o u ∷ outer) e tell = ends_served u o outer e

  module _ (w : HandlesWithin k) where
    pub effect_sound : (e : Effect) → Passed b k t e → Sound b (effect t e k) []
    effect_sound Quiet c = s
    effect_sound (Says label value) c = beside b k [] [] k.sleepers k.now _ k.outcome (λ u. refl) s
    effect_sound (Delays until) c =
        let gone = leaves_sound b k [] t run (outside k t c) s in
        let task = outside_task k t run c w in
        either (λ y. Sound b y []) (int_lt k.now until) (falls_asleep t until (leaves t k)) (becomes_ready t (leaves t k))
        (asleep_sound b (leaves t k) [] t until task (left t k) gone)
        (ready_sound b (leaves t k) [] t task (left t k) gone)
    effect_sound (Opens o) c = let m = may_call k t o c in opens_sound (Writes o) m.0 m.1 (λ p u h. h)
    effect_sound (Views o) c = let m = may_call k t o c in opens_sound (Reads o) m.0 m.1 (λ p u h. h)
    effect_sound (Queues o) c =
        let none = outside k t c.0 in
        let low = not_above k t o c.1 in
        queues_sound b (leaves t k) [] t o (outside_task k t run c.0 w) (left t k) c.2 (not_full k o c.3)
        (λ u h.
        ⊎_elim
        (λ e. idle (k.actions u) (ap k.actions e ∙ none) (at_busy o (k.actions u) h))
        (λ ne.
        let lt = s.below t u run ne (at_busy o (k.actions u) h) in
        let over = ceiling_raised k.partition.ceiling (k.partition.base u) o (k.actions u) h in
        let own = base_raised k.partition.ceiling (k.partition.base t) (k.actions t) in
        omega arith)
        (same_or_not u t))
        (leaves_sound b k [] t run none s)
    effect_sound (Ends is_open) c =
        let e = ending_of is_open (k.actions t) k.queued in
        departs_sound b k t e (k.actions t) (ends_running t is_open (k.actions t) k run) (ends_sound is_open (k.actions t) refl c)
    effect_sound Finishes c = leaves_sound b k [] t run (outside k t c) s
    effect_sound (Dies x) c = beside b k [] [] k.sleepers k.now k.lines (Some (Unhandled x t)) (λ u. refl) s
    effect_sound Breaks c = beside b k [] [] k.sleepers k.now k.lines (Some ImageFault) (λ u. refl) s

    ended_serv : (is_open : Bool) → Passed b k t (Ends is_open) → Serv k → Serv (effect t (Ends is_open) k)
    ended_serv is_open c sv =
        let e = ending_of is_open (k.actions t) k.queued in
        departs_serv b k t e (k.actions t) (ends_running t is_open (k.actions t) k run) (ends_sound is_open (k.actions t) refl c)
        (ends_serv is_open t (k.actions t) k refl sv)

    module _ (st : Settled k) (sv : Serv k) where
      kept_end : (e : Effect) → Passed b k t e → ((is_open : Bool) → e ≡ Ends is_open → Serv (effect t e k)) → Kept b (clock (dispatch (effect t e k)))
      kept_end e c ended = finish b (effect t e k) (effect_sound e c) (effect_serv t e k ended sv) (effect_within t e k run w)

      kept_after : (e : Effect) → Passed b k t e → Kept b (after t e k)
      kept_after Quiet c = kept_end Quiet c (λ is_open e. absurd (cc))
      kept_after (Says label value) c = kept_end (Says label value) c (λ is_open e. absurd (cc))
      kept_after (Delays until) c = kept_end (Delays until) c (λ is_open e. absurd (cc))
      kept_after (Opens o) c = kept_end (Opens o) c (λ is_open e. absurd (cc))
      kept_after (Views o) c = kept_end (Views o) c (λ is_open e. absurd (cc))
      kept_after (Queues o) c = kept_end (Queues o) c (λ is_open e. absurd (cc))
      kept_after (Ends is_open) c = kept_end (Ends is_open) c (λ other e. ended_serv is_open c sv)
      kept_after Finishes c = kept_end Finishes c (λ is_open e. absurd (cc))
      kept_after (Dies x) c = record {
        sound = effect_sound (Dies x) c;
        settled = record { first = st.first; nobody = st.nobody };
        served = sv;
        within = w;
        over = λ none. absurd (cc);
      }
      kept_after Breaks c = record {
        sound = effect_sound Breaks c;
        settled = record { first = st.first; nobody = st.nobody };
        served = sv;
        within = w;
        over = λ none. absurd (cc);
      }

pub kept_by_every : (before later : ℕ → Bool) (k : Kernel) (t : ℕ) (e : Effect) → k.running ≡ Some t → IsBarrierHeld before later k t
    → Passed later k t e → Kept before k → Kept later (after t e k)
kept_by_every before later k t e run h c kept =
    kept_after later k t run (held before later k [] t h kept.sound) kept.within kept.settled kept.served e c
