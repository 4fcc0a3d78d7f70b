-- After the end of a body: a handler whose own action has closed is gone, and the next one begins; whoever runs as a handler is within its own action.
use Rattle.std.proofs.Common.{◌≡◌, ◌≢◌, ℕ, ◌<◌, ◌≤◌, List, [], ◌∷◌, Option, Some, None, Bool, true, false, refl, sym, ap, ◌∙◌, subst, ⊎_elim, arith, not, ◌&&◌}
use Rattle.std.specs.Prelude.{int_lt}
use Rattle.std.proofs.lemmas.Bool.{and_parts, le-ltb, cases_lt}
use Rattle.kernel.specs.State.{Partition, Kernel, IsFinished, Action, Reads, Writes, Serves, is_task, put}
use Rattle.kernel.specs.Dispatching.{leaves, becomes_ready}
use Rattle.kernel.specs.Clock.{falls_asleep, released}
use Rattle.kernel.specs.Effects.{Effect, Quiet, Says, Delays, Opens, Views, Queues, Ends, Finishes, Dies, Breaks, Ending, Closes, TakesOver, HandsBack, is_inside_any, service, ending_of, outer_of, with_actions, takes_over, closes_last, is_last, is_over, ends, goes_if, effect}
use Rattle.kernel.specs.Invariant.{IsInOwn, HandlesWithin, Sound}
use Rattle.kernel.specs.PutLaws.{same_or_not, put_same, by_put}
use Rattle.kernel.proofs.Lists.{idle, either}
use Rattle.kernel.proofs.Passed.{low_if, outside}
use Rattle.kernel.proofs.Moves.{leaves_sound}
use Rattle.kernel.proofs.Served.{Serv, moved}
use Rattle.kernel.proofs.Interrupts.{StandUnder, delivers_sound, delivers_serv, delivers_within}

-- who runs outside of actions is a task
pub outside_task : (k : Kernel) (t : ℕ) → k.running ≡ Some t → is_inside_any k t ≡ false → HandlesWithin k → t < k.partition.tasks
outside_task k t run e w =
    ⊎_elim (λ lt. lt) (λ le. let none : IsInOwn [] = subst IsInOwn (outside k t e) (w t le run) in absurd none) (cases_lt t k.partition.tasks)

service_running : (t : ℕ) (is_open : Bool) (o : ℕ) (q : Option ℕ) (outer : List Action) (k : Kernel)
    → (ends t (service is_open o q) outer k).running ≡ k.running
service_running t false o q outer k = refl
service_running t true o None outer k = refl
service_running t true o (Some u) outer k = refl

pub ends_running : (t : ℕ) (is_open : Bool) (l : List Action) (k : Kernel) → k.running ≡ Some t
    → (ends t (ending_of is_open l k.queued) (outer_of l) k).running ≡ Some t
ends_running t is_open [] k e = e
ends_running t is_open (Reads o ∷ outer) k e = e
ends_running t is_open (Writes o ∷ outer) k e = service_running t is_open o (k.queued o) outer k ∙ e
ends_running t is_open (Serves o u ∷ outer) k e = e

module _ (b : ℕ → Bool) (l : Kernel) (t : ℕ) (run : l.running ≡ Some t) (s : Sound b l []) where
  -- whoever else is within an action stands under the handler
  under : l.partition.tasks ≤ t → l.actions t ≡ [] → StandUnder (leaves t l)
  under le none u busy =
      ⊎_elim
      (λ e. absurd (idle (l.actions u) (ap l.actions e ∙ none) busy))
      (λ ne. let lt = s.below t u run ne busy in let top = s.urgent t le in omega arith)
      (same_or_not u t)

  goes_sound : (c : Bool) → (c ≡ true → (l.partition.tasks ≤ t) × (l.actions t ≡ [])) → Sound b (goes_if c t l) []
  goes_sound false over = s
  goes_sound true over =
      let o = over refl in
      delivers_sound b (leaves t l) [] refl (leaves_sound b l [] t run o.1 s) l.pending s.attached (under o.0 o.1)

  goes_serv : (c : Bool) → (c ≡ true → (l.partition.tasks ≤ t) × (l.actions t ≡ [])) → Serv l → Serv (goes_if c t l)
  goes_serv false over sv = sv
  goes_serv true over sv =
      let o = over refl in
      delivers_serv b (leaves t l) [] refl (leaves_sound b l [] t run o.1 s) l.pending s.attached (moved t IsFinished l.place l.actions (λ p e. cc) sv)

-- where a handler is over, no action is open
over_actions : (t : ℕ) (e : Ending) (l : List Action) (k : Kernel) → is_last l e ≡ true → (ends t e (outer_of l) k).actions t ≡ []
over_actions t e [] k over = absurd (cc)
over_actions t e (Reads o ∷ outer) k over = absurd (cc)
over_actions t Closes (Writes o ∷ []) k over = put_same t t [] k.actions refl
over_actions t (TakesOver p u) (Writes o ∷ []) k over = absurd (cc)
over_actions t (HandsBack u) (Writes o ∷ []) k over = put_same t t [] k.actions refl
over_actions t e (Writes o ∷ a ∷ outer) k over = absurd (cc)
over_actions t Closes (Serves o v ∷ []) k over = put_same t t [] k.actions refl
over_actions t (TakesOver p u) (Serves o v ∷ []) k over = absurd (cc)
over_actions t (HandsBack u) (Serves o v ∷ []) k over = put_same t t [] k.actions refl
over_actions t e (Serves o v ∷ a ∷ outer) k over = absurd (cc)

pub ends_partition : (t : ℕ) (e : Ending) (outer : List Action) (k : Kernel) → (ends t e outer k).partition ≡ k.partition
ends_partition t Closes outer k = refl
ends_partition t (TakesOver o u) outer k = refl
ends_partition t (HandsBack u) outer k = refl

beyond_tasks : (p : Partition) (t : ℕ) → not (is_task p t) ≡ true → p.tasks ≤ t
beyond_tasks p t e = low_if p.tasks t (by (is_task p t) refl)
  where
    by : (c : Bool) → is_task p t ≡ c → is_task p t ≡ false
    by false i = i
    by true i = absurd (cc)

pub over_facts : (t : ℕ) (e : Ending) (l : List Action) (k : Kernel) → is_over k.partition t l e ≡ true
    → (let m = ends t e (outer_of l) k in (m.partition.tasks ≤ t) × (m.actions t ≡ []))
over_facts t e l k over =
    let both = and_parts (is_last l e) (not (is_task k.partition t)) over in
    (subst (λ p. p.tasks ≤ t) (sym (ends_partition t e (outer_of l) k)) (beyond_tasks k.partition t both.1), over_actions t e l k both.0)

module _ (b : ℕ → Bool) (k : Kernel) (t : ℕ) (e : Ending) (l : List Action) (run : (ends t e (outer_of l) k).running ≡ Some t)
    (s : Sound b (ends t e (outer_of l) k) []) where
  pub departs_sound : Sound b (goes_if (is_over k.partition t l e) t (ends t e (outer_of l) k)) []
  departs_sound = goes_sound b (ends t e (outer_of l) k) t run s (is_over k.partition t l e) (over_facts t e l k)

  pub departs_serv : Serv (ends t e (outer_of l) k) → Serv (goes_if (is_over k.partition t l e) t (ends t e (outer_of l) k))
  departs_serv sv = goes_serv b (ends t e (outer_of l) k) t run s (is_over k.partition t l e) (over_facts t e l k) sv

-- within its own action

-- where it is not over
goes_within : (t : ℕ) (c : Bool) (l : Kernel) → l.running ≡ Some t → (c ≡ false → l.partition.tasks ≤ t → IsInOwn (l.actions t))
    → HandlesWithin (goes_if c t l)
goes_within t true l run own = delivers_within l.pending (leaves t l) refl
goes_within t false l run own = λ u le r.
    let same : t ≡ u = cc in
    let beyond : l.partition.tasks ≤ t = omega arith in
    subst (λ x. IsInOwn (l.actions x)) same (own refl beyond)

not_over : (p : Partition) (t : ℕ) (l : List Action) (e : Ending) → is_over p t l e ≡ false → p.tasks ≤ t → is_last l e ≡ false
not_over p t l e on le = by (is_last l e) refl
  where
    by : (c : Bool) → is_last l e ≡ c → is_last l e ≡ false
    by false i = i
    by true i =
        let beyond : is_task p t ≡ false = le-ltb t p.tasks le in
        let yes : is_over p t l e ≡ true = ap (λ c. c && not (is_task p t)) i ∙ ap not beyond in
        absurd (cc)

outer_own : (a : Action) (outer : List Action) → IsInOwn (a ∷ outer) → (outer ≢ []) → IsInOwn outer
outer_own a [] own some = absurd (some refl)
outer_own a (c ∷ outer) own some = own

view_own : (o : ℕ) (outer : List Action) → IsInOwn (Reads o ∷ outer) → IsInOwn outer
view_own o [] own = absurd own
view_own o (c ∷ outer) own = own

serving_own : (o u : ℕ) (outer : List Action) → IsInOwn (Writes o ∷ outer) → IsInOwn (Serves o u ∷ outer)
serving_own o u [] own = tt
serving_own o u (c ∷ outer) own = own

more_own : (a : Action) (l : List Action) → IsInOwn l → IsInOwn (a ∷ l)
more_own a [] own = absurd own
more_own a (c ∷ l) own = own

module _ (t : ℕ) (k : Kernel) (run : k.running ≡ Some t) (w : HandlesWithin k) where
  -- what is within an action still, where it was within its own
  left_own : (a : Action) (outer : List Action) → k.actions t ≡ a ∷ outer → (outer ≢ []) → k.partition.tasks ≤ t → IsInOwn (put t outer k.actions t)
  left_own a outer e some le = subst IsInOwn (sym (put_same t t outer k.actions refl)) (outer_own a outer (subst IsInOwn e (w t le run)) some)

  closes_within : (o : ℕ) (outer : List Action) → k.actions t ≡ Writes o ∷ outer
      → HandlesWithin (goes_if (is_over k.partition t (Writes o ∷ outer) Closes) t (with_actions t outer k))
  closes_within o outer e =
      goes_within t (is_over k.partition t (Writes o ∷ outer) Closes) (with_actions t outer k) run
      (λ on le.
      let last = not_over k.partition t (Writes o ∷ outer) Closes on le in
      left_own (Writes o) outer e (λ none. let yes : closes_last outer Closes ≡ true = ap (λ x. closes_last x Closes) none in absurd (cc)) le)

  service_within : (is_open : Bool) (o : ℕ) (q : Option ℕ) (outer : List Action) → k.actions t ≡ Writes o ∷ outer
      → HandlesWithin (goes_if (is_over k.partition t (Writes o ∷ outer) (service is_open o q)) t (ends t (service is_open o q) outer k))
  service_within false o q outer e = closes_within o outer e
  service_within true o None outer e = closes_within o outer e
  service_within true o (Some u) outer e =
      goes_within t (is_over k.partition t (Writes o ∷ outer) (TakesOver o u)) (takes_over t o u outer k) run
      (λ on le.
      subst IsInOwn (sym (put_same t t (Serves o u ∷ outer) k.actions refl)) (serving_own o u outer (subst IsInOwn e (w t le run))))

  pub ends_within : (is_open : Bool) (l : List Action) → k.actions t ≡ l
      → (let e = ending_of is_open l k.queued in HandlesWithin (goes_if (is_over k.partition t l e) t (ends t e (outer_of l) k)))
  ends_within is_open [] e = λ u le r.
      let same : t ≡ u = cc in
      let none : IsInOwn [] = subst IsInOwn (ap k.actions (sym same) ∙ e) (w u le r) in
      absurd none
  ends_within is_open (Reads o ∷ outer) e = λ u le r.
      let same : u ≡ t = cc in
      by_put IsInOwn t u outer k.actions
      (λ i. view_own o outer (subst IsInOwn (ap k.actions i ∙ e) (w u le r)))
      (λ ne. absurd (ne same))
  ends_within is_open (Writes o ∷ outer) e = service_within is_open o (k.queued o) outer e
  ends_within is_open (Serves o u ∷ outer) e =
      goes_within t (is_over k.partition t (Serves o u ∷ outer) (HandsBack u)) (becomes_ready u (released u (with_actions t outer k))) run
      (λ on le.
      let last = not_over k.partition t (Serves o u ∷ outer) (HandsBack u) on le in
      left_own (Serves o u) outer e
      (λ none. let yes : closes_last outer (HandsBack u) ≡ true = ap (λ x. closes_last x (HandsBack u)) none in absurd (cc)) le)

  opens_within : (a : Action) → HandlesWithin (with_actions t (a ∷ k.actions t) k)
  opens_within a = λ u le r.
      by_put IsInOwn t u (a ∷ k.actions t) k.actions
      (λ e. more_own a (k.actions t) (subst (λ x. IsInOwn (k.actions x)) e (w u le r)))
      (λ ne. w u le r)

pub effect_within : (t : ℕ) (e : Effect) (k : Kernel) → k.running ≡ Some t → HandlesWithin k → HandlesWithin (effect t e k)
effect_within t Quiet k run w = w
effect_within t (Says label value) k run w = w
effect_within t (Delays until) k run w =
    either HandlesWithin (int_lt k.now until) (falls_asleep t until (leaves t k)) (becomes_ready t (leaves t k))
    (λ u le r. absurd (cc))
    (λ u le r. absurd (cc))
effect_within t (Opens o) k run w = opens_within t k run w (Writes o)
effect_within t (Views o) k run w = opens_within t k run w (Reads o)
effect_within t (Queues o) k run w = λ u le r. absurd (cc)
effect_within t (Ends is_open) k run w = ends_within t k run w is_open (k.actions t) refl
effect_within t Finishes k run w = λ u le r. absurd (cc)
effect_within t (Dies x) k run w = w
effect_within t Breaks k run w = w
