-- Every step of a world keeps the frames of its tasks and handlers and the kernel linked.
use Rattle.std.proofs.Common.{◌≡◌, ◌≢◌, ◌⊎◌, inl, inr, ℕ, ◌+◌, ◌≤◌, List, [], ◌∷◌, Bool, true, false, cond, Option, Some, None, refl, sym, ap, ◌∙◌, subst, ⊎_elim}
use Rattle.std.proofs.lemmas.Bool.{true≢false, cases_lt, le-ltb, lt-ltb}
use Rattle.std.proofs.lemmas.Option.{none-some}
use Rattle.base.specs.declared.limits.TheConstants.{FRAMES}
use Rattle.base.specs.declared.schedule.ScheduleLine.{ScheduleLine}
use Rattle.kernel.specs.State.{Kernel, IsRunning, IsQueued, IsServed, IsFinished, Action, Writes, Serves, is_task, put}
use Rattle.kernel.specs.Effects.{Queues, Ending, Closes, TakesOver, HandsBack, done, outer_of}
use Rattle.kernel.specs.Invariant.{HasAction, IsInOwn, Kept, Once, ServesCall}
use Rattle.kernel.specs.Laws.{EntryOpens, FourHold, ReachesCallers}
use Rattle.kernel.specs.PutLaws.{by_put, put_other, put_same, same_or_not}
use Rattle.kernel.specs.Worlds.{Tasks, among, ending, is_handler_over, reached}
use Rattle.kernel.proofs.Left.{handler_within, over_gone, takes_goes_on}
use Rattle.image.specs.Sections.{Sections}
use Rattle.image.specs.Rules.{IsWellFormed}
use Rattle.image.specs.Frames.{Words, Frame, TaskState, frames_counted}
use Rattle.image.specs.Steps.{Given, Stepped, act, behaviour, is_open, receives, serving, taken}
use Rattle.image.specs.Code.{initial_state, partition_of}
use Rattle.image_laws.specs.Shape.{AreBelow, IsImageTask, IsSound, IsSoundAfter, MayRun, is_own}
use Rattle.image_laws.specs.Linked.{Fitting, FitsEntry, IsAwaiting, IsCalling, IsGone, IsLinked, MayWrite, OwesFor, actions_of, frames_of, next_actions}
use Rattle.image_laws.proofs.Shapes.{going_running, start_sound, steps_sound}
use Rattle.image_laws.proofs.StepLinks.{Links, act_links}
use Rattle.image_laws.proofs.Links.{at_open, back_from, closes_actions, closes_queued, has_more, keeps_serving, over_from, queued_from, queued_same, queued_served_not, receives_actions, receives_may, receives_sound, running_served_not, running_waits_not, served_same, serves_at, serves_no_more, serving_actions, serving_may, serving_sound, taken_awaits}
use Rattle.image_laws.proofs.Starts.{start_may}

-- a frame above none that may be in an action is not the last one of a handler
within_runs : (i : Sections) (own : Bool) (s : TaskState) → AreBelow i own s.frame.role s.frame.subprogram s.callers → (actions_of i (frames_of s) ≡ [] → ⊥) → MayRun own s.callers
within_runs i own s below some = by own s.callers refl below
  where
    by : (own : Bool) (fs : List Frame) → s.callers ≡ fs → AreBelow i own s.frame.role s.frame.subprogram fs → MayRun own fs
    by true fs is below = tt
    by false (c ∷ cs) is below = tt
    by false [] is below = absurd (some (ap (λ l. actions_of i (s.frame ∷ l)) is ∙ ap (λ r. actions_of i (record s.frame { role = r } ∷ [])) below))

own_some : (l : List Action) → IsInOwn l → l ≡ [] → ⊥
own_some [] own e = own
own_some (a ∷ outer) own e = let none : IsInOwn [] = subst IsInOwn e own in none

module _ (i : Sections) (w : IsWellFormed i) (free : EntryOpens) (reaches : ReachesCallers) (four : FourHold) (schedule : List ScheduleLine) (barrier : ℕ → Bool) (k : Kernel) (t : ℕ) (d : Tasks Words TaskState) (kept : Kept barrier k) (running : k.running ≡ Some t) (image : IsImageTask i t) (partition : k.partition ≡ partition_of i) (linked : IsLinked i k.actions k.queued d.tasks) where
  running_is : k.place t ≡ IsRunning
  running_is = kept.sound.runs t running

  served_is : (v o u : ℕ) → HasAction (ServesCall o u) (k.actions v) → k.place u ≡ IsServed o
  served_is v o u h = (kept.sound.serving v o u h).0

  queued_is : (o u : ℕ) → k.queued o ≡ Some u → k.place u ≡ IsQueued o
  queued_is o u h = kept.sound.queue o u h

  served_other : (v o u : ℕ) → HasAction (ServesCall o u) (k.actions v) → u ≢ t
  served_other v o u h e = running_served_not (k.place t) o running_is (subst (λ x. k.place x ≡ IsServed o) e (served_is v o u h))

  queued_other : (o u : ℕ) → k.queued o ≡ Some u → u ≢ t
  queued_other o u h e = running_waits_not (k.place t) o running_is (subst (λ x. k.place x ≡ IsQueued o) e (queued_is o u h))

  -- tasks and handlers

  same_own : (u : ℕ) → is_task k.partition u ≡ is_own i u
  same_own u = ap (λ p. is_task p u) partition

  beyond : (u : ℕ) → is_own i u ≡ false → k.partition.tasks ≤ u
  beyond u e =
      ⊎_elim
      (λ lt. absurd (true≢false (sym (lt-ltb u k.partition.tasks lt) ∙ (same_own u ∙ e))))
      (λ le. le)
      (cases_lt u k.partition.tasks)

  beyond_not : (u : ℕ) → k.partition.tasks ≤ u → is_own i u ≡ false
  beyond_not u le = sym (same_own u) ∙ le-ltb u k.partition.tasks le

  -- who waits is a task
  queued_task : (o u : ℕ) → k.place u ≡ IsQueued o → is_own i u ≡ false → ⊥
  queued_task o u at e =
      ⊎_elim
      (λ f. let no : IsQueued o ≡ IsFinished = sym at ∙ f in absurd (cc))
      (λ r. running_waits_not (k.place u) o (kept.sound.runs u r) at)
      (kept.sound.gone u (beyond u e))

  served_task : (o u : ℕ) → k.place u ≡ IsServed o → is_own i u ≡ false → ⊥
  served_task o u at e =
      ⊎_elim
      (λ f. let no : IsServed o ≡ IsFinished = sym at ∙ f in absurd (cc))
      (λ r. running_served_not (k.place u) o (kept.sound.runs u r) at)
      (kept.sound.gone u (beyond u e))

  -- the running handler has begun
  begun : IsGone i k.actions t → ⊥
  begun g = own_some (k.actions t) (kept.within t (beyond t g.0) running) g.1

  pub own_sound : IsSound i (is_own i t) (d.tasks t)
  own_sound = linked.sound t image (λ h. served_other h.0 h.1 t h.2 refl)

  abbrev r : Stepped
  r = act i schedule k t (record { memory = d.memory; task = d.tasks t })

  here_sound : IsSound i (is_task k.partition t) (d.tasks t)
  here_sound = subst (λ b. IsSound i b (d.tasks t)) (sym (same_own t)) own_sound

  pub own_links : Links i k t d.memory r
  own_links = act_links i w free schedule k t d.memory (d.tasks t).frame (d.tasks t).callers (d.tasks t).raising here_sound (linked.by_frames t begun) (linked.may t image)

  stepped_sound : IsSoundAfter i (is_task k.partition t) r.effect r.solo.task
  stepped_sound = steps_sound i w schedule k t (record { memory = d.memory; task = d.tasks t }) here_sound

  -- what it owes, as of a task or a handler of the image
  pub own_owes : OwesFor i (is_own i t) (k.actions t) r.effect r.given r.solo.task
  own_owes = subst (λ b. OwesFor i b (k.actions t) r.effect r.given r.solo.task) (same_own t) own_links.owes

  -- where a handler is over it holds what its next start needs

  abbrev over : Bool
  over = is_handler_over k t r.effect

  abbrev mine : TaskState
  mine = cond over (initial_state i t) r.solo.task

  mine_on : over ≡ false → mine ≡ r.solo.task
  mine_on e = ap (λ b. cond b (initial_state i t) r.solo.task) e

  mine_over : over ≡ true → mine ≡ initial_state i t
  mine_over e = ap (λ b. cond b (initial_state i t) r.solo.task) e

  abbrev later : Kernel
  later = done t r.effect k

  -- one that is not over has an action open
  goes_on : is_own i t ≡ false → over ≡ false → later.actions t ≡ [] → ⊥
  goes_on e on none =
      own_some (later.actions t) (handler_within (is_open i r.solo.memory) k t running kept.within (beyond t e) r.effect own_links.passed on) none

  -- the step's own state, by whether the handler is over
  by_over : (P : Type 0) → (over ≡ true → P) → (over ≡ false → P) → P
  by_over P ended going = by over refl
    where
      by : (b : Bool) → over ≡ b → P
      by true e = ended e
      by false e = going e

  module _ (next : later.actions t ≡ next_actions r.effect (k.actions t)) where
    mine_frames : (IsGone i later.actions t → ⊥) → later.actions t ≡ actions_of i (frames_of mine)
    mine_frames there =
        by_over (later.actions t ≡ actions_of i (frames_of mine))
        (λ e. let g = over_gone t r.effect k e in absurd (there (beyond_not t g.0, g.1)))
        (λ e. next ∙ (sym own_links.actions ∙ ap (λ s. actions_of i (frames_of s)) (sym (mine_on e))))

    mine_gone : IsGone i later.actions t → mine ≡ initial_state i t
    mine_gone g = by_over (mine ≡ initial_state i t) mine_over (λ e. absurd (goes_on g.0 e g.1))

    mine_may : MayWrite i (frames_of mine)
    mine_may =
        by_over (MayWrite i (frames_of mine))
        (λ e. subst (λ s. MayWrite i (frames_of s)) (sym (mine_over e)) (start_may i w t image))
        (λ e. subst (λ s. MayWrite i (frames_of s)) (sym (mine_on e)) own_links.may)

    runs_on : (b : Bool) → is_task k.partition t ≡ b → over ≡ false → MayRun b r.solo.task.callers
    runs_on true is e = tt
    runs_on false is e =
        let x : IsSoundAfter i false r.effect r.solo.task = subst (λ b. IsSoundAfter i b r.effect r.solo.task) is stepped_sound in
        within_runs i false r.solo.task x.below (λ none. goes_on (sym (same_own t) ∙ is) e (next ∙ (sym own_links.actions ∙ none)))

    mine_sound : IsSound i (is_own i t) mine
    mine_sound =
        by_over (IsSound i (is_own i t) mine)
        (λ e. subst (IsSound i (is_own i t)) (sym (mine_over e)) (start_sound i w t image))
        (λ e.
        let x = stepped_sound in
        let may = runs_on (is_task k.partition t) refl e in
        subst (IsSound i (is_own i t)) (sym (mine_on e))
        (subst (λ b. IsSound i b r.solo.task) (same_own t)
        (record { few = x.few; running = going_running i w (is_task k.partition t) r.solo.task.raising r.solo.task.frame r.solo.task.callers may x.running; below = x.below; may = may })))

  abbrev stepped : ℕ → TaskState
  stepped = put t mine d.tasks

  -- the other tasks stay as they were
  stepped_other : (u : ℕ) → u ≢ t → stepped u ≡ d.tasks u
  stepped_other u ne = put_other t u mine d.tasks ne

  stepped_own : (u : ℕ) → u ≡ t → stepped u ≡ mine
  stepped_own u e = put_same t u mine d.tasks e

  -- who queues is not over
  queues_mine : (o : ℕ) → r.effect ≡ Queues o → IsCalling i (is_own i t) o mine
  queues_mine o q =
      let on : over ≡ false = ap (is_handler_over k t) q in
      subst (IsCalling i (is_own i t) o) (sym (mine_on on)) (subst (λ e. OwesFor i (is_own i t) (k.actions t) e r.given r.solo.task) q own_owes)

  -- who was gone before is gone after the step of another one
  gone_before : (u : ℕ) → later.actions u ≡ k.actions u → (IsGone i later.actions u → ⊥) → IsGone i k.actions u → ⊥
  gone_before u same there g = there (g.0, same ∙ g.1)

  closes_linked : ending k t r.effect ≡ Closes → IsLinked i later.actions later.queued stepped
  closes_linked is =
      let actions = closes_actions k t r.effect is in
      let next = next_actions r.effect (k.actions t) in
      let own = λ (u : ℕ) (e : u ≡ t). actions u ∙ put_same t u next k.actions e in
      let other = λ (u : ℕ) (ne : u ≢ t). actions u ∙ put_other t u next k.actions ne in
      record {
        by_frames = λ u there.
            ⊎_elim
            (λ e.
            subst (λ x. later.actions x ≡ actions_of i (frames_of (stepped x))) (sym e)
            (mine_frames (own t refl) (λ g. there (subst (IsGone i later.actions) (sym e) g)) ∙ ap (λ s. actions_of i (frames_of s)) (sym (stepped_own t refl))))
            (λ ne. other u ne ∙ (linked.by_frames u (gone_before u (other u ne) there) ∙ ap (λ s. actions_of i (frames_of s)) (sym (stepped_other u ne))))
            (same_or_not u t);
        gone = λ u g.
            ⊎_elim
            (λ e. subst (λ x. stepped x ≡ initial_state i x) (sym e) (stepped_own t refl ∙ mine_gone (own t refl) (subst (IsGone i later.actions) e g)))
            (λ ne. stepped_other u ne ∙ linked.gone u (g.0, sym (other u ne) ∙ g.1))
            (same_or_not u t);
        may = λ u here. by_put (λ s. MayWrite i (frames_of s)) t u mine d.tasks (λ e. mine_may (own t refl)) (λ ne. linked.may u here);
        sound = λ u here free_of.
            ⊎_elim
            (λ e. subst (λ x. IsSound i (is_own i x) (stepped x)) (sym e) (subst (IsSound i (is_own i t)) (sym (stepped_own t refl)) (mine_sound (own t refl))))
            (λ ne. subst (IsSound i (is_own i u)) (sym (stepped_other u ne)) (linked.sound u here (λ h. free_of (
              h.0,
              h.1,
              ⊎_elim
                  (λ e. subst (HasAction (ServesCall h.1 u)) (sym (own h.0 e)) (keeps_serving k t r.effect is h.1 u (subst (λ v. HasAction (ServesCall h.1 u) (k.actions v)) e h.2)))
                  (λ ne. subst (HasAction (ServesCall h.1 u)) (sym (other h.0 ne)) h.2)
                  (same_or_not h.0 t),
            ))))
            (same_or_not u t);
        calling = λ o u h.
            ⊎_elim
            (λ q. subst (IsCalling i (is_own i u) o) (sym (stepped_other u (queued_other o u q))) (linked.calling o u q))
            (λ q. subst (λ x. IsCalling i (is_own i x) o (stepped x)) (sym q.0) (subst (IsCalling i (is_own i t) o) (sym (stepped_own t refl)) (queues_mine o q.1)))
            (queued_from t r.effect k.queued o u (sym (ap (λ f. f o) (closes_queued k t r.effect is)) ∙ h));
        awaiting = λ v o u h.
            let before : (x : ℕ) × HasAction (ServesCall o u) (k.actions x) =
            ⊎_elim
            (λ e. (t, serves_no_more k t r.effect o u (subst (HasAction (ServesCall o u)) (own v e) h)))
            (λ ne. (v, subst (HasAction (ServesCall o u)) (other v ne) h))
            (same_or_not v t) in
            subst (IsAwaiting i (is_own i u) o) (sym (stepped_other u (served_other before.0 o u before.1))) (linked.awaiting before.0 o u before.1);
      }

  outer_has : (v o u : ℕ) (a : Action) (P : Action → Type 0) → (k.actions t ≡ a ∷ outer_of (k.actions t)) → HasAction P (k.actions t) → P a ⊎ HasAction P (outer_of (k.actions t))
  outer_has v o u a P is h = subst (HasAction P) is h

  over_linked : (o u : ℕ) → ending k t r.effect ≡ TakesOver o u → IsLinked i later.actions later.queued (reached (behaviour i schedule) t (TakesOver o u) r.given stepped)
  over_linked o u is =
      let x = over_from i k t r.effect o u is in
      let met = (reaches barrier k t r.effect running kept).queued o u is in
      let outer = outer_of (k.actions t) in
      let actions = λ (v : ℕ). ap (λ f. f v) x.actions in
      let own = λ (v : ℕ) (e : v ≡ t). actions v ∙ put_same t v (Serves o u ∷ outer) k.actions e in
      let other = λ (v : ℕ) (ne : v ≢ t). actions v ∙ put_other t v (Serves o u ∷ outer) k.actions ne in
      let queue = λ (p : ℕ). ap (λ f. f p) x.queued in
      let u_is : stepped u ≡ d.tasks u = stepped_other u met.2 in
      let t_is : stepped t ≡ r.solo.task = stepped_own t refl ∙ mine_on (takes_goes_on t r.effect k o u is) in
      let calling : IsCalling i (is_own i u) o (stepped u) = subst (IsCalling i (is_own i u) o) (sym u_is) (linked.calling o u met.0) in
      let server = serving i o u (stepped u) (stepped t) in
      let client = taken i o (stepped u) in
      let room : frames_counted (is_own i t) r.solo.task.callers + 1 ≤ FRAMES = subst (λ b. frames_counted b r.solo.task.callers + 1 ≤ FRAMES) (same_own t) (x.owed r.given r.solo.task own_links.owes).0 in
      let after : IsSoundAfter i (is_own i t) r.effect r.solo.task = subst (λ b. IsSoundAfter i b r.effect r.solo.task) (same_own t) stepped_sound in
      let outer_is : actions_of i (frames_of (stepped t)) ≡ outer = ap (λ s. actions_of i (frames_of s)) t_is ∙ (own_links.actions ∙ x.next) in
      let tasks = put u client (put t server stepped) in
      let still = λ (v : ℕ) (nu : v ≢ u) (nt : v ≢ t). put_other u v client (put t server stepped) nu ∙ (put_other t v server stepped nt ∙ stepped_other v nt) in
      let at_u : tasks u ≡ client = put_same u u client (put t server stepped) refl in
      let at_t = λ (v : ℕ) (nu : v ≢ u) (e : v ≡ t). put_other u v client (put t server stepped) nu ∙ put_same t v server stepped e in
      let in_server : IsSound i (is_own i t) server =
      subst (λ s. IsSound i (is_own i t) (serving i o u (stepped u) s)) (sym t_is)
      (serving_sound i w (is_own i t) (is_own i u) o u (stepped u) r.solo.task calling after.below after.running room) in
      record {
        by_frames = λ v there.
            ⊎_elim
            (λ e.
            other v (λ f. met.2 (sym e ∙ f))
            ∙ (linked.by_frames v (λ g. queued_task o u met.1 (subst (λ y. is_own i y ≡ false) e g.0))
            ∙ (ap (λ s. actions_of i (frames_of s)) (ap d.tasks e ∙ sym u_is) ∙ ap (λ s. actions_of i (frames_of s)) (sym (put_same u v client (put t server stepped) e)))))
            (λ nu.
            ⊎_elim
            (λ e.
            own v e
            ∙ (ap (λ l. Serves o u ∷ l) (sym outer_is)
            ∙ (sym (serving_actions i w (is_own i u) o u (stepped u) (stepped t) calling)
            ∙ ap (λ s. actions_of i (frames_of s)) (sym (at_t v nu e)))))
            (λ nt. other v nt ∙ (linked.by_frames v (gone_before v (other v nt) there) ∙ ap (λ s. actions_of i (frames_of s)) (sym (still v nu nt))))
            (same_or_not v t))
            (same_or_not v u);
        gone = λ v g.
            ⊎_elim
            (λ e. absurd (queued_task o u met.1 (subst (λ y. is_own i y ≡ false) e g.0)))
            (λ nu.
            ⊎_elim
            (λ e. let no : Serves o u ∷ outer ≡ [] = sym (own v e) ∙ g.1 in absurd (cc))
            (λ nt. still v nu nt ∙ linked.gone v (g.0, sym (other v nt) ∙ g.1))
            (same_or_not v t))
            (same_or_not v u);
        may = λ v here.
            by_put (λ s. MayWrite i (frames_of s)) u v client (put t server stepped)
            (λ e. subst (λ s. MayWrite i (frames_of s)) (sym u_is) (linked.may u (subst (IsImageTask i) e here)))
            (λ nu.
            by_put (λ s. MayWrite i (frames_of s)) t v server stepped
            (λ e. serving_may i w (is_own i u) o u (stepped u) (stepped t) calling (subst (λ s. MayWrite i (frames_of s)) (sym t_is) own_links.may))
            (λ nt. subst (λ s. MayWrite i (frames_of s)) (sym (stepped_other v nt)) (linked.may v here)));
        sound = λ v here free_of.
            ⊎_elim
            (λ e. absurd (free_of (t, o, subst (HasAction (ServesCall o v)) (sym (own t refl)) (inl (refl, sym e)))))
            (λ nu.
            ⊎_elim
            (λ e. subst (λ y. IsSound i (is_own i y) (tasks v)) (sym e) (subst (IsSound i (is_own i t)) (sym (at_t v nu e)) in_server))
            (λ nt. subst (IsSound i (is_own i v)) (sym (still v nu nt)) (linked.sound v here (λ h. free_of (
              h.0,
              h.1,
              ⊎_elim
                  (λ e.
                  subst (HasAction (ServesCall h.1 v)) (sym (own h.0 e))
                  (inr (⊎_elim (λ f. absurd f) (λ g. g) (outer_has v h.1 v (Writes o) (ServesCall h.1 v) x.writes (subst (λ y. HasAction (ServesCall h.1 v) (k.actions y)) e h.2)))))
                  (λ ne. subst (HasAction (ServesCall h.1 v)) (sym (other h.0 ne)) h.2)
                  (same_or_not h.0 t),
            ))))
            (same_or_not v t))
            (same_or_not v u);
        calling = λ p v h.
            ⊎_elim
            (λ e. absurd (none-some v (sym (put_same o p None k.queued e) ∙ (sym (queue p) ∙ h))))
            (λ ne.
            let before : k.queued p ≡ Some v = sym (put_other o p None k.queued ne) ∙ (sym (queue p) ∙ h) in
            let nu : v ≢ u = λ e. ne (queued_same (k.place v) p o (queued_is p v before) (subst (λ y. k.place y ≡ IsQueued o) (sym e) met.1)) in
            subst (IsCalling i (is_own i v) p) (sym (still v nu (queued_other p v before))) (linked.calling p v before))
            (same_or_not p o);
        awaiting = λ x' p v h.
            ⊎_elim
            (λ e.
            ⊎_elim
            (λ new.
            subst (λ y. IsAwaiting i (is_own i y) p (tasks y)) new.1
            (subst (λ q. IsAwaiting i (is_own i u) q (tasks u)) new.0 (subst (IsAwaiting i (is_own i u) o) (sym at_u) (taken_awaits i w (is_own i u) o (stepped u) calling))))
            (λ old.
            let h' = has_more (ServesCall p v) (k.actions t) old in
            let nu : v ≢ u = λ e. queued_served_not (k.place u) o p met.1 (subst (λ y. k.place y ≡ IsServed p) e (served_is t p v h')) in
            subst (IsAwaiting i (is_own i v) p) (sym (still v nu (served_other t p v h'))) (linked.awaiting t p v h'))
            (subst (HasAction (ServesCall p v)) (own x' e) h))
            (λ ne.
            let h' = subst (HasAction (ServesCall p v)) (other x' ne) h in
            let nu : v ≢ u = λ e. queued_served_not (k.place u) o p met.1 (subst (λ y. k.place y ≡ IsServed p) e (served_is x' p v h')) in
            subst (IsAwaiting i (is_own i v) p) (sym (still v nu (served_other x' p v h'))) (linked.awaiting x' p v h'))
            (same_or_not x' t);
      }

  back_linked : (u : ℕ) → ending k t r.effect ≡ HandsBack u → (given : Option Given) → r.given ≡ given → IsLinked i later.actions later.queued (reached (behaviour i schedule) t (HandsBack u) given stepped)
  back_linked u is None none =
      let x = back_from i k t r.effect u is in
      absurd (subst (λ g. Fitting i (Serves x.o u ∷ outer_of (k.actions t)) g) none (subst (λ l. Fitting i l r.given) x.serves (x.owed r.given r.solo.task own_links.owes).1))
  back_linked u is (Some g) given =
      let x = back_from i k t r.effect u is in
      let o = x.o in
      let outer = outer_of (k.actions t) in
      let serves : HasAction (ServesCall o u) (k.actions t) = subst (HasAction (ServesCall o u)) (sym x.serves) (inl (refl, refl)) in
      let not_t : u ≢ t = served_other t o u serves in
      let place_u : k.place u ≡ IsServed o = served_is t o u serves in
      let fits : FitsEntry i o g = subst (λ h. Fitting i (Serves o u ∷ outer) h) given (subst (λ l. Fitting i l r.given) x.serves (x.owed r.given r.solo.task own_links.owes).1) in
      let actions = λ (v : ℕ). ap (λ f. f v) x.actions in
      let own = λ (v : ℕ) (e : v ≡ t). actions v ∙ put_same t v outer k.actions e in
      let other = λ (v : ℕ) (ne : v ≢ t). actions v ∙ put_other t v outer k.actions ne in
      let next : later.actions t ≡ next_actions r.effect (k.actions t) = own t refl ∙ sym x.next in
      let queue = λ (p : ℕ). ap (λ f. f p) x.queued in
      let u_is : stepped u ≡ d.tasks u = stepped_other u not_t in
      let awaiting : IsAwaiting i (is_own i u) o (stepped u) = subst (IsAwaiting i (is_own i u) o) (sym u_is) (linked.awaiting t o u serves) in
      let client = receives g (stepped u) in
      let tasks = put u client stepped in
      let still = λ (v : ℕ) (nu : v ≢ u) (nt : v ≢ t). put_other u v client stepped nu ∙ stepped_other v nt in
      let at_t = λ (v : ℕ) (nu : v ≢ u) (e : v ≡ t). put_other u v client stepped nu ∙ stepped_own v e in
      -- nobody else serves the caller
      let alone : (v p : ℕ) → HasAction (ServesCall p u) (put t outer k.actions v) → ⊥ =
      (λ v p h.
      ⊎_elim
      (λ e.
      let h' : HasAction (ServesCall p u) outer = subst (HasAction (ServesCall p u)) (put_same t v outer k.actions e) h in
      let same : p ≡ o = served_same (k.place u) p o (served_is t p u (has_more (ServesCall p u) (k.actions t) h')) place_u in
      (subst Once x.serves (kept.sound.once t)).0 (serves_at o u outer (subst (λ q. HasAction (ServesCall q u) outer) same h')))
      (λ ne.
      let h' : HasAction (ServesCall p u) (k.actions v) = subst (HasAction (ServesCall p u)) (put_other t v outer k.actions ne) h in
      let same : p ≡ o = served_same (k.place u) p o (served_is v p u h') place_u in
      let here = at_open o (k.actions t) (serves_at o u (k.actions t) serves) in
      let there = at_open o (k.actions v) (serves_at o u (k.actions v) (subst (λ q. HasAction (ServesCall q u) (k.actions v)) same h')) in
      ne ((four barrier k kept).one_inside o v t there here))
      (same_or_not v t)) in
      record {
        by_frames = λ v there.
            ⊎_elim
            (λ e.
            other v (λ f. not_t (sym e ∙ f))
            ∙ (linked.by_frames v (λ g. served_task o u place_u (subst (λ y. is_own i y ≡ false) e g.0))
            ∙ (ap (λ s. actions_of i (frames_of s)) (ap d.tasks e ∙ sym u_is) ∙ (sym (receives_actions i w g (stepped u)) ∙ ap (λ s. actions_of i (frames_of s)) (sym (put_same u v client stepped e))))))
            (λ nu.
            ⊎_elim
            (λ e.
            subst (λ y. later.actions y ≡ actions_of i (frames_of (tasks y))) (sym e)
            (mine_frames next (λ g. there (subst (IsGone i later.actions) (sym e) g))
            ∙ ap (λ s. actions_of i (frames_of s)) (sym (at_t t (λ f. not_t (sym f)) refl))))
            (λ nt. other v nt ∙ (linked.by_frames v (gone_before v (other v nt) there) ∙ ap (λ s. actions_of i (frames_of s)) (sym (still v nu nt))))
            (same_or_not v t))
            (same_or_not v u);
        gone = λ v g'.
            ⊎_elim
            (λ e. absurd (served_task o u place_u (subst (λ y. is_own i y ≡ false) e g'.0)))
            (λ nu.
            ⊎_elim
            (λ e.
            subst (λ y. tasks y ≡ initial_state i y) (sym e)
            (at_t t (λ f. not_t (sym f)) refl ∙ mine_gone next (subst (IsGone i later.actions) e g')))
            (λ nt. still v nu nt ∙ linked.gone v (g'.0, sym (other v nt) ∙ g'.1))
            (same_or_not v t))
            (same_or_not v u);
        may = λ v here.
            by_put (λ s. MayWrite i (frames_of s)) u v client stepped
            (λ e. receives_may i w g (stepped u) (subst (λ s. MayWrite i (frames_of s)) (sym u_is) (linked.may u (subst (IsImageTask i) e here))))
            (λ nu. by_put (λ s. MayWrite i (frames_of s)) t v mine d.tasks (λ e. mine_may next) (λ nt. linked.may v here));
        sound = λ v here free_of.
            ⊎_elim
            (λ e.
            subst (λ y. IsSound i (is_own i y) (tasks y)) (sym e)
            (subst (IsSound i (is_own i u)) (sym (put_same u u client stepped refl)) (receives_sound i w (is_own i u) o g (stepped u) awaiting fits)))
            (λ nu.
            ⊎_elim
            (λ e.
            subst (λ y. IsSound i (is_own i y) (tasks y)) (sym e)
            (subst (IsSound i (is_own i t)) (sym (at_t t (λ f. not_t (sym f)) refl)) (mine_sound next)))
            (λ nt. subst (IsSound i (is_own i v)) (sym (still v nu nt)) (linked.sound v here (λ h. free_of (
              h.0,
              h.1,
              ⊎_elim
                  (λ e.
                  subst (HasAction (ServesCall h.1 v)) (sym (own h.0 e))
                  (⊎_elim (λ f. absurd (nu (sym f.1))) (λ g. g) (outer_has v h.1 v (Serves o u) (ServesCall h.1 v) x.serves (subst (λ y. HasAction (ServesCall h.1 v) (k.actions y)) e h.2))))
                  (λ ne. subst (HasAction (ServesCall h.1 v)) (sym (other h.0 ne)) h.2)
                  (same_or_not h.0 t),
            ))))
            (same_or_not v t))
            (same_or_not v u);
        calling = λ p v h.
            let before : k.queued p ≡ Some v = sym (queue p) ∙ h in
            let nu : v ≢ u = λ e. queued_served_not (k.place u) p o (subst (λ y. k.place y ≡ IsQueued p) e (queued_is p v before)) place_u in
            subst (IsCalling i (is_own i v) p) (sym (still v nu (queued_other p v before))) (linked.calling p v before);
        awaiting = λ y p v h.
            let h' : HasAction (ServesCall p v) (put t outer k.actions y) = subst (HasAction (ServesCall p v)) (actions y) h in
            let nu : v ≢ u = λ e. alone y p (subst (λ z. HasAction (ServesCall p z) (put t outer k.actions y)) e h') in
            let before : (z : ℕ) × HasAction (ServesCall p v) (k.actions z) =
            ⊎_elim
            (λ e. (t, has_more (ServesCall p v) (k.actions t) (subst (HasAction (ServesCall p v)) (put_same t y outer k.actions e) h')))
            (λ ne. (y, subst (HasAction (ServesCall p v)) (put_other t y outer k.actions ne) h'))
            (same_or_not y t) in
            subst (IsAwaiting i (is_own i v) p) (sym (still v nu (served_other before.0 p v before.1))) (linked.awaiting before.0 p v before.1);
      }

  ended_linked : (x : Ending) → ending k t r.effect ≡ x → IsLinked i later.actions later.queued (reached (behaviour i schedule) t x r.given stepped)
  ended_linked Closes is = closes_linked is
  ended_linked (TakesOver o u) is = over_linked o u is
  ended_linked (HandsBack u) is = back_linked u is r.given refl

  -- before dispatching and the clock
  pub step_linked : IsLinked i later.actions later.queued (among (behaviour i schedule) k t d).rest.tasks
  step_linked = ended_linked (ending k t r.effect) refl
