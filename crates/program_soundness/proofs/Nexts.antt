-- What a sound step of the running task and the kernel make of the world: it is sound again, whatever the effect (RM 9.5.1, 9.5.3).
use Rattle.std.proofs.Common.{◌≡◌, ◌≢◌, inl, inr, ℕ, List, [], ◌∷◌, Bool, true, false, not, cond, ◌&&◌, Option, Some, None, refl, sym, ap, ◌∙◌, subst, ⊎_elim}
use Rattle.std.specs.Prelude.{int_lt, is_some}
use Rattle.std.proofs.lemmas.Bool.{true≢false}
use Rattle.kernel.specs.State.{Action, Kernel, Reads, Serves, Writes, is_task, put}
use Rattle.kernel.specs.Dispatching.{becomes_ready, leaves}
use Rattle.kernel.specs.Clock.{falls_asleep}
use Rattle.kernel.specs.Effects.{Breaks, Closes, Delays, Dies, Effect, Ending, Ends, Finishes, HandsBack, Opens, Queues, Quiet, Says, TakesOver, Views, after, closes_last, done, ending_of, ends, is_over, outer_of, service, takes_over, with_actions}
use Rattle.kernel.specs.Invariant.{HasAction, ServesCall}
use Rattle.kernel.specs.PutLaws.{by_put, put_other, put_put, put_same}
use Rattle.kernel.specs.Worlds.{ending, is_handler_over, reached}
use Rattle.expr_soundness.specs.meaning.specs.Programs.{program_partition}
use Rattle.expr_soundness.specs.meaning.specs.Works.{GivenToCaller, Store, TaskWork}
use Rattle.expr_soundness.specs.meaning.specs.Calls.{is_open}
use Rattle.expr_soundness.specs.meaning.specs.SourceSteps.{Here, program_behaviour, serves}
use Rattle.expr_soundness.specs.meaning.specs.Source.{initial_work}
use Rattle.step_soundness.specs.Opened.{ForCall, ForCaller, Opened}
use Rattle.step_soundness.specs.Holding.{Accounts, IsGiven, IsGivenAt, IsSoundServer, IsSoundTask, WhenEnds, waits_after}
use Rattle.step_soundness.specs.Laws.{Matches}
use Rattle.program_soundness.specs.SoundWorlds.{OpensItsActions}
use Rattle.program_soundness.proofs.Awaiting.{awaited_if}
use Rattle.expr_soundness.specs.meaning.proofs.Faults.{either}
use Rattle.program_soundness.proofs.Entries.{opened_of}
use Rattle.program_soundness.proofs.Others.{IsBehind, IsStep, NextLaws, SoundAt, given_to, goes_on, hands, keeps_calls, linked_open, match_here, served_here, takes, waits_elsewhere, waits_in}

free_of : (q : Option ℕ) → is_some q ≡ false → q ≡ None
free_of None e = refl
free_of (Some u) e = absurd (cc)

module _ (laws : NextLaws) (h : Here) (tasks : ℕ → TaskWork) (m : Store) (is : IsStep h tasks m) where
  abbrev before : ℕ → Bool
  before = is_open h.program h.memory

  -- the task t runs, in kernel k
  abbrev k : Kernel
  k = h.kernel

  abbrev t : ℕ
  t = h.task

  abbrev all_after : Ending → Option GivenToCaller → TaskWork → ℕ → TaskWork
  all_after e g own = reached (program_behaviour h.program h.schedule) t e g (put t own tasks)

  module _ (own : TaskWork) where
    other_put : (w : TaskWork) (u : ℕ) → u ≢ t → put t w tasks u ≡ tasks u
    other_put w u ne = put_other t u w tasks ne

    -- what the task has to do after its step: a handler that is over what its next start needs
    abbrev mine : Bool → TaskWork
    mine over = cond over (initial_work h.program t) own

    mine_sound : (over : Bool) → IsSoundTask h.program m None own → IsSoundTask h.program m None (mine over)
    mine_sound true sound = is.restart t
    mine_sound false sound = sound

    -- where its outermost action closes a handler is over
    mine_linked : (e : Ending) (outer : List Action) → closes_last [] e ≡ true → Matches outer (opened_of own)
        → OpensItsActions h.program t outer (mine (closes_last outer e && not (is_task k.partition t)))
    mine_linked e (a ∷ outer) last match = linked_open laws h tasks m is a outer own match
    mine_linked e [] last match =
        subst (λ c. OpensItsActions h.program t [] (mine (c && not (is_task k.partition t)))) (sym last) (by_task (is_task k.partition t) refl)
      where
        same : is_task k.partition t ≡ is_task (program_partition h.program) t
        same = ap (λ p. is_task p t) is.world.partition

        by_task : (b : Bool) → is_task k.partition t ≡ b → OpensItsActions h.program t [] (mine (not b))
        by_task true i = record { matches = λ no. match; idle = λ j. absurd (true≢false (sym i ∙ (same ∙ j.0))) }
        by_task false i = record { matches = λ no. absurd (no (sym same ∙ i, refl)); idle = λ j. refl }

    -- who takes over is not
    goes_on_serving : (o u : ℕ) (outer : List Action) → is_over k.partition t (Writes o ∷ outer) (TakesOver o u) ≡ false
    goes_on_serving o u [] = refl
    goes_on_serving o u (a ∷ outer) = refl

    -- an action that serves nobody closes
    closed : (l : Kernel) (o : ℕ) (outer : List Action) → k.actions t ≡ Writes o ∷ outer → IsBehind h m (with_actions t outer k) l
        → IsSoundTask h.program m None own
        → Matches outer (opened_of own)
        → SoundAt h.program l m (put t (mine (is_over k.partition t (Writes o ∷ outer) Closes)) tasks)
    closed l o outer acts b sound match =
        keeps_calls laws h tasks m is (with_actions t outer k) l b (mine (is_over k.partition t (Writes o ∷ outer) Closes)) outer refl refl
        (λ a u x. ⊎_elim (λ i. absurd i) (λ i. i) (subst (HasAction (ServesCall a u)) acts x))
        (λ a u x. subst (HasAction (ServesCall a u)) (sym acts) (inr x))
        (mine_sound (is_over k.partition t (Writes o ∷ outer) Closes) sound) (mine_linked Closes outer refl match)

    -- the end of a procedure or an entry: with a service, or without
    serviced : (l : Kernel) (b : Bool) (q : Option ℕ) (g : Option GivenToCaller) (o : ℕ) (outer : List Action) → k.queued o ≡ q
        → k.actions t ≡ Writes o ∷ outer
        → IsBehind h m (ends t (service b o q) outer k) l
        → IsSoundTask h.program m None own
        → IsSoundServer h.program m own
        → Matches outer (opened_of own)
        → SoundAt h.program l m (all_after (service b o q) g (mine (is_over k.partition t (Writes o ∷ outer) (service b o q))))
    serviced l false q g o outer queued acts b sound server match = closed l o outer acts b sound match
    serviced l true None g o outer queued acts b sound server match = closed l o outer acts b sound match
    serviced l true (Some u) g o outer queued acts b sound server match =
        subst (λ c. SoundAt h.program l m (all_after (TakesOver o u) g (mine c))) (sym (goes_on_serving o u outer))
        (subst (SoundAt h.program l m) (sym (λ i v. at v i)) (takes laws h tasks m is (takes_over t o u outer k) l b own o u outer acts queued refl refl server match))
      where
        other : u ≢ t
        other = waits_elsewhere laws h tasks m is u o (awaited_if before k is.world.kernel u o (inl queued))

        now : ℕ → TaskWork
        now = put t own tasks

        server_is : serves o (now u).work (now t) ≡ serves o (tasks u).work own
        server_is = λ i. serves o (other_put own u other i).work (put_same t t own tasks refl i)

        at : (v : ℕ) → put u (now u) (put t (serves o (now u).work (now t)) now) v ≡ put t (serves o (tasks u).work own) tasks v
        at v =
            by_put (λ x. x ≡ put t (serves o (tasks u).work own) tasks v) u v (now u) (put t (serves o (now u).work (now t)) now)
            (λ e. other_put own u other ∙ (ap tasks (sym e) ∙ sym (put_other t v (serves o (tasks u).work own) tasks (λ i. other (sym e ∙ i)))))
            (λ ne. ap (λ x. put t x now v) server_is ∙ put_put t (serves o (tasks u).work own) own tasks v)

    -- the body that was run for a caller has ended
    handed : (l : Kernel) (g : Option GivenToCaller) (o p u : ℕ) (outer : List Action) → k.actions t ≡ Serves o u ∷ outer → o ≡ p
        → IsGivenAt h.program (ForCaller p) g
        → IsBehind h m (ends t (HandsBack u) outer k) l
        → IsSoundTask h.program m None own
        → Matches outer (opened_of own)
        → SoundAt h.program l m (all_after (HandsBack u) g (mine (is_over k.partition t (Serves o u ∷ outer) (HandsBack u))))
    handed l g o p u outer acts same given b sound match =
        subst (λ x. SoundAt h.program l m (all_after (HandsBack u) x w)) (sym given.1)
        (subst (λ x. SoundAt h.program l m (put u (given_to given.0 x) (put t w tasks))) (sym (other_put w u other))
        (hands laws h tasks m is (ends t (HandsBack u) outer k) l b w o u outer given.0 acts refl refl (mine_sound over sound)
        (mine_linked (HandsBack u) outer refl match)
        (subst (λ x. IsGiven h.program x given.0) (sym same) given.2)))
      where
        over : Bool
        over = is_over k.partition t (Serves o u ∷ outer) (HandsBack u)

        w : TaskWork
        w = mine (is_over k.partition t (Serves o u ∷ outer) (HandsBack u))

        other : u ≢ t
        other = waits_elsewhere laws h tasks m is u o (served_here laws h tasks m is o u outer acts)

    -- an action ends
    ended : (l : Kernel) (c : Bool) (actions : List Action) (a : Opened) (g : Option GivenToCaller) → k.actions t ≡ actions
        → Matches actions (a ∷ opened_of own)
        → IsGivenAt h.program a g
        → IsBehind h m (ends t (ending_of c actions k.queued) (outer_of actions) k) l
        → IsSoundTask h.program m None own
        → IsSoundServer h.program m own
        → SoundAt h.program l m (all_after (ending_of c actions k.queued) g (mine (is_over k.partition t actions (ending_of c actions k.queued))))
    ended l c [] a g acts match given b sound server = absurd match
    ended l c (Reads o ∷ outer) a g acts match given b sound server = absurd match
    ended l c (Writes o ∷ outer) (ForCall p) g acts match given b sound server = serviced l c (k.queued o) g o outer refl acts b sound server match.1
    ended l c (Writes o ∷ outer) (ForCaller p) g acts match given b sound server = absurd match
    ended l c (Serves o u ∷ outer) (ForCall p) g acts match given b sound server = absurd match
    ended l c (Serves o u ∷ outer) (ForCaller p) g acts match given b sound server = handed l g o p u outer acts match.0 given b sound match.1

    pub next_sound : (e : Effect) (g : Option GivenToCaller) → Accounts h e m (opened_of (tasks t)) (opened_of own) g → IsSoundTask h.program m (waits_after e) own
        → WhenEnds e (IsSoundServer h.program m own)
        → IsBehind h m (done t e k) (after t e k)
        → SoundAt h.program (after t e k) m (all_after (ending k t e) g (mine (is_handler_over k t e)))
    next_sound Quiet g owed sound server b = goes_on laws h tasks m is (done t Quiet k) (after t Quiet k) b own refl refl sound owed.0
    next_sound (Says label value) g owed sound server b =
        goes_on laws h tasks m is (done t (Says label value) k) (after t (Says label value) k) b own refl refl sound owed.0
    next_sound (Delays until) g owed sound server b =
        let asleep = falls_asleep t until (leaves t k) in
        let due = becomes_ready t (leaves t k) in
        let late = int_lt k.now until in
        goes_on laws h tasks m is (done t (Delays until) k) (after t (Delays until) k) b own (either (λ x. x.queued ≡ k.queued) late asleep due refl refl)
        (either (λ x. x.actions ≡ k.actions) late asleep due refl refl) sound owed.0
    next_sound (Opens o) g owed sound server b =
        keeps_calls laws h tasks m is (done t (Opens o) k) (after t (Opens o) k) b own (Writes o ∷ k.actions t) refl refl
        (λ a u x. inr x)
        (λ a u x. ⊎_elim (λ i. absurd i) (λ i. i) x)
        sound
        (linked_open laws h tasks m is (Writes o) (k.actions t) own
        (subst (Matches (Writes o ∷ k.actions t)) (sym owed.0) (refl, match_here laws h tasks m is)))
    next_sound (Views o) g owed sound server b = absurd owed
    next_sound (Queues o) g owed sound server b =
        waits_in laws h tasks m is (done t (Queues o) k) (after t (Queues o) k) b own o (free_of (k.queued o) owed.5) refl refl sound owed.0
    next_sound (Ends c) g owed sound server b =
        ended (after t (Ends c) k) c (k.actions t) owed.0 g refl (subst (Matches (k.actions t)) owed.1 (match_here laws h tasks m is)) owed.3 b sound server
    next_sound Finishes g owed sound server b =
        goes_on laws h tasks m is (done t Finishes k) (after t Finishes k) b own refl refl sound (owed.1 ∙ sym owed.0)
    next_sound (Dies x) g owed sound server b =
        goes_on laws h tasks m is (done t (Dies x) k) (after t (Dies x) k) b own refl refl sound (owed.1 ∙ sym owed.0)
    next_sound Breaks g owed sound server b = absurd owed
