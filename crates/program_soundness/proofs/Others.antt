-- All tasks behind a step: the one that ran, those that it reaches and those that only wait or stand ready (RM 9.5.3).
use Rattle.std.proofs.Common.{◌≡◌, ◌≢◌, inl, inr, ℕ, List, ◌∷◌, Bool, Option, Some, None, refl, sym, ap, ◌∙◌, subst, ⊎_elim}
use Rattle.kernel.specs.State.{Action, Kernel, Serves, Writes, put}
use Rattle.kernel.specs.Invariant.{HasAction, Kept, ServesCall}
use Rattle.kernel.specs.Laws.{FourHold, SettlesTo, StepsSettle}
use Rattle.kernel.specs.PutLaws.{by_put, of_put, put_other, put_same, put_self, same_or_not}
use Rattle.expr_soundness.specs.meaning.specs.Programs.{Program, program_partition}
use Rattle.expr_soundness.specs.meaning.specs.Works.{GivenToCaller, Store, TaskWork}
use Rattle.expr_soundness.specs.meaning.specs.Calls.{is_open}
use Rattle.expr_soundness.specs.meaning.specs.SourceSteps.{Here, received, serves}
use Rattle.expr_soundness.specs.meaning.specs.Source.{SourceWorld, initial_work}
use Rattle.step_soundness.specs.Holding.{IsGiven, IsSoundServer, IsSoundTask, KeepsStore}
use Rattle.step_soundness.specs.Laws.{CallersGoOn, Matches, OthersStaySound, ServersAreSound, StoresAreAlike}
use Rattle.program_soundness.specs.SoundWorlds.{HandlersOpen, HasMeaning, IsIdle, OpensItsActions, IsSoundWorld, awaited}
use Rattle.program_soundness.proofs.Awaiting.{Awaits, awaited_if, awaited_stays, awaits_after, awaits_as, awaits_before, awaits_of, none_if, runner_awaits, served_before, served_then, service_over}
use Rattle.program_soundness.proofs.Entries.{opened_of, opened_received, opened_served}
use Rattle.program_soundness.proofs.Handling.{runner_busy, runner_matches, settled_handled, settled_linked, some_action, waits_as_task}

-- what holds of both new values at t and of both old ones elsewhere holds everywhere
by_put_both : {A B : Type 0} (P : A → B → Type 0) (t u : ℕ) (x : A) (f : ℕ → A) (y : B) (g : ℕ → B) → (u ≡ t → P x y)
    → (u ≢ t → P (f u) (g u))
    → P (put t x f u) (put t y g u)
by_put_both P t u x f y g same other =
    ⊎_elim
    (λ e. subst (λ a. P a (put t y g u)) (sym (put_same t u x f e)) (subst (λ b. P x b) (sym (put_same t u y g e)) (same e)))
    (λ ne. subst (λ a. P a (put t y g u)) (sym (put_other t u x f ne)) (subst (λ b. P (f u) b) (sym (put_other t u y g ne)) (other ne)))
    (same_or_not u t)

-- ---- a step

abbrev pub given_to : GivenToCaller → TaskWork → TaskWork
given_to g x = record x { work = received g x.work }

-- what the step stands on, of the kernel and of the tasks
pub record NextLaws : Type 0 where
  pub settle : StepsSettle
  pub four : FourHold
  pub others : OthersStaySound
  pub servers : ServersAreSound
  pub callers : CallersGoOn
  pub alike : StoresAreAlike

abbrev pub SoundAt : Program → Kernel → Store → (ℕ → TaskWork) → Type 0
SoundAt program k m tasks = IsSoundWorld program (record { kernel = k; rest = record { memory = m; tasks = tasks } })

-- the task that is here runs in a sound world, and its step leaves this store
pub record IsStep (h : Here) (tasks : ℕ → TaskWork) (m : Store) : Type 0 where
  pub world : SoundAt h.program h.kernel h.memory tasks
  pub runs : h.kernel.running ≡ Some h.task
  pub keeps : KeepsStore h.program h.own.within h.memory m
  -- and what each task and handler has to do at its start fits the store
  pub restart : (u : ℕ) → IsSoundTask h.program m None (initial_work h.program u)

-- the kernel l is what becomes of kernel x, which the effect alone leaves
pub record IsBehind (h : Here) (m : Store) (x l : Kernel) : Type 0 where
  pub settles : SettlesTo x l
  pub partition : x.partition ≡ h.kernel.partition
  pub pending : x.pending ≡ h.kernel.pending
  pub kept : Kept (is_open h.program m) l
  pub meant : HasMeaning l.outcome

module _ (laws : NextLaws) (h : Here) (tasks : ℕ → TaskWork) (m : Store) (is : IsStep h tasks m) where
  abbrev before : ℕ → Bool
  before = is_open h.program h.memory

  abbrev later : ℕ → Bool
  later = is_open h.program m

  -- the task t runs, in kernel k
  abbrev k : Kernel
  k = h.kernel

  abbrev t : ℕ
  t = h.task

  awake : awaited (k.place t) ≡ None
  awake = runner_awaits before k is.world.kernel t is.runs

  -- another task goes on, and waits in the call in which it waited
  other_sound : (u : ℕ) (waits : Option ℕ) → awaited (k.place u) ≡ waits → IsSoundTask h.program m waits (tasks u)
  other_sound u waits same =
      laws.others h.program h.own.within waits h.memory m (tasks u) is.keeps (subst (λ w. IsSoundTask h.program h.memory w (tasks u)) same (is.world.tasks u))

  abbrev world_before : SourceWorld
  world_before = record { kernel = h.kernel; rest = record { memory = h.memory; tasks = tasks } }

  pub busy : IsIdle h.program t (k.actions t) → ⊥
  busy = runner_busy h.program world_before is.world t is.runs

  pub match_here : Matches (k.actions t) (opened_of (tasks t))
  match_here = runner_matches h.program world_before is.world t is.runs

  -- actions of which one is open are not those of a handler that has not begun
  pub linked_open : (a : Action) (outer : List Action) (own : TaskWork) → Matches (a ∷ outer) (opened_of own) → OpensItsActions h.program t (a ∷ outer) own
  linked_open a outer own match = record { matches = λ no. match; idle = λ i. absurd (some_action a outer i.1) }

  -- nor are those that it has before the step
  pub linked_same : (own : TaskWork) → opened_of own ≡ opened_of (tasks t) → OpensItsActions h.program t (k.actions t) own
  linked_same own same = record { matches = λ no. subst (Matches (k.actions t)) (sym same) match_here; idle = λ i. absurd (busy i) }

  module _ (x l : Kernel) (b : IsBehind h m x l) where
    partition_is : x.partition ≡ program_partition h.program
    partition_is = b.partition ∙ is.world.partition

    handled_before : HandlersOpen h.program x.pending
    handled_before = subst (HandlersOpen h.program) (sym b.pending) is.world.handled

    -- the world behind the step, by what holds of each task in kernel x
    behind_step : (later_tasks : ℕ → TaskWork) → ((u : ℕ) → IsSoundTask h.program m (awaited (l.place u)) (later_tasks u))
        → ((u : ℕ) → OpensItsActions h.program u (x.actions u) (later_tasks u))
        → SoundAt h.program l m later_tasks
    behind_step later_tasks sound linked =
        record {
          kernel = b.kept;
          partition = b.settles.partition ∙ partition_is;
          store = is.keeps.sound;
          tasks = sound;
          linked = settled_linked h.program x l b.settles partition_is handled_before later_tasks linked;
          handled = settled_handled h.program x l b.settles partition_is handled_before later_tasks linked;
          outcome = b.meant;
        }

    module _ (own : TaskWork) where
      -- no other task is reached
      reaches_none : (waits : Option ℕ) (new : List Action) → x.actions ≡ put t new k.actions → awaited (l.place t) ≡ waits
          → ((u : ℕ) → u ≢ t → awaited (l.place u) ≡ awaited (k.place u))
          → IsSoundTask h.program m waits own
          → OpensItsActions h.program t new own
          → SoundAt h.program l m (put t own tasks)
      reaches_none waits new acts mine same sound linked =
          behind_step (put t own tasks)
          (λ u.
          by_put (IsSoundTask h.program m (awaited (l.place u))) t u own tasks
          (λ e. subst (λ w. IsSoundTask h.program m w own) (sym (ap (λ v. awaited (l.place v)) e ∙ mine)) sound)
          (λ ne. other_sound u (awaited (l.place u)) (sym (same u ne))))
          (λ u.
          subst (λ f. OpensItsActions h.program u (f u) (put t own tasks u)) (sym acts)
          (by_put_both (λ a w. OpensItsActions h.program u a w) t u new k.actions own tasks (λ e. subst (λ v. OpensItsActions h.program v new own) (sym e) linked)
          (λ ne. is.world.linked u)))

      -- nor do calls begin to wait, or stop
      keeps_waiting : (new : List Action) (queued : ℕ → Option ℕ) → x.queued ≡ queued → x.actions ≡ put t new k.actions
          → ((u o : ℕ) → Awaits k.queued k.actions u o → Awaits queued (put t new k.actions) u o)
          → ((u o : ℕ) → Awaits queued (put t new k.actions) u o → Awaits k.queued k.actions u o)
          → IsSoundTask h.program m None own
          → OpensItsActions h.program t new own
          → SoundAt h.program l m (put t own tasks)
      keeps_waiting new queued queue acts forth back sound linked =
          let same : (u : ℕ) → awaited (l.place u) ≡ awaited (k.place u) = λ u.
          awaited_stays before later k l is.world.kernel b.kept u
          (λ o a. awaits_after x l b.settles u o (awaits_as queued x.queued (put t new k.actions) x.actions u o queue acts (forth u o a)))
          (λ o a. back u o (awaits_as x.queued queued x.actions (put t new k.actions) u o (sym queue) (sym acts) (awaits_before x l b.settles u o a))) in
          reaches_none None new acts (same t ∙ awake) (λ u ne. same u) sound linked

      -- an action opens or closes, and serves nobody
      pub keeps_calls : (new : List Action) → x.queued ≡ k.queued → x.actions ≡ put t new k.actions
          → ((o u : ℕ) → HasAction (ServesCall o u) (k.actions t) → HasAction (ServesCall o u) new)
          → ((o u : ℕ) → HasAction (ServesCall o u) new → HasAction (ServesCall o u) (k.actions t))
          → IsSoundTask h.program m None own
          → OpensItsActions h.program t new own
          → SoundAt h.program l m (put t own tasks)
      keeps_calls new queue acts more fewer sound linked = keeps_waiting new k.queued queue acts forth back sound linked
        where
          forth : (u o : ℕ) → Awaits k.queued k.actions u o → Awaits k.queued (put t new k.actions) u o
          forth u o (inl q) = inl q
          forth u o (inr s) = inr (served_then t new k.actions u o (more o u) s)

          back : (u o : ℕ) → Awaits k.queued (put t new k.actions) u o → Awaits k.queued k.actions u o
          back u o (inl q) = inl q
          back u o (inr s) = inr (served_before t new k.actions u o (fewer o u) s)

      self : put t (k.actions t) k.actions ≡ k.actions
      self = λ i u. put_self t k.actions u i

      -- the task goes on, in the actions that it had open
      pub goes_on : x.queued ≡ k.queued → x.actions ≡ k.actions → IsSoundTask h.program m None own → opened_of own ≡ opened_of (tasks t)
          → SoundAt h.program l m (put t own tasks)
      goes_on queue acts sound same =
          keeps_calls (k.actions t) queue (acts ∙ sym self) (λ o u a. a) (λ o u a. a) sound (linked_same own same)

      -- the task waits in an entry call
      pub waits_in : (o : ℕ) → k.queued o ≡ None → x.queued ≡ put o (Some t) k.queued → x.actions ≡ k.actions
          → IsSoundTask h.program m (Some o) own
          → opened_of own ≡ opened_of (tasks t)
          → SoundAt h.program l m (put t own tasks)
      waits_in o free queue acts sound same =
          reaches_none (Some o) (k.actions t) (acts ∙ sym self)
          (awaited_if later l b.kept t o (awaits_after x l b.settles t o (inl (ap (λ f. f o) queue ∙ put_same o o (Some t) k.queued refl))))
          (λ u ne.
          awaited_stays before later k l is.world.kernel b.kept u
          (λ a y. awaits_after x l b.settles u a (awaits_as (put o (Some t) k.queued) x.queued k.actions x.actions u a queue acts (forth u a y)))
          (λ a y.
          back u ne a (awaits_as x.queued (put o (Some t) k.queued) x.actions k.actions u a (sym queue) (sym acts) (awaits_before x l b.settles u a y))))
          sound (linked_same own same)
        where
          forth : (u a : ℕ) → Awaits k.queued k.actions u a → Awaits (put o (Some t) k.queued) k.actions u a
          forth u a (inl q) =
              inl (by_put (λ y. y ≡ Some u) o a (Some t) k.queued
              (λ e.
              let i : k.queued o ≡ Some u = ap k.queued (sym e) ∙ q in
              let j : k.queued o ≡ None = free in
              absurd (cc))
              (λ ne. q))
          forth u a (inr s) = inr s

          back : (u : ℕ) → u ≢ t → (a : ℕ) → Awaits (put o (Some t) k.queued) k.actions u a → Awaits k.queued k.actions u a
          back u ne a (inl q) =
              of_put (λ y. y ≡ Some u) (Awaits k.queued k.actions u a) o a (Some t) k.queued q
              (λ e i. let j : t ≡ u = cc in absurd (ne (sym j)))
              (λ na i. inl i)
          back u ne a (inr s) = inr s

  -- who waits is not the task that runs
  pub waits_elsewhere : (u o : ℕ) → awaited (k.place u) ≡ Some o → u ≢ t
  waits_elsewhere u o waits e =
      let i : awaited (k.place t) ≡ Some o = ap (λ v. awaited (k.place v)) (sym e) ∙ waits in
      let j : awaited (k.place t) ≡ None = awake in
      cc

  pub served_here : (o u : ℕ) (outer : List Action) → k.actions t ≡ Serves o u ∷ outer → awaited (k.place u) ≡ Some o
  served_here o u outer acts = awaited_if before k is.world.kernel u o (inr (t, subst (HasAction (ServesCall o u)) (sym acts) (inl (refl, refl))))

  -- the task runs the entry body for the queued caller
  pub takes : (x l : Kernel) → IsBehind h m x l → (own : TaskWork) (o u : ℕ) (outer : List Action)
      → k.actions t ≡ Writes o ∷ outer
      → k.queued o ≡ Some u
      → x.queued ≡ put o None k.queued
      → x.actions ≡ put t (Serves o u ∷ outer) k.actions
      → IsSoundServer h.program m own
      → Matches outer (opened_of own)
      → SoundAt h.program l m (put t (serves o (tasks u).work own) tasks)
  takes x l b own o u outer acts queued next_queued next_acts server match =
      keeps_waiting x l b (serves o (tasks u).work own) new (put o None k.queued) next_queued next_acts forth back
      (laws.servers h.program m o (tasks u) own is.keeps.sound caller server)
      (linked_open (Serves o u) outer (serves o (tasks u).work own)
      (subst (Matches new) (sym (opened_served h.program o (tasks u).own caller.scope caller.outer caller.around (tasks u).work own caller.work)) (refl, match)))
    where
      new : List Action
      new = Serves o u ∷ outer

      caller : IsSoundTask h.program m (Some o) (tasks u)
      caller = other_sound u (Some o) (awaited_if before k is.world.kernel u o (inl queued))

      forth : (v a : ℕ) → Awaits k.queued k.actions v a → Awaits (put o None k.queued) (put t new k.actions) v a
      forth v a (inl q) =
          ⊎_elim
          (λ e.
          let i : k.queued o ≡ Some v = ap k.queued (sym e) ∙ q in
          let n : k.queued o ≡ Some u = queued in
          let j : u ≡ v = cc in
          inr (t, subst (HasAction (ServesCall a v)) (sym (put_same t t new k.actions refl)) (inl (sym e, j))))
          (λ ne. inl (put_other o a None k.queued ne ∙ q))
          (same_or_not a o)
      forth v a (inr s) = inr (served_then t new k.actions v a (λ y. ⊎_elim (λ i. absurd i) (λ i. inr i) (subst (HasAction (ServesCall a v)) acts y)) s)

      back : (v a : ℕ) → Awaits (put o None k.queued) (put t new k.actions) v a → Awaits k.queued k.actions v a
      back v a (inl q) = of_put (λ y. y ≡ Some v) (Awaits k.queued k.actions v a) o a None k.queued q (λ e i. absurd (cc)) (λ ne i. inl i)
      back v a (inr s) =
          of_put (HasAction (ServesCall a v)) (Awaits k.queued k.actions v a) t s.0 new k.actions s.1
          (λ e. ⊎_elim (λ i. inl (ap k.queued (sym i.0) ∙ (queued ∙ ap Some i.1))) (λ i. inr (t, subst (HasAction (ServesCall a v)) (sym acts) (inr i))))
          (λ ne i. inr (s.0, i))

  -- the caller goes on with what it is given
  pub hands : (x l : Kernel) → IsBehind h m x l → (own : TaskWork) (o u : ℕ) (outer : List Action) (g : GivenToCaller)
      → k.actions t ≡ Serves o u ∷ outer
      → x.queued ≡ k.queued
      → x.actions ≡ put t outer k.actions
      → IsSoundTask h.program m None own
      → OpensItsActions h.program t outer own
      → IsGiven h.program o g
      → SoundAt h.program l m (put u (given_to g (tasks u)) (put t own tasks))
  hands x l b own o u outer g acts next_queued next_acts sound linked given =
      behind_step x l b (put u next (put t own tasks))
      (λ v.
      by_put (IsSoundTask h.program m (awaited (l.place v))) u v next (put t own tasks)
      (λ e. subst (λ w. IsSoundTask h.program m w next) (sym (ap (λ y. awaited (l.place y)) e ∙ free)) goes)
      (λ nu.
      by_put (IsSoundTask h.program m (awaited (l.place v))) t v own tasks
      (λ e. subst (λ w. IsSoundTask h.program m w own) (sym (same v nu ∙ (ap (λ y. awaited (k.place y)) e ∙ awake))) sound)
      (λ nt. other_sound v (awaited (l.place v)) (sym (same v nu)))))
      (λ v.
      subst (λ f. OpensItsActions h.program v (f v) (put u next (put t own tasks) v)) (sym next_acts)
      (by_put (λ y. OpensItsActions h.program v (put t outer k.actions v) y) u v next (put t own tasks)
      (λ e. subst (λ y. OpensItsActions h.program y (put t outer k.actions y) next) (sym e) held)
      (λ nu.
      by_put_both (λ y w. OpensItsActions h.program v y w) t v outer k.actions own tasks (λ e. subst (λ y. OpensItsActions h.program y outer own) (sym e) linked)
      (λ ne. is.world.linked v))))
    where
      served : awaited (k.place u) ≡ Some o
      served = served_here o u outer acts

      other : u ≢ t
      other = waits_elsewhere u o served

      caller : IsSoundTask h.program m (Some o) (tasks u)
      caller = other_sound u (Some o) served

      next : TaskWork
      next = given_to g (tasks u)

      opened : opened_of next ≡ opened_of (tasks u)
      opened = opened_received h.program o (tasks u).own caller.scope caller.outer caller.around g (tasks u).work caller.work

      goes : IsSoundTask h.program m None next
      goes = laws.callers h.program m o (tasks u) g caller given

      no_handler : (actions : List Action) → IsIdle h.program u actions → ⊥
      no_handler actions i = waits_as_task h.program world_before is.world u o served i.0

      held : OpensItsActions h.program u (put t outer k.actions u) next
      held =
          record {
            matches = λ no.
                subst (Matches (put t outer k.actions u)) (sym opened)
                (subst (λ y. Matches y (opened_of (tasks u))) (sym (put_other t u outer k.actions other)) ((is.world.linked u).matches (no_handler (k.actions u))));
            idle = λ i. absurd (no_handler (put t outer k.actions u) i);
          }

      -- what queues and actions tell then, by those before
      awaits_then : (v a : ℕ) → Awaits l.queued l.actions v a → Awaits k.queued (put t outer k.actions) v a
      awaits_then v a y =
          awaits_as x.queued k.queued x.actions (put t outer k.actions) v a (sym next_queued) (sym next_acts) (awaits_before x l b.settles v a y)

      free : awaited (l.place u) ≡ None
      free =
          none_if (awaited (l.place u))
          (λ a i. service_over laws.four before k t o u outer is.world.kernel acts a (awaits_then u a (awaits_of later l b.kept u a i)))

      forth : (v : ℕ) → v ≢ u → (a : ℕ) → Awaits k.queued k.actions v a → Awaits k.queued (put t outer k.actions) v a
      forth v ne a (inl q) = inl q
      forth v ne a (inr s) =
          inr (served_then t outer k.actions v a (λ y. ⊎_elim (λ i. absurd (ne (sym i.1))) (λ i. i) (subst (HasAction (ServesCall a v)) acts y)) s)

      back : (v a : ℕ) → Awaits k.queued (put t outer k.actions) v a → Awaits k.queued k.actions v a
      back v a (inl q) = inl q
      back v a (inr s) = inr (served_before t outer k.actions v a (λ y. subst (HasAction (ServesCall a v)) (sym acts) (inr y)) s)

      same : (v : ℕ) → v ≢ u → awaited (l.place v) ≡ awaited (k.place v)
      same v ne =
          awaited_stays before later k l is.world.kernel b.kept v
          (λ a y.
          awaits_after x l b.settles v a (awaits_as k.queued x.queued (put t outer k.actions) x.actions v a next_queued next_acts (forth v ne a y)))
          (λ a y. back v a (awaits_then v a y))
