-- Which actions tasks and handlers have open, and that a handler begins with what its start needs (RM C.3.1).
use Rattle.std.proofs.Common.{◌≡◌, ◌⊎◌, ℕ, ◌≤◌, List, [], ◌∷◌, true, false, Some, sym, ap, ◌∙◌, subst, arith, ⊎_elim}
use Rattle.std.proofs.lemmas.Bool.{true≢false, cases_lt, le-ltb, lt-ltb}
use Rattle.kernel.specs.State.{Action, Interrupt, Kernel, Writes, actor, is_task}
use Rattle.kernel.specs.Invariant.{IsInOwn}
use Rattle.kernel.specs.Laws.{HandlerBegins, SettlesTo}
use Rattle.kernel.specs.PutLaws.{by_put}
use Rattle.expr_soundness.specs.meaning.specs.Programs.{Program, program_partition}
use Rattle.expr_soundness.specs.meaning.specs.Works.{TaskWork}
use Rattle.expr_soundness.specs.meaning.specs.Source.{SourceWorld, initial_work}
use Rattle.step_soundness.specs.Laws.{Matches}
use Rattle.program_soundness.specs.SoundWorlds.{HandlersOpen, IsIdle, OpensItsActions, IsSoundWorld, awaited}
use Rattle.program_soundness.proofs.Entries.{opened_of}

pub some_action : (a : Action) (outer : List Action) → a ∷ outer ≡ [] → ⊥
some_action a outer e = cc

pub own_some : (l : List Action) → IsInOwn l → l ≡ [] → ⊥
own_some [] own e = own
own_some (a ∷ outer) own e = some_action a outer e

-- ---- in a sound world

module _ (program : Program) (w : SourceWorld) (world : IsSoundWorld program w) where
  pub beyond : (u : ℕ) → is_task (program_partition program) u ≡ false → w.kernel.partition.tasks ≤ u
  beyond u e =
      ⊎_elim
      (λ lt. absurd (true≢false (sym (lt-ltb u w.kernel.partition.tasks lt) ∙ (ap (λ p. is_task p u) world.partition ∙ e))))
      (λ le. le)
      (cases_lt u w.kernel.partition.tasks)

  -- who runs is a task, or within the action of a handler
  pub runner_busy : (t : ℕ) → w.kernel.running ≡ Some t → IsIdle program t (w.kernel.actions t) → ⊥
  runner_busy t runs i = own_some (w.kernel.actions t) (world.kernel.within t (beyond t i.0) runs) i.1

  pub runner_matches : (t : ℕ) → w.kernel.running ≡ Some t → Matches (w.kernel.actions t) (opened_of (w.rest.tasks t))
  runner_matches t runs = (world.linked t).matches (runner_busy t runs)

  -- who waits in a call is a task
  pub waits_as_task : (u o : ℕ) → awaited (w.kernel.place u) ≡ Some o → is_task (program_partition program) u ≡ false → ⊥
  waits_as_task u o waits e =
      ⊎_elim
      (λ f. let no = sym (ap awaited f) ∙ waits in absurd (cc))
      (λ r. let no = sym (ap awaited (world.kernel.sound.runs u r)) ∙ waits in absurd (cc))
      (world.kernel.sound.gone u (beyond u e))

-- ---- where a kernel settles

module _ (program : Program) (x l : Kernel) (s : SettlesTo x l) (same : x.partition ≡ program_partition program) (handled : HandlersOpen program x.pending)
    (tasks : ℕ → TaskWork)
    (linked : (u : ℕ) → OpensItsActions program u (x.actions u) (tasks u)) where
  begun_linked : (i : Interrupt) → HandlerBegins x l i → (u : ℕ) → OpensItsActions program u (l.actions u) (tasks u)
  begun_linked i h u =
      subst (λ f. OpensItsActions program u (f u) (tasks u)) (sym h.actions)
      (by_put (λ a. OpensItsActions program u a (tasks u)) (actor x.partition i.channel) u (Writes i.object ∷ []) x.actions
      (λ e. begun e) (λ ne. linked u))
    where
      begun : u ≡ actor x.partition i.channel → OpensItsActions program u (Writes i.object ∷ []) (tasks u)
      begun e =
          let p = program_partition program in
          let actor_is : u ≡ actor p i.channel = e ∙ ap (λ q. actor q i.channel) same in
          let le : p.tasks ≤ actor p i.channel = omega arith in
          let no_task : is_task p u ≡ false = ap (is_task p) actor_is ∙ le-ltb (actor p i.channel) p.tasks le in
          let own : tasks u ≡ initial_work program u = (linked u).idle (no_task, ap x.actions e ∙ h.idle) in
          let first : Matches (Writes i.object ∷ []) (opened_of (initial_work program (actor p i.channel))) =
          (subst (HandlersOpen program) h.first handled).0 in
          record {
            matches = λ no.
                subst (λ w. Matches (Writes i.object ∷ []) (opened_of w)) (ap (initial_work program) (sym actor_is) ∙ sym own) first;
            idle = λ j. absurd (some_action (Writes i.object) [] j.1);
          }

  pub settled_linked : (u : ℕ) → OpensItsActions program u (l.actions u) (tasks u)
  settled_linked u =
      ⊎_elim (λ e. subst (λ f. OpensItsActions program u (f u) (tasks u)) (sym e.1) (linked u)) (λ h. begun_linked h.0 h.1 u) s.actions

  pub settled_handled : HandlersOpen program l.pending
  settled_handled = ⊎_elim (λ e. subst (HandlersOpen program) (sym e.0) handled) (λ h. let all : HandlersOpen program (h.0 ∷ l.pending) = subst (HandlersOpen program) h.1.first handled in all.1) s.actions
