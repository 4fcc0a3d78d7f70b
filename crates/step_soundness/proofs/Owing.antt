-- What the kernel's invariant asks of a step is so.
use Rattle.std.proofs.Common.{◌≡◌, ◌⊎◌, ℕ, List, [], ◌∷◌, Bool, true, false, inl, inr, Option, Some, refl, sym, ap, ◌∙◌, subst}
use Rattle.expr_soundness.specs.kernel.specs.State.{Action, Reads, Serves, Writes}
use Rattle.expr_soundness.specs.kernel.specs.Effects.{Effect, Quiet, Says, Delays, Opens, Views, Queues, Ends, Finishes, Dies, Breaks}
use Rattle.expr_soundness.specs.kernel.specs.Invariant.{CanWrite, HasAction, IsBarrierHeld, Passed, Tells}
use Rattle.expr_soundness.specs.meaning.specs.Works.{GivenToCaller, Store}
use Rattle.expr_soundness.specs.meaning.specs.Calls.{is_open}
use Rattle.expr_soundness.specs.meaning.specs.SourceSteps.{Here, SourceStepped}
use Rattle.step_soundness.specs.Opened.{ForCall, ForCaller, HasOpened, IsHeld, Opened, object_opened}
use Rattle.step_soundness.specs.Holding.{Accounts, IsSoundStep}
use Rattle.step_soundness.specs.Laws.{BarriersAreOwn, EffectsPass, Matches}

-- an object that is held open is one whose action may write
writes : (actions : List Action) (opened : List Opened) (o : ℕ) → Matches actions opened → HasOpened o opened → HasAction (CanWrite o) actions
writes [] [] o m has = absurd has
writes [] (x ∷ opened) o m has = absurd m
writes (a ∷ actions) [] o m has = absurd has
writes (Writes p ∷ actions) (ForCall q ∷ opened) o m (inl is) = inl (m.0 ∙ is)
writes (Writes p ∷ actions) (ForCall q ∷ opened) o m (inr has) = inr (writes actions opened o m.1 has)
writes (Serves p u ∷ actions) (ForCaller q ∷ opened) o m (inl is) = inl (m.0 ∙ is)
writes (Serves p u ∷ actions) (ForCaller q ∷ opened) o m (inr has) = inr (writes actions opened o m.1 has)
writes (Writes p ∷ actions) (ForCaller q ∷ opened) o m has = absurd m
writes (Serves p u ∷ actions) (ForCall q ∷ opened) o m has = absurd m
writes (Reads p ∷ actions) (x ∷ opened) o m has = absurd m

-- with nothing held open the task is in no action
outside : (actions : List Action) → Matches actions [] → (elim actions [ [] ↦ false | a ∷ outer ↦ true ]) ≡ false
outside [] m = refl
outside (Reads o ∷ actions) m = absurd m
outside (Writes o ∷ actions) m = absurd m
outside (Serves o u ∷ actions) m = absurd m

tells : (barrier : ℕ → Bool) (b : Bool) (actions : List Action) (x : Opened) (after : List Opened) → Matches actions (x ∷ after) → b ≡ barrier (object_opened x) → Tells barrier b actions
tells barrier b [] x after m is = absurd m
tells barrier b (Writes o ∷ actions) (ForCall p) after m is = is ∙ ap barrier (sym m.0)
tells barrier b (Serves o u ∷ actions) (ForCaller p) after m is = tt
tells barrier b (Writes o ∷ actions) (ForCaller p) after m is = absurd m
tells barrier b (Serves o u ∷ actions) (ForCall p) after m is = absurd m
tells barrier b (Reads o ∷ actions) x after m is = absurd m

passes : (h : Here) (m : Store) (e : Effect) (opened after : List Opened) (given : Option GivenToCaller) → Matches (h.kernel.actions h.task) opened → Accounts h e m opened after given
    → Passed (is_open h.program m) h.kernel h.task e
passes h m Quiet opened after given match is = tt
passes h m (Says label value) opened after given match is = tt
passes h m (Delays until) opened after given match is = is.2
passes h m (Opens o) opened after given match is = is.2
passes h m (Views o) opened after given match is = absurd is
passes h m (Queues o) opened after given match is = (is.2, is.3, is.4, is.5)
passes h m (Ends b) opened after given match is = tells (is_open h.program m) b (h.kernel.actions h.task) is.0 after (subst (Matches (h.kernel.actions h.task)) is.1 match) is.2
passes h m Finishes opened after given match is = outside (h.kernel.actions h.task) (subst (Matches (h.kernel.actions h.task)) is.0 match)
passes h m (Dies x) opened after given match is = tt
passes h m Breaks opened after given match is = absurd is

holds : (h : Here) (opened : List Opened) (x : SourceStepped) → BarriersAreOwn h.program → Matches (h.kernel.actions h.task) opened → IsHeld h.own.within opened → IsSoundStep h opened x
    → IsBarrierHeld (is_open h.program h.memory) (is_open h.program x.solo.memory) h.kernel h.task
holds h opened x own match held sound o = by_change (sound.store.own o)
  where
    by_change : (x.solo.memory.components o ≡ h.memory.components o) ⊎ (h.own.within ≡ Some o)
        → (is_open h.program x.solo.memory o ≡ is_open h.program h.memory o) ⊎ HasAction (CanWrite o) (h.kernel.actions h.task)
    by_change (inl same) = inl (own o h.memory x.solo.memory same)
    by_change (inr within) = inr (writes (h.kernel.actions h.task) opened o match (subst (λ w. IsHeld w opened) within held))

pub effects_pass : EffectsPass
effects_pass h opened x own match held sound =
    (holds h opened x own match held sound, passes h x.solo.memory x.effect opened _ x.given match sound.effect)
