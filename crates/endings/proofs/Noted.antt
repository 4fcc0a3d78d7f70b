-- The last steps of a run that a machine follows.
use Rattle.std.proofs.Common.{◌≡◌, ℕ, zero, suc, ◌+◌, ◌-◌, ◌/◌, ◌≤◌, ◌≢◌, ℤ, List, ◌++◌, append_assoc, length, take, Option, Some, None, refl, sym, ap, subst, ◌∙◌, arith}
use Rattle.std.proofs.Math.Seq.{take-append_seam}
use Rattle.base.specs.declared.schedule.ScheduleLine.{ScheduleLine}
use Rattle.kernel.specs.State as kernel
use Rattle.kernel.specs.State.{TaskPlace}
use Rattle.image.specs.Code.{CodeWorld, code}
use Rattle.image.specs.Sections.{Sections}
use Rattle.image_laws.specs.Laws.{OutcomeStays}
use Rattle.tasking.specs.Held.{kernel_of}
use Rattle.execution.specs.Ahead.{address_by, next_address}
use Rattle.execution.specs.Held.{HeldWorld, world_of}
use Rattle.machine.specs.Stands.{HoldsWorld}
use Rattle.machine.specs.declared.reports.Event.{Event}
use Rattle.endings.specs.LastSteps.{IsLastWorld, LastSteps, last_step, last_steps, no_steps, running_by, waiting_from, waiting_if, with_step}
use Rattle.endings.specs.declared.sources.TheConstants.{ACTORS}
use Rattle.endings.specs.declared.world_at_end.LastWorld.{LastWorld}
use Rattle.endings.specs.declared.world_at_end.Waiting.{Waiting}
use Rattle.endings.proofs.Followed.{StepsTo, stepped}

-- after so many steps from a world of the run: the machine stands for the world there, and these are the last steps
abbrev pub Follows : Sections → List ScheduleLine → (first : HeldWorld) → LastSteps → (taken : ℕ) → HeldWorld → LastSteps → Type 0
Follows i schedule first begun taken h steps =
    (n : ℕ) → HoldsWorld first (code i schedule n) → begun ≡ last_steps i schedule n
    → HoldsWorld h (code i schedule (n + taken)) × (steps ≡ last_steps i schedule (n + taken))

pub follows_first : (i : Sections) (schedule : List ScheduleLine) (first : HeldWorld) (begun : LastSteps) → Follows i schedule first begun 0 first begun
follows_first i schedule first begun = λ n holds is.
    let e : n ≡ n + 0 = omega arith in
    (subst (λ m. HoldsWorld first (code i schedule m)) e holds, is ∙ ap (last_steps i schedule) e)

-- a step is noted, and then taken
noted : (i : Sections) (schedule : List ScheduleLine) (m : ℕ) (h : HeldWorld) (steps later : LastSteps) → HoldsWorld h (code i schedule m)
    → steps ≡ last_steps i schedule m
    → later ≡ with_step steps (kernel_of h.tasking).now (kernel_of h.tasking).running (next_address (world_of h))
    → later ≡ last_steps i schedule (suc m)
noted i schedule m h steps later stands same is =
    let w : CodeWorld = code i schedule m in
    is ∙ (ap (λ (v : CodeWorld). with_step steps v.kernel.now v.kernel.running (next_address v)) (sym stands)
    ∙ ap (λ s. with_step s w.kernel.now w.kernel.running (next_address w)) same)

pub follows_on : (i : Sections) (schedule : List ScheduleLine) (first : HeldWorld) (begun : LastSteps) (taken : ℕ) (h next : HeldWorld) (steps later : LastSteps)
    (told : Event) → Follows i schedule first begun taken h steps → h.image ≡ i → h.schedule ≡ schedule → StepsTo h next told
    → later ≡ with_step steps (kernel_of h.tasking).now (kernel_of h.tasking).running (next_address (world_of h))
    → Follows i schedule first begun (taken + 1) next later
follows_on i schedule first begun taken h next steps later told follows image same goes is = λ n holds at.
    let there = follows n holds at in
    let e : suc (n + taken) ≡ n + (taken + 1) = omega arith in (
      subst (λ m. HoldsWorld next (code i schedule m)) e (stepped i schedule (n + taken) h next told image same goes there.0),
      subst (λ m. later ≡ last_steps i schedule m) e (noted i schedule (n + taken) h steps later there.0 there.1 is),
    )

-- behind an outcome no step is taken
idle : (steps : LastSteps) (now : ℤ) (running : Option ℕ) → with_step steps now running None ≡ steps
idle steps now (Some t) = refl
idle steps now None = refl

no_address : (w : CodeWorld) (o : kernel.Outcome) (is : Option kernel.Outcome) (running : Option ℕ) → is ≡ Some o → address_by w is running ≡ None
no_address w o (Some p) running e = refl
no_address w o None running e = absurd cc

none_later : OutcomeStays → (i : Sections) (schedule : List ScheduleLine) (m more : ℕ) (o : kernel.Outcome) → (code i schedule m).kernel.outcome ≡ Some o
    → last_steps i schedule (m + more) ≡ last_steps i schedule m
none_later stays i schedule m zero o is = let e : m + 0 ≡ m = omega arith in ap (last_steps i schedule) e
none_later stays i schedule m (suc more) o is =
    let e : m + suc more ≡ suc (m + more) = omega arith in
    let w : CodeWorld = code i schedule (m + more) in
    let over : w.kernel.outcome ≡ Some o = ap (λ (v : CodeWorld). v.kernel.outcome) (stays i schedule m more o is) ∙ is in
    ap (last_steps i schedule) e
    ∙ (ap (with_step (last_steps i schedule (m + more)) w.kernel.now w.kernel.running) (no_address w o w.kernel.outcome w.kernel.running over)
    ∙ (idle (last_steps i schedule (m + more)) w.kernel.now w.kernel.running ∙ none_later stays i schedule m more o is))

pub follows_over : OutcomeStays → (i : Sections) (schedule : List ScheduleLine) (first : HeldWorld) (begun : LastSteps) (taken count : ℕ) (h : HeldWorld)
    (steps : LastSteps) (o : kernel.Outcome) → Follows i schedule first begun taken h steps → (kernel_of h.tasking).outcome ≡ Some o → taken ≤ count
    → Follows i schedule first begun count h steps
follows_over stays i schedule first begun taken count h steps o follows is le = λ n holds at.
    let there = follows n holds at in
    let over : (code i schedule (n + taken)).kernel.outcome ≡ Some o = ap (λ (v : CodeWorld). v.kernel.outcome) there.0 ∙ is in
    let far : (n + taken) + (count - taken) ≡ n + count = omega (arith, le) in
    let same : code i schedule (n + taken) ≡ code i schedule (n + count) =
    sym (stays i schedule (n + taken) (count - taken) o over) ∙ ap (code i schedule) far in (
      subst (λ w. HoldsWorld h w) same there.0,
      there.1 ∙ (sym (none_later stays i schedule (n + taken) (count - taken) o over) ∙ ap (last_steps i schedule) far),
    )

pub follows_all : (i : Sections) (schedule : List ScheduleLine) (first : HeldWorld) (begun : LastSteps) (taken count : ℕ) (h : HeldWorld) (steps : LastSteps)
    → Follows i schedule first begun taken h steps → taken ≡ count → Follows i schedule first begun count h steps
follows_all i schedule first begun taken count h steps follows e = subst (λ m. Follows i schedule first begun m h steps) e follows

-- ---- the tasks that wait

pub waiting_more : (place : ℕ → TaskPlace) (steps : LastSteps) (made later : List Waiting) (task count : ℕ) (all : List Waiting) → task ≤ count
    → task ≢ count
    → made ++ waiting_from place steps task (count - task) ≡ all
    → later ≡ made ++ waiting_if task (place task) (last_step steps task)
    → later ++ waiting_from place steps (task + 1) (count - (task + 1)) ≡ all
waiting_more place steps made later task count all le other e is =
    let f : count - task ≡ suc (count - (task + 1)) = omega (arith, le, other) in
    let g : suc task ≡ task + 1 = omega arith in
    let here = waiting_if task (place task) (last_step steps task) in
    ap (λ l. l ++ waiting_from place steps (task + 1) (count - (task + 1))) is
    ∙ (append_assoc made here (waiting_from place steps (task + 1) (count - (task + 1)))
    ∙ (ap (λ t. made ++ (here ++ waiting_from place steps t (count - (task + 1)))) (sym g)
    ∙ (ap (λ n. made ++ waiting_from place steps task n) (sym f) ∙ e)))

-- ---- half of the steps, and the other half

follows_of : (i j : Sections) (schedule lines : List ScheduleLine) (first : HeldWorld) (begun : LastSteps) (taken : ℕ) (h : HeldWorld) (steps : LastSteps)
    → i ≡ j → schedule ≡ lines → Follows i schedule first begun taken h steps → Follows j lines first begun taken h steps
follows_of i j schedule lines first begun taken h steps e f follows =
    subst (λ l. Follows j l first begun taken h steps) f (subst (λ k. Follows k schedule first begun taken h steps) e follows)

module _ (i : Sections) (schedule : List ScheduleLine) (limit : ℕ) (a b d : HeldWorld) (begun half all : LastSteps) (stands : HoldsWorld a (code i schedule 0))
    (image : a.image ≡ i) (lines : a.schedule ≡ schedule) (none : begun ≡ no_steps ACTORS) (first : Follows a.image a.schedule a begun (limit / 2) b half)
    (image_first : b.image ≡ a.image) (lines_first : b.schedule ≡ a.schedule) (second : Follows b.image b.schedule b half (limit - limit / 2) d all)
    (image_second : d.image ≡ b.image) where
  at_half : HoldsWorld b (code i schedule (limit / 2)) × (half ≡ last_steps i schedule (limit / 2))
  at_half =
      let e : 0 + limit / 2 ≡ limit / 2 = omega arith in
      let x = follows_of a.image i a.schedule schedule a begun (limit / 2) b half image lines first 0 stands none in
      (subst (λ n. HoldsWorld b (code i schedule n)) e x.0, subst (λ n. half ≡ last_steps i schedule n) e x.1)

  at_end : HoldsWorld d (code i schedule limit) × (all ≡ last_steps i schedule limit)
  at_end =
      let e : limit / 2 + (limit - limit / 2) ≡ limit = omega arith in
      let x = follows_of b.image i b.schedule schedule b half (limit - limit / 2) d all (image_first ∙ image) (lines_first ∙ lines) second (limit / 2) at_half.0 at_half.1 in
      (subst (λ n. HoldsWorld d (code i schedule n)) e x.0, subst (λ n. all ≡ last_steps i schedule n) e x.1)

  pub last_world_is : (last : LastWorld) → last.running ≡ running_by (kernel_of d.tasking).running (next_address (world_of d))
      → last.waiting.items ≡ waiting_from (kernel_of d.tasking).place all 0 (length d.image.tasks) → last.time ≡ (kernel_of d.tasking).now
      → last.middle ≡ (kernel_of b.tasking).now → IsLastWorld i schedule limit last
  last_world_is last running waiting time middle = record {
    running = running ∙ ap (λ (v : CodeWorld). running_by v.kernel.running (next_address v)) (sym at_end.0);
    waiting =
        waiting
        ∙ (ap (λ (v : CodeWorld). waiting_from v.kernel.place all 0 (length d.image.tasks)) (sym at_end.0)
        ∙ (λ j. waiting_from (code i schedule limit).kernel.place (at_end.1 j) 0 (length ((image_second ∙ (image_first ∙ image)) j).tasks)));
    time = time ∙ ap (λ (v : CodeWorld). v.kernel.now) (sym at_end.0);
    middle = middle ∙ ap (λ (v : CodeWorld). v.kernel.now) (sym at_half.0);
  }

-- a vector whose elements were lent and changed has what was left there
pub lent_back : {X : Type 0} (n : ℕ) (left rest : List X) → n ≡ length left → take n (left ++ rest) ≡ left
lent_back n left rest e = ap (λ m. take m (left ++ rest)) e ∙ take-append_seam left rest
