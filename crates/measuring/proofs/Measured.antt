-- Measures so far: which worlds both machines hold, and that what has happened by then is measured.
use Rattle.std.proofs.Common.{◌≡◌, ◌⊎◌, ℕ, zero, suc, ◌+◌, ◌-◌, ◌≤◌, ⊎_elim, List, [], ◌∷◌, pos, length-append, Option, Some, None, length, refl, sym, ap, subst, ◌∙◌, arith}
use Rattle.base.specs.declared.schedule.ScheduleLine.{ScheduleLine}
use Rattle.kernel.specs.State as kernel
use Rattle.kernel.specs.State.{Kernel, Line}
use Rattle.image.specs.Code.{CodeWorld, code}
use Rattle.image.specs.Sections.{Sections}
use Rattle.image_laws.specs.Laws.{OutcomeStays}
use Rattle.tasking.specs.Held.{kernel_of}
use Rattle.execution.specs.Ahead.{next_frames}
use Rattle.execution.specs.Held.{HeldWorld, world_of, world_with}
use Rattle.execution.specs.declared.frame_use.FrameUse.{FrameUse}
use Rattle.machine.specs.Stands.{EndsBy, HoldsWorld, ShowsText}
use Rattle.machine.specs.declared.reports.Event.{Event}
use Rattle.machine.specs.declared.reports.Outcome.{Outcome}
use Rattle.tracing.specs.Calls.{CallTimes, call_times, no_calls, with_call}
use Rattle.tracing.specs.Changes.{next_ahead, starts}
use Rattle.tracing.specs.declared.ahead.Ahead.{Ahead}
use Rattle.tracing.specs.declared.calls.TheConstants.{ACTORS}
use Rattle.measuring.specs.Measures.{no_steps}
use Rattle.measuring.specs.Runs.{called_by_step, calls, counted_by_step, instants, stories, happened_by_step, usages, used_by_step}
use Rattle.measuring.specs.Stories.{ObjectCalls, Stories, Usages, not_called, not_used, nothing_happened, with_events}
use Rattle.measuring.specs.Tables.{AreMeasured}
use Rattle.measuring.specs.declared.counting.Measures.{Measures}
use Rattle.measuring.specs.declared.instants.Instants.{Instants}

-- the kernel that is held, beside lines
abbrev beside : List Line → Kernel → Kernel
beside lines k = record k { lines = lines }

-- what a step makes of what has happened doesn't depend on lines
happened_beside : (tasks : ℕ) (times : CallTimes) (a : Ahead) (u : Option FrameUse) (k l : Kernel) (n : ℕ) (now : Stories) (xs ys : List Line) (r : Option ℕ) → happened_by_step tasks times a u (beside xs k) (beside ys l) n None r now ≡ happened_by_step tasks times a u k l n None r now
happened_beside tasks times a u k l n now xs ys None = refl
happened_beside tasks times a u k l n now xs ys (Some t) = refl

called_beside : (times : CallTimes) (a : Ahead) (k l : Kernel) (now : ObjectCalls) (xs ys : List Line) (r : Option ℕ) → called_by_step times a (beside xs k) (beside ys l) None r now ≡ called_by_step times a k l None r now
called_beside times a k l now xs ys None = refl
called_beside times a k l now xs ys (Some t) = refl

used_beside : (times : CallTimes) (a : Ahead) (k l : Kernel) (now : Usages) (xs ys : List Line) (r : Option ℕ) → used_by_step times a (beside xs k) (beside ys l) None r now ≡ used_by_step times a k l None r now
used_beside times a k l now xs ys None = refl
used_beside times a k l now xs ys (Some t) = refl

counted_beside : (k l : Kernel) (now : Instants) (xs ys : List Line) (r : Option ℕ) → counted_by_step (beside xs k) (beside ys l) None r now ≡ counted_by_step k l None r now
counted_beside k l now xs ys None = refl
counted_beside k l now xs ys (Some t) = refl

-- what has happened in n steps is measured
abbrev pub IsMeasured : Sections → List ScheduleLine → ℕ → Measures → Type 0
IsMeasured i schedule n m = AreMeasured m (stories i schedule n) (calls i schedule n) (usages i schedule n) (instants i schedule n)

-- after n steps: both machines hold the world, and it is measured
pub record Measured (i : Sections) (schedule : List ScheduleLine) (n : ℕ) (g h : HeldWorld) (times : CallTimes) (m : Measures) : Type 0 where
  pub image_before : g.image ≡ i
  pub image : h.image ≡ i
  pub schedule_before : g.schedule ≡ schedule
  pub schedule_after : h.schedule ≡ schedule
  pub stands_before : HoldsWorld g (code i schedule n)
  pub stands : HoldsWorld h (code i schedule n)
  pub called : times ≡ call_times i schedule n
  pub measured : IsMeasured i schedule n m

-- a machine's step, as its contract has it
abbrev pub StepsBy : HeldWorld → HeldWorld → Event → Type 0
StepsBy h next shown =
    (m : ℕ) → HoldsWorld h (code h.image h.schedule m) → HoldsWorld next (code h.image h.schedule (m + 1)) × ShowsText h.image (code h.image h.schedule m).kernel (code h.image h.schedule (m + 1)).kernel shown

stepped : (i : Sections) (schedule : List ScheduleLine) (n : ℕ) (h next : HeldWorld) (shown : Event) → h.image ≡ i → h.schedule ≡ schedule → StepsBy h next shown → HoldsWorld h (code i schedule n) → HoldsWorld next (code i schedule (suc n))
stepped i schedule n h next shown image same steps =
    let e : n + 1 ≡ suc n = omega arith in
    subst (λ m. HoldsWorld h (code i schedule n) → HoldsWorld next (code i schedule m)) e
    (subst (λ s. HoldsWorld h (code i s n) → HoldsWorld next (code i s (n + 1))) same
    (subst (λ j. HoldsWorld h (code j h.schedule n) → HoldsWorld next (code j h.schedule (n + 1))) image (λ holds. (steps n holds).0)))

module _ (i : Sections) (schedule : List ScheduleLine) (n : ℕ) (g h : HeldWorld) (times : CallTimes) (m : Measures) (r : Measured i schedule n g h times m) where
  module _ (a : Ahead) (ahead : (lines : List Line) → a ≡ next_ahead g.image g.schedule (world_with lines g)) (u : Option FrameUse) (frames : u ≡ next_frames (world_of g)) (next : HeldWorld) (shown : Event) (steps : StepsBy h next shown) (going : (kernel_of h.tasking).outcome ≡ None) where
    -- what depends on the step, but not on lines, is the same of the world's kernels and of those that are held
    held_same : {Y : Type 0} (F : CallTimes → Ahead → Kernel → Kernel → Option kernel.Outcome → Option ℕ → Y)
        → ((xs ys : List Line) (t : Option ℕ) → F times a (beside xs (kernel_of g.tasking)) (beside ys (kernel_of next.tasking)) None t ≡ F times a (kernel_of g.tasking) (kernel_of next.tasking) None t)
        → let w = code i schedule n in
        F (call_times i schedule n) (next_ahead i schedule w) w.kernel (code i schedule (suc n)).kernel w.kernel.outcome w.kernel.running
        ≡ F times a (kernel_of g.tasking) (kernel_of next.tasking) None (kernel_of g.tasking).running
    held_same F same =
        let w = code i schedule n in
        let v = code i schedule (suc n) in
        let xs = w.kernel.lines in
        let ys = v.kernel.lines in
        let k = kernel_of g.tasking in
        let l = kernel_of next.tasking in
        let held : w.kernel ≡ beside xs k = ap (λ (x : CodeWorld). x.kernel) r.stands_before in
        let made : v.kernel ≡ beside ys l = ap (λ (x : CodeWorld). x.kernel) (stepped i schedule n h next shown r.image r.schedule_after steps r.stands) in
        let none : w.kernel.outcome ≡ None = ap (λ (x : CodeWorld). x.kernel.outcome) r.stands ∙ going in
        let known : next_ahead i schedule w ≡ a =
        ap (next_ahead i schedule) r.stands_before ∙ sym (ahead xs ∙ (λ j. next_ahead (r.image_before j) (r.schedule_before j) (world_with xs g))) in
        ap (λ c. F c (next_ahead i schedule w) w.kernel v.kernel w.kernel.outcome w.kernel.running) (sym r.called)
        ∙ ap (λ b. F times b w.kernel v.kernel w.kernel.outcome w.kernel.running) known
        ∙ ap (λ x. F times a w.kernel x w.kernel.outcome w.kernel.running) made
        ∙ ap (λ x. F times a w.kernel (beside ys l) x w.kernel.running) none
        ∙ ap (λ (x : Kernel). F times a x (beside ys l) None x.running) held
        ∙ same xs ys k.running

    -- what the step has added is measured
    next_measured : (new : Measures) → let k = kernel_of g.tasking in let l = kernel_of next.tasking in
        AreMeasured new (happened_by_step (length i.tasks) times a u k l (suc n) None k.running (stories i schedule n)) (called_by_step times a k l None k.running (calls i schedule n)) (used_by_step times a k l None k.running (usages i schedule n)) (counted_by_step k l None k.running (instants i schedule n))
        → IsMeasured i schedule (suc n) new
    next_measured new are =
        let k = kernel_of g.tasking in
        let l = kernel_of next.tasking in
        let w = code i schedule n in
        let used : next_frames w ≡ u = ap next_frames r.stands_before ∙ sym frames in
        let happened_same =
        ap (λ v. happened_by_step (length i.tasks) (call_times i schedule n) (next_ahead i schedule w) v w.kernel (code i schedule (suc n)).kernel (suc n) w.kernel.outcome w.kernel.running (stories i schedule n)) used
        ∙ held_same (λ c b x y o t. happened_by_step (length i.tasks) c b u x y (suc n) o t (stories i schedule n)) (happened_beside (length i.tasks) times a u k l (suc n) (stories i schedule n)) in
        let called_same = held_same (λ c b x y o t. called_by_step c b x y o t (calls i schedule n)) (called_beside times a k l (calls i schedule n)) in
        let counted_same = held_same (λ c b x y o t. counted_by_step x y o t (instants i schedule n)) (counted_beside k l (instants i schedule n)) in
        let used_same = held_same (λ c b x y o t. used_by_step c b x y o t (usages i schedule n)) (used_beside times a k l (usages i schedule n)) in
        subst (λ (now : Stories). AreMeasured new now (calls i schedule (suc n)) (usages i schedule (suc n)) (instants i schedule (suc n))) (sym happened_same)
        (subst (λ (now : ObjectCalls). AreMeasured new (happened_by_step (length i.tasks) times a u k l (suc n) None k.running (stories i schedule n)) now (usages i schedule (suc n)) (instants i schedule (suc n))) (sym called_same)
        (subst (λ (now : Usages). AreMeasured new (happened_by_step (length i.tasks) times a u k l (suc n) None k.running (stories i schedule n)) (called_by_step times a k l None k.running (calls i schedule n)) now (instants i schedule (suc n))) (sym used_same)
        (subst (λ (now : Instants). AreMeasured new (happened_by_step (length i.tasks) times a u k l (suc n) None k.running (stories i schedule n)) (called_by_step times a k l None k.running (calls i schedule n)) (used_by_step times a k l None k.running (usages i schedule n)) now) (sym counted_same) are)))

    -- the calls after the step
    next_calls : (later : CallTimes) → later ≡ with_call times (kernel_of g.tasking).now (kernel_of g.tasking).running (kernel_of next.tasking).place → later ≡ call_times i schedule (suc n)
    next_calls later noted =
        let s = stepped i schedule n h next shown r.image r.schedule_after steps r.stands in
        noted
        ∙ ap (λ c. with_call c (kernel_of g.tasking).now (kernel_of g.tasking).running (kernel_of next.tasking).place) r.called
        ∙ ap (λ (x : CodeWorld). with_call (call_times i schedule n) x.kernel.now x.kernel.running (kernel_of next.tasking).place) (sym r.stands_before)
        ∙ ap (λ (x : CodeWorld). with_call (call_times i schedule n) (code i schedule n).kernel.now (code i schedule n).kernel.running x.kernel.place) (sym s)

    pub measured_on : (follow : HeldWorld) (said : Event) → StepsBy g follow said → follow.image ≡ g.image → next.image ≡ h.image → follow.schedule ≡ g.schedule → next.schedule ≡ h.schedule →
        (later : CallTimes) → later ≡ with_call times (kernel_of g.tasking).now (kernel_of g.tasking).running (kernel_of next.tasking).place → (new : Measures) →
        (let k = kernel_of g.tasking in let l = kernel_of next.tasking in
        AreMeasured new (happened_by_step (length next.image.tasks) times a u k l (n + 1) None k.running (stories i schedule n)) (called_by_step times a k l None k.running (calls i schedule n)) (used_by_step times a k l None k.running (usages i schedule n)) (counted_by_step k l None k.running (instants i schedule n))) →
        Measured i schedule (n + 1) follow next later new
    measured_on follow said follows image_g image_h schedule_g schedule_h later noted new are =
        let k = kernel_of g.tasking in
        let l = kernel_of next.tasking in
        let at : n + 1 ≡ suc n = omega arith in
        let tasks : length next.image.tasks ≡ length i.tasks = ap (λ (x : Sections). length x.tasks) (image_h ∙ r.image) in
        let is = subst (λ p. AreMeasured new (happened_by_step p times a u k l (suc n) None k.running (stories i schedule n)) (called_by_step times a k l None k.running (calls i schedule n)) (used_by_step times a k l None k.running (usages i schedule n)) (counted_by_step k l None k.running (instants i schedule n))) tasks
        (subst (λ x. AreMeasured new (happened_by_step (length next.image.tasks) times a u k l x None k.running (stories i schedule n)) (called_by_step times a k l None k.running (calls i schedule n)) (used_by_step times a k l None k.running (usages i schedule n)) (counted_by_step k l None k.running (instants i schedule n))) at are) in
        subst (λ x. Measured i schedule x follow next later new) (sym at)
        (record {
          image_before = image_g ∙ r.image_before;
          image = image_h ∙ r.image;
          schedule_before = schedule_g ∙ r.schedule_before;
          schedule_after = schedule_h ∙ r.schedule_after;
          stands_before = stepped i schedule n g follow said r.image_before r.schedule_before follows r.stands_before;
          stands = stepped i schedule n h next shown r.image r.schedule_after steps r.stands;
          called = next_calls later noted;
          measured = next_measured new is;
        })

-- the start
pub measured_start : (g h : HeldWorld) → g.image ≡ h.image → g.schedule ≡ h.schedule → HoldsWorld g (code g.image g.schedule 0) → HoldsWorld h (code h.image h.schedule 0) → (times : CallTimes) → times ≡ no_calls ACTORS → (m : Measures) →
    (let k = kernel_of h.tasking in AreMeasured m (with_events (length h.image.tasks) k.now 0 (starts k) nothing_happened) not_called not_used no_steps) → Measured h.image h.schedule 0 g h times m
measured_start g h same there stands_g stands_h times none m are =
    record {
      image_before = same;
      image = refl;
      schedule_before = there;
      schedule_after = refl;
      stands_before = subst (λ x. HoldsWorld g (code h.image x 0)) there (subst (λ x. HoldsWorld g (code x g.schedule 0)) same stands_g);
      stands = stands_h;
      called = none;
      measured = subst (λ (w : CodeWorld). AreMeasured m (with_events (length h.image.tasks) w.kernel.now 0 (starts w.kernel) nothing_happened) not_called not_used no_steps) (sym stands_h) are;
    }

-- after an outcome nothing happens
module _ (stays : OutcomeStays) (i : Sections) (schedule : List ScheduleLine) (n : ℕ) (o : kernel.Outcome) (is : (code i schedule n).kernel.outcome ≡ Some o) where
  still : (j : ℕ) → (code i schedule (n + j)).kernel.outcome ≡ Some o
  still j = ap (λ (w : CodeWorld). w.kernel.outcome) (stays i schedule n j o is) ∙ is

  stories_stay : (j : ℕ) → stories i schedule (n + j) ≡ stories i schedule n
  stories_stay zero = let e : n + zero ≡ n = omega arith in ap (stories i schedule) e
  stories_stay (suc j) =
      let e : n + suc j ≡ suc (n + j) = omega arith in
      let w = code i schedule (n + j) in
      let l = (code i schedule (suc (n + j))).kernel in
      ap (stories i schedule) e
      ∙ (ap (λ x. happened_by_step (length i.tasks) (call_times i schedule (n + j)) (next_ahead i schedule w) (next_frames w) w.kernel l (suc (n + j)) x w.kernel.running (stories i schedule (n + j))) (still j) ∙ stories_stay j)

  calls_stay : (j : ℕ) → calls i schedule (n + j) ≡ calls i schedule n
  calls_stay zero = let e : n + zero ≡ n = omega arith in ap (calls i schedule) e
  calls_stay (suc j) =
      let e : n + suc j ≡ suc (n + j) = omega arith in
      let w = code i schedule (n + j) in
      let l = (code i schedule (suc (n + j))).kernel in
      ap (calls i schedule) e
      ∙ (ap (λ x. called_by_step (call_times i schedule (n + j)) (next_ahead i schedule w) w.kernel l x w.kernel.running (calls i schedule (n + j))) (still j) ∙ calls_stay j)

  usages_stay : (j : ℕ) → usages i schedule (n + j) ≡ usages i schedule n
  usages_stay zero = let e : n + zero ≡ n = omega arith in ap (usages i schedule) e
  usages_stay (suc j) =
      let e : n + suc j ≡ suc (n + j) = omega arith in
      let w = code i schedule (n + j) in
      let l = (code i schedule (suc (n + j))).kernel in
      ap (usages i schedule) e
      ∙ (ap (λ x. used_by_step (call_times i schedule (n + j)) (next_ahead i schedule w) w.kernel l x w.kernel.running (usages i schedule (n + j))) (still j) ∙ usages_stay j)

  instants_stay : (j : ℕ) → instants i schedule (n + j) ≡ instants i schedule n
  instants_stay zero = let e : n + zero ≡ n = omega arith in ap (instants i schedule) e
  instants_stay (suc j) =
      let e : n + suc j ≡ suc (n + j) = omega arith in
      let w = code i schedule (n + j) in
      let l = (code i schedule (suc (n + j))).kernel in
      ap (instants i schedule) e ∙ (ap (λ x. counted_by_step w.kernel l x w.kernel.running (instants i schedule (n + j))) (still j) ∙ instants_stay j)

  measured_still : (j : ℕ) (m : Measures) → IsMeasured i schedule n m → IsMeasured i schedule (n + j) m
  measured_still j m are =
      subst (λ (now : Stories). AreMeasured m now (calls i schedule (n + j)) (usages i schedule (n + j)) (instants i schedule (n + j))) (sym (stories_stay j))
      (subst (λ (now : ObjectCalls). AreMeasured m (stories i schedule n) now (usages i schedule (n + j)) (instants i schedule (n + j))) (sym (calls_stay j))
      (subst (λ (now : Usages). AreMeasured m (stories i schedule n) (calls i schedule n) now (instants i schedule (n + j))) (sym (usages_stay j))
      (subst (λ (now : Instants). AreMeasured m (stories i schedule n) (calls i schedule n) (usages i schedule n) now) (sym (instants_stay j)) are)))

-- there is one time of a call for each actor
pub one_each : (n : ℕ) → length (no_calls n) ≡ n
one_each zero = refl
one_each (suc n) =
    let more : n + 1 ≡ suc n = omega arith in
    length-append (no_calls n) (pos 0 ∷ []) ∙ ap (λ m. m + 1) (one_each n) ∙ more

-- what is measured up to the outcome, or at the limit, is what is measured at the limit
pub record Over (i : Sections) (schedule : List ScheduleLine) (limit : ℕ) (o : Outcome) (m : Measures) : Type 0 where
  pub measured : IsMeasured i schedule limit m
  pub ends : EndsBy o (code i schedule limit)

pub measured_over : OutcomeStays → (i : Sections) (schedule : List ScheduleLine) (n limit : ℕ) (g h : HeldWorld) (times : CallTimes) (m : Measures) → Measured i schedule n g h times m → n ≤ limit →
    (n ≡ limit) ⊎ ((e : kernel.Outcome) × ((kernel_of h.tasking).outcome ≡ Some e)) → (o : Outcome) → EndsBy o (world_of h) → Over i schedule limit o m
measured_over stays i schedule n limit g h times m r le why o ends =
    let at : n + (limit - n) ≡ limit = omega (arith, le) in
    let here : EndsBy o (code i schedule n) = record { outcome = ap (λ (w : CodeWorld). w.kernel.outcome) r.stands ∙ ends.outcome; time = ap (λ (w : CodeWorld). w.kernel.now) r.stands ∙ ends.time } in
    let over : (e : kernel.Outcome) → (kernel_of h.tasking).outcome ≡ Some e → (code i schedule n).kernel.outcome ≡ Some e = λ e is. ap (λ (w : CodeWorld). w.kernel.outcome) r.stands ∙ is in
    ⊎_elim
    (λ (e : n ≡ limit). record { measured = subst (λ x. IsMeasured i schedule x m) e r.measured; ends = subst (λ x. EndsBy o (code i schedule x)) e here })
    (λ (q : (e : kernel.Outcome) × ((kernel_of h.tasking).outcome ≡ Some e)). record {
      measured = subst (λ x. IsMeasured i schedule x m) at (measured_still stays i schedule n q.0 (over q.0 q.1) (limit - n) m r.measured);
      ends = subst (λ x. EndsBy o (code i schedule x)) at (subst (EndsBy o) (sym (stays i schedule n (limit - n) q.0 (over q.0 q.1))) here);
    })
    why
