-- A chart so far: which worlds both machines hold, and that the table has the cells of what has happened by then.
use Rattle.std.proofs.Common.{◌≡◌, ◌⊎◌, ◌<◌, ℕ, zero, suc, ◌+◌, ◌-◌, ◌≤◌, ⊎_elim, Bool, true, false, List, [], ◌∷◌, ◌++◌, Option, Some, None, length, length-append, pos, refl, sym, ap, subst, ◌∙◌, arith}
use Rattle.std.proofs.lemmas.Bool.Decides.{leb_tells}
use Rattle.std.specs.Prelude.{nat_lt}
use Rattle.base.specs.declared.schedule.ScheduleLine.{ScheduleLine}
use Rattle.kernel.specs.State as kernel
use Rattle.kernel.specs.State.{Kernel, Line}
use Rattle.image.specs.Code.{CodeWorld, code}
use Rattle.image.specs.Sections.{Sections}
use Rattle.image_laws.specs.Laws.{OutcomeStays}
use Rattle.tasking.specs.Held.{kernel_of}
use Rattle.execution.specs.Held.{HeldWorld, world_of, world_with}
use Rattle.machine.specs.Stands.{EndsBy, HoldsWorld, ShowsText}
use Rattle.machine.specs.declared.reports.Event.{Event}
use Rattle.machine.specs.declared.reports.Event.TheVariants as events
use Rattle.machine.specs.declared.reports.Outcome.{Outcome}
use Rattle.tracing.specs.Calls.{CallTimes, call_times, no_calls, with_call}
use Rattle.tracing.specs.Changes.{next_ahead, starts}
use Rattle.tracing.specs.declared.ahead.Ahead.{Ahead}
use Rattle.tracing.specs.declared.calls.TheConstants.{ACTORS}
use Rattle.charts.specs.Runs.{cells_after, cells_by_step, writes}
use Rattle.charts.specs.Scales.{column}
use Rattle.charts.specs.Signs.{Cells, is_line, nothing_seen, with_events}
use Rattle.charts.specs.Tables.{HoldsCells}
use Rattle.charts.specs.declared.cell.Cell.{Cell}

-- the kernel that is held, beside lines
abbrev beside : List Line → Kernel → Kernel
beside lines k = record k { lines = lines }

-- what a step makes of cells doesn't depend on lines
cells_beside : (scale : ℕ) (times : CallTimes) (a : Ahead) (k l : Kernel) (wrote : Bool) (now : Cells) (xs ys : List Line) (r : Option ℕ) → cells_by_step scale times a (beside xs k) (beside ys l) wrote None r now ≡ cells_by_step scale times a k l wrote None r now
cells_beside scale times a k l wrote now xs ys None = refl
cells_beside scale times a k l wrote now xs ys (Some t) = refl

-- whether a line was written, by what the machine has shown

unchanged : (xs : List Line) → nat_lt (length xs) (length xs) ≡ false
unchanged xs = ⊎_elim (λ h. absurd (omega (arith, h.1))) (λ h. h.0) (leb_tells (suc (length xs)) (length xs))

grown : (xs : List Line) (line : Line) → nat_lt (length xs) (length (xs ++ line ∷ [])) ≡ true
grown xs line =
    let more : length (xs ++ line ∷ []) ≡ length xs + 1 = length-append xs (line ∷ []) in
    ⊎_elim (λ h. h.0) (λ h. absurd (omega (arith, more, h.1))) (leb_tells (suc (length xs)) (length (xs ++ line ∷ [])))

wrote_is : (i : Sections) (k l : Kernel) (shown : Event) → ShowsText i k l shown → writes k l ≡ is_line shown
wrote_is i k l events.Quiet s = ap (λ xs. nat_lt (length k.lines) (length xs)) s.0 ∙ unchanged k.lines
wrote_is i k l (events.Done o) s = ap (λ xs. nat_lt (length k.lines) (length xs)) s.0 ∙ unchanged k.lines
wrote_is i k l (events.Line text) s = ap (λ xs. nat_lt (length k.lines) (length xs)) s.1 ∙ grown k.lines s.0

-- after n steps: both machines hold the world, and the table has its cells
pub record Charted (scale : ℕ) (i : Sections) (schedule : List ScheduleLine) (n : ℕ) (g h : HeldWorld) (times : CallTimes) (table : List Cell) : Type 0 where
  pub image_before : g.image ≡ i
  pub image : h.image ≡ i
  pub schedule_before : g.schedule ≡ schedule
  pub schedule_after : h.schedule ≡ schedule
  pub stands_before : HoldsWorld g (code i schedule n)
  pub stands : HoldsWorld h (code i schedule n)
  pub called : times ≡ call_times i schedule n
  pub charted : HoldsCells table (cells_after scale i schedule n)

-- a machine's step, as its contract has it
abbrev pub StepsBy : HeldWorld → HeldWorld → Event → Type 0
StepsBy h next shown =
    (m : ℕ) → HoldsWorld h (code h.image h.schedule m) → HoldsWorld next (code h.image h.schedule (m + 1)) × ShowsText h.image (code h.image h.schedule m).kernel (code h.image h.schedule (m + 1)).kernel shown

stepped : (i : Sections) (schedule : List ScheduleLine) (n : ℕ) (h next : HeldWorld) (shown : Event) → h.image ≡ i → h.schedule ≡ schedule → StepsBy h next shown → HoldsWorld h (code i schedule n) →
    HoldsWorld next (code i schedule (suc n)) × ShowsText i (code i schedule n).kernel (code i schedule (suc n)).kernel shown
stepped i schedule n h next shown image same steps =
    let e : n + 1 ≡ suc n = omega arith in
    subst (λ m. HoldsWorld h (code i schedule n) → HoldsWorld next (code i schedule m) × ShowsText i (code i schedule n).kernel (code i schedule m).kernel shown) e
    (subst (λ s. HoldsWorld h (code i s n) → HoldsWorld next (code i s (n + 1)) × ShowsText i (code i s n).kernel (code i s (n + 1)).kernel shown) same
    (subst (λ j. HoldsWorld h (code j h.schedule n) → HoldsWorld next (code j h.schedule (n + 1)) × ShowsText j (code j h.schedule n).kernel (code j h.schedule (n + 1)).kernel shown) image (steps n)))

module _ (scale : ℕ) (i : Sections) (schedule : List ScheduleLine) (n : ℕ) (g h : HeldWorld) (times : CallTimes) (table : List Cell) (r : Charted scale i schedule n g h times table) where
  module _ (a : Ahead) (ahead : (lines : List Line) → a ≡ next_ahead g.image g.schedule (world_with lines g)) (next : HeldWorld) (shown : Event) (steps : StepsBy h next shown) (going : (kernel_of h.tasking).outcome ≡ None) where
    -- the cells after the step, by the kernels that are held
    cells_same : let k = kernel_of g.tasking in let l = kernel_of next.tasking in
        cells_after scale i schedule (suc n) ≡ cells_by_step scale times a k l (is_line shown) None k.running (cells_after scale i schedule n)
    cells_same =
        let w = code i schedule n in
        let v = code i schedule (suc n) in
        let xs = w.kernel.lines in
        let ys = v.kernel.lines in
        let k = kernel_of g.tasking in
        let l = kernel_of next.tasking in
        let now = cells_after scale i schedule n in
        let s = stepped i schedule n h next shown r.image r.schedule_after steps r.stands in
        let held : w.kernel ≡ beside xs k = ap (λ (x : CodeWorld). x.kernel) r.stands_before in
        let made : v.kernel ≡ beside ys l = ap (λ (x : CodeWorld). x.kernel) s.0 in
        let none : w.kernel.outcome ≡ None = ap (λ (x : CodeWorld). x.kernel.outcome) r.stands ∙ going in
        let known : next_ahead i schedule w ≡ a =
        ap (next_ahead i schedule) r.stands_before ∙ sym (ahead xs ∙ (λ j. next_ahead (r.image_before j) (r.schedule_before j) (world_with xs g))) in
        let wrote : writes w.kernel v.kernel ≡ is_line shown = wrote_is i w.kernel v.kernel shown s.1 in
        ap (λ c. cells_by_step scale c (next_ahead i schedule w) w.kernel v.kernel (writes w.kernel v.kernel) w.kernel.outcome w.kernel.running now) (sym r.called)
        ∙ ap (λ b. cells_by_step scale times b w.kernel v.kernel (writes w.kernel v.kernel) w.kernel.outcome w.kernel.running now) known
        ∙ ap (λ b. cells_by_step scale times a w.kernel v.kernel b w.kernel.outcome w.kernel.running now) wrote
        ∙ ap (λ x. cells_by_step scale times a w.kernel x (is_line shown) w.kernel.outcome w.kernel.running now) made
        ∙ ap (λ x. cells_by_step scale times a w.kernel (beside ys l) (is_line shown) x w.kernel.running now) none
        ∙ ap (λ (x : Kernel). cells_by_step scale times a x (beside ys l) (is_line shown) None x.running now) held
        ∙ cells_beside scale times a k l (is_line shown) now xs ys k.running

    -- the calls after the step
    next_calls : (later : CallTimes) → later ≡ with_call times (kernel_of g.tasking).now (kernel_of g.tasking).running (kernel_of next.tasking).place → later ≡ call_times i schedule (suc n)
    next_calls later noted =
        let s = stepped i schedule n h next shown r.image r.schedule_after steps r.stands in
        noted
        ∙ ap (λ c. with_call c (kernel_of g.tasking).now (kernel_of g.tasking).running (kernel_of next.tasking).place) r.called
        ∙ ap (λ (x : CodeWorld). with_call (call_times i schedule n) x.kernel.now x.kernel.running (kernel_of next.tasking).place) (sym r.stands_before)
        ∙ ap (λ (x : CodeWorld). with_call (call_times i schedule n) (code i schedule n).kernel.now (code i schedule n).kernel.running x.kernel.place) (sym s.0)

    pub charted_on : (follow : HeldWorld) (said : Event) → StepsBy g follow said → follow.image ≡ g.image → next.image ≡ h.image → follow.schedule ≡ g.schedule → next.schedule ≡ h.schedule →
        (later : CallTimes) → later ≡ with_call times (kernel_of g.tasking).now (kernel_of g.tasking).running (kernel_of next.tasking).place → (new : List Cell) → (wrote : Bool) → wrote ≡ is_line shown →
        (let k = kernel_of g.tasking in let l = kernel_of next.tasking in
        HoldsCells new (cells_by_step scale times a k l wrote None k.running (cells_after scale i schedule n))) →
        Charted scale i schedule (n + 1) follow next later new
    charted_on follow said follows image_g image_h schedule_g schedule_h later noted new wrote told is =
        let k = kernel_of g.tasking in
        let l = kernel_of next.tasking in
        let at : n + 1 ≡ suc n = omega arith in
        subst (λ x. Charted scale i schedule x follow next later new) (sym at)
        (record {
          image_before = image_g ∙ r.image_before;
          image = image_h ∙ r.image;
          schedule_before = schedule_g ∙ r.schedule_before;
          schedule_after = schedule_h ∙ r.schedule_after;
          stands_before = (stepped i schedule n g follow said r.image_before r.schedule_before follows r.stands_before).0;
          stands = (stepped i schedule n h next shown r.image r.schedule_after steps r.stands).0;
          called = next_calls later noted;
          charted = subst (λ (now : Cells). HoldsCells new now) (sym cells_same) (subst (λ b. HoldsCells new (cells_by_step scale times a k l b None k.running (cells_after scale i schedule n))) told is);
        })

-- there is one time of a call for each actor
pub one_each : (n : ℕ) → length (no_calls n) ≡ n
one_each zero = refl
one_each (suc n) =
    let more : n + 1 ≡ suc n = omega arith in
    length-append (no_calls n) (pos 0 ∷ []) ∙ ap (λ m. m + 1) (one_each n) ∙ more

-- the start
pub charted_start : (scale : ℕ) (g h : HeldWorld) → g.image ≡ h.image → g.schedule ≡ h.schedule → HoldsWorld g (code g.image g.schedule 0) → HoldsWorld h (code h.image h.schedule 0) → (times : CallTimes) → times ≡ no_calls ACTORS → (table : List Cell) →
    (let k = kernel_of h.tasking in HoldsCells table (with_events (column scale k.now) (starts k) nothing_seen)) → Charted scale h.image h.schedule 0 g h times table
charted_start scale g h same there stands_g stands_h times none table is =
    record {
      image_before = same;
      image = refl;
      schedule_before = there;
      schedule_after = refl;
      stands_before = subst (λ x. HoldsWorld g (code h.image x 0)) there (subst (λ x. HoldsWorld g (code x g.schedule 0)) same stands_g);
      stands = stands_h;
      called = none;
      charted = subst (λ (w : CodeWorld). HoldsCells table (with_events (column scale w.kernel.now) (starts w.kernel) nothing_seen)) (sym stands_h) is;
    }

-- after an outcome nothing is to be seen
module _ (stays : OutcomeStays) (scale : ℕ) (i : Sections) (schedule : List ScheduleLine) (n : ℕ) (o : kernel.Outcome) (is : (code i schedule n).kernel.outcome ≡ Some o) where
  still : (j : ℕ) → (code i schedule (n + j)).kernel.outcome ≡ Some o
  still j = ap (λ (w : CodeWorld). w.kernel.outcome) (stays i schedule n j o is) ∙ is

  cells_stay : (j : ℕ) → cells_after scale i schedule (n + j) ≡ cells_after scale i schedule n
  cells_stay zero = let e : n + zero ≡ n = omega arith in ap (cells_after scale i schedule) e
  cells_stay (suc j) =
      let e : n + suc j ≡ suc (n + j) = omega arith in
      let w = code i schedule (n + j) in
      let l = (code i schedule (suc (n + j))).kernel in
      ap (cells_after scale i schedule) e
      ∙ (ap (λ x. cells_by_step scale (call_times i schedule (n + j)) (next_ahead i schedule w) w.kernel l (writes w.kernel l) x w.kernel.running (cells_after scale i schedule (n + j))) (still j)
      ∙ cells_stay j)

-- the cells up to the outcome, or at the limit, are those at the limit
pub record Over (scale : ℕ) (i : Sections) (schedule : List ScheduleLine) (limit : ℕ) (o : Outcome) (table : List Cell) : Type 0 where
  pub charted : HoldsCells table (cells_after scale i schedule limit)
  pub ends : EndsBy o (code i schedule limit)

pub charted_over : OutcomeStays → (scale : ℕ) (i : Sections) (schedule : List ScheduleLine) (n limit : ℕ) (g h : HeldWorld) (times : CallTimes) (table : List Cell) → Charted scale i schedule n g h times table → n ≤ limit →
    (n ≡ limit) ⊎ ((e : kernel.Outcome) × ((kernel_of h.tasking).outcome ≡ Some e)) → (o : Outcome) → EndsBy o (world_of h) → Over scale i schedule limit o table
charted_over stays scale i schedule n limit g h times table r le why o ends =
    let at : n + (limit - n) ≡ limit = omega (arith, le) in
    let here : EndsBy o (code i schedule n) = record { outcome = ap (λ (w : CodeWorld). w.kernel.outcome) r.stands ∙ ends.outcome; time = ap (λ (w : CodeWorld). w.kernel.now) r.stands ∙ ends.time } in
    let over : (e : kernel.Outcome) → (kernel_of h.tasking).outcome ≡ Some e → (code i schedule n).kernel.outcome ≡ Some e = λ e is. ap (λ (w : CodeWorld). w.kernel.outcome) r.stands ∙ is in
    ⊎_elim
    (λ (e : n ≡ limit). record { charted = subst (λ x. HoldsCells table (cells_after scale i schedule x)) e r.charted; ends = subst (λ x. EndsBy o (code i schedule x)) e here })
    (λ (q : (e : kernel.Outcome) × ((kernel_of h.tasking).outcome ≡ Some e)). record {
      charted = subst (λ x. HoldsCells table (cells_after scale i schedule x)) at
          (subst (λ (now : Cells). HoldsCells table now) (sym (cells_stay stays scale i schedule n q.0 (over q.0 q.1) (limit - n))) r.charted);
      ends = subst (λ x. EndsBy o (code i schedule x)) at (subst (EndsBy o) (sym (stays i schedule n (limit - n) q.0 (over q.0 q.1))) here);
    })
    why
