-- A trace so far: where both machines stand, and what has been written.
use Rattle.std.proofs.Common.{◌≡◌, ◌⊎◌, ℕ, suc, ◌+◌, ◌-◌, ◌≤◌, ⊎_elim, List, [], ◌∷◌, ◌++◌, ℤ, Option, Some, None, codes, drop, length, refl, sym, ap, subst, ◌∙◌, arith, append-nil}
use Rattle.std.proofs.Math.Seq.{drop-length}
use Rattle.std.specs.Io.KnownBytes.{Appends}
use Rattle.base.specs.declared.schedule.ScheduleLine.{ScheduleLine}
use Rattle.kernel.specs.State as kernel
use Rattle.kernel.specs.State.{Kernel, Line}
use Rattle.kernel.specs.Text.{line_text}
use Rattle.image.specs.Code.{CodeWorld, code}
use Rattle.image.specs.Sections.{Sections}
use Rattle.image.specs.Texts.{names_of}
use Rattle.image_laws.specs.Laws.{OutcomeStays}
use Rattle.tasking.specs.Held.{kernel_of}
use Rattle.execution.specs.Held.{HeldWorld, world_of, world_with}
use Rattle.machine.specs.Bounds.{cut_line}
use Rattle.machine.specs.Outcomes.{ending_of, time_of}
use Rattle.machine.specs.Stands.{EndsBy, HoldsWorld, ShowsText}
use Rattle.machine.specs.Written.{AppendsBeginning}
use Rattle.machine.specs.declared.bound.Bound.{Bound}
use Rattle.machine.specs.declared.reports.Event.{Event}
use Rattle.machine.specs.declared.reports.Event.TheVariants as events
use Rattle.machine.specs.declared.reports.Outcome.{Outcome}
use Rattle.machine.proofs.Runs.{appends_two, beginning_after, beginning_of_more}
use Rattle.tracing.specs.Calls.{CallTimes, call_times, no_calls, with_call}
use Rattle.tracing.specs.declared.calls.TheConstants.{ACTORS}
use Rattle.tracing.specs.Changes.{next_ahead, since_clock, starts, until_clock}
use Rattle.tracing.specs.declared.ahead.Ahead.{Ahead}
use Rattle.tracing.specs.Known.{Known}
use Rattle.tracing.specs.Traces.{came, heading, lines_come, place_text, row_names, rows, rows_of_step, rows_text, shown, trace_text, without_end, wrote}
use Rattle.tracing.specs.Writing.{line_text_of, start_text, step_text}
use Rattle.tracing.specs.declared.event.Event as change
use Rattle.tracing.proofs.Rows.{after_length, rows_grow, rows_stay, rows_text-append}

-- the kernel that is held, beside lines
abbrev beside : List Line → Kernel → Kernel
beside lines k = record k { lines = lines }

module _ (i : Sections) (objects : List (List ℕ)) (known : Known) (given : List ScheduleLine) (calls : CallTimes) (a : Ahead) (k l : Kernel) (xs ys : List Line) (told : Event) (shows : ShowsText i (beside xs k) (beside ys l) told) (n : ℕ) where
  no_line : (t : ℕ) → ys ≡ xs → rows_text (row_names i objects known) (wrote k.now n t a.address (drop (length xs) ys)) ≡ []
  no_line t same = ap (λ v. rows_text (row_names i objects known) (wrote k.now n t a.address v)) (ap (drop (length xs)) same ∙ drop-length xs)

  -- the row of a line, by what the machine has told
  line_is : (t : ℕ) (e : Event) → ShowsText i (beside xs k) (beside ys l) e → rows_text (row_names i objects known) (wrote k.now n t a.address (drop (length xs) ys)) ≡ line_text_of (row_names i objects known) k.now n t a.address e
  line_is t events.Quiet s = no_line t s.0
  line_is t (events.Done o) s = no_line t s.0
  line_is t (events.Line text) s =
      let names = row_names i objects known in
      let head = heading k.now n (names.line.task t) in
      let one : drop (length xs) ys ≡ s.0 ∷ [] = ap (drop (length xs)) s.1 ∙ after_length xs (s.0 ∷ []) in
      let end = place_text names a.address ++ codes "\n" in
      ap (λ v. rows_text names (wrote k.now n t a.address v)) one
      ∙ append-nil ((head ++ codes "writes ") ++ without_end (line_text names.line s.0) ++ end)
      ∙ ap (λ v. (head ++ codes "writes ") ++ without_end v ++ end) (sym s.2)

  -- the rows of a step without outcome, by what the machine has told and what both hold
  step_is : (r : Option ℕ) → rows_text (row_names i objects known) (rows_of_step given calls a (beside xs k) (beside ys l) n None r) ≡ step_text (row_names i objects known) given calls a k l n told r
  step_is None = refl
  step_is (Some t) =
      let names = row_names i objects known in
      let lines = wrote k.now n t a.address (drop (length xs) ys) in
      let until = shown k.now n (until_clock calls a k l t) in
      let inputs = came n (lines_come (Some k.now) l.now given) in
      let since = shown l.now n (since_clock k l t) in
      rows_text-append names (lines ++ until ++ inputs) since
      ∙ ap (λ v. v ++ rows_text names since) (rows_text-append names (lines ++ until) inputs)
      ∙ ap (λ v. v ++ rows_text names inputs ++ rows_text names since) (rows_text-append names lines until)
      ∙ ap (λ v. v ++ rows_text names until ++ rows_text names inputs ++ rows_text names since) (line_is t told shows)

-- the parts of a step's text, by what is written
pub step_parts : (i : Sections) (objects : List (List ℕ)) (known : Known) (given : List ScheduleLine) (calls : CallTimes) (a : Ahead) (k l : Kernel) (n : ℕ) (told : Event) (ran : ℕ) (running : Option ℕ) (now from to later : ℤ) (until since : List change.Event) → running ≡ Some ran → now ≡ k.now → from ≡ k.now → to ≡ l.now → later ≡ l.now →
    until ≡ until_clock calls a k l ran → since ≡ since_clock k l ran →
    let names = row_names i objects known in
    step_text names given calls a k l n told running
    ≡ ((line_text_of names now n ran a.address told ++ rows_text names (shown now n until)) ++ rows_text names (came n (lines_come (Some from) to given))) ++ rows_text names (shown later n since)
step_parts i objects known given calls a k l n told ran running now from to later until since runs is_now is_from is_to is_later is_until is_since =
    let names = row_names i objects known in
    ap (step_text names given calls a k l n told) runs
    ∙ sym (λ j. ((line_text_of names (is_now j) n ran a.address told ++ rows_text names (shown (is_now j) n (is_until j)))
    ++ rows_text names (came n (lines_come (Some (is_from j)) (is_to j) given))) ++ rows_text names (shown (is_later j) n (is_since j)))

-- those of the text of the start
pub start_parts : (i : Sections) (objects : List (List ℕ)) (known : Known) (given : List ScheduleLine) (k : Kernel) (to now : ℤ) (events : List change.Event) → to ≡ k.now → now ≡ k.now → events ≡ starts k →
    let names = row_names i objects known in
    start_text names given k ≡ rows_text names (came 0 (lines_come None to given)) ++ rows_text names (shown now 0 events)
start_parts i objects known given k to now events is_to is_now are =
    let names = row_names i objects known in
    sym (λ j. rows_text names (came 0 (lines_come None (is_to j) given)) ++ rows_text names (shown (is_now j) 0 (are j)))

-- after n steps: both machines stand for the world, and its rows are written
pub record Traced (i : Sections) (objects : List (List ℕ)) (known : Known) (schedule : List ScheduleLine) (n : ℕ) (g h : HeldWorld) (calls : CallTimes) (old new : Option (List ℕ)) (before after : ℕ) : Type 0 where
  pub image_before : g.image ≡ i
  pub image : h.image ≡ i
  pub schedule_before : g.schedule ≡ schedule
  pub schedule_after : h.schedule ≡ schedule
  pub stands_before : HoldsWorld g (code i schedule n)
  pub stands : HoldsWorld h (code i schedule n)
  pub called : calls ≡ call_times i schedule n
  pub written : Appends old new (rows_text (row_names i objects known) (rows i schedule n))
  pub kept : after ≡ before

-- a machine's step, as its contract has it
abbrev pub StepsBy : HeldWorld → HeldWorld → Event → Type 0
StepsBy h next told =
    (m : ℕ) → HoldsWorld h (code h.image h.schedule m) → HoldsWorld next (code h.image h.schedule (m + 1)) × ShowsText h.image (code h.image h.schedule m).kernel (code h.image h.schedule (m + 1)).kernel told

stepped : (i : Sections) (schedule : List ScheduleLine) (n : ℕ) (h next : HeldWorld) (told : Event) → h.image ≡ i → h.schedule ≡ schedule → StepsBy h next told → HoldsWorld h (code i schedule n) →
    HoldsWorld next (code i schedule (suc n)) × ShowsText i (code i schedule n).kernel (code i schedule (suc n)).kernel told
stepped i schedule n h next told image same steps =
    let e : n + 1 ≡ suc n = omega arith in
    subst (λ m. HoldsWorld h (code i schedule n) → HoldsWorld next (code i schedule m) × ShowsText i (code i schedule n).kernel (code i schedule m).kernel told) e
    (subst (λ s. HoldsWorld h (code i s n) → HoldsWorld next (code i s (n + 1)) × ShowsText i (code i s n).kernel (code i s (n + 1)).kernel told) same
    (subst (λ j. HoldsWorld h (code j h.schedule n) → HoldsWorld next (code j h.schedule (n + 1)) × ShowsText j (code j h.schedule n).kernel (code j h.schedule (n + 1)).kernel told) image (steps n)))

module _ (i : Sections) (objects : List (List ℕ)) (known : Known) (schedule : List ScheduleLine) (n : ℕ) (g h : HeldWorld) (calls : CallTimes) (old new : Option (List ℕ)) (before after : ℕ) (r : Traced i objects known schedule n g h calls old new before after) where
  module _ (raises : Ahead) (ahead : (lines : List Line) → raises ≡ next_ahead g.image g.schedule (world_with lines g)) (next : HeldWorld) (told : Event) (steps : StepsBy h next told) (going : (kernel_of h.tasking).outcome ≡ None) (later : Option (List ℕ)) where
    abbrev pub text_by : List ScheduleLine → ℕ → List ℕ
    text_by given m = step_text (row_names i objects known) given calls raises (kernel_of g.tasking) (kernel_of next.tasking) m told (kernel_of g.tasking).running

    abbrev pub text : ℕ → List ℕ
    text = text_by schedule

    rows_more : rows_text (row_names i objects known) (rows i schedule (suc n)) ≡ rows_text (row_names i objects known) (rows i schedule n) ++ text (suc n)
    rows_more =
        let w = code i schedule n in
        let v = code i schedule (suc n) in
        let s = stepped i schedule n h next told r.image r.schedule_after steps r.stands in
        let xs = w.kernel.lines in
        let ys = v.kernel.lines in
        let k = kernel_of g.tasking in
        let l = kernel_of next.tasking in
        let held : w.kernel ≡ beside xs k = ap (λ (x : CodeWorld). x.kernel) r.stands_before in
        let made : v.kernel ≡ beside ys l = ap (λ (x : CodeWorld). x.kernel) s.0 in
        let none : w.kernel.outcome ≡ None = ap (λ (x : CodeWorld). x.kernel.outcome) r.stands ∙ going in
        let shows : ShowsText i (beside xs k) (beside ys l) told = subst (λ x. ShowsText i (beside xs k) x told) made (subst (λ x. ShowsText i x v.kernel told) held s.1) in
        let raised : next_ahead i schedule w ≡ raises =
        ap (next_ahead i schedule) r.stands_before ∙ sym (ahead xs ∙ (λ j. next_ahead (r.image_before j) (r.schedule_before j) (world_with xs g))) in
        let same : rows_of_step schedule (call_times i schedule n) (next_ahead i schedule w) w.kernel v.kernel (suc n) w.kernel.outcome w.kernel.running ≡ rows_of_step schedule calls raises (beside xs k) (beside ys l) (suc n) None k.running =
        ap (λ c. rows_of_step schedule c (next_ahead i schedule w) w.kernel v.kernel (suc n) w.kernel.outcome w.kernel.running) (sym r.called)
        ∙ ap (λ a. rows_of_step schedule calls a w.kernel v.kernel (suc n) w.kernel.outcome w.kernel.running) raised
        ∙ ap (λ x. rows_of_step schedule calls raises w.kernel x (suc n) w.kernel.outcome w.kernel.running) made
        ∙ ap (λ x. rows_of_step schedule calls raises w.kernel (beside ys l) (suc n) x w.kernel.running) none
        ∙ ap (λ (x : Kernel). rows_of_step schedule calls raises x (beside ys l) (suc n) None x.running) held in
        rows_text-append (row_names i objects known) (rows i schedule n) (rows_of_step schedule (call_times i schedule n) (next_ahead i schedule w) w.kernel v.kernel (suc n) w.kernel.outcome w.kernel.running)
        ∙ ap (λ x. rows_text (row_names i objects known) (rows i schedule n) ++ x) (ap (rows_text (row_names i objects known)) same ∙ step_is i objects known schedule calls raises k l xs ys told shows (suc n) k.running)

    -- the calls behind the step
    next_calls : (times : CallTimes) → times ≡ with_call calls (kernel_of g.tasking).now (kernel_of g.tasking).running (kernel_of next.tasking).place → times ≡ call_times i schedule (suc n)
    next_calls times noted =
        let s = stepped i schedule n h next told r.image r.schedule_after steps r.stands in
        noted
        ∙ ap (λ c. with_call c (kernel_of g.tasking).now (kernel_of g.tasking).running (kernel_of next.tasking).place) r.called
        ∙ ap (λ (x : CodeWorld). with_call (call_times i schedule n) x.kernel.now x.kernel.running (kernel_of next.tasking).place) (sym r.stands_before)
        ∙ ap (λ (x : CodeWorld). with_call (call_times i schedule n) (code i schedule n).kernel.now (code i schedule n).kernel.running x.kernel.place) (sym s.0)

    next_traced : (follow : HeldWorld) (said : Event) → StepsBy g follow said → follow.image ≡ g.image → next.image ≡ h.image → follow.schedule ≡ g.schedule → next.schedule ≡ h.schedule →
        (count : ℕ) → (times : CallTimes) → times ≡ with_call calls (kernel_of g.tasking).now (kernel_of g.tasking).running (kernel_of next.tasking).place →
        Appends new later (text (suc n)) → count ≡ after → Traced i objects known schedule (suc n) follow next times old later before count
    next_traced follow said follows image_g image_h schedule_g schedule_h count times noted app same =
        record {
          image_before = image_g ∙ r.image_before;
          image = image_h ∙ r.image;
          schedule_before = schedule_g ∙ r.schedule_before;
          schedule_after = schedule_h ∙ r.schedule_after;
          stands_before = (stepped i schedule n g follow said r.image_before r.schedule_before follows r.stands_before).0;
          stands = (stepped i schedule n h next told r.image r.schedule_after steps r.stands).0;
          called = next_calls times noted;
          written = subst (Appends old later) (sym rows_more) (appends_two old new later (rows_text (row_names i objects known) (rows i schedule n)) (text (suc n)) r.written app);
          kept = same ∙ r.kept;
        }

    pub traced_on : (follow : HeldWorld) (said : Event) → StepsBy g follow said → follow.image ≡ g.image → next.image ≡ h.image → follow.schedule ≡ g.schedule → next.schedule ≡ h.schedule →
        (count : ℕ) → (times : CallTimes) → times ≡ with_call calls (kernel_of g.tasking).now (kernel_of g.tasking).running (kernel_of next.tasking).place →
        (given : List ScheduleLine) → given ≡ schedule → Appends new later (text_by given (n + 1)) → count ≡ after → Traced i objects known schedule (n + 1) follow next times old later before count
    traced_on follow said follows image_g image_h schedule_g schedule_h count times noted given is app same =
        let at : n + 1 ≡ suc n = omega arith in
        subst (λ x. Traced i objects known schedule x follow next times old later before count) (sym at)
        (next_traced follow said follows image_g image_h schedule_g schedule_h count times noted (subst (λ x. Appends new later (text x)) at (subst (λ s. Appends new later (text_by s (n + 1))) is app)) same)

    -- a step whose rows could not be written: what is written is a beginning of the trace's rows
    pub broken_step : (limit : ℕ) → n + 1 ≤ limit → (given : List ScheduleLine) → given ≡ schedule → AppendsBeginning new later (text_by given (n + 1)) → AppendsBeginning old later (rows_text (row_names i objects known) (rows i schedule limit))
    broken_step limit le given is begun =
        let rest = rows_grow i schedule (suc n) (limit - suc n) in
        let here : n + 1 ≡ suc n = omega arith in
        let at : suc n + (limit - suc n) ≡ limit = omega (arith, le) in
        let more : rows i schedule limit ≡ rows i schedule (suc n) ++ rest.0 = subst (λ x. rows i schedule x ≡ rows i schedule (suc n) ++ rest.0) at rest.1 in
        let whole : rows_text (row_names i objects known) (rows i schedule limit) ≡ (rows_text (row_names i objects known) (rows i schedule n) ++ text (suc n)) ++ rows_text (row_names i objects known) rest.0 =
        ap (rows_text (row_names i objects known)) more ∙ rows_text-append (row_names i objects known) (rows i schedule (suc n)) rest.0 ∙ ap (λ v. v ++ rows_text (row_names i objects known) rest.0) rows_more in
        subst (AppendsBeginning old later) (sym whole)
        (beginning_of_more old later (rows_text (row_names i objects known) (rows i schedule n) ++ text (suc n)) (rows_text (row_names i objects known) rest.0)
        (beginning_after old new later (rows_text (row_names i objects known) (rows i schedule n)) (text (suc n)) r.written (subst (λ x. AppendsBeginning new later (text x)) here (subst (λ s. AppendsBeginning new later (text_by s (n + 1))) is begun))))

-- the start
module _ (i : Sections) (objects : List (List ℕ)) (known : Known) (schedule : List ScheduleLine) (h : HeldWorld) (image : h.image ≡ i) (schedule_after : h.schedule ≡ schedule) (stands : HoldsWorld h (code h.image h.schedule 0))
  where
    stands_there : (g : HeldWorld) → g.image ≡ i → g.schedule ≡ schedule → HoldsWorld g (code g.image g.schedule 0) → HoldsWorld g (code i schedule 0)
    stands_there g same there s = subst (λ x. HoldsWorld g (code i x 0)) there (subst (λ x. HoldsWorld g (code x g.schedule 0)) same s)

    abbrev pub first_by : List ScheduleLine → List ℕ
    first_by given = start_text (row_names i objects known) given (kernel_of h.tasking)

    abbrev pub first : List ℕ
    first = first_by schedule

    first_rows : rows_text (row_names i objects known) (rows i schedule 0) ≡ first
    first_rows =
        let names = row_names i objects known in
        let k = (code i schedule 0).kernel in
        rows_text-append names (came 0 (lines_come None k.now schedule)) (shown k.now 0 (starts k))
        ∙ ap (λ (w : CodeWorld). start_text names schedule w.kernel) (stands_there h image schedule_after stands)

    pub traced_start : (g : HeldWorld) → g.image ≡ i → g.schedule ≡ schedule → HoldsWorld g (code g.image g.schedule 0) → (old new : Option (List ℕ)) (before after : ℕ) →
        (calls : CallTimes) → calls ≡ no_calls ACTORS → (given : List ScheduleLine) → given ≡ schedule → Appends old new (first_by given) → after ≡ before →
        Traced i objects known schedule 0 g h calls old new before after
    traced_start g same there s old new before after calls none given is app kept =
        record {
          image_before = same;
          image = image;
          schedule_before = there;
          schedule_after = schedule_after;
          stands_before = stands_there g same there s;
          stands = stands_there h image schedule_after stands;
          called = none;
          written = subst (Appends old new) (sym first_rows) (subst (λ s. Appends old new (first_by s)) is app);
          kept = kept;
        }

    pub broken_start : (limit : ℕ) (old new : Option (List ℕ)) → (given : List ScheduleLine) → given ≡ schedule → AppendsBeginning old new (first_by given) → AppendsBeginning old new (rows_text (row_names i objects known) (rows i schedule limit))
    broken_start limit old new given is begun =
        let rest = rows_grow i schedule 0 limit in
        let at : 0 + limit ≡ limit = omega arith in
        let more : rows i schedule limit ≡ rows i schedule 0 ++ rest.0 = subst (λ x. rows i schedule x ≡ rows i schedule 0 ++ rest.0) at rest.1 in
        let whole : rows_text (row_names i objects known) (rows i schedule limit) ≡ first ++ rows_text (row_names i objects known) rest.0 =
        ap (rows_text (row_names i objects known)) more ∙ rows_text-append (row_names i objects known) (rows i schedule 0) rest.0 ∙ ap (λ v. v ++ rows_text (row_names i objects known) rest.0) first_rows in
        subst (AppendsBeginning old new) (sym whole) (beginning_of_more old new first (rows_text (row_names i objects known) rest.0) (subst (λ s. AppendsBeginning old new (first_by s)) is begun))

-- the rows up to the outcome, or at the limit, are those at the limit
pub record Over (i : Sections) (objects : List (List ℕ)) (known : Known) (schedule : List ScheduleLine) (limit : ℕ) (o : Outcome) (old new : Option (List ℕ)) (before after : ℕ) : Type 0 where
  pub written : Appends old new (rows_text (row_names i objects known) (rows i schedule limit))
  pub ends : EndsBy o (code i schedule limit)
  pub kept : after ≡ before

pub traced_over : OutcomeStays → (i : Sections) (objects : List (List ℕ)) (known : Known) (schedule : List ScheduleLine) (n limit : ℕ) (g h : HeldWorld) (calls : CallTimes) (old new : Option (List ℕ)) (before after : ℕ) → Traced i objects known schedule n g h calls old new before after → n ≤ limit →
    (n ≡ limit) ⊎ ((e : kernel.Outcome) × ((kernel_of h.tasking).outcome ≡ Some e)) → (o : Outcome) → EndsBy o (world_of h) → Over i objects known schedule limit o old new before after
traced_over stays i objects known schedule n limit g h calls old new before after r le why o ends =
    let at : n + (limit - n) ≡ limit = omega (arith, le) in
    let here : EndsBy o (code i schedule n) = record { outcome = ap (λ (w : CodeWorld). w.kernel.outcome) r.stands ∙ ends.outcome; time = ap (λ (w : CodeWorld). w.kernel.now) r.stands ∙ ends.time } in
    let over : (e : kernel.Outcome) → (kernel_of h.tasking).outcome ≡ Some e → (code i schedule n).kernel.outcome ≡ Some e = λ e is. ap (λ (w : CodeWorld). w.kernel.outcome) r.stands ∙ is in
    let same : (code i schedule limit ≡ code i schedule n) × (rows i schedule limit ≡ rows i schedule n) =
    ⊎_elim
    (λ (e : n ≡ limit). (ap (code i schedule) (sym e), ap (rows i schedule) (sym e)))
    (λ (q : (e : kernel.Outcome) × ((kernel_of h.tasking).outcome ≡ Some e)). (
      subst (λ x. code i schedule x ≡ code i schedule n) at (stays i schedule n (limit - n) q.0 (over q.0 q.1)),
      subst (λ x. rows i schedule x ≡ rows i schedule n) at (rows_stay i schedule stays n (limit - n) q.0 (over q.0 q.1)),
    ))
    why in
    record {
      written = subst (λ x. Appends old new (rows_text (row_names i objects known) x)) (sym same.1) r.written;
      ends = subst (EndsBy o) (sym same.0) here;
      kept = r.kept;
    }

-- the whole text: the rows, and then the last line
module _ (i : Sections) (objects : List (List ℕ)) (known : Known) (given schedule : List ScheduleLine) (bound : Bound) (same : given ≡ schedule) (old middle new : Option (List ℕ)) where
  pub part_of_rows : AppendsBeginning old new (rows_text (row_names i objects known) (rows i given bound.steps)) → AppendsBeginning old new (trace_text i objects known schedule bound)
  part_of_rows part =
      let k = (code i given bound.steps).kernel in
      subst (λ s. AppendsBeginning old new (trace_text i objects known s bound)) same
      (beginning_of_more old new (rows_text (row_names i objects known) (rows i given bound.steps)) (cut_line bound.cut (names_of i) k.outcome k.now) part)

  module _ (o : Outcome) (last : List ℕ) (ends : EndsBy o (code i given bound.steps)) (is : last ≡ cut_line bound.cut (names_of i) (ending_of o) (time_of o)) (written : Appends old middle (rows_text (row_names i objects known) (rows i given bound.steps))) where
    last_is : last ≡ cut_line bound.cut (names_of i) (code i given bound.steps).kernel.outcome (code i given bound.steps).kernel.now
    last_is = is ∙ sym (λ j. cut_line bound.cut (names_of i) (ends.outcome j) (ends.time j))

    pub whole_trace : Appends middle new last → Appends old new (trace_text i objects known schedule bound)
    whole_trace app =
        let k = (code i given bound.steps).kernel in
        subst (λ s. Appends old new (trace_text i objects known s bound)) same
        (appends_two old middle new (rows_text (row_names i objects known) (rows i given bound.steps)) (cut_line bound.cut (names_of i) k.outcome k.now) written (subst (Appends middle new) last_is app))

    pub part_of_trace : AppendsBeginning middle new last → AppendsBeginning old new (trace_text i objects known schedule bound)
    part_of_trace begun =
        let k = (code i given bound.steps).kernel in
        subst (λ s. AppendsBeginning old new (trace_text i objects known s bound)) same
        (beginning_after old middle new (rows_text (row_names i objects known) (rows i given bound.steps)) (cut_line bound.cut (names_of i) k.outcome k.now) written (subst (AppendsBeginning middle new) last_is begun))
