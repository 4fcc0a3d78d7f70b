-- A picture so far: which worlds both machines hold, and what has been drawn.
use Rattle.std.proofs.Common.{◌≡◌, ◌⊎◌, ℕ, zero, suc, ◌+◌, ◌-◌, ◌≤◌, ⊎_elim, List, [], ◌∷◌, ◌++◌, ℤ, pos, Option, Some, None, drop, length, length-append, refl, sym, ap, subst, ◌∙◌, arith, append_assoc, append-nil}
use Rattle.std.proofs.Math.Seq.{drop-append_seam, drop-length}
use Rattle.std.specs.Prelude.{unsigned_abs}
use Rattle.base.specs.declared.schedule.ScheduleLine.{ScheduleLine}
use Rattle.kernel.specs.State as kernel
use Rattle.kernel.specs.State.{Kernel, Line}
use Rattle.kernel.specs.Text.{line_text}
use Rattle.image.specs.Code.{CodeWorld, code}
use Rattle.image.specs.Sections.{Sections}
use Rattle.image_laws.specs.Laws.{OutcomeStays}
use Rattle.tasking.specs.Held.{kernel_of}
use Rattle.execution.specs.Held.{HeldWorld, world_of, world_with}
use Rattle.machine.specs.Stands.{EndsBy, HoldsWorld, ShowsText}
use Rattle.machine.specs.declared.reports.Event.{Event}
use Rattle.machine.specs.declared.reports.Event.TheVariants as events
use Rattle.machine.specs.declared.reports.Outcome.{Outcome}
use Rattle.tracing.specs.Calls.{CallTimes, call_times, no_calls, with_call}
use Rattle.tracing.specs.declared.calls.TheConstants.{ACTORS}
use Rattle.tracing.specs.Changes.{next_ahead, since_clock, starts, until_clock}
use Rattle.tracing.specs.declared.ahead.Ahead.{Ahead}
use Rattle.tracing.specs.Traces.{TraceRow, came, lines_come, rows, rows_of_step, shown, without_end, wrote}
use Rattle.tracing.specs.declared.event.Event as change
use Rattle.tracing.proofs.Rows.{rows_stay}
use Rattle.pictures.specs.Drawn.{inputs_text, reported_text, start_text, step_text}
use Rattle.pictures.specs.Text.{PictureNames, event_text, events_text, flag_text, input_text, picture_names, row_text, rows_text}
use Rattle.pictures.specs.declared.frame.Frame.{Frame}

-- there is one time of a call for each actor
pub one_each : (n : ℕ) → length (no_calls n) ≡ n
one_each zero = refl
one_each (suc n) =
    let more : n + 1 ≡ suc n = omega arith in
    length-append (no_calls n) (pos 0 ∷ []) ∙ ap (λ m. m + 1) (one_each n) ∙ more

-- the kernel that is held, beside lines
abbrev beside : List Line → Kernel → Kernel
beside lines k = record k { lines = lines }

module _ (f : Frame) (names : PictureNames) where
  rows_text-append : (xs ys : List TraceRow) → rows_text f names (xs ++ ys) ≡ rows_text f names xs ++ rows_text f names ys
  rows_text-append [] ys = refl
  rows_text-append (x ∷ xs) ys =
      ap (λ v. row_text f names x ++ v) (rows_text-append xs ys) ∙ sym (append_assoc (row_text f names x) (rows_text f names xs) (rows_text f names ys))

  shown_is : (time : ℤ) (n : ℕ) (events : List change.Event) → rows_text f names (shown time n events) ≡ events_text f names (unsigned_abs time) n events
  shown_is time n [] = refl
  shown_is time n (e ∷ events) = ap (λ v. event_text f names (unsigned_abs time) n e ++ v) (shown_is time n events)

  came_is : (n : ℕ) (inputs : List ScheduleLine) → rows_text f names (came n inputs) ≡ inputs_text f n inputs
  came_is n [] = refl
  came_is n (x ∷ inputs) = ap (λ v. input_text f x n ++ v) (came_is n inputs)

module _ (f : Frame) (i : Sections) (objects : List (List ℕ)) (given : List ScheduleLine) (calls : CallTimes) (a : Ahead) (k l : Kernel) (xs ys : List Line) (said : Event) (shows : ShowsText i (beside xs k) (beside ys l) said) (n : ℕ) where
  abbrev names : PictureNames
  names = picture_names i objects

  no_line : (t : ℕ) → ys ≡ xs → rows_text f names (wrote k.now n t a.address (drop (length xs) ys)) ≡ []
  no_line t same = ap (λ v. rows_text f names (wrote k.now n t a.address v)) (ap (drop (length xs)) same ∙ drop-length xs)

  -- the flag of a line, by what the machine has reported
  line_is : (t : ℕ) (e : Event) → ShowsText i (beside xs k) (beside ys l) e → rows_text f names (wrote k.now n t a.address (drop (length xs) ys)) ≡ reported_text f names.line t (unsigned_abs k.now) n e
  line_is t events.Quiet s = no_line t s.0
  line_is t (events.Done o) s = no_line t s.0
  line_is t (events.Line text) s =
      let one : drop (length xs) ys ≡ s.0 ∷ [] = ap (drop (length xs)) s.1 ∙ drop-append_seam xs (s.0 ∷ []) in
      ap (λ v. rows_text f names (wrote k.now n t a.address v)) one
      ∙ append-nil (flag_text f names.line t (without_end (line_text names.line s.0)) (unsigned_abs k.now) n)
      ∙ ap (λ v. flag_text f names.line t (without_end v) (unsigned_abs k.now) n) (sym s.2)

  -- what is drawn of a step without outcome, by what the machine has reported and what both hold
  step_is : (r : Option ℕ) → rows_text f names (rows_of_step given calls a (beside xs k) (beside ys l) n None r) ≡ step_text f names given calls a k l n said r
  step_is None = refl
  step_is (Some t) =
      let lines = wrote k.now n t a.address (drop (length xs) ys) in
      let until = shown k.now n (until_clock calls a k l t) in
      let inputs = came n (lines_come (Some k.now) l.now given) in
      let since = shown l.now n (since_clock k l t) in
      rows_text-append f names (lines ++ until ++ inputs) since
      ∙ ap (λ v. v ++ rows_text f names since) (rows_text-append f names (lines ++ until) inputs)
      ∙ ap (λ v. v ++ rows_text f names inputs ++ rows_text f names since) (rows_text-append f names lines until)
      ∙ (λ j. line_is t said shows j
      ++ shown_is f names k.now n (until_clock calls a k l t) j
      ++ came_is f names n (lines_come (Some k.now) l.now given) j
      ++ shown_is f names l.now n (since_clock k l t) j)

-- the parts of what is drawn of a step, by what the code asks for
pub step_parts : (f : Frame) (names : PictureNames) (given : List ScheduleLine) (calls : CallTimes) (a : Ahead) (k l : Kernel) (n : ℕ) (said : Event) (ran : ℕ) (running : Option ℕ) (here there : ℕ) (from to : ℤ) (until since : List change.Event) →
    running ≡ Some ran → here ≡ unsigned_abs k.now → there ≡ unsigned_abs l.now → from ≡ k.now → to ≡ l.now → until ≡ until_clock calls a k l ran → since ≡ since_clock k l ran →
    reported_text f names.line ran here n said ++ events_text f names here n until ++ inputs_text f n (lines_come (Some from) to given) ++ events_text f names there n since
    ≡ step_text f names given calls a k l n said running
step_parts f names given calls a k l n said ran running here there from to until since runs is_here is_there is_from is_to is_until is_since =
    (λ j. reported_text f names.line ran (is_here j) n said ++ events_text f names (is_here j) n (is_until j)
    ++ inputs_text f n (lines_come (Some (is_from j)) (is_to j) given) ++ events_text f names (is_there j) n (is_since j))
    ∙ sym (ap (step_text f names given calls a k l n said) runs)

-- after n steps: both machines stand for the world, and its rows are drawn
pub record Drawn (f : Frame) (i : Sections) (objects : List (List ℕ)) (schedule : List ScheduleLine) (n : ℕ) (g h : HeldWorld) (calls : CallTimes) (old new : List ℕ) : Type 0 where
  pub image_before : g.image ≡ i
  pub image : h.image ≡ i
  pub schedule_before : g.schedule ≡ schedule
  pub schedule_after : h.schedule ≡ schedule
  pub stands_before : HoldsWorld g (code i schedule n)
  pub stands : HoldsWorld h (code i schedule n)
  pub called : calls ≡ call_times i schedule n
  pub drawn : new ≡ old ++ rows_text f (picture_names i objects) (rows i schedule n)

-- a machine's step, as its contract has it
abbrev pub StepsBy : HeldWorld → HeldWorld → Event → Type 0
StepsBy h next said =
    (m : ℕ) → HoldsWorld h (code h.image h.schedule m) → HoldsWorld next (code h.image h.schedule (m + 1)) × ShowsText h.image (code h.image h.schedule m).kernel (code h.image h.schedule (m + 1)).kernel said

pub stepped : (i : Sections) (schedule : List ScheduleLine) (n : ℕ) (h next : HeldWorld) (said : Event) → h.image ≡ i → h.schedule ≡ schedule → StepsBy h next said → HoldsWorld h (code i schedule n) →
    HoldsWorld next (code i schedule (suc n)) × ShowsText i (code i schedule n).kernel (code i schedule (suc n)).kernel said
stepped i schedule n h next said image same steps =
    let e : n + 1 ≡ suc n = omega arith in
    subst (λ m. HoldsWorld h (code i schedule n) → HoldsWorld next (code i schedule m) × ShowsText i (code i schedule n).kernel (code i schedule m).kernel said) e
    (subst (λ s. HoldsWorld h (code i s n) → HoldsWorld next (code i s (n + 1)) × ShowsText i (code i s n).kernel (code i s (n + 1)).kernel said) same
    (subst (λ j. HoldsWorld h (code j h.schedule n) → HoldsWorld next (code j h.schedule (n + 1)) × ShowsText j (code j h.schedule n).kernel (code j h.schedule (n + 1)).kernel said) image (steps n)))

module _ (f : Frame) (i : Sections) (objects : List (List ℕ)) (schedule : List ScheduleLine) (n : ℕ) (g h : HeldWorld) (calls : CallTimes) (old new : List ℕ) (r : Drawn f i objects schedule n g h calls old new) where
  module _ (a : Ahead) (ahead : (lines : List Line) → a ≡ next_ahead g.image g.schedule (world_with lines g)) (next : HeldWorld) (said : Event) (steps : StepsBy h next said) (going : (kernel_of h.tasking).outcome ≡ None) where
    abbrev pub text_by : List ScheduleLine → ℕ → List ℕ
    text_by given m = step_text f (picture_names i objects) given calls a (kernel_of g.tasking) (kernel_of next.tasking) m said (kernel_of g.tasking).running

    rows_more : rows_text f (picture_names i objects) (rows i schedule (suc n)) ≡ rows_text f (picture_names i objects) (rows i schedule n) ++ text_by schedule (suc n)
    rows_more =
        let w = code i schedule n in
        let v = code i schedule (suc n) in
        let s = stepped i schedule n h next said r.image r.schedule_after steps r.stands in
        let xs = w.kernel.lines in
        let ys = v.kernel.lines in
        let k = kernel_of g.tasking in
        let l = kernel_of next.tasking in
        let held : w.kernel ≡ beside xs k = ap (λ (x : CodeWorld). x.kernel) r.stands_before in
        let made : v.kernel ≡ beside ys l = ap (λ (x : CodeWorld). x.kernel) s.0 in
        let none : w.kernel.outcome ≡ None = ap (λ (x : CodeWorld). x.kernel.outcome) r.stands ∙ going in
        let shows : ShowsText i (beside xs k) (beside ys l) said = subst (λ x. ShowsText i (beside xs k) x said) made (subst (λ x. ShowsText i x v.kernel said) held s.1) in
        let raised : next_ahead i schedule w ≡ a =
        ap (next_ahead i schedule) r.stands_before ∙ sym (ahead xs ∙ (λ j. next_ahead (r.image_before j) (r.schedule_before j) (world_with xs g))) in
        let same : rows_of_step schedule (call_times i schedule n) (next_ahead i schedule w) w.kernel v.kernel (suc n) w.kernel.outcome w.kernel.running ≡ rows_of_step schedule calls a (beside xs k) (beside ys l) (suc n) None k.running =
        ap (λ c. rows_of_step schedule c (next_ahead i schedule w) w.kernel v.kernel (suc n) w.kernel.outcome w.kernel.running) (sym r.called)
        ∙ ap (λ b. rows_of_step schedule calls b w.kernel v.kernel (suc n) w.kernel.outcome w.kernel.running) raised
        ∙ ap (λ x. rows_of_step schedule calls a w.kernel x (suc n) w.kernel.outcome w.kernel.running) made
        ∙ ap (λ x. rows_of_step schedule calls a w.kernel (beside ys l) (suc n) x w.kernel.running) none
        ∙ ap (λ (x : Kernel). rows_of_step schedule calls a x (beside ys l) (suc n) None x.running) held in
        rows_text-append f (picture_names i objects) (rows i schedule n) (rows_of_step schedule (call_times i schedule n) (next_ahead i schedule w) w.kernel v.kernel (suc n) w.kernel.outcome w.kernel.running)
        ∙ ap (λ x. rows_text f (picture_names i objects) (rows i schedule n) ++ x) (ap (rows_text f (picture_names i objects)) same ∙ step_is f i objects schedule calls a k l xs ys said shows (suc n) k.running)

    -- the calls after the step
    next_calls : (later : CallTimes) → later ≡ with_call calls (kernel_of g.tasking).now (kernel_of g.tasking).running (kernel_of next.tasking).place → later ≡ call_times i schedule (suc n)
    next_calls later noted =
        let s = stepped i schedule n h next said r.image r.schedule_after steps r.stands in
        noted
        ∙ ap (λ c. with_call c (kernel_of g.tasking).now (kernel_of g.tasking).running (kernel_of next.tasking).place) r.called
        ∙ ap (λ (x : CodeWorld). with_call (call_times i schedule n) x.kernel.now x.kernel.running (kernel_of next.tasking).place) (sym r.stands_before)
        ∙ ap (λ (x : CodeWorld). with_call (call_times i schedule n) (code i schedule n).kernel.now (code i schedule n).kernel.running x.kernel.place) (sym s.0)

    pub drawn_on : (follow : HeldWorld) (shown : Event) → StepsBy g follow shown → follow.image ≡ g.image → next.image ≡ h.image → follow.schedule ≡ g.schedule → next.schedule ≡ h.schedule →
        (later : CallTimes) → later ≡ with_call calls (kernel_of g.tasking).now (kernel_of g.tasking).running (kernel_of next.tasking).place →
        (given : List ScheduleLine) → given ≡ schedule → (now : List ℕ) → now ≡ new ++ text_by given (n + 1) → Drawn f i objects schedule (n + 1) follow next later old now
    drawn_on follow shown follows image_g image_h schedule_g schedule_h later noted given is now added =
        let at : n + 1 ≡ suc n = omega arith in
        let so_far = rows_text f (picture_names i objects) (rows i schedule n) in
        let text = text_by schedule (suc n) in
        subst (λ x. Drawn f i objects schedule x follow next later old now) (sym at)
        (record {
          image_before = image_g ∙ r.image_before;
          image = image_h ∙ r.image;
          schedule_before = schedule_g ∙ r.schedule_before;
          schedule_after = schedule_h ∙ r.schedule_after;
          stands_before = (stepped i schedule n g follow shown r.image_before r.schedule_before follows r.stands_before).0;
          stands = (stepped i schedule n h next said r.image r.schedule_after steps r.stands).0;
          called = next_calls later noted;
          drawn = added
              ∙ (λ j. r.drawn j ++ text_by (is j) (at j))
              ∙ append_assoc old so_far text
              ∙ ap (λ v. old ++ v) (sym rows_more);
        })

-- the start
pub drawn_start : (f : Frame) (i : Sections) (objects : List (List ℕ)) (schedule : List ScheduleLine) (g h : HeldWorld) → g.image ≡ i → h.image ≡ i → g.schedule ≡ schedule → h.schedule ≡ schedule →
    HoldsWorld g (code g.image g.schedule 0) → HoldsWorld h (code h.image h.schedule 0) → (calls : CallTimes) → calls ≡ no_calls ACTORS → (given : List ScheduleLine) → given ≡ schedule → (old new : List ℕ) →
    new ≡ old ++ start_text f (picture_names i objects) given (kernel_of h.tasking) → Drawn f i objects schedule 0 g h calls old new
drawn_start f i objects schedule g h image_g image_h schedule_g schedule_h stands_g stands_h calls none given is old new added =
    let names = picture_names i objects in
    let k = (code i schedule 0).kernel in
    let there = subst (λ x. HoldsWorld h (code i x 0)) schedule_h (subst (λ x. HoldsWorld h (code x h.schedule 0)) image_h stands_h) in
    let inputs = came 0 (lines_come None k.now schedule) in
    let first : rows_text f names (rows i schedule 0) ≡ start_text f names schedule (kernel_of h.tasking) =
    rows_text-append f names inputs (shown k.now 0 (starts k))
    ∙ (λ j. came_is f names 0 (lines_come None k.now schedule) j ++ shown_is f names k.now 0 (starts k) j)
    ∙ ap (λ (w : CodeWorld). start_text f names schedule w.kernel) there in
    record {
      image_before = image_g;
      image = image_h;
      schedule_before = schedule_g;
      schedule_after = schedule_h;
      stands_before = subst (λ x. HoldsWorld g (code i x 0)) schedule_g (subst (λ x. HoldsWorld g (code x g.schedule 0)) image_g stands_g);
      stands = there;
      called = none;
      drawn = added ∙ ap (λ s. old ++ start_text f names s (kernel_of h.tasking)) is ∙ ap (λ v. old ++ v) (sym first);
    }

-- what is drawn up to the outcome, or at the limit, is what is drawn at the limit
pub record Over (f : Frame) (i : Sections) (objects : List (List ℕ)) (schedule : List ScheduleLine) (limit : ℕ) (o : Outcome) (old new : List ℕ) : Type 0 where
  pub drawn : new ≡ old ++ rows_text f (picture_names i objects) (rows i schedule limit)
  pub ends : EndsBy o (code i schedule limit)

pub drawn_over : OutcomeStays → (f : Frame) (i : Sections) (objects : List (List ℕ)) (schedule : List ScheduleLine) (n limit : ℕ) (g h : HeldWorld) (calls : CallTimes) (old new : List ℕ) → Drawn f i objects schedule n g h calls old new → n ≤ limit →
    (n ≡ limit) ⊎ ((e : kernel.Outcome) × ((kernel_of h.tasking).outcome ≡ Some e)) → (o : Outcome) → EndsBy o (world_of h) → Over f i objects schedule limit o old new
drawn_over stays f i objects schedule n limit g h calls old new r le why o ends =
    let at : n + (limit - n) ≡ limit = omega (arith, le) in
    let here : EndsBy o (code i schedule n) = record { outcome = ap (λ (w : CodeWorld). w.kernel.outcome) r.stands ∙ ends.outcome; time = ap (λ (w : CodeWorld). w.kernel.now) r.stands ∙ ends.time } in
    let over : (e : kernel.Outcome) → (kernel_of h.tasking).outcome ≡ Some e → (code i schedule n).kernel.outcome ≡ Some e = λ e is. ap (λ (w : CodeWorld). w.kernel.outcome) r.stands ∙ is in
    let same : (code i schedule limit ≡ code i schedule n) × (rows i schedule limit ≡ rows i schedule n) =
    ⊎_elim
    (λ (e : n ≡ limit). (ap (code i schedule) (sym e), ap (rows i schedule) (sym e)))
    (λ (q : (e : kernel.Outcome) × ((kernel_of h.tasking).outcome ≡ Some e)). (
      subst (λ x. code i schedule x ≡ code i schedule n) at (stays i schedule n (limit - n) q.0 (over q.0 q.1)),
      subst (λ x. rows i schedule x ≡ rows i schedule n) at (rows_stay i schedule stays n (limit - n) q.0 (over q.0 q.1)),
    ))
    why in
    record {
      drawn = r.drawn ∙ ap (λ v. old ++ rows_text f (picture_names i objects) v) (sym same.1);
      ends = subst (EndsBy o) (sym same.0) here;
    }
