-- A dump so far: where the machine stands, which values were written last, and what has been written.
use Rattle.std.proofs.Common.{◌≡◌, ◌⊎◌, ℕ, zero, suc, ◌+◌, ◌-◌, ◌≤◌, ⊎_elim, List, [], ◌++◌, Option, Some, None, refl, sym, ap, subst, ◌∙◌, arith, append_assoc, append-nil}
use Rattle.std.specs.Io.KnownBytes.{Appends}
use Rattle.base.specs.declared.schedule.ScheduleLine.{ScheduleLine}
use Rattle.kernel.specs.State.{Outcome as KernelOutcome}
use Rattle.image.specs.Code.{CodeWorld, code}
use Rattle.image.specs.Sections.{Sections}
use Rattle.image_laws.specs.Laws.{OutcomeStays}
use Rattle.tasking.specs.Held.{kernel_of}
use Rattle.execution.specs.Held.{HeldWorld, world_of}
use Rattle.execution.specs.declared.line.Line.{Line}
use Rattle.machine.specs.Stands.{EndsBy, HoldsWorld}
use Rattle.machine.specs.Taken.{steps_taken}
use Rattle.machine.specs.Written.{AppendsBeginning}
use Rattle.machine.specs.declared.reports.Outcome.{Outcome}
use Rattle.machine.proofs.Runs.{appends_nothing, appends_two, beginning_after, beginning_of_more}
use Rattle.machine.proofs.Taken.{one_taken, taken_stays}
use Rattle.waveforms.specs.LastValues.{HeldRows, last_shown, shown_by}
use Rattle.waveforms.specs.Lines.{TaskLabel}
use Rattle.waveforms.specs.Signals.{Shown, values}
use Rattle.waveforms.specs.Scopes.{Scopes}
use Rattle.waveforms.specs.Waves.{step_text, steps_text}
use Rattle.waveforms.proofs.Changes.{step_without}
use Rattle.waveforms.proofs.HeldValues.{shown_held}
use Rattle.waveforms.proofs.Noted.{Noted, noted_on, noted_written, with_note}
use Rattle.waveforms.proofs.Standing.{StepsBy, ends_here, lines_on, stands_on}

module _ (scopes : Scopes) (i : Sections) (schedule : List ScheduleLine) (labels : List TaskLabel) where
  abbrev values_at : ℕ → Shown
  values_at n = values scopes schedule labels (code i schedule n)

  -- the texts of some steps begin those of more
  steps_grow : (n j : ℕ) → (more : List ℕ) × (steps_text i scopes schedule labels (n + j) ≡ steps_text i scopes schedule labels n ++ more)
  steps_grow n zero = let e : n + zero ≡ n = omega arith in ([], ap (steps_text i scopes schedule labels) e ∙ sym (append-nil (steps_text i scopes schedule labels n)))
  steps_grow n (suc j) =
      let e : n + suc j ≡ suc (n + j) = omega arith in
      let r = steps_grow n j in
      let last = step_text (suc (n + j)) (values_at (n + j)) (values_at (suc (n + j))) in
      (r.0 ++ last, ap (steps_text i scopes schedule labels) e ∙ ap (λ v. v ++ last) r.1 ∙ append_assoc (steps_text i scopes schedule labels n) r.0 last)

  -- after an outcome nothing changes
  module _ (stays : OutcomeStays) (n : ℕ) (o : KernelOutcome) (is : (code i schedule n).kernel.outcome ≡ Some o) where
    same_world : (j : ℕ) → code i schedule (n + j) ≡ code i schedule n
    same_world j = stays i schedule n j o is

    steps_stay : (j : ℕ) → steps_text i scopes schedule labels (n + j) ≡ steps_text i scopes schedule labels n
    steps_stay zero = let e : n + zero ≡ n = omega arith in ap (steps_text i scopes schedule labels) e
    steps_stay (suc j) =
        let e : n + suc j ≡ suc (n + j) = omega arith in
        let later : code i schedule (suc (n + j)) ≡ code i schedule n = ap (code i schedule) (sym e) ∙ same_world (suc j) in
        let last : step_text (suc (n + j)) (values_at (n + j)) (values_at (suc (n + j))) ≡ [] =
        ap (λ (w : CodeWorld). step_text (suc (n + j)) (values scopes schedule labels w) (values_at (suc (n + j)))) (same_world j)
        ∙ ap (λ (w : CodeWorld). step_text (suc (n + j)) (values_at n) (values scopes schedule labels w)) later
        ∙ step_without (suc (n + j)) (values_at n) in
        ap (steps_text i scopes schedule labels) e ∙ ap (λ v. steps_text i scopes schedule labels (n + j) ++ v) last ∙ append-nil (steps_text i scopes schedule labels (n + j)) ∙ steps_stay j

-- after n steps: the machine represents the world, no world before it had an outcome, rows have the values of its lines, the values that were written last are the
-- world's, and what its steps have changed is written
pub record Dumped (scopes : Scopes) (i : Sections) (schedule : List ScheduleLine) (labels : List TaskLabel) (n : ℕ) (h : HeldWorld) (rows : HeldRows) (old new : Option (List ℕ)) (before after : ℕ) : Type 0 where
  pub image : h.image ≡ i
  pub schedule_is : h.schedule ≡ schedule
  pub stands : HoldsWorld h (code i schedule n)
  pub noted : Noted i schedule labels n rows
  pub values_are : last_shown rows ≡ values scopes schedule labels (code i schedule n)
  pub taken : steps_taken i schedule n ≡ n
  pub written : Appends old new (steps_text i scopes schedule labels n)
  pub kept : after ≡ before

pub dumped_nothing : (scopes : Scopes) (h : HeldWorld) (rows : HeldRows) (old : Option (List ℕ)) (before : ℕ) → HoldsWorld h (code h.image h.schedule 0) → Noted h.image h.schedule rows.lines.labels 0 rows →
    last_shown rows ≡ shown_by scopes rows (world_of h) → Dumped scopes h.image h.schedule rows.lines.labels 0 h rows old old before before
dumped_nothing scopes h rows old before stands noted last =
    record {
      image = refl;
      schedule_is = refl;
      stands = stands;
      noted = noted;
      values_are = last ∙ shown_held scopes h.schedule rows.lines.labels h (code h.image h.schedule 0) stands rows noted.schedule_is noted.current;
      taken = refl;
      written = appends_nothing old;
      kept = refl;
    }

module _ (scopes : Scopes) (i : Sections) (schedule : List ScheduleLine) (labels : List TaskLabel) (n : ℕ) (h : HeldWorld) (rows : HeldRows) (old new : Option (List ℕ)) (before after : ℕ) (r : Dumped scopes i schedule labels n h rows old new before after) where
  module _ (next : HeldWorld) (line : Option Line) (steps : StepsBy h next line) (going : (kernel_of h.tasking).outcome ≡ None) (noted_rows : HeldRows) (same_rows : noted_rows ≡ with_note line rows) (later : Option (List ℕ)) where
    abbrev shown : Shown
    shown = shown_by scopes noted_rows (world_of next)

    abbrev text : ℕ → List ℕ
    text m = step_text m (last_shown noted_rows) shown

    stepped : HoldsWorld next (code i schedule (suc n))
    stepped = stands_on i schedule n h next line r.image r.schedule_is r.stands steps

    noted_more : Noted i schedule labels (suc n) noted_rows
    noted_more = noted_on i schedule labels n rows r.noted line (lines_on i schedule n h next line r.image r.schedule_is r.stands steps) noted_rows same_rows

    shown_is : shown ≡ values scopes schedule labels (code i schedule (suc n))
    shown_is = shown_held scopes schedule labels next (code i schedule (suc n)) stepped noted_rows noted_more.schedule_is noted_more.current

    steps_more : steps_text i scopes schedule labels (suc n) ≡ steps_text i scopes schedule labels n ++ text (suc n)
    steps_more =
        let first : last_shown noted_rows ≡ values scopes schedule labels (code i schedule n) = ap last_shown same_rows ∙ r.values_are in
        λ j. steps_text i scopes schedule labels n ++ step_text (suc n) (sym first j) (sym shown_is j)

    pub dumped_on : next.image ≡ h.image → next.schedule ≡ h.schedule → (step_rows : HeldRows) → last_shown step_rows ≡ shown → step_rows.lines ≡ record noted_rows.lines { written = noted_rows.lines.current } →
        step_rows.schedule ≡ noted_rows.schedule → (count : ℕ) → Appends new later (text (n + 1)) → count ≡ after → Dumped scopes i schedule labels (n + 1) next step_rows old later before count
    dumped_on same_image same_schedule step_rows last lines read count app same =
        let at : n + 1 ≡ suc n = omega arith in
        let before_it : (code i schedule n).kernel.outcome ≡ None = ap (λ (w : CodeWorld). w.kernel.outcome) r.stands ∙ going in
        subst (λ m. Dumped scopes i schedule labels m next step_rows old later before count) (sym at)
        (record {
          image = same_image ∙ r.image;
          schedule_is = same_schedule ∙ r.schedule_is;
          stands = stepped;
          noted = noted_written i schedule labels (suc n) noted_rows noted_more step_rows lines read;
          values_are = last ∙ shown_is;
          taken = one_taken i schedule n before_it r.taken;
          written = subst (Appends old later) (sym steps_more) (appends_two old new later (steps_text i scopes schedule labels n) (text (suc n)) r.written (subst (λ m. Appends new later (text m)) at app));
          kept = same ∙ r.kept;
        })

    -- a step whose changes could not be written: what is written is a beginning of those of all steps
    pub broken_step : (limit : ℕ) → n + 1 ≤ limit → AppendsBeginning new later (text (n + 1)) → AppendsBeginning old later (steps_text i scopes schedule labels limit)
    broken_step limit le begun =
        let at : n + 1 ≡ suc n = omega arith in
        let rest = steps_grow scopes i schedule labels (suc n) (limit - suc n) in
        let end_ : suc n + (limit - suc n) ≡ limit = omega (arith, le) in
        let whole : steps_text i scopes schedule labels limit ≡ (steps_text i scopes schedule labels n ++ text (suc n)) ++ rest.0 =
        ap (steps_text i scopes schedule labels) (sym end_) ∙ rest.1 ∙ ap (λ v. v ++ rest.0) steps_more in
        subst (AppendsBeginning old later) (sym whole)
        (beginning_of_more old later (steps_text i scopes schedule labels n ++ text (suc n)) rest.0
        (beginning_after old new later (steps_text i scopes schedule labels n) (text (suc n)) r.written (subst (λ m. AppendsBeginning new later (text m)) at begun)))

-- what is written up to the outcome, or at the limit, is what is written at the limit
pub record Complete (scopes : Scopes) (i : Sections) (schedule : List ScheduleLine) (labels : List TaskLabel) (limit taken : ℕ) (o : Outcome) (old new : Option (List ℕ)) (before after : ℕ) : Type 0 where
  pub written : Appends old new (steps_text i scopes schedule labels limit)
  pub ends : EndsBy o (code i schedule limit)
  pub taken_is : taken ≡ steps_taken i schedule limit
  pub kept : after ≡ before

pub dumped_over : OutcomeStays → (scopes : Scopes) (i : Sections) (schedule : List ScheduleLine) (labels : List TaskLabel) (n limit : ℕ) (h : HeldWorld) (rows : HeldRows) (old new : Option (List ℕ)) (before after : ℕ) → Dumped scopes i schedule labels n h rows old new before after →
    n ≤ limit → (n ≡ limit) ⊎ ((e : KernelOutcome) × ((kernel_of h.tasking).outcome ≡ Some e)) → (o : Outcome) → EndsBy o (world_of h) → Complete scopes i schedule labels limit n o old new before after
dumped_over stays scopes i schedule labels n limit h rows old new before after r le why o ends =
    let at : n + (limit - n) ≡ limit = omega (arith, le) in
    let here : EndsBy o (code i schedule n) = ends_here i schedule n h r.stands o ends in
    let over : (e : KernelOutcome) → (kernel_of h.tasking).outcome ≡ Some e → (code i schedule n).kernel.outcome ≡ Some e = λ e is. ap (λ (w : CodeWorld). w.kernel.outcome) r.stands ∙ is in
    let same : (code i schedule limit ≡ code i schedule n) × ((steps_text i scopes schedule labels limit ≡ steps_text i scopes schedule labels n) × (steps_taken i schedule limit ≡ steps_taken i schedule n)) =
    ⊎_elim
    (λ (e : n ≡ limit). (ap (code i schedule) (sym e), (ap (steps_text i scopes schedule labels) (sym e), ap (steps_taken i schedule) (sym e))))
    (λ (q : (e : KernelOutcome) × ((kernel_of h.tasking).outcome ≡ Some e)). (
      subst (λ x. code i schedule x ≡ code i schedule n) at (stays i schedule n (limit - n) q.0 (over q.0 q.1)),
      (
        subst (λ x. steps_text i scopes schedule labels x ≡ steps_text i scopes schedule labels n) at (steps_stay scopes i schedule labels stays n q.0 (over q.0 q.1) (limit - n)),
        subst (λ x. steps_taken i schedule x ≡ steps_taken i schedule n) at (taken_stays i schedule n stays q.0 (over q.0 q.1) (limit - n)),
      ),
    ))
    why in
    record {
      written = subst (Appends old new) (sym same.1.0) r.written;
      ends = subst (EndsBy o) (sym same.0) here;
      taken_is = sym (same.1.1 ∙ r.taken);
      kept = r.kept;
    }
