-- A dump over virtual time so far: where the machine stands, which values were written last, and what has been written.
use Rattle.std.proofs.Common.{◌≡◌, ◌⊎◌, ℕ, ℤ, suc, ◌+◌, ◌-◌, ◌≤◌, ⊎_elim, List, [], ◌∷◌, ◌++◌, Option, Some, None, Bool, true, false, refl, sym, ap, subst, ◌∙◌, arith, append-nil, if◌then◌else◌}
use Rattle.std.specs.Prelude.{int_lt, unsigned_abs}
use Rattle.std.specs.Io.KnownBytes.{Appends}
use Rattle.base.specs.declared.schedule.ScheduleLine.{ScheduleLine}
use Rattle.kernel.specs.State.{Outcome as KernelOutcome}
use Rattle.image.specs.Code.{CodeWorld, code}
use Rattle.image.specs.Sections.{Sections}
use Rattle.image_laws.specs.Laws.{OutcomeStays}
use Rattle.tasking.specs.Held.{kernel_of}
use Rattle.execution.specs.Held.{HeldWorld, world_of}
use Rattle.execution.specs.declared.line.Line.{Line as NumberedLine}
use Rattle.machine.specs.Stands.{EndsBy, HoldsWorld}
use Rattle.machine.specs.Written.{AppendsBeginning}
use Rattle.machine.specs.declared.reports.Outcome.{Outcome}
use Rattle.machine.proofs.Runs.{appends_nothing, appends_two, beginning_after, beginning_of_more}
use Rattle.waveforms.specs.Instants.{ended, ended_by, instants, world_before}
use Rattle.waveforms.specs.Lines.{TaskLabel, line_values}
use Rattle.waveforms.specs.Signals.{Shown, values}
use Rattle.waveforms.specs.Scopes.{Scopes}
use Rattle.waveforms.specs.TimeWaves.{instant_text, instants_text}
use Rattle.waveforms.specs.LastValues.{HeldRows, dumped_after, ended_text, ended_values, last_values, shown_by}
use Rattle.waveforms.proofs.HeldValues.{before_held, shown_held}
use Rattle.waveforms.proofs.InstantTexts.{ended_grow, ended_stay, text_more, dumped_more}
use Rattle.waveforms.proofs.Noted.{Noted, noted_kept, noted_on, with_note}
use Rattle.waveforms.proofs.Standing.{StepsBy, ends_here, lines_on, stands_on}

-- The text of an instant, and the values that were written last, by whether a step ends it.

module _ (scopes : Scopes) (schedule : List ScheduleLine) (labels : List TaskLabel) (dumped : Option Shown) (w : CodeWorld) where
  text_by : (is_ended : Bool) → instants_text scopes schedule labels dumped (if is_ended then w ∷ [] else []) ≡ (if is_ended then instant_text (unsigned_abs w.kernel.now) dumped (values scopes schedule labels w) else [])
  text_by true = append-nil (instant_text (unsigned_abs w.kernel.now) dumped (values scopes schedule labels w))
  text_by false = refl

  dumped_by : (is_ended : Bool) → dumped_after scopes schedule labels dumped (if is_ended then w ∷ [] else []) ≡ (if is_ended then Some (values scopes schedule labels w) else dumped)
  dumped_by true = refl
  dumped_by false = refl

module _ (scopes : Scopes) (schedule : List ScheduleLine) (labels : List TaskLabel) (time : ℤ) (h : HeldWorld) (w : CodeWorld) (stands : HoldsWorld h w)
    (rows : HeldRows) (read : rows.schedule ≡ schedule) (current : rows.lines.current ≡ line_values labels w.kernel.lines) where
  later : int_lt time w.kernel.now ≡ int_lt time (kernel_of h.tasking).now
  later = ap (λ (v : CodeWorld). int_lt time v.kernel.now) stands

  shown : values scopes schedule labels (world_before time w) ≡ shown_by scopes rows (world_before time (world_of h))
  shown = sym (before_held scopes schedule labels h w stands rows read current time)

  text_held : instants_text scopes schedule labels (last_values rows) (ended_by time w) ≡ ended_text scopes rows time (world_of h)
  text_held =
      text_by scopes schedule labels (last_values rows) (world_before time w) (int_lt time w.kernel.now)
      ∙ (λ j. if later j then instant_text (unsigned_abs time) (last_values rows) (shown j) else [])

  dumped_held : dumped_after scopes schedule labels (last_values rows) (ended_by time w) ≡ ended_values scopes rows time (world_of h)
  dumped_held =
      dumped_by scopes schedule labels (last_values rows) (world_before time w) (int_lt time w.kernel.now)
      ∙ (λ j. if later j then Some (shown j) else last_values rows)

-- after n steps: the machine represents the world, rows have the values of its lines and those that were written last, and the instants that these steps end are
-- written
pub record Timed (scopes : Scopes) (i : Sections) (schedule : List ScheduleLine) (labels : List TaskLabel) (n : ℕ) (h : HeldWorld) (rows : HeldRows) (old new : Option (List ℕ)) (before after : ℕ) : Type 0 where
  pub image : h.image ≡ i
  pub schedule_is : h.schedule ≡ schedule
  pub stands : HoldsWorld h (code i schedule n)
  pub noted : Noted i schedule labels n rows
  pub dumped_is : last_values rows ≡ dumped_after scopes schedule labels None (ended i schedule n)
  pub written : Appends old new (instants_text scopes schedule labels None (ended i schedule n))
  pub kept : after ≡ before

pub timed_nothing : (scopes : Scopes) (h : HeldWorld) (rows : HeldRows) (old : Option (List ℕ)) (before : ℕ) → HoldsWorld h (code h.image h.schedule 0) → Noted h.image h.schedule rows.lines.labels 0 rows → last_values rows ≡ None →
    Timed scopes h.image h.schedule rows.lines.labels 0 h rows old old before before
timed_nothing scopes h rows old before stands noted none =
    record { image = refl; schedule_is = refl; stands = stands; noted = noted; dumped_is = none; written = appends_nothing old; kept = refl }

module _ (scopes : Scopes) (i : Sections) (schedule : List ScheduleLine) (labels : List TaskLabel) (n : ℕ) (h : HeldWorld) (rows : HeldRows) (old new : Option (List ℕ)) (before after : ℕ) (r : Timed scopes i schedule labels n h rows old new before after) where
  module _ (next : HeldWorld) (line : Option NumberedLine) (steps : StepsBy h next line) (time : ℤ) (time_is : time ≡ (kernel_of h.tasking).now)
      (noted_rows : HeldRows) (same_rows : noted_rows ≡ with_note line rows) (later : Option (List ℕ)) where
    abbrev text : List ℕ
    text = ended_text scopes noted_rows time (world_of next)

    stepped : HoldsWorld next (code i schedule (suc n))
    stepped = stands_on i schedule n h next line r.image r.schedule_is r.stands steps

    noted_more : Noted i schedule labels (suc n) noted_rows
    noted_more = noted_on i schedule labels n rows r.noted line (lines_on i schedule n h next line r.image r.schedule_is r.stands steps) noted_rows same_rows

    dumped_so_far : dumped_after scopes schedule labels None (ended i schedule n) ≡ last_values noted_rows
    dumped_so_far = sym (ap last_values same_rows ∙ r.dumped_is)

    one_more : ended i schedule (suc n) ≡ ended i schedule n ++ ended_by time (code i schedule (suc n))
    one_more =
        ap (λ t. ended i schedule n ++ ended_by t (code i schedule (suc n))) (ap (λ (w : CodeWorld). w.kernel.now) r.stands ∙ sym time_is)

    text_on : instants_text scopes schedule labels None (ended i schedule (suc n)) ≡ instants_text scopes schedule labels None (ended i schedule n) ++ text
    text_on =
        ap (instants_text scopes schedule labels None) one_more
        ∙ text_more scopes schedule labels None (ended i schedule n) (ended_by time (code i schedule (suc n)))
        ∙ ap (λ t. instants_text scopes schedule labels None (ended i schedule n) ++ instants_text scopes schedule labels t (ended_by time (code i schedule (suc n)))) dumped_so_far
        ∙ ap (λ v. instants_text scopes schedule labels None (ended i schedule n) ++ v)
        (text_held scopes schedule labels time next (code i schedule (suc n)) stepped noted_rows noted_more.schedule_is noted_more.current)

    dumped_on : dumped_after scopes schedule labels None (ended i schedule (suc n)) ≡ ended_values scopes noted_rows time (world_of next)
    dumped_on =
        ap (dumped_after scopes schedule labels None) one_more
        ∙ dumped_more scopes schedule labels None (ended i schedule n) (ended_by time (code i schedule (suc n)))
        ∙ ap (λ t. dumped_after scopes schedule labels t (ended_by time (code i schedule (suc n)))) dumped_so_far
        ∙ dumped_held scopes schedule labels time next (code i schedule (suc n)) stepped noted_rows noted_more.schedule_is noted_more.current

    pub timed_on : next.image ≡ h.image → next.schedule ≡ h.schedule → (ended_rows : HeldRows) → ended_rows.lines.image ≡ noted_rows.lines.image → ended_rows.schedule ≡ noted_rows.schedule →
        ended_rows.lines.labels ≡ noted_rows.lines.labels → ended_rows.lines.current ≡ noted_rows.lines.current → last_values ended_rows ≡ ended_values scopes noted_rows time (world_of next) →
        (count : ℕ) → Appends new later text → count ≡ after → Timed scopes i schedule labels (n + 1) next ended_rows old later before count
    timed_on same_image same_schedule ended_rows rows_image read rows_labels rows_current dumped_so count app same =
        let at : n + 1 ≡ suc n = omega arith in
        subst (λ m. Timed scopes i schedule labels m next ended_rows old later before count) (sym at)
        (record {
          image = same_image ∙ r.image;
          schedule_is = same_schedule ∙ r.schedule_is;
          stands = stepped;
          noted = noted_kept i schedule labels (suc n) noted_rows noted_more ended_rows rows_image read rows_labels rows_current;
          dumped_is = dumped_so ∙ sym dumped_on;
          written = subst (Appends old later) (sym text_on) (appends_two old new later (instants_text scopes schedule labels None (ended i schedule n)) text r.written app);
          kept = same ∙ r.kept;
        })

    -- an instant that could not be written: what is written is a beginning of all instants that are ended
    pub broken_instant : (limit : ℕ) → n + 1 ≤ limit → AppendsBeginning new later text → AppendsBeginning old later (instants_text scopes schedule labels None (ended i schedule limit))
    broken_instant limit le begun =
        let rest = ended_grow i schedule (suc n) (limit - suc n) in
        let end_ : suc n + (limit - suc n) ≡ limit = omega (arith, le) in
        let more = instants_text scopes schedule labels (dumped_after scopes schedule labels None (ended i schedule (suc n))) rest.0 in
        let whole : instants_text scopes schedule labels None (ended i schedule limit) ≡ (instants_text scopes schedule labels None (ended i schedule n) ++ text) ++ more =
        ap (λ m. instants_text scopes schedule labels None (ended i schedule m)) (sym end_)
        ∙ ap (instants_text scopes schedule labels None) rest.1
        ∙ text_more scopes schedule labels None (ended i schedule (suc n)) rest.0
        ∙ ap (λ v. v ++ more) text_on in
        subst (AppendsBeginning old later) (sym whole)
        (beginning_of_more old later (instants_text scopes schedule labels None (ended i schedule n) ++ text) more
        (beginning_after old new later (instants_text scopes schedule labels None (ended i schedule n)) text r.written begun))

-- what is so up to the outcome, or at the limit, is so at the limit
pub record Over (scopes : Scopes) (i : Sections) (schedule : List ScheduleLine) (labels : List TaskLabel) (limit : ℕ) (h : HeldWorld) (rows : HeldRows) (o : Outcome) (old new : Option (List ℕ)) (before after : ℕ) : Type 0 where
  pub stands : HoldsWorld h (code i schedule limit)
  pub current : rows.lines.current ≡ line_values labels (code i schedule limit).kernel.lines
  pub dumped_is : last_values rows ≡ dumped_after scopes schedule labels None (ended i schedule limit)
  pub written : Appends old new (instants_text scopes schedule labels None (ended i schedule limit))
  pub ends : EndsBy o (code i schedule limit)
  pub kept : after ≡ before

pub timed_over : OutcomeStays → (scopes : Scopes) (i : Sections) (schedule : List ScheduleLine) (labels : List TaskLabel) (n limit : ℕ) (h : HeldWorld) (rows : HeldRows) (old new : Option (List ℕ)) (before after : ℕ) → Timed scopes i schedule labels n h rows old new before after →
    n ≤ limit → (n ≡ limit) ⊎ ((e : KernelOutcome) × ((kernel_of h.tasking).outcome ≡ Some e)) → (o : Outcome) → EndsBy o (world_of h) → Over scopes i schedule labels limit h rows o old new before after
timed_over stays scopes i schedule labels n limit h rows old new before after r le why o ends =
    let at : n + (limit - n) ≡ limit = omega (arith, le) in
    let here : EndsBy o (code i schedule n) = ends_here i schedule n h r.stands o ends in
    let over : (e : KernelOutcome) → (kernel_of h.tasking).outcome ≡ Some e → (code i schedule n).kernel.outcome ≡ Some e = λ e is. ap (λ (w : CodeWorld). w.kernel.outcome) r.stands ∙ is in
    let same : (code i schedule limit ≡ code i schedule n) × (ended i schedule limit ≡ ended i schedule n) =
    ⊎_elim
    (λ (e : n ≡ limit). (ap (code i schedule) (sym e), ap (ended i schedule) (sym e)))
    (λ (q : (e : KernelOutcome) × ((kernel_of h.tasking).outcome ≡ Some e)). (
      subst (λ x. code i schedule x ≡ code i schedule n) at (stays i schedule n (limit - n) q.0 (over q.0 q.1)),
      subst (λ x. ended i schedule x ≡ ended i schedule n) at (ended_stay i schedule stays n q.0 (over q.0 q.1) (limit - n)),
    ))
    why in
    record {
      stands = subst (HoldsWorld h) (sym same.0) r.stands;
      current = r.noted.current ∙ ap (λ (w : CodeWorld). line_values labels w.kernel.lines) (sym same.0);
      dumped_is = r.dumped_is ∙ ap (dumped_after scopes schedule labels None) (sym same.1);
      written = subst (λ ks. Appends old new (instants_text scopes schedule labels None ks)) (sym same.1) r.written;
      ends = subst (EndsBy o) (sym same.0) here;
      kept = r.kept;
    }

-- the last instant ends with the run
module _ (scopes : Scopes) (i : Sections) (schedule : List ScheduleLine) (labels : List TaskLabel) (limit : ℕ) (h : HeldWorld) (rows : HeldRows) (stands : HoldsWorld h (code i schedule limit))
    (read : rows.schedule ≡ schedule) (current : rows.lines.current ≡ line_values labels (code i schedule limit).kernel.lines)
    (dumped_is : last_values rows ≡ dumped_after scopes schedule labels None (ended i schedule limit)) where
  abbrev last_text : List ℕ
  last_text = instant_text (unsigned_abs (kernel_of h.tasking).now) (last_values rows) (shown_by scopes rows (world_of h))

  last_instant : instants_text scopes schedule labels None (instants i schedule limit) ≡ instants_text scopes schedule labels None (ended i schedule limit) ++ last_text
  last_instant =
      let w = code i schedule limit in
      let so_far = instants_text scopes schedule labels None (ended i schedule limit) in
      let now : unsigned_abs w.kernel.now ≡ unsigned_abs (kernel_of h.tasking).now = ap (λ (v : CodeWorld). unsigned_abs v.kernel.now) stands in
      let values_are : values scopes schedule labels w ≡ shown_by scopes rows (world_of h) = sym (shown_held scopes schedule labels h w stands rows read current) in
      text_more scopes schedule labels None (ended i schedule limit) (w ∷ [])
      ∙ ap (λ v. so_far ++ v) (append-nil (instant_text (unsigned_abs w.kernel.now) (dumped_after scopes schedule labels None (ended i schedule limit)) (values scopes schedule labels w)))
      ∙ (λ j. so_far ++ instant_text (now j) (sym dumped_is j) (values_are j))

  module _ (old middle new : Option (List ℕ)) (wrote : Appends old middle (instants_text scopes schedule labels None (ended i schedule limit))) where
    pub all_instants : (piece : List ℕ) → piece ≡ last_text → Appends middle new piece → Appends old new (instants_text scopes schedule labels None (instants i schedule limit))
    all_instants piece is app =
        subst (Appends old new) (sym last_instant)
        (appends_two old middle new (instants_text scopes schedule labels None (ended i schedule limit)) last_text wrote (subst (Appends middle new) is app))

    pub last_begun : (piece : List ℕ) → piece ≡ last_text → AppendsBeginning middle new piece → AppendsBeginning old new (instants_text scopes schedule labels None (instants i schedule limit))
    last_begun piece is begun =
        subst (AppendsBeginning old new) (sym last_instant)
        (beginning_after old middle new (instants_text scopes schedule labels None (ended i schedule limit)) last_text wrote (subst (AppendsBeginning middle new) is begun))

pub ended_begun : (scopes : Scopes) (i : Sections) (schedule : List ScheduleLine) (labels : List TaskLabel) (limit : ℕ) (old new : Option (List ℕ)) → AppendsBeginning old new (instants_text scopes schedule labels None (ended i schedule limit)) →
    AppendsBeginning old new (instants_text scopes schedule labels None (instants i schedule limit))
ended_begun scopes i schedule labels limit old new begun =
    let last = code i schedule limit ∷ [] in
    subst (AppendsBeginning old new) (sym (text_more scopes schedule labels None (ended i schedule limit) last))
    (beginning_of_more old new (instants_text scopes schedule labels None (ended i schedule limit)) (instants_text scopes schedule labels (dumped_after scopes schedule labels None (ended i schedule limit)) last) begun)
