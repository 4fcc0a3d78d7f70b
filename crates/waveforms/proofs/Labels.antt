-- The labels of lines and the values of the last ones, one line after the other.
use Rattle.std.proofs.Common.{◌≡◌, ◌⊎◌, ℕ, suc, ◌+◌, ◌-◌, ◌≤◌, ⊎_elim, List, [], ◌∷◌, ◌++◌, Option, Some, None, refl, sym, ap, subst, ◌∙◌, arith, append_assoc, append-nil}
use Rattle.base.specs.declared.schedule.ScheduleLine.{ScheduleLine}
use Rattle.kernel.specs.Laws.{LeftUnmoved}
use Rattle.kernel.specs.State.{Line, Outcome as KernelOutcome}
use Rattle.image.specs.Code.{CodeWorld, code}
use Rattle.image.specs.Sections.{Sections}
use Rattle.image_laws.specs.Laws.{OutcomeStays}
use Rattle.tasking.specs.Held.{kernel_of}
use Rattle.execution.specs.Held.{HeldWorld, lines_of}
use Rattle.execution.specs.declared.line.Line.{Line as NumberedLine}
use Rattle.machine.specs.Stands.{HoldsWorld}
use Rattle.machine.proofs.Runs.{starts_without_lines}
use Rattle.waveforms.specs.LastValues.{noted, noted_all, value_with}
use Rattle.waveforms.specs.Lines.{TaskLabel, labels_of, line_values, value_after, with_line, with_lines}
use Rattle.waveforms.proofs.Standing.{StepsBy, lines_on, stands_on}

-- Values

value_more : (before : Option ℕ) (p : TaskLabel) (ls more : List Line) → value_after before p (ls ++ more) ≡ value_after (value_after before p ls) p more
value_more before p [] more = refl
value_more before p (l ∷ ls) more = value_more (value_with l p before) p ls more

noted_is : (l : Line) (ps : List TaskLabel) (lines : List Line) → noted l ps (line_values ps lines) ≡ line_values ps (lines ++ l ∷ [])
noted_is l [] lines = refl
noted_is l (p ∷ ps) lines = λ j. sym (value_more None p lines (l ∷ [])) j ∷ noted_is l ps lines j

-- with the line of a step they are the values of the lines with it
pub noted_all_is : (ls : List Line) (ps : List TaskLabel) (lines : List Line) → noted_all ls ps (line_values ps lines) ≡ line_values ps (lines ++ ls)
noted_all_is [] ps lines = ap (line_values ps) (sym (append-nil lines))
noted_all_is (l ∷ ls) ps lines =
    ap (noted_all ls ps) (noted_is l ps lines) ∙ noted_all_is ls ps (lines ++ l ∷ []) ∙ ap (line_values ps) (append_assoc lines (l ∷ []) ls)

-- Labels

labels_more : (ps : List TaskLabel) (ls more : List Line) → with_lines ps (ls ++ more) ≡ with_lines (with_lines ps ls) more
labels_more ps [] more = refl
labels_more ps (l ∷ ls) more = labels_more (with_line ps l) ls more

-- after n steps: the machine represents the world, and these are the labels of its lines
pub record Labelled (i : Sections) (schedule : List ScheduleLine) (n : ℕ) (h : HeldWorld) (labels : List TaskLabel) : Type 0 where
  pub image : h.image ≡ i
  pub schedule_is : h.schedule ≡ schedule
  pub stands : HoldsWorld h (code i schedule n)
  pub labels_are : labels ≡ labels_of (code i schedule n).kernel.lines

pub labelled_nothing : LeftUnmoved → (i : Sections) (schedule : List ScheduleLine) (h : HeldWorld) → h.image ≡ i → h.schedule ≡ schedule → HoldsWorld h (code i schedule 0) → Labelled i schedule 0 h []
labelled_nothing unmoved i schedule h image schedule_is stands =
    record { image = image; schedule_is = schedule_is; stands = stands; labels_are = ap labels_of (sym (starts_without_lines unmoved i schedule)) }

module _ (i : Sections) (schedule : List ScheduleLine) (n : ℕ) (h : HeldWorld) (labels : List TaskLabel) (r : Labelled i schedule n h labels) where
  pub labelled_on : (next : HeldWorld) (line : Option NumberedLine) → StepsBy h next line → next.image ≡ h.image → next.schedule ≡ h.schedule → (more : List TaskLabel) → more ≡ with_lines labels (lines_of i line) → Labelled i schedule (n + 1) next more
  labelled_on next line steps same_image same_schedule more is =
      let at : n + 1 ≡ suc n = omega arith in
      let lines = lines_on i schedule n h next line r.image r.schedule_is r.stands steps in
      subst (λ m. Labelled i schedule m next more) (sym at)
      (record {
        image = same_image ∙ r.image;
        schedule_is = same_schedule ∙ r.schedule_is;
        stands = stands_on i schedule n h next line r.image r.schedule_is r.stands steps;
        labels_are =
            is
            ∙ ap (λ ps. with_lines ps (lines_of i line)) r.labels_are
            ∙ sym (labels_more [] (code i schedule n).kernel.lines (lines_of i line))
            ∙ ap labels_of (sym lines);
      })

  -- up to the outcome, or at the limit, they are those of all lines
  pub labelled_over : OutcomeStays → (limit : ℕ) → n ≤ limit → (n ≡ limit) ⊎ ((e : KernelOutcome) × ((kernel_of h.tasking).outcome ≡ Some e)) → labels ≡ labels_of (code i schedule limit).kernel.lines
  labelled_over stays limit le why =
      let at : n + (limit - n) ≡ limit = omega (arith, le) in
      let same : code i schedule n ≡ code i schedule limit =
      ⊎_elim
      (λ (e : n ≡ limit). ap (code i schedule) e)
      (λ (q : (e : KernelOutcome) × ((kernel_of h.tasking).outcome ≡ Some e)).
      let over : (code i schedule n).kernel.outcome ≡ Some q.0 = ap (λ (w : CodeWorld). w.kernel.outcome) r.stands ∙ q.1 in
      sym (subst (λ x. code i schedule x ≡ code i schedule n) at (stays i schedule n (limit - n) q.0 over)))
      why in
      r.labels_are ∙ ap (λ (w : CodeWorld). labels_of w.kernel.lines) same
