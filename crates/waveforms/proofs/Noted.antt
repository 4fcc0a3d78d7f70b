-- Rows beside a run: the values of its lines so far.
use Rattle.std.proofs.Common.{◌≡◌, ℕ, suc, List, [], ◌++◌, Option, false, sym, ap, ◌∙◌}
use Rattle.base.specs.declared.schedule.ScheduleLine.{ScheduleLine}
use Rattle.kernel.specs.Laws.{LeftUnmoved}
use Rattle.image.specs.Code.{code}
use Rattle.image.specs.Sections.{Sections}
use Rattle.execution.specs.Held.{HeldWorld, lines_of}
use Rattle.execution.specs.declared.line.Line.{Line}
use Rattle.machine.proofs.Runs.{starts_without_lines}
use Rattle.waveforms.specs.LastValues.{HeldLines, HeldRows, noted_all}
use Rattle.waveforms.specs.Lines.{TaskLabel, line_values}
use Rattle.waveforms.proofs.Labels.{noted_all_is}

-- after n steps: rows are those of this image, schedule and labels, and have the values of the lines so far
pub record Noted (i : Sections) (schedule : List ScheduleLine) (labels : List TaskLabel) (n : ℕ) (r : HeldRows) : Type 0 where
  pub image : r.lines.image ≡ i
  pub schedule_is : r.schedule ≡ schedule
  pub labels_are : r.lines.labels ≡ labels
  pub current : r.lines.current ≡ line_values labels (code i schedule n).kernel.lines

-- rows with the line of a step
abbrev pub with_note : Option Line → HeldRows → HeldRows
with_note line r = record r { lines = record r.lines { current = noted_all (lines_of r.lines.image line) r.lines.labels r.lines.current } }

module _ (i : Sections) (schedule : List ScheduleLine) (labels : List TaskLabel) where
  -- before the first line
  pub begun_noted : LeftUnmoved → (r : HeldRows) → r.lines.image ≡ i → r.schedule ≡ schedule → r.lines.labels ≡ labels → r.lines.current ≡ line_values labels [] → Noted i schedule labels 0 r
  begun_noted unmoved r image schedule_is labels_are current =
      record { image = image; schedule_is = schedule_is; labels_are = labels_are; current = current ∙ ap (line_values labels) (sym (starts_without_lines unmoved i schedule)) }

  -- those that are made before a run
  pub new_noted : LeftUnmoved → (r : HeldRows) (lines : HeldLines) (room : ℕ) → r ≡ record { room = room; schedule = schedule; is_written = false; last = []; lines = lines; text = [] } →
      lines ≡ record { image = i; labels = labels; written = line_values labels []; current = line_values labels [] } → Noted i schedule labels 0 r
  new_noted unmoved r lines room is lines_are =
      let own : r.lines ≡ record { image = i; labels = labels; written = line_values labels []; current = line_values labels [] } = ap (λ (x : HeldRows). x.lines) is ∙ lines_are in
      begun_noted unmoved r (ap (λ (l : HeldLines). l.image) own) (ap (λ (x : HeldRows). x.schedule) is) (ap (λ (l : HeldLines). l.labels) own) (ap (λ (l : HeldLines). l.current) own)

  -- by the image and the schedule of a machine
  pub current_held : (r : HeldRows) → Noted i schedule labels 0 r → (h : HeldWorld) → h.image ≡ i → h.schedule ≡ schedule → r.lines.current ≡ line_values r.lines.labels (code h.image h.schedule 0).kernel.lines
  current_held r is h image schedule_is = is.current ∙ (λ j. line_values (sym is.labels_are j) (code (sym image j) (sym schedule_is j) 0).kernel.lines)

  module _ (n : ℕ) (r : HeldRows) (is : Noted i schedule labels n r) where
    pub noted_on : (line : Option Line) → (code i schedule (suc n)).kernel.lines ≡ (code i schedule n).kernel.lines ++ lines_of i line → (next : HeldRows) → next ≡ with_note line r → Noted i schedule labels (suc n) next
    noted_on line lines next same =
        record {
          image = ap (λ (x : HeldRows). x.lines.image) same ∙ is.image;
          schedule_is = ap (λ (x : HeldRows). x.schedule) same ∙ is.schedule_is;
          labels_are = ap (λ (x : HeldRows). x.lines.labels) same ∙ is.labels_are;
          current =
              ap (λ (x : HeldRows). x.lines.current) same
              ∙ (λ j. noted_all (lines_of (is.image j) line) (is.labels_are j) (is.current j))
              ∙ noted_all_is (lines_of i line) labels (code i schedule n).kernel.lines
              ∙ ap (line_values labels) (sym lines);
        }

    -- rows that differ in nothing of this
    pub noted_kept : (next : HeldRows) → next.lines.image ≡ r.lines.image → next.schedule ≡ r.schedule → next.lines.labels ≡ r.lines.labels → next.lines.current ≡ r.lines.current → Noted i schedule labels n next
    noted_kept next image schedule_is labels_are current =
        record { image = image ∙ is.image; schedule_is = schedule_is ∙ is.schedule_is; labels_are = labels_are ∙ is.labels_are; current = current ∙ is.current }

    -- where the current values have been written
    pub noted_written : (next : HeldRows) → next.lines ≡ record r.lines { written = r.lines.current } → next.schedule ≡ r.schedule → Noted i schedule labels n next
    noted_written next lines schedule_is =
        noted_kept next (ap (λ (l : HeldLines). l.image) lines) schedule_is (ap (λ (l : HeldLines). l.labels) lines) (ap (λ (l : HeldLines). l.current) lines)
