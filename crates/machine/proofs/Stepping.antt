-- What one step has shown.
use Rattle.std.proofs.Common.{◌≡◌, ℕ, ◌+◌, List, [], ◌∷◌, ◌++◌, Option, Some, None, refl, sym, ap, subst, ◌∙◌, append-nil}
use Rattle.kernel.specs.State as kernel
use Rattle.kernel.specs.Text.{line_text}
use Rattle.image.specs.Code.{code}
use Rattle.image.specs.Texts.{names_of}
use Rattle.image_laws.specs.Laws.{OutcomeStays}
use Rattle.tasking.specs.Held.{kernel_of}
use Rattle.execution.specs.Held.{HeldWorld, Leads, lines_of, world_with}
use Rattle.execution.specs.declared.line.Line.{Line}
use Rattle.machine.specs.Outcomes.{ending_of}
use Rattle.machine.specs.Stands.{IsLast, ShowsText, HoldsWorld}
use Rattle.machine.specs.declared.reports.Event.{Event}
use Rattle.machine.specs.declared.reports.Event.TheVariants as events
use Rattle.machine.specs.declared.reports.Outcome.{Outcome}
use Rattle.machine.proofs.Runs.{led_on, stands_by}

-- the world after one more step, and what the event shows of it
abbrev pub Stepped : HeldWorld → HeldWorld → ℕ → Event → Type 0
Stepped h next m event = HoldsWorld next (code h.image h.schedule (m + 1)) × ShowsText h.image (code h.image h.schedule m).kernel (code h.image h.schedule (m + 1)).kernel event

-- the outcome that was there already
pub step_over : OutcomeStays → (h : HeldWorld) (m : ℕ) → HoldsWorld h (code h.image h.schedule m) → (o : Outcome) → ending_of o ≡ (kernel_of h.tasking).outcome → IsLast (kernel_of h.tasking).now (Some o) → Stepped h h m (events.Done o)
step_over stays h m stands o is last =
    let outcome = ap (λ w. w.kernel.outcome) stands in
    let same = stays h.image h.schedule m 1 last.0 (outcome ∙ (sym is ∙ last.1)) in (
      same ∙ (stands ∙ ap (λ l. world_with l h) (sym (ap (λ w. w.kernel.lines) same))),
      (
        ap (λ w. w.kernel.lines) same,
        ap (λ w. w.kernel.outcome) same ∙ (outcome ∙ sym is),
        ap (λ w. w.kernel.now) same ∙ (ap (λ w. w.kernel.now) stands ∙ sym last.2),
        (last.0, last.1),
      ),
    )

module _ (h next : HeldWorld) (m : ℕ) (stands : HoldsWorld h (code h.image h.schedule m)) where
  -- a line
  pub step_line : (line : kernel.Line) (text : List ℕ) → Leads 1 h next (line ∷ []) → text ≡ line_text (names_of h.image) line → (kernel_of next.tasking).outcome ≡ None →
      HoldsWorld next (code h.image h.schedule (m + 1))
      × ((l : kernel.Line) × ((code h.image h.schedule (m + 1)).kernel.lines ≡ (code h.image h.schedule m).kernel.lines ++ l ∷ []) × (text ≡ line_text (names_of h.image) l) × ((code h.image h.schedule (m + 1)).kernel.outcome ≡ None))
  step_line line text l is going =
      let e = led_on h next m 1 (line ∷ []) stands l in
      (stands_by next (code h.image h.schedule (m + 1)) _ e, (line, ap (λ w. w.kernel.lines) e, is, ap (λ w. w.kernel.outcome) e ∙ going))

  module _ (l : Leads 1 h next []) where
    e : code h.image h.schedule (m + 1) ≡ world_with ((code h.image h.schedule m).kernel.lines ++ []) next
    e = led_on h next m 1 [] stands l

    same_lines : (code h.image h.schedule (m + 1)).kernel.lines ≡ (code h.image h.schedule m).kernel.lines
    same_lines = ap (λ w. w.kernel.lines) e ∙ append-nil (code h.image h.schedule m).kernel.lines

    -- nothing that can be seen
    pub step_quiet : (kernel_of next.tasking).outcome ≡ None → Stepped h next m events.Quiet
    step_quiet going = (stands_by next (code h.image h.schedule (m + 1)) _ e, (same_lines, ap (λ w. w.kernel.outcome) e ∙ going))

    -- the outcome
    pub step_done : (o : Outcome) → ending_of o ≡ (kernel_of next.tasking).outcome → IsLast (kernel_of next.tasking).now (Some o) → Stepped h next m (events.Done o)
    step_done o is last = (
      stands_by next (code h.image h.schedule (m + 1)) _ e,
      (same_lines, ap (λ w. w.kernel.outcome) e ∙ sym is, ap (λ w. w.kernel.now) e ∙ sym last.2, (last.0, last.1)),
    )

-- Lines before they are text

-- by whether there is an outcome
by_outcome : (P : Type 0) (o : Option kernel.Outcome) → (o ≡ None → P) → ((e : kernel.Outcome) → o ≡ Some e → P) → P
by_outcome P None without with_one = without refl
by_outcome P (Some e) without with_one = with_one e refl

-- the world after one more step, and the line that it wrote, if any
pub line_stepped : OutcomeStays → (h next : HeldWorld) (line : Option Line) → ((kernel_of h.tasking).outcome ≡ None → Leads 1 h next (lines_of h.image line)) →
    ((o : kernel.Outcome) → (kernel_of h.tasking).outcome ≡ Some o → (line ≡ None) × (next ≡ h)) → (m : ℕ) → HoldsWorld h (code h.image h.schedule m) →
    HoldsWorld next (code h.image h.schedule (m + 1)) × ((code h.image h.schedule (m + 1)).kernel.lines ≡ (code h.image h.schedule m).kernel.lines ++ lines_of h.image line)
line_stepped stays h next line going over m stands =
    by_outcome
    (HoldsWorld next (code h.image h.schedule (m + 1)) × ((code h.image h.schedule (m + 1)).kernel.lines ≡ (code h.image h.schedule m).kernel.lines ++ lines_of h.image line))
    (kernel_of h.tasking).outcome
    (λ none. let e = led_on h next m 1 (lines_of h.image line) stands (going none) in (stands_by next (code h.image h.schedule (m + 1)) _ e, ap (λ w. w.kernel.lines) e))
    (λ o is.
    let ends = over o is in
    let same = stays h.image h.schedule m 1 o (ap (λ w. w.kernel.outcome) stands ∙ is) in
    let here : HoldsWorld h (code h.image h.schedule (m + 1)) = same ∙ (stands ∙ ap (λ l. world_with l h) (sym (ap (λ w. w.kernel.lines) same))) in (
      subst (λ (x : HeldWorld). HoldsWorld x (code h.image h.schedule (m + 1))) (sym ends.1) here,
      ap (λ w. w.kernel.lines) same
          ∙ sym (append-nil (code h.image h.schedule m).kernel.lines)
          ∙ ap (λ l. (code h.image h.schedule m).kernel.lines ++ lines_of h.image l) (sym ends.0),
    ))
