use Rattle.std.proofs.Common.{rules, ℕ, List, pos, ◌≡◌, ◌∙◌, ◌+◌, ◌++◌, ap, subst, sym, drop, of_z, to_z, w64}
use Rattle.std.proofs.lemmas.List.{at_drop_more}
use Rattle.base.specs.declared.schedule.ScheduleLine.{ScheduleLine}
use Rattle.machine.specs.Written.{AppendsBeginning}
use Rattle.tracing.specs.Traces.{came, lines_come, row_names, rows_text}
use Rattle.tracing.proofs.Parts.{Parts, broken, one_more}
use Rattle.tracing.proofs.Rows.{line_come, line_not_come}
use Rattle.tracing.proofs.tracing_of.write_inputs.Goals as goal
use Rattle.tracing.proofs.tracing_of.write_inputs.Goals.{then-has_come+in-Ok, else-has_come}

abbrev no_line : ScheduleLine
no_line = record { time = pos 0; channel = 0; value = pos 0 }

pub loop-line-preserved : goal.loop-line-preserved
loop-line-preserved g c =
    let names = (row_names c.args.image.now c.args.objects.now (g.O.Origins.known c.args.origins.now)) in
    let now = to_z w64 (of_z w64 c.args.now) in
    let text : List ScheduleLine → List ℕ = λ lines. rows_text names (came c.args.step (lines_come c.args.since now lines)) in
    let later = drop (c.loop-line.line-index + 1) c.args.lines.now in
    let left = at_drop_more text c.args.lines.now c.loop-line.line-index no_line c.loop-line-test.true in
    elim c.if-has_come.branch [
      | then-has_come+in-Ok w ↦
          subst (λ s. Parts (g.S.Sink.bytes c.args.sink.now) (g.S.Sink.bytes s) (g.S.Sink.failures c.args.sink.now) (g.S.Sink.failures s) (text c.args.lines.now) (text later)) (sym w.sink-is)
          (one_more _ _ _ _ _ _ c.loop-line.invariant w.as_slice.result.now (text later)
          (left ∙ line_come names c.args.step c.args.since now _ later (sym c.has_come.ensures ∙ w.if-has_come.true) ∙ ap (λ v. v ++ text later) (sym (w.as_slice.ensures.value ∙ w.input_row-row.ensures)))
          _ _ w.in-Ok.ensures.whole w.in-Ok.ensures.kept)
      | else-has_come w ↦
          subst (λ s. Parts (g.S.Sink.bytes c.args.sink.now) (g.S.Sink.bytes s) (g.S.Sink.failures c.args.sink.now) (g.S.Sink.failures s) (text c.args.lines.now) (text later)) (sym w.sink-is)
          (subst (λ v. Parts (g.S.Sink.bytes c.args.sink.now) (g.S.Sink.bytes c.loop-line.sink) (g.S.Sink.failures c.args.sink.now) (g.S.Sink.failures c.loop-line.sink) (text c.args.lines.now) v)
          (left ∙ line_not_come names c.args.step c.args.since now _ later (sym c.has_come.ensures ∙ w.if-has_come.false)) c.loop-line.invariant)
    ]

pub returns-in-Err-clause-beginning : goal.returns-in-Err-clause-beginning
returns-in-Err-clause-beginning g c =
    let names = (row_names c.args.image.now c.args.objects.now (g.O.Origins.known c.args.origins.now)) in
    let now = to_z w64 (of_z w64 c.args.now) in
    let text : List ScheduleLine → List ℕ = λ lines. rows_text names (came c.args.step (lines_come c.args.since now lines)) in
    let later = drop (c.loop-line.line-index + 1) c.args.lines.now in
    let left = at_drop_more text c.args.lines.now c.loop-line.line-index no_line c.loop-line-test.true in
    let time : now ≡ c.args.now = search rules in
    subst (λ t. AppendsBeginning (g.S.Sink.bytes c.args.sink.now) (g.S.Sink.bytes c.write_all.new.sink) (rows_text names (came c.args.step (lines_come c.args.since t c.args.lines.now)))) time
    (broken _ _ _ _ _ _ c.loop-line.invariant c.as_slice.result.now (text later)
    (left ∙ line_come names c.args.step c.args.since now _ later (sym c.has_come.ensures ∙ c.if-has_come.true) ∙ ap (λ v. v ++ text later) (sym (c.as_slice.ensures.value ∙ c.input_row-row.ensures)))
    _ c.in-Err.ensures.beginning)
