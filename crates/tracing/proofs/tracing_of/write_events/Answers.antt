use Rattle.std.proofs.Common.{rules, ℕ, List, ◌≡◌, ◌∙◌, ◌+◌, ◌++◌, ap, subst, sym, drop, of_z, to_z, w64}
use Rattle.std.proofs.Math.ListN.{drop_of_length-le}
use Rattle.std.proofs.lemmas.List.{at_drop_more}
use Rattle.std.specs.Io.KnownBytes.{Appends}
use Rattle.machine.specs.Written.{AppendsBeginning}
use Rattle.tracing.specs.Traces.{row_names, rows_text, shown}
use Rattle.tracing.specs.declared.event.Event.{Event}
use Rattle.tracing.specs.declared.event.Event.TheVariants.{Ready}
use Rattle.tracing.proofs.Parts.{all_written, broken, nothing_written, one_more}
use Rattle.tracing.proofs.tracing_of.write_events.Goals as goal

pub loop-event-init : goal.loop-event-init
loop-event-init g c = nothing_written _ _ _

pub loop-event-preserved : goal.loop-event-preserved
loop-event-preserved g c =
    let text : List Event → List ℕ = λ events. rows_text (row_names c.args.image.now c.args.objects.now (g.O.Origins.known c.args.origins.now)) (shown (to_z w64 (of_z w64 c.args.time)) c.args.step events) in
    let rest = text (drop (c.loop-event.event-index + 1) c.args.events.now) in
    let left = at_drop_more text c.args.events.now c.loop-event.event-index (Ready 0) c.loop-event-test.true in
    let row = c.as_slice.ensures.value ∙ c.event_row-row.ensures in
    one_more _ _ _ _ _ _ c.loop-event.invariant c.as_slice.result.now rest (left ∙ ap (λ v. v ++ rest) (sym row)) _ _ c.in-Ok.ensures.whole c.in-Ok.ensures.kept

pub returns-in-Err-clause-beginning : goal.returns-in-Err-clause-beginning
returns-in-Err-clause-beginning g c =
    let text : List Event → List ℕ = λ events. rows_text (row_names c.args.image.now c.args.objects.now (g.O.Origins.known c.args.origins.now)) (shown (to_z w64 (of_z w64 c.args.time)) c.args.step events) in
    let rest = text (drop (c.loop-event.event-index + 1) c.args.events.now) in
    let left = at_drop_more text c.args.events.now c.loop-event.event-index (Ready 0) c.loop-event-test.true in
    let row = c.as_slice.ensures.value ∙ c.event_row-row.ensures in
    let time : to_z w64 (of_z w64 c.args.time) ≡ c.args.time = search rules in
    subst (λ t. AppendsBeginning (g.S.Sink.bytes c.args.sink.now) (g.S.Sink.bytes c.write_all.new.sink) (rows_text (row_names c.args.image.now c.args.objects.now (g.O.Origins.known c.args.origins.now)) (shown t c.args.step c.args.events.now))) time
    (broken _ _ _ _ _ _ c.loop-event.invariant c.as_slice.result.now rest (left ∙ ap (λ v. v ++ rest) (sym row)) _ c.in-Err.ensures.beginning)

pub returns-clause-whole : goal.returns-clause-whole
returns-clause-whole g c =
    let text : List Event → List ℕ = λ events. rows_text (row_names c.args.image.now c.args.objects.now (g.O.Origins.known c.args.origins.now)) (shown (to_z w64 (of_z w64 c.args.time)) c.args.step events) in
    let time : to_z w64 (of_z w64 c.args.time) ≡ c.args.time = search rules in
    subst (λ t. Appends (g.S.Sink.bytes c.args.sink.now) (g.S.Sink.bytes c.loop-event.sink) (rows_text (row_names c.args.image.now c.args.objects.now (g.O.Origins.known c.args.origins.now)) (shown t c.args.step c.args.events.now))) time
    (all_written _ _ _ _ _ _ c.loop-event.invariant (ap text (drop_of_length-le c.args.events.now c.loop-event-test.false)))
