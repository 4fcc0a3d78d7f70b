use Rattle.std.proofs.Common.{rules, ◌≡◌, ◌∙◌, refl, sym, of_z, to_z, w64}
use Rattle.tasking.specs.Held.{kernel_of}
use Rattle.tracing.specs.Changes.{since_clock, until_clock}
use Rattle.tracing.proofs.Parts.{both, first_begun, last_begun, on_err, on_ok}
use Rattle.tracing.proofs.Traced.{step_parts}
use Rattle.tracing.proofs.tracing_of.write_step.Goals as goal

pub returns-in-Err-clause-beginning : goal.returns-in-Err-clause-beginning
returns-in-Err-clause-beginning g c =
    let k = kernel_of c.args.before.now.tasking in
    let l = kernel_of c.args.after.now.tasking in
    let time : to_z w64 (of_z w64 c.now-time.result) ≡ c.now-time.result = search rules in
    let later : to_z w64 (of_z w64 c.now-now.result) ≡ c.now-now.result = search rules in
    let runs = sym c.actor.ensures ∙ c.in-Some.is in
    let is = step_parts c.args.image.now c.args.objects.now (g.O.Origins.known c.args.origins.now) c.args.lines.now c.args.calls.now c.args.ahead k l c.args.step c.args.shown.now c.in-Some.ran _ _ k.now l.now l.now (until_clock c.args.calls.now c.args.ahead k l c.in-Some.ran) (since_clock k l c.in-Some.ran) runs (time ∙ c.now-time.ensures) refl refl refl refl refl in
    first_begun _ _ _ _ _ is (first_begun _ _ _ _ _ refl (first_begun _ _ _ _ _ refl c.in-Err.ensures.beginning))

pub returns-in-Err-write_events-clause-beginning : goal.returns-in-Err-write_events-clause-beginning
returns-in-Err-write_events-clause-beginning g c =
    let k = kernel_of c.args.before.now.tasking in
    let l = kernel_of c.args.after.now.tasking in
    let time : to_z w64 (of_z w64 c.now-time.result) ≡ c.now-time.result = search rules in
    let later : to_z w64 (of_z w64 c.now-now.result) ≡ c.now-now.result = search rules in
    let runs = sym c.actor.ensures ∙ c.in-Some.is in
    let until = c.as_slice.ensures.value ∙ c.until_clock-until.ensures in
    let is = step_parts c.args.image.now c.args.objects.now (g.O.Origins.known c.args.origins.now) c.args.lines.now c.args.calls.now c.args.ahead k l c.args.step c.args.shown.now c.in-Some.ran _ _ k.now l.now l.now _ (since_clock k l c.in-Some.ran) runs (time ∙ c.now-time.ensures) refl refl refl until refl in
    first_begun _ _ _ _ _ is (first_begun _ _ _ _ _ refl (last_begun _ _ _ _ _ _ refl c.in-Ok.ensures.whole c.in-Err-write_events.ensures.beginning))

pub returns-in-Err-write_inputs-clause-beginning : goal.returns-in-Err-write_inputs-clause-beginning
returns-in-Err-write_inputs-clause-beginning g c =
    let k = kernel_of c.args.before.now.tasking in
    let l = kernel_of c.args.after.now.tasking in
    let time : to_z w64 (of_z w64 c.now-time.result) ≡ c.now-time.result = search rules in
    let later : to_z w64 (of_z w64 c.now-now.result) ≡ c.now-now.result = search rules in
    let runs = sym c.actor.ensures ∙ c.in-Some.is in
    let until = c.as_slice.ensures.value ∙ c.until_clock-until.ensures in
    let is = step_parts c.args.image.now c.args.objects.now (g.O.Origins.known c.args.origins.now) c.args.lines.now c.args.calls.now c.args.ahead k l c.args.step c.args.shown.now c.in-Some.ran _ _ _ _ l.now _ (since_clock k l c.in-Some.ran) runs (time ∙ c.now-time.ensures) (time ∙ c.now-time.ensures) (later ∙ c.now-now.ensures) refl until refl in
    first_begun _ _ _ _ _ is (last_begun _ _ _ _ _ _ refl (both _ _ _ _ _ _ refl c.in-Ok.ensures.whole c.in-Ok-write_events.ensures.whole) c.in-Err-write_inputs.ensures.beginning)

pub returns-clause-whole : goal.returns-clause-whole
returns-clause-whole g c =
    let k = kernel_of c.args.before.now.tasking in
    let l = kernel_of c.args.after.now.tasking in
    let time : to_z w64 (of_z w64 c.now-time.result) ≡ c.now-time.result = search rules in
    let later : to_z w64 (of_z w64 c.now-now.result) ≡ c.now-now.result = search rules in
    let runs = sym c.actor.ensures ∙ c.in-Some.is in
    let until = c.as_slice.ensures.value ∙ c.until_clock-until.ensures in
    let since = c.as_slice-2.ensures.value ∙ c.since_clock-since.ensures in
    let is = step_parts c.args.image.now c.args.objects.now (g.O.Origins.known c.args.origins.now) c.args.lines.now c.args.calls.now c.args.ahead k l c.args.step c.args.shown.now c.in-Some.ran _ _ _ _ _ _ _ runs (time ∙ c.now-time.ensures) (time ∙ c.now-time.ensures) (later ∙ c.now-now.ensures) (later ∙ c.now-now.ensures) until since in
    on_ok _ _ _ (both _ _ _ _ _ _ is (both _ _ _ _ _ _ refl (both _ _ _ _ _ _ refl c.in-Ok.ensures.whole c.in-Ok-write_events.ensures.whole) c.in-Ok-write_inputs.ensures.whole)) c.write_events-2.ensures.whole

pub returns-clause-beginning : goal.returns-clause-beginning
returns-clause-beginning g c =
    let k = kernel_of c.args.before.now.tasking in
    let l = kernel_of c.args.after.now.tasking in
    let time : to_z w64 (of_z w64 c.now-time.result) ≡ c.now-time.result = search rules in
    let later : to_z w64 (of_z w64 c.now-now.result) ≡ c.now-now.result = search rules in
    let runs = sym c.actor.ensures ∙ c.in-Some.is in
    let until = c.as_slice.ensures.value ∙ c.until_clock-until.ensures in
    let since = c.as_slice-2.ensures.value ∙ c.since_clock-since.ensures in
    let is = step_parts c.args.image.now c.args.objects.now (g.O.Origins.known c.args.origins.now) c.args.lines.now c.args.calls.now c.args.ahead k l c.args.step c.args.shown.now c.in-Some.ran _ _ _ _ _ _ _ runs (time ∙ c.now-time.ensures) (time ∙ c.now-time.ensures) (later ∙ c.now-now.ensures) (later ∙ c.now-now.ensures) until since in
    on_err _ _ _ (last_begun _ _ _ _ _ _ is (both _ _ _ _ _ _ refl (both _ _ _ _ _ _ refl c.in-Ok.ensures.whole c.in-Ok-write_events.ensures.whole) c.in-Ok-write_inputs.ensures.whole)) c.write_events-2.ensures.beginning
