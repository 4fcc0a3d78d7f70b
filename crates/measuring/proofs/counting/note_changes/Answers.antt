use Rattle.std.proofs.Common.{rules, ◌≡◌, ◌∙◌, length, subst, of_z, to_z, w64}
use Rattle.tasking.specs.Held.{kernel_of}
use Rattle.tracing.specs.Changes.{since_clock}
use Rattle.measuring.specs.Measures.{measures}
use Rattle.measuring.specs.Stories.{Stories, noticed, with_events, with_notice}
use Rattle.measuring.specs.Tables.{IsTable}
use Rattle.measuring.specs.declared.happening.Happening.TheVariants as happens
use Rattle.measuring.proofs.counting.note_changes.Goals as goal

pub returns-clause-noted : goal.returns-clause-noted
returns-clause-noted g c stories is =
    let k = kernel_of c.args.before.now.tasking in
    let l = kernel_of c.args.after.now.tasking in
    let first : to_z w64 (of_z w64 c.now.result) ≡ c.now.result = search rules in
    let second : to_z w64 (of_z w64 c.now-2.result) ≡ c.now-2.result = search rules in
    let time : to_z w64 (of_z w64 c.now.result) ≡ k.now = first ∙ c.now.ensures in
    let later : to_z w64 (of_z w64 c.now-2.result) ≡ l.now = second ∙ c.now-2.ensures in
    let since : c.as_slice.result.now ≡ since_clock k l c.args.ran = c.as_slice.ensures.value ∙ c.since_clock-since.ensures in
    let tasks : c.tasks-tasks.result ≡ length c.args.after.now.image.tasks = c.tasks-tasks.ensures.image in
    let start : Stories = with_notice (noticed c.args.ran (happens.Steps c.args.step c.args.frames)) stories in
    subst (λ (now : Stories). IsTable c.note_events-2.new.actors (λ t. measures (now t)))
    (λ j. with_events (tasks j) (later j) c.args.step (since j) (with_events (tasks j) (time j) c.args.step c.args.until.now start))
    (c.note_events-2.ensures.noted _ (c.note_events.ensures.noted _ (c.note.ensures.noted stories is)))
