use Rattle.std.proofs.Common.{rules, ◌≡◌, ◌∙◌, List, None, Some, length, subst, sym, of_z, to_z, w64}
use Rattle.std.proofs.lemmas.List.{with_items_is}
use Rattle.std.specs.Prelude.{int_lt}
use Rattle.tasking.specs.Held.{kernel_of}
use Rattle.tracing.specs.Changes.{since_clock, until_clock}
use Rattle.tracing.specs.declared.event.Event.{Event}
use Rattle.measuring.specs.Measures.{measures, object_measures, usage_measures, with_step}
use Rattle.measuring.specs.Runs.{called_by_step, counted_by_step, happened_by_step, used_by_step}
use Rattle.measuring.specs.Stories.{noticed, with_calls, with_events, with_notice, with_step_inside, with_usages}
use Rattle.measuring.specs.Tables.{IsGrid, IsTable}
use Rattle.measuring.specs.declared.happening.Happening.TheVariants as happens
use Rattle.measuring.proofs.counting.Measures.note_step.Goals as goal

pub returns-clause-noted : goal.returns-clause-noted
returns-clause-noted g c stories called used instants are =
    let k = kernel_of c.args.before.now.tasking in
    let l = kernel_of c.args.after.now.tasking in
    let tasks = length c.args.after.now.image.tasks in
    let runs : Some c.in-Some.ran ≡ k.running = sym c.in-Some.is ∙ c.actor.ensures in
    let until : c.as_slice.result.now ≡ until_clock c.args.calls.now c.args.ahead k l c.in-Some.ran = c.as_slice.ensures.value ∙ c.until_clock-until.ensures in
    let again : c.as_slice-2.result.now ≡ until_clock c.args.calls.now c.args.ahead k l c.in-Some.ran = c.as_slice-2.ensures.value ∙ c.until_clock-until.ensures in
    let last : c.as_slice-3.result.now ≡ until_clock c.args.calls.now c.args.ahead k l c.in-Some.ran = c.as_slice-3.ensures.value ∙ c.until_clock-until.ensures in
    let begun = subst (λ table. IsTable table (λ t. measures (stories t))) (sym c.deref_mut.ensures.value) are.actors in
    let had = subst (λ table. IsTable table (λ o. object_measures (called o))) (sym c.deref_mut-2.ensures.value) are.objects in
    let unused = subst (λ table. IsGrid table (λ t o. usage_measures (used t o))) (sym c.deref_mut-3.ensures.value) are.usages_are in
    let fits : to_z w64 (of_z w64 c.now-3.result) ≡ c.now-3.result = search rules in
    let earlier : to_z w64 (of_z w64 c.now.result) ≡ c.now.result = search rules in
    let later : to_z w64 (of_z w64 c.now-2.result) ≡ c.now-2.result = search rules in
    let first : length c.note_changes.new.actors ≡ c.args.self.now.actors.len = c.note_changes.ensures.room ∙ sym c.requires.whole.actors ∙ sym c.args.self.now.actors.ok.0 in
    let second : length c.note_calls.new.objects ≡ c.args.self.now.objects.len = c.note_calls.ensures.room ∙ sym c.requires.whole.objects ∙ sym c.args.self.now.objects.ok.0 in
    let third : length c.note_use.new.usages ≡ c.args.self.now.usages.len = c.note_use.ensures.room ∙ sym c.requires.whole.usages ∙ sym c.args.self.now.usages.ok.0 in
    let usages = with_items_is c.args.self.now.usages c.note_use.new.usages third in
    let actors = with_items_is c.args.self.now.actors c.note_changes.new.actors first in
    let objects = with_items_is c.args.self.now.objects c.note_calls.new.objects second in
    record {
      actors = subst (λ table. IsTable table (λ t. measures (happened_by_step tasks c.args.calls.now c.args.ahead c.args.frames k l c.args.step None k.running stories t))) (sym actors)
          (subst (λ ran. IsTable c.note_changes.new.actors (λ t. measures (happened_by_step tasks c.args.calls.now c.args.ahead c.args.frames k l c.args.step None ran stories t))) runs
          (subst (λ (events : List Event). IsTable c.note_changes.new.actors (λ t. measures (with_events tasks l.now c.args.step (since_clock k l c.in-Some.ran) (with_events tasks k.now c.args.step events (with_notice (noticed c.in-Some.ran (happens.Steps c.args.step c.args.frames)) stories)) t))) until
          (c.note_changes.ensures.noted stories begun)));
      objects = subst (λ table. IsTable table (λ o. object_measures (called_by_step c.args.calls.now c.args.ahead k l None k.running called o))) (sym objects)
          (subst (λ ran. IsTable c.note_calls.new.objects (λ o. object_measures (called_by_step c.args.calls.now c.args.ahead k l None ran called o))) runs
          (subst (λ (events : List Event). IsTable c.note_calls.new.objects (λ o. object_measures (with_calls events called o))) again (c.note_calls.ensures.noted called had)));
      usages_are = subst (λ table. IsGrid table (λ t o. usage_measures (used_by_step c.args.calls.now c.args.ahead k l None k.running used t o))) (sym usages)
          (subst (λ ran. IsGrid c.note_use.new.usages (λ t o. usage_measures (used_by_step c.args.calls.now c.args.ahead k l None ran used t o))) runs
          (subst (λ (events : List Event). IsGrid c.note_use.new.usages (λ t o. usage_measures (with_usages events (with_step_inside k.partition.objects (k.actions c.in-Some.ran) c.in-Some.ran used) t o))) last
          (c.note_use.ensures.noted used unused)));
      instants_are = c.take_step.ensures
          ∙ (λ j. with_step ((fits ∙ c.now-3.ensures) j) (int_lt ((earlier ∙ c.now.ensures) j) ((later ∙ c.now-2.ensures) j)) (are.instants_are j))
          ∙ (λ j. counted_by_step k l None (runs j) instants);
    }
