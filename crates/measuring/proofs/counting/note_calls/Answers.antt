use Rattle.std.proofs.Common.{Some, refl, sym, ap, subst, length, ◌≡◌, ◌∙◌, drop, ◌+◌}
use Rattle.std.proofs.lemmas.List.{at_drop_all, at_drop_more}
use Rattle.tracing.specs.declared.calls.TheConstants.{ACTORS}
use Rattle.measuring.specs.Measures.{object_measures}
use Rattle.measuring.specs.Stories.{ObjectCalls, with_calls, with_call}
use Rattle.measuring.specs.Tables.{IsTable}
use Rattle.measuring.proofs.counting.note_calls.Goals as goal
use Rattle.measuring.proofs.counting.note_calls.Goals.{in-Some, in_default}

pub loop-event-init : goal.loop-event-init
loop-event-init c = (λ calls is. (calls, is, refl), c.requires.room)

pub loop-event-preserved : goal.loop-event-preserved
loop-event-preserved c =
    let later = drop (c.loop-event.event-index + 1) c.args.events.now in
    elim c.match-call_of.branch [
      | in-Some w ↦ (
        λ calls is.
            let so_far = c.loop-event.invariant.0 calls is in (
              with_call (Some w.in-Some.call) so_far.0,
              subst (λ table. IsTable table (λ o. object_measures (with_call (Some w.in-Some.call) so_far.0 o))) (sym w.objects-is) (w.note_call.ensures.noted so_far.0 so_far.1),
              ap (λ call. with_calls later (with_call call so_far.0)) (sym w.in-Some.is ∙ c.call_of.ensures)
                  ∙ sym (at_drop_more (λ events. with_calls events so_far.0) c.args.events.now c.loop-event.event-index _ c.loop-event-test.true)
                  ∙ so_far.2,
            ),
        subst (λ table. length table ≡ ACTORS) (sym w.objects-is) w.note_call.ensures.room,
      )
      | in_default w ↦ (
        λ calls is.
            let so_far = c.loop-event.invariant.0 calls is in (
              so_far.0,
              subst (λ table. IsTable table (λ o. object_measures (so_far.0 o))) (sym w.objects-is) so_far.1,
              ap (λ call. with_calls later (with_call call so_far.0)) (sym w.in_default.is ∙ c.call_of.ensures)
                  ∙ sym (at_drop_more (λ events. with_calls events so_far.0) c.args.events.now c.loop-event.event-index _ c.loop-event-test.true)
                  ∙ so_far.2,
            ),
        subst (λ table. length table ≡ ACTORS) (sym w.objects-is) c.loop-event.invariant.1,
      )
    ]

pub returns-clause-noted : goal.returns-clause-noted
returns-clause-noted c calls is =
    let so_far = c.loop-event.invariant.0 calls is in
    let all = sym (at_drop_all (λ events. with_calls events so_far.0) c.args.events.now c.loop-event.event-index c.loop-event-test.false) ∙ so_far.2 in
    subst (λ (now : ObjectCalls). IsTable c.loop-event.objects (λ o. object_measures (now o))) all so_far.1
