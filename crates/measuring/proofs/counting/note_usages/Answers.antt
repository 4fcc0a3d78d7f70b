use Rattle.std.proofs.Common.{Some, refl, sym, ap, subst, length, ◌≡◌, ◌∙◌, drop, ◌+◌, ◌*◌}
use Rattle.std.proofs.lemmas.List.{at_drop_all, at_drop_more}
use Rattle.base.specs.declared.limits.TheConstants.{OBJECTS}
use Rattle.tracing.specs.declared.calls.TheConstants.{ACTORS}
use Rattle.measuring.specs.Measures.{usage_measures}
use Rattle.measuring.specs.Stories.{Usages, with_usage, with_usages}
use Rattle.measuring.specs.Tables.{IsGrid}
use Rattle.measuring.proofs.counting.note_usages.Goals as goal
use Rattle.measuring.proofs.counting.note_usages.Goals.{in-Some, in_default}

pub loop-event-init : goal.loop-event-init
loop-event-init c = (λ used is. (used, is, refl), c.requires.room)

pub loop-event-preserved : goal.loop-event-preserved
loop-event-preserved c =
    let later = drop (c.loop-event.event-index + 1) c.args.events.now in
    elim c.match-usage_of.branch [
      | in-Some w ↦ (
        λ used is.
            let so_far = c.loop-event.invariant.0 used is in (
              with_usage (Some w.in-Some.notice) so_far.0,
              subst (λ table. IsGrid table (λ t o. usage_measures (with_usage (Some w.in-Some.notice) so_far.0 t o))) (sym w.usages-is) (w.note_usage.ensures.noted so_far.0 so_far.1),
              ap (λ notice. with_usages later (with_usage notice so_far.0)) (sym w.in-Some.is ∙ c.usage_of.ensures)
                  ∙ sym (at_drop_more (λ events. with_usages events so_far.0) c.args.events.now c.loop-event.event-index _ c.loop-event-test.true)
                  ∙ so_far.2,
            ),
        subst (λ table. length table ≡ ACTORS * OBJECTS) (sym w.usages-is) w.note_usage.ensures.room,
      )
      | in_default w ↦ (
        λ used is.
            let so_far = c.loop-event.invariant.0 used is in (
              so_far.0,
              subst (λ table. IsGrid table (λ t o. usage_measures (so_far.0 t o))) (sym w.usages-is) so_far.1,
              ap (λ notice. with_usages later (with_usage notice so_far.0)) (sym w.in_default.is ∙ c.usage_of.ensures)
                  ∙ sym (at_drop_more (λ events. with_usages events so_far.0) c.args.events.now c.loop-event.event-index _ c.loop-event-test.true)
                  ∙ so_far.2,
            ),
        subst (λ table. length table ≡ ACTORS * OBJECTS) (sym w.usages-is) c.loop-event.invariant.1,
      )
    ]

pub returns-clause-noted : goal.returns-clause-noted
returns-clause-noted c used is =
    let so_far = c.loop-event.invariant.0 used is in
    let all = sym (at_drop_all (λ events. with_usages events so_far.0) c.args.events.now c.loop-event.event-index c.loop-event-test.false) ∙ so_far.2 in
    subst (λ (now : Usages). IsGrid c.loop-event.usages (λ t o. usage_measures (now t o))) all so_far.1
