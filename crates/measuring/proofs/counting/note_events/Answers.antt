use Rattle.std.proofs.Common.{rules, Some, refl, sym, ap, subst, length, ◌≡◌, ◌∙◌, drop, ◌+◌, of_z, to_z, w64}
use Rattle.std.proofs.lemmas.List.{at_drop_all, at_drop_more}
use Rattle.tracing.specs.declared.calls.TheConstants.{ACTORS}
use Rattle.measuring.specs.Measures.{measures}
use Rattle.measuring.specs.Stories.{Stories, with_events, with_notice}
use Rattle.measuring.specs.Tables.{IsTable}
use Rattle.measuring.proofs.counting.note_events.Goals as goal
use Rattle.measuring.proofs.counting.note_events.Goals.{in-Some, in_default}

pub loop-event-init : goal.loop-event-init
loop-event-init c = (λ stories is. (stories, is, refl), c.requires.room)

pub loop-event-preserved : goal.loop-event-preserved
loop-event-preserved c =
    let time = to_z w64 (of_z w64 c.args.time) in
    let later = drop (c.loop-event.event-index + 1) c.args.events.now in
    elim c.match-notice_of.branch [
      | in-Some w ↦ (
        λ stories is.
            let so_far = c.loop-event.invariant.0 stories is in (
              with_notice (Some w.in-Some.notice) so_far.0,
              subst (λ table. IsTable table (λ t. measures (with_notice (Some w.in-Some.notice) so_far.0 t))) (sym w.actors-is) (w.note.ensures.noted so_far.0 so_far.1),
              ap (λ notice. with_events c.args.tasks time c.args.step later (with_notice notice so_far.0)) (sym w.in-Some.is ∙ c.notice_of.ensures)
                  ∙ sym (at_drop_more (λ events. with_events c.args.tasks time c.args.step events so_far.0) c.args.events.now c.loop-event.event-index _ c.loop-event-test.true)
                  ∙ so_far.2,
            ),
        subst (λ table. length table ≡ ACTORS) (sym w.actors-is) w.note.ensures.room,
      )
      | in_default w ↦ (
        λ stories is.
            let so_far = c.loop-event.invariant.0 stories is in (
              so_far.0,
              subst (λ table. IsTable table (λ t. measures (so_far.0 t))) (sym w.actors-is) so_far.1,
              ap (λ notice. with_events c.args.tasks time c.args.step later (with_notice notice so_far.0)) (sym w.in_default.is ∙ c.notice_of.ensures)
                  ∙ sym (at_drop_more (λ events. with_events c.args.tasks time c.args.step events so_far.0) c.args.events.now c.loop-event.event-index _ c.loop-event-test.true)
                  ∙ so_far.2,
            ),
        subst (λ table. length table ≡ ACTORS) (sym w.actors-is) c.loop-event.invariant.1,
      )
    ]

pub returns-clause-noted : goal.returns-clause-noted
returns-clause-noted c stories is =
    let so_far = c.loop-event.invariant.0 stories is in
    let time : to_z w64 (of_z w64 c.args.time) ≡ c.args.time = search rules in
    let all = sym (at_drop_all (λ events. with_events c.args.tasks (to_z w64 (of_z w64 c.args.time)) c.args.step events so_far.0) c.args.events.now c.loop-event.event-index c.loop-event-test.false) ∙ so_far.2 in
    subst (λ now. IsTable c.loop-event.actors (λ t. measures (with_events c.args.tasks now c.args.step c.args.events.now stories t))) time
    (subst (λ (now : Stories). IsTable c.loop-event.actors (λ t. measures (now t))) all so_far.1)
