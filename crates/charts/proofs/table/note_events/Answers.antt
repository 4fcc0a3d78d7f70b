use Rattle.std.proofs.Common.{◌≡◌, refl, sym, ap, subst, ◌∙◌, drop, ◌+◌}
use Rattle.std.proofs.lemmas.List.{at_drop_all, at_drop_more}
use Rattle.charts.specs.Signs.{Cells, with_event, with_events, with_note}
use Rattle.charts.specs.Tables.{HoldsCells}
use Rattle.charts.proofs.table.note_events.Goals as goal

pub loop-event-init : goal.loop-event-init
loop-event-init c = (λ shown is. (shown, is, refl), c.requires.room)

pub loop-event-preserved : goal.loop-event-preserved
loop-event-preserved c =
    let column = c.args.column in
    let later = drop (c.loop-event.event-index + 1) c.args.events.now in
    let both : (now : Cells) → with_note column c.object_note.result (with_note column c.actor_note.result now) ≡ with_event column _ now = λ now j. with_note column (c.object_note.ensures j) (with_note column (c.actor_note.ensures j) now) in (
      λ shown is.
          let so_far = c.loop-event.invariant.0 shown is in (
            with_note column c.object_note.result (with_note column c.actor_note.result so_far.0),
            c.note-in-loop-event.ensures.noted _ (c.note.ensures.noted so_far.0 so_far.1),
            ap (with_events column later) (both so_far.0)
                ∙ sym (at_drop_more (λ events. with_events column events so_far.0) c.args.events.now c.loop-event.event-index _ c.loop-event-test.true)
                ∙ so_far.2,
          ),
      c.note-in-loop-event.ensures.room,
    )

pub returns-clause-noted : goal.returns-clause-noted
returns-clause-noted c shown is =
    let so_far = c.loop-event.invariant.0 shown is in
    let all = sym (at_drop_all (λ events. with_events c.args.column events so_far.0) c.args.events.now c.loop-event.event-index c.loop-event-test.false) ∙ so_far.2 in
    subst (λ (now : Cells). HoldsCells c.loop-event.cells now) all so_far.1
