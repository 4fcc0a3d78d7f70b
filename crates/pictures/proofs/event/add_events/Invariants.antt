use Rattle.std.proofs.Common.{◌≡◌, ◌++◌, drop}
use Rattle.pictures.specs.Text.{events_text, picture_names}
use Rattle.pictures.proofs.event.add_events.Given as goal

-- what is left is still to come
abbrev pub invariant-loop-event : goal.invariant-loop-event
invariant-loop-event l =
    l.text.items ++ events_text l.fn.frame (picture_names l.fn.image l.fn.names) l.fn.time l.fn.step (drop l.event-index l.fn.events)
    ≡ l.fn.text.items ++ events_text l.fn.frame (picture_names l.fn.image l.fn.names) l.fn.time l.fn.step l.fn.events
