use Rattle.std.proofs.Common.{◌≡◌, drop, length}
use Rattle.tracing.specs.declared.calls.TheConstants.{ACTORS}
use Rattle.measuring.specs.Measures.{measures}
use Rattle.measuring.specs.Stories.{Stories, with_events}
use Rattle.measuring.specs.Tables.{IsTable}
use Rattle.measuring.proofs.counting.note_events.Given as goal

-- what is left leads to what all lead to
abbrev pub invariant-loop-event : goal.invariant-loop-event
invariant-loop-event l =
    ((stories : Stories) → IsTable l.fn.actors (λ t. measures (stories t)) → (now : Stories) × IsTable l.actors (λ t. measures (now t))
    × (with_events l.fn.tasks l.fn.time l.fn.step (drop l.event-index l.fn.events) now ≡ with_events l.fn.tasks l.fn.time l.fn.step l.fn.events stories))
    × (length l.actors ≡ ACTORS)
