use Rattle.std.proofs.Common.{◌≡◌, drop, length}
use Rattle.tracing.specs.declared.calls.TheConstants.{ACTORS}
use Rattle.measuring.specs.Measures.{object_measures}
use Rattle.measuring.specs.Stories.{ObjectCalls, with_calls}
use Rattle.measuring.specs.Tables.{IsTable}
use Rattle.measuring.proofs.counting.note_calls.Given as goal

-- what is left leads to what all lead to
abbrev pub invariant-loop-event : goal.invariant-loop-event
invariant-loop-event l =
    ((calls : ObjectCalls) → IsTable l.fn.objects (λ o. object_measures (calls o)) → (now : ObjectCalls) × IsTable l.objects (λ o. object_measures (now o))
    × (with_calls (drop l.event-index l.fn.events) now ≡ with_calls l.fn.events calls))
    × (length l.objects ≡ ACTORS)
