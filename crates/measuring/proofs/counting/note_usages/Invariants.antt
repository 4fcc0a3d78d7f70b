use Rattle.std.proofs.Common.{◌≡◌, ◌*◌, drop, length}
use Rattle.base.specs.declared.limits.TheConstants.{OBJECTS}
use Rattle.tracing.specs.declared.calls.TheConstants.{ACTORS}
use Rattle.measuring.specs.Measures.{usage_measures}
use Rattle.measuring.specs.Stories.{Usages, with_usages}
use Rattle.measuring.specs.Tables.{IsGrid}
use Rattle.measuring.proofs.counting.note_usages.Given as goal

-- what is left leads to what all lead to
abbrev pub invariant-loop-event : goal.invariant-loop-event
invariant-loop-event l =
    ((used : Usages) → IsGrid l.fn.usages (λ t o. usage_measures (used t o)) → (now : Usages) × IsGrid l.usages (λ t o. usage_measures (now t o))
    × (with_usages (drop l.event-index l.fn.events) now ≡ with_usages l.fn.events used))
    × (length l.usages ≡ ACTORS * OBJECTS)
