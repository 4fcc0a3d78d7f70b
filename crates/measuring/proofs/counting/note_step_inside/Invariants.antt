use Rattle.std.proofs.Common.{◌≡◌, ◌*◌, length}
use Rattle.base.specs.declared.limits.TheConstants.{OBJECTS}
use Rattle.tasking.specs.Held.{kernel_of}
use Rattle.tracing.specs.declared.calls.TheConstants.{ACTORS}
use Rattle.measuring.specs.Measures.{usage_measures}
use Rattle.measuring.specs.Stories.{Usages, with_step_inside}
use Rattle.measuring.specs.Tables.{IsGrid}
use Rattle.measuring.proofs.counting.note_step_inside.Given as goal

abbrev pub invariant-loop-object : goal.invariant-loop-object
invariant-loop-object g l =
    ((used : Usages) → IsGrid l.fn.usages (λ t o. usage_measures (used t o))
    → IsGrid l.usages (λ t o. usage_measures (with_step_inside l.object ((kernel_of l.fn.before.tasking).actions l.fn.ran) l.fn.ran used t o)))
    × (length l.usages ≡ ACTORS * OBJECTS)
