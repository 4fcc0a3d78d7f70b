use Rattle.std.proofs.Common.{◌≡◌, ◌≤◌, [], get_or}
use Rattle.dispatch.specs.Queues.{highest, highest_below}
use Rattle.base.specs.declared.limits.TheConstants.{PRIORITIES}
use Rattle.dispatch.proofs.list_ready.ListReadyReady.highest.Given as goal

abbrev pub invariant-loop-below : goal.invariant-loop-below
invariant-loop-below l =
    (highest_below l.below (λ p. get_or l.fn.self p []) ≡ highest (λ p. get_or l.fn.self p [])) × (l.below ≤ PRIORITIES)

abbrev pub decreases-loop-below : goal.decreases-loop-below
decreases-loop-below l = l.below
