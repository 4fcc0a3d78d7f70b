use Rattle.std.proofs.Common.{◌≡◌, ◌≤◌, ◌-◌, drop, length}
use Rattle.remedies.specs.Likeness.{is_like}
use Rattle.remedies.proofs.likeness.is_like.Given as goal

-- what is left decides
abbrev pub invariant-loop-same : goal.invariant-loop-same
invariant-loop-same l = (is_like (drop l.same l.fn.name) (drop l.same l.fn.other) ≡ is_like l.fn.name l.fn.other) × ((l.same ≤ length l.fn.name) × (l.same ≤ length l.fn.other))

abbrev pub decreases-loop-same : goal.decreases-loop-same
decreases-loop-same l = length l.name - l.same
