use Rattle.std.proofs.Common.{◌≡◌, ◌+◌, ◌≤◌, take, vec_capacity}
use Rattle.base.specs.declared.limits.TheConstants.{FRAMES}
use Rattle.processor.proofs.header.copy.Given as goal

abbrev pub invariant-loop-header : goal.invariant-loop-header
invariant-loop-header l = (FRAMES + 1 ≤ vec_capacity l.kept) × (l.kept.items ≡ take l.header-index l.headers)
