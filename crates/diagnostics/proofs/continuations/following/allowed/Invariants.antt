use Rattle.std.proofs.Common.{take}
use Rattle.diagnostics.specs.continuations.Following.{Chosen}
use Rattle.diagnostics.specs.declared.continuations.continuation.TheConstants.{EVERY_CONTINUATION}
use Rattle.diagnostics.proofs.continuations.following.allowed.Given as goal

-- of those that were asked of, the list has those that may follow
abbrev pub invariant-loop-continuation : goal.invariant-loop-continuation
invariant-loop-continuation l = Chosen l.fn.front (take l.continuation-index EVERY_CONTINUATION) l.list.items
