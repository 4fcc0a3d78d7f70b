use Rattle.std.proofs.Common.{◌≡◌, ℕ, ◌+◌, ◌≤◌, ◌<◌, length, get_or}
use Rattle.handlers.proofs.Halving.{Halved}
use Rattle.handlers.proofs.searching.passed.Given as goal

-- the edges in front are passed, those behind aren't
abbrev pub invariant-loop-left : goal.invariant-loop-left
invariant-loop-left g l =
    (l.low + l.left ≤ length l.fn.edges)
    × ((i : ℕ) → i < l.low → get_or l.fn.edges i 0 ≤ l.fn.place)
    × ((i : ℕ) → l.low + l.left ≤ i → i < length l.fn.edges → l.fn.place < get_or l.fn.edges i 0)
    × Halved (length l.fn.edges) l.fn.probes.places l.probes.places l.left
    × (l.probes.exceptions ≡ l.fn.probes.exceptions)

abbrev pub decreases-loop-left : goal.decreases-loop-left
decreases-loop-left g l = l.left
