use Rattle.std.proofs.Common.{◌≡◌, length, map}
use Rattle.command_line.specs.Words.{are_plain}
use Rattle.command_line.proofs.search.are_plain.Given as goal

abbrev pub invariant-loop-rest : goal.invariant-loop-rest
invariant-loop-rest l = are_plain (map (λ w. w.now) l.rest) ≡ are_plain (map (λ w. w.now) l.fn.words)

abbrev pub decreases-loop-rest : goal.decreases-loop-rest
decreases-loop-rest l = length l.rest
