use Rattle.std.proofs.Common.{◌≡◌, false, length}
use Rattle.parser.specs.StatementReading.{selected_at}
use Rattle.parser.proofs.parser.Parser.selected.Given as goal

abbrev pub invariant-loop-behind_end : goal.invariant-loop-behind_end
invariant-loop-behind_end l = selected_at l.behind_end l.self.rest.now ≡ selected_at false l.fn.self.rest.now

abbrev pub decreases-loop-behind_end : goal.decreases-loop-behind_end
decreases-loop-behind_end l = length l.self.rest.now
