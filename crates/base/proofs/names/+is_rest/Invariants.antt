use Rattle.std.proofs.Common.{length}
use Rattle.base.proofs.names.+is_rest.Given as goal

abbrev pub decreases-is_rest : goal.decreases-is_rest
decreases-is_rest l = length l.rest.now
