use Rattle.std.proofs.Common.{length}
use Rattle.machine.proofs.Pieces.{Writes}
use Rattle.machine.proofs.writing.write_all.Given as goal

abbrev pub invariant-loop-rest : goal.invariant-loop-rest
invariant-loop-rest g l = Writes (g.S.Sink.bytes l.initial.sink) (g.S.Sink.bytes l.sink) (g.S.Sink.failures l.initial.sink) (g.S.Sink.failures l.sink) l.piece l.rest

abbrev pub decreases-loop-rest : goal.decreases-loop-rest
decreases-loop-rest g l = length l.rest
