use Rattle.std.proofs.Common.{◌≡◌, arith}
use Rattle.machine.proofs.Pieces.{failures_of_count-some, writes_more, writes_nothing}
use Rattle.machine.specs.Written.{failures_of_count}
use Rattle.machine.proofs.writing.write_all.Goals as goal

pub loop-rest-init : goal.loop-rest-init
loop-rest-init g c = writes_nothing _ _ _

pub loop-rest-preserved : goal.loop-rest-preserved
loop-rest-preserved g c =
    let none : failures_of_count c.loop-rest.rest.now c.in-Ok.count ≡ 0 = failures_of_count-some _ _ c.in-Ok.count-test.1 in
    writes_more _ _ _ _ _ _ _ _ _ c.loop-rest.invariant c.in-Ok.ensures.within c.in-Ok.ensures.bytes
    (omega (arith, none, c.in-Ok.ensures.failures))
