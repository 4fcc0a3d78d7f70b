use Rattle.std.proofs.Common.{arith}
use Rattle.diagnostics.proofs.Firsts.{ended, found, from_start, goes_on}
use Rattle.diagnostics.specs.repairs.Misspellings.{IsMisspelledAt}
use Rattle.diagnostics.proofs.repairs.misspelling.first_misspelled.Goals as goal

pub loop-reach-init : goal.loop-reach-init
loop-reach-init c = from_start (IsMisspelledAt c.args.count c.args.tokens.now) c.args.reaches.now

pub loop-reach-preserved : goal.loop-reach-preserved
loop-reach-preserved c =
    goes_on (IsMisspelledAt c.args.count c.args.tokens.now) c.args.reaches.now c.loop-reach.reach-index _ _ c.loop-reach-test.true c.in_ok-found.ensures c.in_default.is
    c.loop-reach.invariant

pub returns-in-Some : goal.returns-in-Some
returns-in-Some c =
    found (IsMisspelledAt c.args.count c.args.tokens.now) c.args.reaches.now c.loop-reach.reach-index _ _ c.in-Some.found c.loop-reach-test.true c.in_ok-found.ensures c.in-Some.is
    c.loop-reach.invariant

pub returns : goal.returns
returns c =
    ended (IsMisspelledAt c.args.count c.args.tokens.now) c.args.reaches.now c.loop-reach.reach-index (omega (arith, c.loop-reach-test.false)) c.loop-reach.invariant
