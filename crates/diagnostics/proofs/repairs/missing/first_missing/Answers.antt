use Rattle.std.proofs.Common.{arith}
use Rattle.diagnostics.proofs.Firsts.{ended, found, from_start, goes_on}
use Rattle.diagnostics.specs.repairs.MissingTokens.{IsThisOne}
use Rattle.diagnostics.proofs.repairs.missing.first_missing.Goals as goal

pub loop-missing-init : goal.loop-missing-init
loop-missing-init c = from_start (IsThisOne c.args.front.now c.args.back.now) c.args.tried.now

pub loop-missing-preserved : goal.loop-missing-preserved
loop-missing-preserved c =
    goes_on (IsThisOne c.args.front.now c.args.back.now) c.args.tried.now c.loop-missing.missing-index _ _ c.loop-missing-test.true c.in_ok-found.ensures c.in_default.is
    c.loop-missing.invariant

pub returns-in-Some : goal.returns-in-Some
returns-in-Some c =
    found (IsThisOne c.args.front.now c.args.back.now) c.args.tried.now c.loop-missing.missing-index _ _ c.in-Some.found c.loop-missing-test.true c.in_ok-found.ensures c.in-Some.is
    c.loop-missing.invariant

pub returns : goal.returns
returns c =
    ended (IsThisOne c.args.front.now c.args.back.now) c.args.tried.now c.loop-missing.missing-index (omega (arith, c.loop-missing-test.false)) c.loop-missing.invariant
