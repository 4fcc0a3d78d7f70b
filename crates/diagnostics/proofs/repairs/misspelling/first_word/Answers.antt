use Rattle.std.proofs.Common.{arith}
use Rattle.diagnostics.proofs.Firsts.{ended, found, from_start, goes_on}
use Rattle.diagnostics.specs.repairs.Misspellings.{IsWordMeant}
use Rattle.diagnostics.proofs.repairs.misspelling.first_word.Goals as goal

pub loop-continuation-init : goal.loop-continuation-init
loop-continuation-init c = from_start (IsWordMeant c.args.name.now c.args.front.now c.args.after.now c.args.far) c.args.continuations.now

pub loop-continuation-preserved : goal.loop-continuation-preserved
loop-continuation-preserved c =
    goes_on (IsWordMeant c.args.name.now c.args.front.now c.args.after.now c.args.far) c.args.continuations.now c.loop-continuation.continuation-index _ _ c.loop-continuation-test.true c.in_ok-word.ensures c.in_default.is
    c.loop-continuation.invariant

pub returns-in-Some : goal.returns-in-Some
returns-in-Some c =
    found (IsWordMeant c.args.name.now c.args.front.now c.args.after.now c.args.far) c.args.continuations.now c.loop-continuation.continuation-index _ _ c.in-Some.word c.loop-continuation-test.true c.in_ok-word.ensures c.in-Some.is
    c.loop-continuation.invariant

pub returns : goal.returns
returns c =
    ended (IsWordMeant c.args.name.now c.args.front.now c.args.after.now c.args.far) c.args.continuations.now c.loop-continuation.continuation-index (omega (arith, c.loop-continuation-test.false)) c.loop-continuation.invariant
