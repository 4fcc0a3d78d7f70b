use Rattle.std.proofs.Common.{arith, rules}
use Rattle.part_code.proofs.FormalWords.{passed_done, passed_next}
use Rattle.part_code.proofs.FormalsRefused.{passed_refused, worded_among}
use Rattle.part_code.proofs.formals.take_passed.Goals as goal

pub loop-formal-preserved : goal.loop-formal-preserved
loop-formal-preserved c =
    let before = c.loop-formal.invariant.0 in
    let next = passed_next c.args.scope.now c.args.formals.now _ c.formal-item.result c.loop-formal-test.true c.formal-item.is in
    let many = c.in_ok-passed_words.ensures.passed in
    let takes = c.in_ok-take.ensures.takes in
    let more = takes.taken in
    let most = c.in_ok-take.ensures.most in (
      omega (arith, before, next, many, more),
      takes.most,
      λ e. (let same = c.loop-formal.invariant.2 e in omega (arith, most, same, more)),
    )

pub returns-clause-taken : goal.returns-clause-taken
returns-clause-taken c =
    let before = c.loop-formal.invariant.0 in
    let none = passed_done c.args.scope.now c.args.formals.now _ c.loop-formal-test.false in
    omega (arith, before, none)

pub returns-in_err-passed_words-clause-refused : goal.returns-in_err-passed_words-clause-refused
returns-in_err-passed_words-clause-refused c =
    let whole = passed_refused c.args.scope.now c.args.formals.now c.loop-formal.formal-index c.loop-formal.words.taken c.args.words.now.taken
    c.formal-item.result c.in_err-passed_words.field-0.0 c.loop-formal-test.true c.formal-item.is c.loop-formal.invariant.0
    c.in_err-passed_words.ensures.refused in
    search (rules, whole)

pub returns-clause-same : goal.returns-clause-same
returns-clause-same c = c.loop-formal.invariant.2

pub passed_words-requires : goal.passed_words-requires
passed_words-requires c = record {
  some = worded_among c.args.scope.now c.args.formals.now c.loop-formal.formal-index c.formal-item.result c.loop-formal-test.true c.formal-item.is
      c.requires.some;
}
