use Rattle.std.proofs.Common.{◌≡◌, ◌+◌, ◌-◌, ◌∙◌, ap, arith, length, subst}
use Rattle.std.specs.Prelude.{get_or}
use Rattle.stmt_code.proofs.WholesMade.{HasGiven, all_given_back, none_given, one_given}
use Rattle.stmt_code.proofs.returning.return_all.Goals as goal

pub loop-given-init : goal.loop-given-init
loop-given-init c = none_given c.args.scope.now c.args.fragment.now c.args.formals.now (length c.args.formals.now - 0) (omega arith)

pub loop-given-preserved : goal.loop-given-preserved
loop-given-preserved c =
    let s = c.args.scope.now in
    let xs = c.args.formals.now in
    let less = c.loop-given-test.true in
    let n = length xs - (c.loop-given.given + 1) in
    let next : length xs - c.loop-given.given ≡ n + 1 = omega (arith, less) in
    let x = c.in-Some.formal.now in
    let is : x ≡ get_or xs n x = c.in-Some.ensures.lookup.1 ∙ ap (λ m. get_or xs m x) (omega (arith, less)) in
    one_given s c.args.fragment.now xs c.loop-given.fragment c.give.new.fragment n c.loop-given.height _ x (omega (arith, less)) is
    c.in_ok-height.ensures.made c.in_ok-height.ensures.height
    (subst (λ m. HasGiven s c.args.fragment.now xs m c.loop-given.height c.loop-given.fragment) next c.loop-given.invariant)

pub returns-clause-height : goal.returns-clause-height
returns-clause-height c =
    let s = c.args.scope.now in
    let xs = c.args.formals.now in
    let done = c.loop-given-test.false in
    let none : length xs - c.loop-given.given ≡ 0 = omega (arith, done) in
    (subst (λ m. HasGiven s c.args.fragment.now xs m c.loop-given.height c.loop-given.fragment) none c.loop-given.invariant).high

pub returns-clause-made : goal.returns-clause-made
returns-clause-made c =
    let s = c.args.scope.now in
    let xs = c.args.formals.now in
    let done = c.loop-given-test.false in
    let none : length xs - c.loop-given.given ≡ 0 = omega (arith, done) in
    all_given_back s c.args.fragment.now xs c.loop-given.fragment c.put.new.self c.loop-given.height
    (subst (λ m. HasGiven s c.args.fragment.now xs m c.loop-given.height c.loop-given.fragment) none c.loop-given.invariant) c.in_ok-put.ensures.made
