use Rattle.std.proofs.Common.{◌≤◌, drop, length, ltb-true, rules, sym}
use Rattle.ada_tree.specs.ExpressionTree.{argument_trees}
use Rattle.part_code.proofs.ActualsMade.{arguments_ended, code_end, codes_step, formals_ended, height_end, heights_step, targets_end, targets_step}
use Rattle.part_code.proofs.call.actuals.Goals as goal

pub loop-index-preserved : goal.loop-index-preserved
loop-index-preserved c =
    let v = c.args.visible.now in
    let less = ltb-true c.loop-index.index (length c.args.formals.now) (sym c.in-Some.ensures.lookup.0) in (
      heights_step v c.args.formals.now c.args.arguments.now c.loop-index.index c.in-Some.formal.now _ less
          c.in-Some.ensures.lookup.1 c.loop-index-test.true c.index-arguments-index.is c.loop-index.height c.in_ok-height.height _
          c.in_ok-height.ensures.height c.loop-index.invariant.0,
      codes_step v c.args.formals.now c.args.arguments.now c.loop-index.index c.in-Some.formal.now _ less
          c.in-Some.ensures.lookup.1 c.loop-index-test.true c.index-arguments-index.is c.loop-index.fragment c.actual.new.fragment _
          c.loop-index.height c.in_ok-height.height c.in_ok-height.ensures.height c.in_ok-height.ensures.made c.loop-index.invariant.1,
      targets_step v c.args.formals.now c.args.arguments.now c.loop-index.index c.in-Some.formal.now _ less
          c.in-Some.ensures.lookup.1 c.loop-index-test.true c.index-arguments-index.is c.loop-index.destinations.items
          c.actual.new.destinations.items _ c.in_ok-height.ensures.targets c.loop-index.invariant.2,
    )

pub returns-in_default-clause-height : goal.returns-in_default-clause-height
returns-in_default-clause-height c =
    let v = c.args.visible.now in
    let short : length c.args.formals.now ≤ c.loop-index.index = search rules in
    let ended = formals_ended v c.loop-index.height c.args.formals.now (argument_trees (drop c.loop-index.index c.args.arguments.now)) c.loop-index.index short in
    height_end v c.loop-index.height (drop c.loop-index.index c.args.formals.now)
    (argument_trees (drop c.loop-index.index c.args.arguments.now)) ended _
    c.loop-index.invariant.0

pub returns-in_default-clause-made : goal.returns-in_default-clause-made
returns-in_default-clause-made c =
    let v = c.args.visible.now in
    let short : length c.args.formals.now ≤ c.loop-index.index = search rules in
    let ended = formals_ended v c.loop-index.height c.args.formals.now (argument_trees (drop c.loop-index.index c.args.arguments.now)) c.loop-index.index short in
    code_end v c.loop-index.height (drop c.loop-index.index c.args.formals.now)
    (argument_trees (drop c.loop-index.index c.args.arguments.now)) ended _ _
    c.loop-index.invariant.1

pub returns-in_default-clause-targets : goal.returns-in_default-clause-targets
returns-in_default-clause-targets c =
    let v = c.args.visible.now in
    let short : length c.args.formals.now ≤ c.loop-index.index = search rules in
    let ended = formals_ended v c.loop-index.height c.args.formals.now (argument_trees (drop c.loop-index.index c.args.arguments.now)) c.loop-index.index short in
    targets_end v c.loop-index.height (drop c.loop-index.index c.args.formals.now)
    (argument_trees (drop c.loop-index.index c.args.arguments.now)) ended _ _
    c.loop-index.invariant.2

pub returns-clause-height : goal.returns-clause-height
returns-clause-height c =
    let v = c.args.visible.now in
    let ended = arguments_ended v c.loop-index.height (drop c.loop-index.index c.args.formals.now) c.args.arguments.now c.loop-index.index
    c.loop-index-test.false in
    height_end v c.loop-index.height (drop c.loop-index.index c.args.formals.now)
    (argument_trees (drop c.loop-index.index c.args.arguments.now)) ended _
    c.loop-index.invariant.0

pub returns-clause-made : goal.returns-clause-made
returns-clause-made c =
    let v = c.args.visible.now in
    let ended = arguments_ended v c.loop-index.height (drop c.loop-index.index c.args.formals.now) c.args.arguments.now c.loop-index.index
    c.loop-index-test.false in
    code_end v c.loop-index.height (drop c.loop-index.index c.args.formals.now)
    (argument_trees (drop c.loop-index.index c.args.arguments.now)) ended _ _
    c.loop-index.invariant.1

pub returns-clause-targets : goal.returns-clause-targets
returns-clause-targets c =
    let v = c.args.visible.now in
    let ended = arguments_ended v c.loop-index.height (drop c.loop-index.index c.args.formals.now) c.args.arguments.now c.loop-index.index
    c.loop-index-test.false in
    targets_end v c.loop-index.height (drop c.loop-index.index c.args.formals.now)
    (argument_trees (drop c.loop-index.index c.args.arguments.now)) ended _ _
    c.loop-index.invariant.2
