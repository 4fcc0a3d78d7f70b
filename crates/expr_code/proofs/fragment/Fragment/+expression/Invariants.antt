use Rattle.std.proofs.Common.{ℕ, List, drop, ◌≡◌, ◌+◌}
use Rattle.ada_tree.specs.ExpressionTree.{argument_trees, elsif_value_trees, selector_trees}
use Rattle.expr_code.specs.ExpressionCode.{actuals_code, actuals_count, argument_code, arguments_code, elsifs_code, first_code, operands_code, path_code, path_part, whole_of}
use Rattle.expr_code.specs.Locating.{IsNear}
use Rattle.expr_code.specs.Pieces.{Made, Opens, adds}
use Rattle.expr_code.proofs.fragment.Fragment.+expression.Given as goal

-- what is made, with what is left, is what is made in all

abbrev pub invariant-elsifs-loop-elsif : goal.invariant-elsifs-loop-elsif
invariant-elsifs-loop-elsif l =
    (final : Made) (places : List ℕ)
    → Opens l.self l.waiting.items (elsifs_code l.visible l.depth l.width (elsif_value_trees (drop l.elsif-index l.elsifs))) final places
    → Opens l.fn.self l.fn.waiting.items (elsifs_code l.visible l.depth l.width (elsif_value_trees l.elsifs)) final places

abbrev pub invariant-operands-loop-operand : goal.invariant-operands-loop-operand
invariant-operands-loop-operand l =
    adds l.self (operands_code l.visible l.depth (drop l.operand-index l.all)) ≡ adds l.fn.self (operands_code l.visible l.depth l.all)

abbrev pub invariant-passed-loop-index : goal.invariant-passed-loop-index
invariant-passed-loop-index l =
    (l.height ≡ l.depth + l.index)
    × (adds l.self (arguments_code l.visible l.height (drop l.index l.formals) (argument_trees (drop l.index l.arguments)))
    ≡ adds l.fn.self (arguments_code l.visible l.depth l.formals (argument_trees l.arguments)))

abbrev pub invariant-actuals-loop-selector : goal.invariant-actuals-loop-selector
invariant-actuals-loop-selector l =
    (l.self ≡ l.fn.self)
    × (actuals_count (selector_trees (drop l.selector-index l.selectors)) ≡ actuals_count (selector_trees l.selectors))
    × (actuals_code l.visible l.depth l.formals (selector_trees (drop l.selector-index l.selectors)) ≡ actuals_code l.visible l.depth l.formals (selector_trees l.selectors))

abbrev pub invariant-argument-loop-selector : goal.invariant-argument-loop-selector
invariant-argument-loop-selector l =
    (l.self ≡ l.fn.self)
    × (argument_code l.visible l.depth l.check (selector_trees (drop l.selector-index l.selectors)) ≡ argument_code l.visible l.depth l.check (selector_trees l.selectors))

abbrev pub invariant-first_argument-loop-argument : goal.invariant-first_argument-loop-argument
invariant-first_argument-loop-argument l =
    (l.self ≡ l.fn.self)
    × (first_code l.visible l.depth l.check (argument_trees (drop l.argument-index l.arguments)) ≡ first_code l.visible l.depth l.check (argument_trees l.arguments))

abbrev pub invariant-path-loop-selector : goal.invariant-path-loop-selector
invariant-path-loop-selector l =
    IsNear l.part.shift
    × (path_part l.visible.scope l.part (selector_trees (drop l.selector-index l.selectors)) ≡ path_part l.visible.scope (whole_of l.fn.subtype) (selector_trees l.selectors))
    × (adds l.self (path_code l.visible l.depth l.part (selector_trees (drop l.selector-index l.selectors)))
    ≡ adds l.fn.self (path_code l.visible l.depth (whole_of l.fn.subtype) (selector_trees l.selectors)))
