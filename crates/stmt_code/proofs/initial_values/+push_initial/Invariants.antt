use Rattle.std.proofs.Common.{◌-◌, take}
use Rattle.part_code.specs.ObjectCode.{HasPutWords, first_words, parts_words, times_words}
use Rattle.stmt_code.proofs.initial_values.+push_initial.Given as goal

abbrev pub decreases-push_initial : goal.decreases-push_initial
decreases-push_initial l = l.below

abbrev pub invariant-loop : goal.invariant-loop
invariant-loop l =
    HasPutWords l.fn.fragment l.fn.height (times_words l.counter (first_words (l.below - 1) l.visible.scope l.element)) l.fragment l.top

abbrev pub invariant-loop-component : goal.invariant-loop-component
invariant-loop-component l =
    HasPutWords l.fn.fragment l.fn.height (parts_words (first_words (l.below - 1) l.visible.scope) (take l.component-index l.component-items)) l.fragment l.top
