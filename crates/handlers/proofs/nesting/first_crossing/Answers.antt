use Rattle.std.proofs.Common.{◌≡◌, [], true, ap, sym, ◌∙◌}
use Rattle.handlers.specs.Nesting.{all_nested}
use Rattle.handlers.specs.Sweeping.{sweeps}
use Rattle.handlers.proofs.Crossing.{nested_crosses_none, no_crossing}
use Rattle.handlers.proofs.Swept.{sweep_nested}
use Rattle.handlers.proofs.nesting.first_crossing.Goals as goal

nested : (c : goal.After-drop-sorted-then-branch) → all_nested c.args.rows.now ≡ true
nested c =
    sweep_nested c.args.rows.now c.in_ok-sorted.sorted.items c.in_ok-sorted.ensures.moved c.in_ok-sorted.ensures.sorted (ap (sweeps []) (sym c.deref.ensures.value) ∙ (sym c.in_ok-sweep.ensures ∙ c.if-branch.true))

pub returns-then-branch-clause-first : goal.returns-then-branch-clause-first
returns-then-branch-clause-first c = λ k lt. nested_crosses_none c.args.rows.now k (nested c)

pub returns-then-branch-clause-nested : goal.returns-then-branch-clause-nested
returns-then-branch-clause-nested c = sym (nested c)

pub returns-clause-nested : goal.returns-clause-nested
returns-clause-nested c = no_crossing _ _ c.first_crossing_of_pairs.ensures.first
