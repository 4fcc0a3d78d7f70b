use Rattle.std.proofs.Common.{◌≡◌, ◌+◌, ◌≤◌, drop}
use Rattle.ada_tree.specs.Size.{total}
use Rattle.part_code.specs.Formals.{passed_for}
use Rattle.part_code.proofs.formals.take_passed.Given as goal

abbrev pub invariant-loop-formal : goal.invariant-loop-formal
invariant-loop-formal l =
    (l.words.taken + total (passed_for l.scope) (drop l.formal-index l.formals) ≡ l.fn.words.taken + total (passed_for l.scope) l.formals)
    × (l.words.taken ≤ l.words.most)
    × (l.fn.words.most ≡ l.fn.words.taken → l.words.most ≡ l.words.taken)
