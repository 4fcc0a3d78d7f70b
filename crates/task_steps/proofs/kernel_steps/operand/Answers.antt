use Rattle.std.proofs.Common.{rules, ◌≡◌, ◌+◌, ◌∷◌, drop, get_or, slice_index_or, pos, w64, to_z, of_z, ap, ◌∙◌, sym}
use Rattle.task_steps.proofs.Operands.{operand_at}
use Rattle.task_steps.proofs.kernel_steps.operand.Goals as goal

pub returns : goal.returns
returns c =
    let stack = c.args.state.now.task.frame.stack in
    let back : to_z w64 (of_z w64 (slice_index_or c.top.result.now 0 (pos 0))) ≡ slice_index_or c.top.result.now 0 (pos 0) = search rules in
    let words = c.top.ensures in
    operand_at stack c.args.above (pos 0) c.requires.there ∙ ap (λ x. x ∷ drop (c.args.above + 1) stack) (sym (back ∙ ap (λ l. get_or l 0 (pos 0)) words))
