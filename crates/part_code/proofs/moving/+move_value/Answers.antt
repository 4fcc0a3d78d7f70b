use Rattle.std.proofs.Common.{refl, ap, ◌∙◌}
use Rattle.ada_tree.specs.ExpressionTree.{expr_tree}
use Rattle.expr_code.specs.Pieces.{end_of, narrow, rejoined}
use Rattle.expr_code.proofs.FormsMade.{branch_added}
use Rattle.expr_code.proofs.Pieces.{none_added}
use Rattle.part_code.specs.PartCode.{move_code}
use Rattle.part_code.proofs.MovesMade.{chain_moves, conditional_made, opens_end, opens_step}
use Rattle.part_code.proofs.moving.+move_value.Goals as goal

pub move_value-returns-in-Number : goal.move_value-returns-in-Number
move_value-returns-in-Number t c = record {
  made = none_added _ _ _ refl (ap (λ e. move_code c.args.visible.now c.args.to (expr_tree e)) c.in-Number.is);
}

pub move_value-returns-in-Unary : goal.move_value-returns-in-Unary
move_value-returns-in-Unary t c = record {
  made = none_added _ _ _ refl (ap (λ e. move_code c.args.visible.now c.args.to (expr_tree e)) c.in-Unary.is);
}

pub move_value-returns-in-Chain : goal.move_value-returns-in-Chain
move_value-returns-in-Chain t c =
    let tree = ap expr_tree c.in-Chain.is ∙ c.chains_by_parts.ensures c.in-Chain.field-0 c.in-Chain.field-1 c.in-Chain.field-2 in
    record {
      made = none_added _ _ _ refl (ap (move_code c.args.visible.now c.args.to) tree ∙ chain_moves c.args.visible.now c.args.to c.in-Chain.field-2.items _ _ _);
    }

pub move_value-returns-in_ok-move_value-in-Conditional-2 : goal.move_value-returns-in_ok-move_value-in-Conditional-2
move_value-returns-in_ok-move_value-in-Conditional-2 t c =
    let v = c.args.visible.now in
    let tree = ap expr_tree c.in-Conditional.is ∙ c.conditional_by_parts.ensures c.in-Conditional.field-0 c.in-Conditional.condition c.in-Conditional.value
    c.in-Conditional.elsifs c.in-Conditional.last in
    record {
      made = conditional_made v c.args.to c.in-Conditional.field-0 _ _ _ _ c.in-Conditional.elsifs.items tree c.args.fragment.now
          c.expression.new.self c.test.new.self c.move_value-in-Conditional.new.fragment c.close.new.self c.move_elsifs.new.fragment
          c.move_value-in-Conditional-2.new.fragment c.rejoin.new.self _ _ _ c.close.new.waiting.items c.move_elsifs.new.waiting.items
          c.new-waiting.ensures.items
          (rw c.deref-in-Conditional.ensures at c.in_ok-expression-in-Conditional.ensures.made) c.in_ok-test-in-Conditional.ensures.made
          (rw c.deref-in-Conditional-2.ensures at c.in_ok-move_value-in-Conditional.ensures.made) c.in_ok-close-in-Conditional.ensures.waits
          c.in_ok-test-in-Conditional.ensures.place refl c.in_ok-close-in-Conditional.ensures.made
          (rw c.deref-in-Conditional-3.ensures.value at c.in_ok-move_elsifs-in-Conditional.ensures.opens)
          (rw c.deref-in-Conditional-4.ensures at c.in_ok-move_value-in-Conditional-2.ensures.made)
          (c.rejoin.ensures.made
          ∙ ap (λ l. rejoined c.move_value-in-Conditional-2.new.fragment l (narrow (end_of c.move_value-in-Conditional-2.new.fragment)))
          c.deref-in-Conditional-5.ensures.value);
    }

pub move_elsifs-loop-elsif-preserved : goal.move_elsifs-loop-elsif-preserved
move_elsifs-loop-elsif-preserved t c = λ final places rest. c.loop-elsif.invariant final places
    (opens_step c.args.visible.now c.args.to _ _ final _ _ places c.args.elsifs.now _ c.elsif-item.result c.loop-elsif-test.true c.elsif-item.is
    (branch_added c.loop-elsif.fragment c.expression.new.self c.test.new.self c.move_value.new.fragment c.close.new.self 1 0 _ _ _ _ _ _
    c.in_ok-expression.ensures.made c.in_ok-test.ensures.made c.in_ok-move_value.ensures.made c.in_ok-close.ensures.waits c.in_ok-test.ensures.place
    refl c.in_ok-close.ensures.made) rest)

pub move_elsifs-returns : goal.move_elsifs-returns
move_elsifs-returns t c = record {
  opens = c.loop-elsif.invariant _ _ (opens_end c.args.visible.now c.args.to _ _ c.args.elsifs.now _ c.loop-elsif-test.false);
}
