use Rattle.std.proofs.Common.{refl, sym, ap, ◌∙◌}
use Rattle.ada_tree.specs.ExpressionTree.{expr_tree}
use Rattle.expr_code.proofs.Pieces.{none_added}
use Rattle.part_code.specs.PartCode.{target_code, target_of}
use Rattle.part_code.proofs.ActualsMade.{chain_address, chain_target}
use Rattle.part_code.proofs.call.target.Goals as goal

pub returns-in-Chain-clause-target : goal.returns-in-Chain-clause-target
returns-in-Chain-clause-target c =
    let tree = ap expr_tree c.in-Chain.is ∙ c.chains_by_parts.ensures c.in-Chain.field-0 c.in-Chain.field-1 c.in-Chain.field-2 in
    sym (ap (target_of c.args.visible.now) tree ∙ chain_target c.args.visible.now c.in-Chain.field-2.items _ _ _)

pub returns-in-Chain-clause-made : goal.returns-in-Chain-clause-made
returns-in-Chain-clause-made c =
    let tree = ap expr_tree c.in-Chain.is ∙ c.chains_by_parts.ensures c.in-Chain.field-0 c.in-Chain.field-1 c.in-Chain.field-2 in
    none_added _ _ _ refl (ap (target_code c.args.visible.now c.args.depth) tree ∙ chain_address c.args.visible.now c.args.depth c.in-Chain.field-2.items _ _ _)
