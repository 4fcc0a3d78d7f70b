use Rattle.std.proofs.Common.{◌≡◌, ap, ◌∙◌}
use Rattle.std.proofs.lemmas.Result.{on_ok_weaker}
use Rattle.ada_tree.specs.ExpressionTree.{expr_tree, selector_trees}
use Rattle.expr_code.specs.Pieces.{adds}
use Rattle.stmt_code.specs.SimpleCode.{stored_code}
use Rattle.stmt_code.proofs.AssignmentsMade.{part_assigned, whole_assigned}
use Rattle.stmt_code.proofs.simple.assign_value.Goals as goal

pub returns-else-words-eq1 : goal.returns-else-words-eq1
returns-else-words-eq1 c =
    let v = c.args.visible.now in
    let e = expr_tree c.args.value.now in
    let all = c.args.selectors.now in
    record {
      made = on_ok_weaker c.store.result
          (λ (p : c.store.new.fragment ≡ adds c.args.fragment.now (stored_code v c.args.source (selector_trees all) e)).
          p ∙ ap (adds c.args.fragment.now) (whole_assigned v c.args.source e all c.words.result c.in-empty.len_below c.words.ensures c.if-words-eq1.false))
          c.store.ensures.made;
    }

pub returns-in-len1-up : goal.returns-in-len1-up
returns-in-len1-up c =
    let v = c.args.visible.now in
    let e = expr_tree c.args.value.now in
    let all = c.args.selectors.now in
    record {
      made = on_ok_weaker c.store-in-len1-up.result
          (λ (p : c.store-in-len1-up.new.fragment ≡ adds c.args.fragment.now (stored_code v c.args.source (selector_trees all) e)).
          p ∙ ap (adds c.args.fragment.now) (part_assigned v c.args.source e all c.in-len1-up.len_at_least))
          c.store-in-len1-up.ensures.made;
    }
