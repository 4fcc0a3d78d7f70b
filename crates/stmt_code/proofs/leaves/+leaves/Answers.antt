use Rattle.std.proofs.Common.{◌≡◌, ◌||◌, ◌&&◌, ◌∙◌, ap, ap₂, Bool, sym}
use Rattle.ada_tree.specs.StatementTree.{StmtTree, alternative_trees, elsif_trees, handler_trees, stmt_tree, stmt_trees}
use Rattle.stmt_code.specs.Leaves.{alternatives_leave, any_leave, elsifs_leave, handlers_leave, is_return, leaves}
use Rattle.stmt_code.specs.declared.leaves.WayOut.{WayOut}
use Rattle.stmt_code.proofs.leaves.+leaves.Goals as goal

of_shape : (q : WayOut) (x y : StmtTree) (b : Bool) → x ≡ y → b ≡ leaves y q → b ≡ leaves x q
of_shape q x y b is h = h ∙ ap (λ z. leaves z q) (sym is)

both : (a b c d : Bool) → a ≡ b → c ≡ d → (a || c) ≡ (b || d)
both a b c d p q = ap₂ (λ x y. x || y) p q

pub leaves-returns-in-If : goal.leaves-returns-in-If
leaves-returns-in-If t c =
    let q = c.args.way in
    of_shape q (stmt_tree c.args.one.now) _ c.either.result
    (ap stmt_tree c.in-If.is ∙ c.statements_by_parts.ensures.ifs c.in-If.field-0 c.in-If.field-1 c.in-If.body c.in-If.elsifs c.in-If.others)
    (c.either.ensures
    ∙ both _ _ _ _ (c.any_leave-in-If.ensures ∙ ap (λ l. any_leave (stmt_trees l) q) c.deref-in-If-2.ensures.value)
    (c.either-behind.ensures
    ∙ both _ _ _ _ (c.elsifs_leave.ensures ∙ ap (λ l. elsifs_leave (elsif_trees l) q) c.deref.ensures.value)
    (c.any_leave.ensures ∙ ap (λ l. any_leave (stmt_trees l) q) c.deref-in-If.ensures.value)))

pub leaves-returns-in-Case : goal.leaves-returns-in-Case
leaves-returns-in-Case t c =
    let q = c.args.way in
    of_shape q (stmt_tree c.args.one.now) _ c.alternatives_leave.result
    (ap stmt_tree c.in-Case.is ∙ c.statements_by_parts.ensures.cases c.in-Case.field-0 c.in-Case.field-1 c.in-Case.all)
    (c.alternatives_leave.ensures ∙ ap (λ l. alternatives_leave (alternative_trees l) q) c.deref-in-Case.ensures.value)

pub leaves-returns-in-Loop : goal.leaves-returns-in-Loop
leaves-returns-in-Loop t c =
    let q = c.args.way in
    of_shape q (stmt_tree c.args.one.now) _ c.returns_from.result
    (ap stmt_tree c.in-Loop.is ∙ c.statements_by_parts.ensures.loops c.in-Loop.field-0 c.in-Loop.field-1 c.in-Loop.body)
    (c.returns_from.ensures
    ∙ ap (λ b. is_return q && b) (c.any_leave-in-Loop.ensures ∙ ap (λ l. any_leave (stmt_trees l) q) c.deref-in-Loop.ensures.value))

pub leaves-returns-in-Block : goal.leaves-returns-in-Block
leaves-returns-in-Block t c =
    let q = c.args.way in
    of_shape q (stmt_tree c.args.one.now) _ c.either-in-Block.result
    (ap stmt_tree c.in-Block.is ∙ c.statements_by_parts.ensures.blocks c.in-Block.field-0 c.in-Block.field-1 c.in-Block.body c.in-Block.all)
    (c.either-in-Block.ensures
    ∙ both _ _ _ _ (c.any_leave-in-Block.ensures ∙ ap (λ l. any_leave (stmt_trees l) q) c.deref-in-Block.ensures.value)
    (c.handlers_leave.ensures ∙ ap (λ l. handlers_leave (handler_trees l) q) c.deref-in-Block-2.ensures.value))
