use Rattle.std.proofs.Common.{ap, ap₂, map, ◌∙◌}
use Rattle.ada_tree.specs.StatementTree.{alternative_trees, declaration_tree, elsif_trees, handler_trees, stmt_tree, stmt_trees}
use Rattle.ada_tree.specs.StatementTree.{iteration_tree}
use Rattle.diagnostics.specs.counterparts.Nested as nested
use Rattle.diagnostics.proofs.Shapes.{of_shape}
use Rattle.diagnostics.proofs.counterparts.nested.+statement.Goals as goal

pub within_statement-returns-in-If : goal.within_statement-returns-in-If
within_statement-returns-in-If t c =
    let n = c.args.name.now in
    let p = c.args.place in
    of_shape n p (stmt_tree c.args.one.now) _ c.first_in.result
    (ap stmt_tree c.in-If.is ∙ c.statements_by_parts.ensures.ifs c.in-If.field-0 c.in-If.field-1 c.in-If.body c.in-If.elsifs c.in-If.others)
    (c.first_in.ensures
    ∙ ap₂ nested.first_in
    (c.first_in-first.ensures
    ∙ ap₂ nested.first_in
    (c.within_statements.ensures ∙ ap (λ l. nested.within_stmts n p (stmt_trees l)) c.deref.ensures.value)
    (c.within_elsifs.ensures ∙ ap (λ l. nested.within_elsifs n p (elsif_trees l)) c.deref-in-If.ensures.value))
    (c.within_statements-in-If.ensures ∙ ap (λ l. nested.within_stmts n p (stmt_trees l)) c.deref-in-If-2.ensures.value))

pub within_statement-returns-in-Case : goal.within_statement-returns-in-Case
within_statement-returns-in-Case t c =
    let n = c.args.name.now in
    let p = c.args.place in
    of_shape n p (stmt_tree c.args.one.now) _ c.within_alternatives.result
    (ap stmt_tree c.in-Case.is ∙ c.statements_by_parts.ensures.cases c.in-Case.field-0 c.in-Case.field-1 c.in-Case.all)
    (c.within_alternatives.ensures ∙ ap (λ l. nested.within_alternatives n p (alternative_trees l)) c.deref-in-Case.ensures.value)

pub within_statement-returns-in-Loop : goal.within_statement-returns-in-Loop
within_statement-returns-in-Loop t c =
    let n = c.args.name.now in
    let p = c.args.place in
    of_shape n p (stmt_tree c.args.one.now) _ c.in_loop.result
    (ap stmt_tree c.in-Loop.is ∙ c.statements_by_parts.ensures.loops c.in-Loop.field-0 c.in-Loop.iteration c.in-Loop.body)
    (c.in_loop.ensures
    ∙ ap (λ inside. nested.in_loop n p (iteration_tree c.in-Loop.iteration) inside)
    (c.within_statements-inside.ensures ∙ ap (λ l. nested.within_stmts n p (stmt_trees l)) c.deref-in-Loop.ensures.value))

pub within_statement-returns-in-Block : goal.within_statement-returns-in-Block
within_statement-returns-in-Block t c =
    let n = c.args.name.now in
    let p = c.args.place in
    of_shape n p (stmt_tree c.args.one.now) _ c.in_block.result
    (ap stmt_tree c.in-Block.is ∙ c.statements_by_parts.ensures.blocks c.in-Block.field-0 c.in-Block.declarations c.in-Block.body c.in-Block.all)
    (c.in_block.ensures
    ∙ ap₂ (λ declarations within. nested.in_block n p (map declaration_tree declarations) within) c.deref-in-Block-3.ensures.value
    (c.first_in-within.ensures
    ∙ ap₂ nested.first_in
    (c.within_statements-in-Block.ensures ∙ ap (λ l. nested.within_stmts n p (stmt_trees l)) c.deref-in-Block.ensures.value)
    (c.within_handlers.ensures ∙ ap (λ l. nested.within_handlers n p (handler_trees l)) c.deref-in-Block-2.ensures.value)))
