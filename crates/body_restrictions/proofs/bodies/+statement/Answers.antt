use Rattle.std.proofs.Common.{◌++◌, ap, ◌∙◌, map}
use Rattle.ada_tree.specs.StatementTree.{alternative_trees, declaration_tree, elsif_trees, handler_trees, stmt_tree, stmt_trees}
use Rattle.expr_rules.specs.Findings.{noted}
use Rattle.body_restrictions.specs.BodyRules.{alternatives_faults, elsifs_faults, handlers_faults, locals_faults, stmts_faults}
use Rattle.body_restrictions.proofs.Parts.{of_shape, three}
use Rattle.body_restrictions.proofs.bodies.+statement.Goals as goal

pub statement_faults-returns-in-If : goal.statement_faults-returns-in-If
statement_faults-returns-in-If t c =
    let before = c.args.found.now in
    let first = stmts_faults (stmt_trees c.deref.result.now) in
    let next = elsifs_faults (elsif_trees c.deref-in-If.result.now) in
    let last = stmts_faults (stmt_trees c.deref-in-If-2.result.now) in
    of_shape (stmt_tree c.args.one.now) _ before c.statements_faults-in-If.new.found
    (ap stmt_tree c.in-If.is ∙ c.statements_by_parts.ensures.ifs c.in-If.field-0 c.in-If.field-1 c.in-If.body c.in-If.elsifs c.in-If.others)
    (three c.noted_by_parts.ensures before c.statements_faults.new.found c.elsifs_faults.new.found c.statements_faults-in-If.new.found first next last
    c.statements_faults.ensures c.elsifs_faults.ensures c.statements_faults-in-If.ensures
    ∙ (λ j. noted before (stmts_faults (stmt_trees (c.deref.ensures.value j))
    ++ elsifs_faults (elsif_trees (c.deref-in-If.ensures.value j))
    ++ stmts_faults (stmt_trees (c.deref-in-If-2.ensures.value j)))))

pub statement_faults-returns-in-Case : goal.statement_faults-returns-in-Case
statement_faults-returns-in-Case t c =
    of_shape (stmt_tree c.args.one.now) _ c.args.found.now c.alternatives_faults.new.found
    (ap stmt_tree c.in-Case.is ∙ c.statements_by_parts.ensures.cases c.in-Case.field-0 c.in-Case.field-1 c.in-Case.all)
    (c.alternatives_faults.ensures ∙ ap (λ l. noted c.args.found.now (alternatives_faults (alternative_trees l))) c.deref-in-Case.ensures.value)

pub statement_faults-returns-in-Loop : goal.statement_faults-returns-in-Loop
statement_faults-returns-in-Loop t c =
    of_shape (stmt_tree c.args.one.now) _ c.args.found.now c.statements_faults-in-Loop.new.found
    (ap stmt_tree c.in-Loop.is ∙ c.statements_by_parts.ensures.loops c.in-Loop.field-0 c.in-Loop.field-1 c.in-Loop.body)
    (c.statements_faults-in-Loop.ensures ∙ ap (λ l. noted c.args.found.now (stmts_faults (stmt_trees l))) c.deref-in-Loop.ensures.value)

pub statement_faults-returns-in-Block : goal.statement_faults-returns-in-Block
statement_faults-returns-in-Block t c =
    let before = c.args.found.now in
    let first = locals_faults (map declaration_tree c.deref-in-Block.result.now) in
    let next = stmts_faults (stmt_trees c.deref-in-Block-2.result.now) in
    let last = handlers_faults (handler_trees c.deref-in-Block-3.result.now) in
    of_shape (stmt_tree c.args.one.now) _ before c.handlers_faults.new.found
    (ap stmt_tree c.in-Block.is ∙ c.statements_by_parts.ensures.blocks c.in-Block.field-0 c.in-Block.declarations c.in-Block.body c.in-Block.all)
    (three c.noted_by_parts.ensures before c.locals_faults.new.found c.statements_faults-in-Block.new.found c.handlers_faults.new.found first next last
    c.locals_faults.ensures c.statements_faults-in-Block.ensures c.handlers_faults.ensures
    ∙ (λ j. noted before (locals_faults (map declaration_tree (c.deref-in-Block.ensures.value j))
    ++ stmts_faults (stmt_trees (c.deref-in-Block-2.ensures.value j))
    ++ handlers_faults (handler_trees (c.deref-in-Block-3.ensures.value j)))))
