use Rattle.std.proofs.Common.{◌++◌, ap, ◌∙◌, map}
use Rattle.std.proofs.lemmas.Result.{on_ok_weaker}
use Rattle.ada_tree.specs.StatementTree.{alternative_trees, declaration_tree, elsif_trees, handler_trees, stmt_tree, stmt_trees}
use Rattle.size_rules.specs.BodySizes.{alternatives_things, elsifs_things, handlers_things, locals_things, stmts_things}
use Rattle.size_rules.proofs.Joined.{of_shape, three}
use Rattle.size_rules.proofs.body.+statement.Goals as goal

pub push_statement-returns-in_ok-push_elsifs-in-If : goal.push_statement-returns-in_ok-push_elsifs-in-If
push_statement-returns-in_ok-push_elsifs-in-If t c =
    let s = c.args.scope.now in
    let old = c.args.things.now.items in
    let first = stmts_things s (stmt_trees c.deref-in-If.result.now) in
    let next = elsifs_things s (elsif_trees c.deref-in-If-2.result.now) in
    let last = stmts_things s (stmt_trees c.deref-in-If-3.result.now) in
    on_ok_weaker c.push_statements-in-If.result
    (λ p. of_shape s old c.push_statements-in-If.new.things.items (first ++ next ++ last) (stmt_tree c.args.one.now) _
    (ap stmt_tree c.in-If.is ∙ c.statements_by_parts.ensures.ifs c.in-If.field-0 c.in-If.field-1 c.in-If.body c.in-If.elsifs c.in-If.others)
    (λ j. stmts_things s (stmt_trees (c.deref-in-If.ensures.value j))
    ++ elsifs_things s (elsif_trees (c.deref-in-If-2.ensures.value j))
    ++ stmts_things s (stmt_trees (c.deref-in-If-3.ensures.value j)))
    (three old c.push_statements.new.things.items c.push_elsifs.new.things.items c.push_statements-in-If.new.things.items first next last
    c.in_ok-push_statements-in-If.ensures c.in_ok-push_elsifs-in-If.ensures p))
    c.push_statements-in-If.ensures

pub push_statement-returns-in-Case : goal.push_statement-returns-in-Case
push_statement-returns-in-Case t c =
    let s = c.args.scope.now in
    on_ok_weaker c.push_alternatives.result
    (of_shape s c.args.things.now.items c.push_alternatives.new.things.items (alternatives_things s (alternative_trees c.deref-in-Case.result.now))
    (stmt_tree c.args.one.now) _
    (ap stmt_tree c.in-Case.is ∙ c.statements_by_parts.ensures.cases c.in-Case.field-0 c.in-Case.field-1 c.in-Case.all)
    (ap (λ l. alternatives_things s (alternative_trees l)) c.deref-in-Case.ensures.value))
    c.push_alternatives.ensures

pub push_statement-returns-in-Loop : goal.push_statement-returns-in-Loop
push_statement-returns-in-Loop t c =
    let s = c.args.scope.now in
    on_ok_weaker c.push_statements-in-Loop.result
    (of_shape s c.args.things.now.items c.push_statements-in-Loop.new.things.items (stmts_things s (stmt_trees c.deref-in-Loop.result.now))
    (stmt_tree c.args.one.now) _
    (ap stmt_tree c.in-Loop.is ∙ c.statements_by_parts.ensures.loops c.in-Loop.field-0 c.in-Loop.field-1 c.in-Loop.body)
    (ap (λ l. stmts_things s (stmt_trees l)) c.deref-in-Loop.ensures.value))
    c.push_statements-in-Loop.ensures

pub push_statement-returns-in_ok-push_statements-in-Block : goal.push_statement-returns-in_ok-push_statements-in-Block
push_statement-returns-in_ok-push_statements-in-Block t c =
    let s = c.args.scope.now in
    let old = c.args.things.now.items in
    let first = locals_things s (map declaration_tree c.deref-in-Block.result.now) in
    let next = stmts_things s (stmt_trees c.deref-in-Block-2.result.now) in
    let last = handlers_things s (handler_trees c.deref-in-Block-3.result.now) in
    on_ok_weaker c.push_handlers.result
    (λ p. of_shape s old c.push_handlers.new.things.items (first ++ next ++ last) (stmt_tree c.args.one.now) _
    (ap stmt_tree c.in-Block.is ∙ c.statements_by_parts.ensures.blocks c.in-Block.field-0 c.in-Block.declarations c.in-Block.body c.in-Block.all)
    (λ j. locals_things s (map declaration_tree (c.deref-in-Block.ensures.value j))
    ++ stmts_things s (stmt_trees (c.deref-in-Block-2.ensures.value j))
    ++ handlers_things s (handler_trees (c.deref-in-Block-3.ensures.value j)))
    (three old c.push_locals.new.things.items c.push_statements-in-Block.new.things.items c.push_handlers.new.things.items first next last
    c.in_ok-push_locals-in-Block.ensures c.in_ok-push_statements-in-Block.ensures p))
    c.push_handlers.ensures
