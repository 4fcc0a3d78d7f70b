use Rattle.std.proofs.Common.{◌∙◌, ap, false, map}
use Rattle.std.proofs.lemmas.Result.{on_ok_weaker}
use Rattle.ada_tree.specs.ExpressionTree.{expr_tree}
use Rattle.ada_tree.specs.StatementTree.{alternative_trees, declaration_tree, elsif_trees, handler_trees, iteration_tree, stmt_tree, stmt_trees}
use Rattle.declaration_rules.specs.LocalRules.{locals_scope}
use Rattle.stmt_rules.specs.CaseRules.{choices_wanted}
use Rattle.mismatches.specs.Conflicts.{noted}
use Rattle.mismatches.specs.StatementMismatches.{alternatives_mismatches, elsifs_mismatches, handlers_mismatches, locals_mismatches, looped_mismatches, stmts_mismatches}
use Rattle.mismatches.proofs.Compound.{block_found, case_found, if_found, loop_found}
use Rattle.mismatches.proofs.statements.+statement.Goals as goal

pub statement-returns-in_ok-elsifs_mismatches-in-If-clause-search : goal.statement-returns-in_ok-elsifs_mismatches-in-If-clause-search
statement-returns-in_ok-elsifs_mismatches-in-If-clause-search t c =
    let s = c.args.scope.now in
    let k = c.args.kind in
    let f = c.args.search.now in
    let fb = c.statements.new.search in
    let fe = c.elsifs_mismatches.new.search in
    on_ok_weaker c.statements-in-If.result
    (λ h. if_found s k (stmt_tree c.args.one.now) c.in-If.field-0 (expr_tree c.in-If.condition) (stmt_trees c.in-If.body.items) (elsif_trees c.in-If.elsifs.items)
    (stmt_trees c.in-If.others.items) c.statements.new.scope c.elsifs_mismatches.new.scope f c.condition_mismatches.new.search fb fe c.statements-in-If.new.search
    (ap stmt_tree c.in-If.is ∙ c.statements_by_parts.ensures.ifs c.in-If.field-0 c.in-If.condition c.in-If.body c.in-If.elsifs c.in-If.others)
    c.in_ok-statements-in-If.ensures.scope
    c.in_ok-elsifs_mismatches-in-If.ensures.scope
    c.condition_mismatches.ensures
    (c.in_ok-statements-in-If.ensures.search ∙ ap (λ l. noted c.condition_mismatches.new.search (stmts_mismatches s k (stmt_trees l))) c.deref.ensures.value)
    (c.in_ok-elsifs_mismatches-in-If.ensures.search ∙ ap (λ l. noted fb (elsifs_mismatches c.statements.new.scope k (elsif_trees l))) c.deref-in-If.ensures.value)
    (h ∙ ap (λ l. noted fe (stmts_mismatches c.elsifs_mismatches.new.scope k (stmt_trees l))) c.deref-in-If-2.ensures.value))
    c.statements-in-If.ensures.search

pub statement-returns-in-Case-clause-search : goal.statement-returns-in-Case-clause-search
statement-returns-in-Case-clause-search t c =
    let s = c.args.scope.now in
    let k = c.args.kind in
    let f = c.args.search.now in
    let fv = c.selecting_mismatches.new.search in
    let w = c.choices_wanted-wanted.result in
    on_ok_weaker c.alternatives_mismatches.result
    (λ h. case_found s k (stmt_tree c.args.one.now) c.in-Case.field-0 (expr_tree c.in-Case.value) (alternative_trees c.in-Case.alternatives.items) w f fv
    c.alternatives_mismatches.new.search
    (ap stmt_tree c.in-Case.is ∙ c.statements_by_parts.ensures.cases c.in-Case.field-0 c.in-Case.value c.in-Case.alternatives)
    (c.choices_wanted-wanted.ensures ∙ (λ j. choices_wanted s (c.own_of.ensures j)))
    c.selecting_mismatches.ensures
    (h ∙ ap (λ l. noted fv (alternatives_mismatches s k w (alternative_trees l))) c.deref-in-Case.ensures.value))
    c.alternatives_mismatches.ensures.search

pub statement-returns-in-Loop-clause-search : goal.statement-returns-in-Loop-clause-search
statement-returns-in-Loop-clause-search t c =
    let s = c.args.scope.now in
    let k = c.args.kind in
    let f = c.args.search.now in
    let i = iteration_tree c.in-Loop.iteration in
    on_ok_weaker c.looped_mismatches.result
    (λ h. loop_found s k (stmt_tree c.args.one.now) c.in-Loop.field-0 i (stmt_trees c.in-Loop.body.items) f c.looped_mismatches.new.search
    (ap stmt_tree c.in-Loop.is ∙ c.statements_by_parts.ensures.loops c.in-Loop.field-0 c.in-Loop.iteration c.in-Loop.body)
    (h ∙ ap (λ l. noted f (looped_mismatches s k i (stmt_trees l))) c.deref-in-Loop.ensures.value))
    c.looped_mismatches.ensures.search

pub statement-returns-in_ok-handlers_mismatches-in-Block-clause-search : goal.statement-returns-in_ok-handlers_mismatches-in-Block-clause-search
statement-returns-in_ok-handlers_mismatches-in-Block-clause-search t c =
    let s = c.args.scope.now in
    let k = c.args.kind in
    let f = c.args.search.now in
    let fl = c.locals_mismatches.new.search in
    let fb = c.statements-in-Block.new.search in
    let inner = c.locals_mismatches.new.scope in
    let after = c.statements-in-Block.new.scope in
    block_found s k (stmt_tree c.args.one.now) c.in-Block.field-0 (map declaration_tree c.in-Block.declarations.items) (stmt_trees c.in-Block.body.items)
    (handler_trees c.in-Block.handlers.items) inner after f fl fb c.handlers_mismatches.new.search
    (ap stmt_tree c.in-Block.is ∙ c.statements_by_parts.ensures.blocks c.in-Block.field-0 c.in-Block.declarations c.in-Block.body c.in-Block.handlers)
    (c.in_ok-locals_mismatches-in-Block.ensures.scope ∙ ap (λ l. locals_scope s (map declaration_tree l)) c.deref-in-Block.ensures.value)
    c.in_ok-statements-in-Block.ensures.scope
    (c.in_ok-locals_mismatches-in-Block.ensures.search ∙ ap (λ l. noted f (locals_mismatches s false (map declaration_tree l))) c.deref-in-Block.ensures.value)
    (c.in_ok-statements-in-Block.ensures.search ∙ ap (λ l. noted fl (stmts_mismatches inner k (stmt_trees l))) c.deref-in-Block-2.ensures.value)
    (c.in_ok-handlers_mismatches-in-Block.ensures.search ∙ ap (λ l. noted fb (handlers_mismatches after k (handler_trees l))) c.deref-in-Block-3.ensures.value)
