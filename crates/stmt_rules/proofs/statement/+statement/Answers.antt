use Rattle.std.proofs.Common.{◌+◌, [], ◌∙◌, ap, map, drop, length}
use Rattle.std.specs.Prelude.{nat_eq}
use Rattle.std.proofs.lemmas.Result.{on_ok_weaker}
use Rattle.ada_tree.specs.ExpressionTree.{expr_tree}
use Rattle.ada_tree.specs.StatementTree.{alternative_tree, alternative_trees, choices_tree, declaration_tree, elsif_trees, handler_tree, handler_trees, iteration_tree, stmt_tree, stmt_trees}
use Rattle.expr_rules.specs.Findings.{noted}
use Rattle.declaration_rules.specs.LocalRules.{locals_faults, locals_scope}
use Rattle.stmt_rules.specs.CaseRules.{choices_wanted, others_rule}
use Rattle.stmt_rules.specs.Choosing.{once_by}
use Rattle.stmt_rules.specs.StatementRules.{alternative_faults, alternatives_faults, elsifs_faults, handler_faults, handlers_faults, looped_faults, more_handlers_faults, stmts_faults}
use Rattle.stmt_rules.proofs.Turns.{alternatives_turn, handlers_turn}
use Rattle.stmt_rules.proofs.Compound.{block_found, case_found, if_found, loop_found}
use Rattle.stmt_rules.proofs.statement.+statement.Goals as goal

pub alternatives-loop-index-preserved : goal.alternatives-loop-index-preserved
alternatives-loop-index-preserved t c =
    let s = c.args.scope.now in
    let a = c.args.around in
    let w = c.args.wanted in
    let all = c.args.all.now in
    let l = c.loop-index in
    let x = c.index-all-index.result in
    let one = c.alternative.new.found in
    let here = c.in_ok-alternative.ensures in
    let less = c.loop-index-test.true in
    let last = nat_eq (l.index + 1) (length all) in
    let before = l.chosen.keys in
    record {
      found = ap (λ v. noted one (alternatives_faults s a w v (alternative_trees (drop (l.index + 1) all)))) (here.chosen ∙ ap (λ y. once_by y w before (choices_tree x.choices)) l.invariant.scope)
          ∙ alternatives_turn s a w before all l.index x l.found one _ less c.index-all-index.is l.invariant.found
          (here.found ∙ ap (λ y. noted l.found (alternative_faults y a w before last (alternative_tree x))) l.invariant.scope);
      scope = here.scope ∙ l.invariant.scope;
    }

pub handlers-loop-index-preserved : goal.handlers-loop-index-preserved
handlers-loop-index-preserved t c =
    let s = c.args.scope.now in
    let a = c.args.around in
    let all = c.args.all.now in
    let l = c.loop-index in
    let x = c.index-all-index.result in
    let one = c.handler.new.found in
    let here = c.in_ok-handler.ensures in
    let less = c.loop-index-test.true in
    let last = nat_eq (l.index + 1) (length all) in
    let before = l.named in
    record {
      found = ap (λ v. noted one (more_handlers_faults s a v (handler_trees (drop (l.index + 1) all)))) here.named
          ∙ handlers_turn s a before all l.index x l.found one _ less c.index-all-index.is l.invariant.found
          (here.found ∙ ap (λ y. noted l.found (handler_faults y a before last (handler_tree x))) l.invariant.scope);
      scope = here.scope ∙ l.invariant.scope;
    }

pub statement-returns-in_ok-elsif_parts-in-If-clause-found : goal.statement-returns-in_ok-elsif_parts-in-If-clause-found
statement-returns-in_ok-elsif_parts-in-If-clause-found t c =
    let s = c.args.scope.now in
    let a = c.args.around in
    let f = c.args.found.now in
    let fb = c.statements.new.found in
    let fe = c.elsif_parts.new.found in
    on_ok_weaker c.statements-in-If.result
    (λ h. if_found s a (stmt_tree c.args.one.now) c.in-If.field-0 (expr_tree c.in-If.condition) (stmt_trees c.in-If.body.items) (elsif_trees c.in-If.elsifs.items)
    (stmt_trees c.in-If.others.items) c.statements.new.scope c.elsif_parts.new.scope f c.condition_faults.new.found fb fe c.statements-in-If.new.found
    (ap stmt_tree c.in-If.is ∙ c.statements_by_parts.ensures.ifs c.in-If.field-0 c.in-If.condition c.in-If.body c.in-If.elsifs c.in-If.others)
    c.in_ok-statements-in-If.ensures.scope
    c.in_ok-elsif_parts-in-If.ensures.scope
    c.condition_faults.ensures
    (c.in_ok-statements-in-If.ensures.found ∙ ap (λ l. noted c.condition_faults.new.found (stmts_faults s a (stmt_trees l))) c.deref.ensures.value)
    (c.in_ok-elsif_parts-in-If.ensures.found ∙ ap (λ l. noted fb (elsifs_faults c.statements.new.scope a (elsif_trees l))) c.deref-in-If.ensures.value)
    (h ∙ ap (λ l. noted fe (stmts_faults c.elsif_parts.new.scope a (stmt_trees l))) c.deref-in-If-2.ensures.value))
    c.statements-in-If.ensures.found

pub statement-returns-in_ok-alternatives-in-Case-clause-found : goal.statement-returns-in_ok-alternatives-in-Case-clause-found
statement-returns-in_ok-alternatives-in-Case-clause-found t c =
    let s = c.args.scope.now in
    let a = c.args.around in
    let f = c.args.found.now in
    let fv = c.selecting_faults.new.found in
    let fa = c.alternatives.new.found in
    let w = c.choices_wanted-wanted.result in
    let all = alternative_trees c.in-Case.all.items in
    case_found s a (stmt_tree c.args.one.now) c.in-Case.place (expr_tree c.in-Case.value) all w f fv fa c.others_rule.new.found
    (ap stmt_tree c.in-Case.is ∙ c.statements_by_parts.ensures.cases c.in-Case.place c.in-Case.value c.in-Case.all)
    (c.choices_wanted-wanted.ensures ∙ (λ j. choices_wanted s (c.own_of.ensures j)))
    c.selecting_faults.ensures
    (c.in_ok-alternatives-in-Case.ensures.found ∙ ap (λ l. noted fv (alternatives_faults s a w [] (alternative_trees l))) c.deref-in-Case.ensures.value)
    (c.others_rule.ensures ∙ ap (λ l. noted fa (others_rule c.in-Case.place (alternative_trees l))) c.deref-in-Case-2.ensures.value)

pub statement-returns-in-Loop-clause-found : goal.statement-returns-in-Loop-clause-found
statement-returns-in-Loop-clause-found t c =
    let s = c.args.scope.now in
    let a = c.args.around in
    let f = c.args.found.now in
    let i = iteration_tree c.in-Loop.iteration in
    on_ok_weaker c.looped.result
    (λ h. loop_found s a (stmt_tree c.args.one.now) c.in-Loop.field-0 i (stmt_trees c.in-Loop.body.items) f c.looped.new.found
    (ap stmt_tree c.in-Loop.is ∙ c.statements_by_parts.ensures.loops c.in-Loop.field-0 c.in-Loop.iteration c.in-Loop.body)
    (h ∙ ap (λ l. noted f (looped_faults s a i (stmt_trees l))) c.deref-in-Loop.ensures.value))
    c.looped.ensures.found

pub statement-returns-in_ok-handlers-in-Block-clause-found : goal.statement-returns-in_ok-handlers-in-Block-clause-found
statement-returns-in_ok-handlers-in-Block-clause-found t c =
    let s = c.args.scope.now in
    let a = c.args.around in
    let f = c.args.found.now in
    let fl = c.check_locals.new.found in
    let fb = c.statements-in-Block.new.found in
    let inner = c.check_locals.new.scope in
    let behind = c.statements-in-Block.new.scope in
    block_found s a (stmt_tree c.args.one.now) c.in-Block.field-0 (map declaration_tree c.in-Block.declarations.items) (stmt_trees c.in-Block.body.items)
    (handler_trees c.in-Block.all.items) inner behind f fl fb c.handlers.new.found
    (ap stmt_tree c.in-Block.is ∙ c.statements_by_parts.ensures.blocks c.in-Block.field-0 c.in-Block.declarations c.in-Block.body c.in-Block.all)
    (c.in_ok-check_locals-in-Block.ensures.scope ∙ ap (λ l. locals_scope s (map declaration_tree l)) c.deref-in-Block.ensures.value)
    c.in_ok-statements-in-Block.ensures.scope
    (c.in_ok-check_locals-in-Block.ensures.found ∙ ap (λ l. noted f (locals_faults s (map declaration_tree l))) c.deref-in-Block.ensures.value)
    (c.in_ok-statements-in-Block.ensures.found ∙ ap (λ l. noted fl (stmts_faults inner a (stmt_trees l))) c.deref-in-Block-2.ensures.value)
    (c.in_ok-handlers-in-Block.ensures.found ∙ ap (λ l. noted fb (handlers_faults behind a (handler_trees l))) c.deref-in-Block-3.ensures.value)
