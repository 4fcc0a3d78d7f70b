use Rattle.std.proofs.Common.{◌≡◌, ◌∷◌, ◌++◌, [], ◌&&◌, length, map, true, false, refl, sym, ap, ◌∙◌, rules, subst}
use Rattle.std.specs.Prelude.{◌==◌}
use Rattle.ada_tree.specs.ExpressionTree.{expr_tree, name_tree}
use Rattle.ada_tree.specs.StatementTree as tree
use Rattle.ada_tree.specs.StatementTree.{alternative_trees, choices_tree, declaration_tree, elsif_trees, handler_trees, iteration_tree, range_tree, stmt_tree, stmt_trees}
use Rattle.declaration_rules.specs.BodyNames.{loop_scope}
use Rattle.image.specs.declared.instruction.Operation.TheVariants as op
use Rattle.expr_code.specs.ExpressionCode.{expr_code}
use Rattle.expr_code.specs.Pieces.{narrow, one}
use Rattle.expr_code.proofs.Pieces.{drop_end}
use Rattle.part_code.specs.Emitting.{ways_of}
use Rattle.part_code.specs.Needs.{with_object}
use Rattle.part_code.specs.ChoiceRows.{choice_rows}
use Rattle.part_code.specs.Statements.{with_exit, within_handler}
use Rattle.stmt_code.specs.declared.leaves.WayOut.TheVariants as way
use Rattle.stmt_code.specs.Declaring.{site_at}
use Rattle.stmt_code.specs.Drafting.{ClosesTo, CodePart, OpensParts, adds, all_led, coded, end_of, handles, marks, ◌▹◌}
use Rattle.stmt_code.specs.Leaves.{any_leave}
use Rattle.stmt_code.specs.Placing.{stmt_place}
use Rattle.stmt_code.specs.SimpleCode.{assignment_code, null_code}
use Rattle.stmt_code.specs.StatementCode.{Site, after_locals, alternative_code, alternatives_code, covered_code, elsifs_code, fork_code, guarded_code, handlers_code, in_turn, locals_code, loop_code, ranged_code, site, stmt_code, stmts_code, turns_code}
use Rattle.stmt_code.proofs.Adding.{none_there}
use Rattle.stmt_code.proofs.BranchesMade.{alternatives_step, elsifs_end, elsifs_step, handlers_step, statements_end, statements_step}
use Rattle.stmt_code.proofs.DeclarationsMade.{block_made, out_of_sight, shown_after, shows_locals}
use Rattle.stmt_code.proofs.PartsAdded.{closes_end, closes_none}
use Rattle.stmt_code.specs.Timely.{alternatives_timely, elsifs_timely, handlers_timely, locals_seen, stmt_timely, stmts_timely, turn_scope}
use Rattle.stmt_code.proofs.TimesMade.{alternatives_done, alternatives_on, elsifs_done, elsifs_on, handlers_done, handlers_on, seen_after, statements_done, statements_on, timed}
use Rattle.stmt_code.proofs.TurnsMade.{branch_opens, condition_made, cover_made, forever_made, forked, forked_made, handled, looped, nothing_made, others_open, out_made, range_made, sequence_made, skip_made, stated, then_added, turn_made, values_open}
use Rattle.stmt_code.proofs.sketch.Sketch.+sketched.Goals as goal

-- ---- statements, one after another

pub statements-loop-statement-preserved : goal.statements-loop-statement-preserved
statements-loop-statement-preserved t c =
    let s = site c.args.visible.now c.args.leaving c.args.taken c.args.exceptions.now in
    let x = c.statement-item.result in
    let there = c.loop-statement.invariant.1 in
    let code = c.in_ok-statement.ensures.made
    ∙ ap (λ v. adds c.loop-statement.self (stmt_code (site v c.args.leaving c.args.taken c.args.exceptions.now) (stmt_tree x))) there in
    let marked_there = c.in_ok-mark.ensures.made ∙ ap (marks c.statement.new.self c.in_ok-first.first) c.stmt_place.ensures
    ∙ ap (λ y. marks y c.in_ok-first.first (stmt_place (stmt_tree x))) code in (
      statements_step s c.loop-statement.self c.mark.new.self _ c.args.all.now _ x c.in_ok-first.first c.loop-statement-test.true c.statement-item.is
          c.in_ok-first.ensures.place marked_there c.loop-statement.invariant.0,
      c.in_ok-statement.ensures.same ∙ there,
      statements_on s.visible.scope _ c.args.all.now _ x c.loop-statement-test.true c.statement-item.is
          (subst (λ v. stmt_timely v.scope (stmt_tree x)) there c.in_ok-statement.ensures.timely) c.loop-statement.invariant.2,
    )

pub statements-returns-clause-made : goal.statements-returns-clause-made
statements-returns-clause-made t c =
    statements_end (site c.args.visible.now c.args.leaving c.args.taken c.args.exceptions.now) c.loop-statement.self _ c.args.all.now _
    c.loop-statement-test.false c.loop-statement.invariant.0

pub statements-loop-statement-init : goal.statements-loop-statement-init
statements-loop-statement-init t c = (refl, refl, λ h. h)

pub statements-returns-clause-timely : goal.statements-returns-clause-timely
statements-returns-clause-timely t c =
    statements_done c.args.visible.now.scope _ c.args.all.now _ c.loop-statement-test.false c.loop-statement.invariant.2

pub statements-returns-clause-same : goal.statements-returns-clause-same
statements-returns-clause-same t c =
    c.loop-statement.invariant.1

-- ---- parts of an `if`

pub guarded-returns-clause-made : goal.guarded-returns-clause-made
guarded-returns-clause-made t c =
    skip_made c.args.self.now c.expression.new.self c.test.new.self c.statements.new.self c.lead.new.self (coded (expr_code c.args.visible.now 0 (expr_tree c.args.condition.now)))
    (stmts_code (site c.args.visible.now c.args.leaving c.args.taken c.args.exceptions.now) (stmt_trees c.args.body.now)) op.JumpIfZero
    _ _ c.in_ok-expression.ensures.made c.in_ok-test.ensures.place c.in_ok-test.ensures.made c.in_ok-statements.ensures.made c.end-end.ensures c.lead.ensures.led

pub branch-returns-clause-opens : goal.branch-returns-clause-opens
branch-returns-clause-opens t c =
    branch_opens c.args.self.now c.expression.new.self c.test.new.self c.statements.new.self c.wait.new.self c.lead.new.self c.args.waiting.now.items
    c.wait.new.waiting.items (coded (expr_code c.args.visible.now 0 (expr_tree c.args.condition.now)))
    (stmts_code (site c.args.visible.now c.args.leaving c.args.taken c.args.exceptions.now) (stmt_trees c.args.body.now)) op.JumpIfZero
    _ _ c.in_ok-expression.ensures.made c.in_ok-test.ensures.place c.in_ok-test.ensures.made c.in_ok-statements.ensures.made c.in_ok-wait.ensures.waits
    c.in_ok-wait.ensures.made c.end-next.ensures c.lead.ensures.led

pub elsifs-loop-part-preserved : goal.elsifs-loop-part-preserved
elsifs-loop-part-preserved t c =
    let s = site c.args.visible.now c.args.leaving c.args.taken c.args.exceptions.now in
    let x = c.part-item.result in
    let there = c.loop-part.invariant.1 in
    let opens = subst (λ v. OpensParts c.loop-part.self c.loop-part.waiting.items (λ last. fork_code v (expr_tree x.condition)
    (stmts_code (site v c.args.leaving c.args.taken c.args.exceptions.now) (stmt_trees x.statements.items)) last) c.branch-self.new.self c.branch-self.new.waiting.items) there
    (subst (λ l. OpensParts c.loop-part.self c.loop-part.waiting.items (λ last. fork_code c.loop-part.visible (expr_tree x.condition)
    (stmts_code (site c.loop-part.visible c.args.leaving c.args.taken c.args.exceptions.now) (stmt_trees l)) last) c.branch-self.new.self c.branch-self.new.waiting.items)
    c.deref.ensures.value c.in_ok-branch.ensures.opens) in (
      λ final places rest. c.loop-part.invariant.0 final places
          (elsifs_step s c.loop-part.self c.branch-self.new.self final c.loop-part.waiting.items c.branch-self.new.waiting.items places c.args.elsifs.now _ x
          c.loop-part-test.true c.part-item.is opens rest),
      c.in_ok-branch.ensures.same ∙ there,
      elsifs_on s.visible.scope _ c.args.elsifs.now _ x c.loop-part-test.true c.part-item.is
          (subst (λ l. stmts_timely s.visible.scope (stmt_trees l)) c.deref.ensures.value
          (subst (λ v. stmts_timely v.scope (stmt_trees c.deref.result.now)) there c.in_ok-branch.ensures.timely)) c.loop-part.invariant.2,
    )

pub elsifs-returns-clause-opens : goal.elsifs-returns-clause-opens
elsifs-returns-clause-opens t c =
    c.loop-part.invariant.0 c.loop-part.self c.loop-part.waiting.items
    (elsifs_end (site c.args.visible.now c.args.leaving c.args.taken c.args.exceptions.now) c.loop-part.self c.loop-part.waiting.items c.args.elsifs.now _
    c.loop-part-test.false)

pub elsifs-loop-part-init : goal.elsifs-loop-part-init
elsifs-loop-part-init t c = (λ final places opens. opens, refl, λ h. h)

pub elsifs-returns-clause-timely : goal.elsifs-returns-clause-timely
elsifs-returns-clause-timely t c = elsifs_done c.args.visible.now.scope _ c.args.elsifs.now _ c.loop-part-test.false c.loop-part.invariant.2

pub elsifs-returns-clause-same : goal.elsifs-returns-clause-same
elsifs-returns-clause-same t c =
    c.loop-part.invariant.1

-- ---- alternatives

pub alternatives-loop-alternative-init : goal.alternatives-loop-alternative-init
alternatives-loop-alternative-init t c =
    let all = alternatives_code (site c.args.visible.now c.args.leaving c.args.taken c.args.exceptions.now) (alternative_trees c.args.all.now) in (
      subst (λ l. ClosesTo c.args.self.now l all (adds c.args.self.now all)) (sym c.no_places-waiting.ensures) (closes_none c.args.self.now all),
      refl,
      λ h. h,
    )

pub alternatives-loop-alternative-preserved : goal.alternatives-loop-alternative-preserved
alternatives-loop-alternative-preserved t c =
    let s = site c.args.visible.now c.args.leaving c.args.taken c.args.exceptions.now in
    let x = c.alternative-item.result in
    let there = c.loop-alternative.invariant.1 in
    let opens = subst (λ v. OpensParts c.loop-alternative.self c.loop-alternative.waiting.items (λ others. alternative_code v.scope (choices_tree x.choices)
    (stmts_code (site v c.args.leaving c.args.taken c.args.exceptions.now) (stmt_trees x.statements.items)) others) c.alternative.new.self
    c.alternative.new.waiting.items) there c.in_ok-alternative.ensures.opens in (
      alternatives_step s c.loop-alternative.self c.alternative.new.self _ c.loop-alternative.waiting.items c.alternative.new.waiting.items c.args.all.now _ x
          c.loop-alternative-test.true c.alternative-item.is opens c.loop-alternative.invariant.0,
      c.in_ok-alternative.ensures.same ∙ there,
      alternatives_on s.visible.scope _ c.args.all.now _ x c.loop-alternative-test.true c.alternative-item.is
          (subst (λ v. stmts_timely v.scope (stmt_trees x.statements.items)) there c.in_ok-alternative.ensures.timely) c.loop-alternative.invariant.2,
    )

pub alternatives-returns-clause-made : goal.alternatives-returns-clause-made
alternatives-returns-clause-made t c =
    let s = site c.args.visible.now c.args.leaving c.args.taken c.args.exceptions.now in
    let whole = adds c.args.self.now (alternatives_code s (alternative_trees c.args.all.now)) in
    let waits = subst (λ l. ClosesTo c.loop-alternative.self c.loop-alternative.waiting.items (alternatives_code s (alternative_trees l)) whole)
    (drop_end c.args.all.now _ c.loop-alternative-test.false) c.loop-alternative.invariant.0 in
    closes_end c.loop-alternative.self c.put.new.self c.rejoin.new.self whole c.loop-alternative.waiting.items (coded (one 1 op.Drop)) waits c.in_ok-put.ensures.made
    (c.rejoin.ensures.made ∙ ap (λ l. all_led c.put.new.self l (narrow (end_of c.put.new.self))) c.deref.ensures.value)

pub alternatives-returns-clause-timely : goal.alternatives-returns-clause-timely
alternatives-returns-clause-timely t c =
    alternatives_done c.args.visible.now.scope _ c.args.all.now _ c.loop-alternative-test.false c.loop-alternative.invariant.2

pub alternatives-returns-clause-same : goal.alternatives-returns-clause-same
alternatives-returns-clause-same t c =
    c.loop-alternative.invariant.1

pub alternative-returns-in_ok-wait-in-Others-clause-opens : goal.alternative-returns-in_ok-wait-in-Others-clause-opens
alternative-returns-in_ok-wait-in-Others-clause-opens t c =
    let s = site c.args.visible.now c.args.leaving c.args.taken c.args.exceptions.now in
    let x = c.args.alternative.now in
    let opens = subst (λ l. OpensParts c.args.self.now c.args.waiting.now.items (λ others. alternative_code s.visible.scope (tree.OtherValues c.in-Others.field-0)
    (stmts_code s (stmt_trees l)) others) c.wait.new.self c.wait.new.waiting.items) c.deref-in-Others.ensures.value
    (others_open c.args.self.now c.put.new.self c.statements.new.self c.wait.new.self c.args.waiting.now.items c.wait.new.waiting.items
    (stmts_code s (stmt_trees c.deref-in-Others.result.now)) c.in_ok-put-in-Others.ensures.made c.in_ok-statements-in-Others.ensures.made
    c.in_ok-wait-in-Others.ensures.waits c.in_ok-wait-in-Others.ensures.made) in
    subst (λ k. OpensParts c.args.self.now c.args.waiting.now.items (λ others. alternative_code s.visible.scope k (stmts_code s (stmt_trees x.statements.items)) others)
    c.wait.new.self c.wait.new.waiting.items) (sym (ap choices_tree c.in-Others.is)) opens

pub chosen-returns-clause-opens : goal.chosen-returns-clause-opens
chosen-returns-clause-opens t c =
    values_open c.args.self.now c.choices.new.self c.put.new.self c.put-2.new.self c.statements.new.self c.wait.new.self c.lead.new.self c.args.waiting.now.items
    c.wait.new.waiting.items c.args.visible.now.scope (map expr_tree c.args.choices.now) (stmts_code (site c.args.visible.now c.args.leaving c.args.taken c.args.exceptions.now) (stmt_trees c.args.body.now)) _ _
    c.in_ok-choices.ensures.made c.many-next.ensures c.in_ok-put.ensures.made c.in_ok-put-2.ensures.made c.in_ok-statements.ensures.made
    c.in_ok-wait.ensures.waits c.in_ok-wait.ensures.made c.end-end.ensures c.lead.ensures.led

-- ---- loops

pub turning-returns-in_ok-put-in-Forever-clause-made : goal.turning-returns-in_ok-put-in-Forever-clause-made
turning-returns-in_ok-put-in-Forever-clause-made t c =
    let s = site c.args.visible.now c.args.leaving c.args.taken c.args.exceptions.now in
    forever_made c.args.self.now c.statements.new.self c.put.new.self (stmts_code (site c.args.visible.now c.args.leaving c.args.taken c.args.exceptions.now) (stmt_trees c.args.body.now)) _ c.end-turn.ensures
    c.in_ok-statements-in-Forever.ensures.made c.in_ok-put-in-Forever.ensures.made
    ∙ ap (λ i. adds c.args.self.now (loop_code s (iteration_tree i) (λ inner. stmts_code inner (stmt_trees c.args.body.now)))) (sym c.in-Forever.is)

pub conditional-returns-clause-made : goal.conditional-returns-clause-made
conditional-returns-clause-made t c =
    condition_made c.args.self.now c.expression.new.self c.test.new.self c.statements.new.self c.put.new.self c.lead.new.self c.args.visible.now
    (expr_tree c.args.condition.now) (stmts_code (site c.args.visible.now c.args.leaving c.args.taken c.args.exceptions.now) (stmt_trees c.args.body.now)) _ _ _ c.end-turn.ensures c.in_ok-expression.ensures.made
    c.in_ok-test.ensures.place c.in_ok-test.ensures.made c.in_ok-statements.ensures.made c.in_ok-put.ensures.made c.end-end.ensures c.lead.ensures.led

pub each_turn-returns-clause-made : goal.each_turn-returns-clause-made
each_turn-returns-clause-made t c =
    turn_made c.args.self.now c.statements.new.self c.test_last.new.self c.put.new.self c.count.new.self c.put-2.new.self c.lead.new.self c.args.turns
    (stmts_code (site c.args.visible.now c.args.leaving c.args.taken c.args.exceptions.now) (stmt_trees c.args.body.now)) _ _ _ c.end-turn.ensures c.in_ok-statements.ensures.made c.in_ok-test_last.ensures.made
    c.many-last.ensures c.in_ok-put.ensures.made c.in_ok-count.ensures.made c.in_ok-put-2.ensures.made c.end-end.ensures c.lead.ensures.led

pub ranged-returns-clause-made : goal.ranged-returns-clause-made
ranged-returns-clause-made t c =
    let turns = turns_code c.args.turns (stmts_code (site c.args.visible.now c.args.leaving c.args.taken c.args.exceptions.now) (stmt_trees c.args.body.now)) in
    let is : c.args.full ≡ false = search rules in
    skip_made c.args.self.now c.test_null.new.self c.put.new.self c.each_turn-2.new.self c.lead.new.self (coded (null_code c.args.turns)) turns op.JumpIfNotZero _ _
    c.in_ok-test_null.ensures.made c.many-null.ensures c.in_ok-put.ensures.made c.in_ok-each_turn.ensures.made c.end-end.ensures c.lead.ensures.led
    ∙ ap (λ f. adds c.args.self.now (ranged_code f c.args.turns turns)) (sym is)

pub counted-returns-clause-made : goal.counted-returns-clause-made
counted-returns-clause-made t c =
    let s = site c.args.visible.now c.args.leaving c.args.taken c.args.exceptions.now in
    let r = range_tree c.args.range.now in
    let limit = c.narrow-2.ensures ∙ ap narrow c.in_ok-last.ensures.more in
    let seen = c.in_ok-show_parameter.ensures.shown ∙ ap (with_object c.args.visible.now (loop_scope c.args.visible.now.scope c.args.parameter.now r)) c.narrow.ensures in
    range_made c.args.self.now c.take.new.self c.bounds.new.self c.ranged.new.self s c.args.reversed r _ _ _ _
    (stmts_code (in_turn s c.args.parameter.now r) (stmt_trees c.args.body.now)) c.in_ok-more.ensures.more
    (λ j. record { counter = c.narrow.ensures j; limit = limit j; reversed = c.args.reversed }) c.is_full-full.ensures c.take.ensures.made
    c.in_ok-bounds.ensures.made c.in_ok-ranged.ensures.made
    (λ j. stmts_code (site_at (seen j) (c.in_ok-more.ensures.more j) s.ways s.exceptions) (stmt_trees c.args.body.now))

pub repeated-returns-then-any_exits-clause-made : goal.repeated-returns-then-any_exits-clause-made
repeated-returns-then-any_exits-clause-made t c =
    λ place.
    let s = site c.args.visible.now c.args.leaving c.args.taken c.args.exceptions.now in
    let i = iteration_tree c.args.iteration.now in
    let body = stmt_trees c.args.body.now in
    let there : c.any_exits.result ≡ true = search rules in
    out_made c.args.self.now c.begin_way.new.self c.turning.new.self c.lead.new.self
    (λ exit. loop_code (record s { ways = with_exit exit s.ways }) i (λ inner. stmts_code inner body)) (any_leave body way.Exit) _ _ _
    (sym c.any_exits.ensures ∙ there) c.in_ok-out.ensures.made c.in_ok-out.ensures.out c.in_ok-out.ensures.place
    (c.in_ok-turning.ensures.made
    ∙ ap (λ w. adds c.begin_way.new.self (loop_code (site_at s.visible s.taken w s.exceptions) i (λ inner. stmts_code inner body))) c.in_loop-inside.ensures)
    c.end-end.ensures c.lead.ensures.led

-- ---- handlers

pub covered-returns-clause-cover : goal.covered-returns-clause-cover
covered-returns-clause-cover t c =
    cover_made c.args.self.now c.statements.new.self c.put.new.self (stmts_code (site c.args.visible.now c.args.leaving c.args.taken c.args.exceptions.now) (stmt_trees c.args.body.now)) _ _
    c.in_ok-statements.ensures.made c.in_ok-put.ensures.made c.end-start.ensures c.end-after.ensures

pub handlers-loop-handler-init : goal.handlers-loop-handler-init
handlers-loop-handler-init t c =
    let s = site c.args.visible.now c.args.leaving c.args.taken c.args.exceptions.now in
    let all = handler_trees c.args.all.now in
    let waiting : c.push.new.self.items ≡ c.args.jump ∷ [] = c.in_ok-push.ensures.items ∙ ap (λ l. l ++ c.args.jump ∷ []) c.no_places-waiting.ensures in (
      λ whole waits. subst (λ o. ClosesTo c.args.self.now c.push.new.self.items (handlers_code s c.args.cover o all) whole) (sym c.no_rows-own.ensures)
          (subst (λ l. ClosesTo c.args.self.now l (handlers_code s c.args.cover [] all) whole) (sym waiting) waits),
      refl,
      λ h. h,
    )

pub handlers-loop-handler-preserved : goal.handlers-loop-handler-preserved
handlers-loop-handler-preserved t c =
    let s = site c.args.visible.now c.args.leaving c.args.taken c.args.exceptions.now in
    let x = c.handler-item.result in
    let there = c.loop-handler.invariant.1 in
    let ways = c.in_handler-inside.ensures ∙ ap (λ n. within_handler n (ways_of c.args.leaving)) c.narrow.ensures in
    let body = c.in_ok-statements.ensures.made
    ∙ (λ j. adds c.keep.new.self (stmts_code (site_at (there j) (c.in_ok-more.ensures.more j) (ways j) c.args.exceptions.now) (stmt_trees (c.deref-in-loop-handler.ensures.value j)))) in
    let rows = c.in_ok-add_choices.ensures.rows
    ∙ (λ j. c.loop-handler.own.items ++ choice_rows c.args.exceptions.now (record c.args.cover { target = c.end-target.ensures j }) (c.deref.ensures.value j)) in (
      λ whole waits. handlers_step s c.args.cover c.loop-handler.self c.keep.new.self c.statements.new.self c.wait.new.self whole c.loop-handler.waiting.items
          c.wait.new.waiting.items c.loop-handler.own.items c.add_choices.new.rows.items c.args.all.now _ x c.loop-handler-test.true c.handler-item.is
          c.in_ok-keep.ensures.made body c.in_ok-wait.ensures.made c.in_ok-wait.ensures.waits rows (c.loop-handler.invariant.0 whole waits),
      c.in_ok-statements.ensures.same ∙ there,
      handlers_on s.visible.scope _ c.args.all.now _ x c.loop-handler-test.true c.handler-item.is
          (subst (λ l. stmts_timely s.visible.scope (stmt_trees l)) c.deref-in-loop-handler.ensures.value
          (subst (λ v. stmts_timely v.scope (stmt_trees c.deref-in-loop-handler.result.now)) there c.in_ok-statements.ensures.timely))
          c.loop-handler.invariant.2,
    )

pub handlers-returns-clause-made : goal.handlers-returns-clause-made
handlers-returns-clause-made t c =
    λ whole waits.
    let s = site c.args.visible.now c.args.leaving c.args.taken c.args.exceptions.now in
    let all = subst (λ l. ClosesTo c.loop-handler.self c.loop-handler.waiting.items (handlers_code s c.args.cover c.loop-handler.own.items (handler_trees l)) whole)
    (drop_end c.args.all.now _ c.loop-handler-test.false) (c.loop-handler.invariant.0 whole waits) in
    closes_end c.loop-handler.self c.handle.new.self c.rejoin.new.self whole c.loop-handler.waiting.items (handles c.loop-handler.own.items) all
    (c.in_ok-handle.ensures.made ∙ ap (λ l. adds c.loop-handler.self (handles l)) c.deref-2.ensures.value)
    (c.rejoin.ensures.made ∙ ap (λ l. all_led c.handle.new.self l (narrow (end_of c.handle.new.self))) c.deref-3.ensures.value)

pub handlers-returns-clause-timely : goal.handlers-returns-clause-timely
handlers-returns-clause-timely t c = handlers_done c.args.visible.now.scope _ c.args.all.now _ c.loop-handler-test.false c.loop-handler.invariant.2

pub handlers-returns-clause-same : goal.handlers-returns-clause-same
handlers-returns-clause-same t c =
    c.loop-handler.invariant.1

-- ---- blocks

pub block-returns-clause-made : goal.block-returns-clause-made
block-returns-clause-made t c =
    block_made c.args.visible.now c.declarations.new.visible c.args.taken c.in_ok-more.more c.args.self.now c.declarations.new.self c.statements.new.self
    (ways_of c.args.leaving) c.args.exceptions.now (map declaration_tree c.args.declarations.now) (λ s. stmts_code s (stmt_trees c.args.body.now))
    c.in_ok-more.ensures.declares c.in_ok-statements.ensures.made

pub block-returns-clause-same : goal.block-returns-clause-same
block-returns-clause-same t c =
    let s = site c.args.visible.now c.args.leaving c.args.taken c.args.exceptions.now in
    let ds = map declaration_tree c.args.declarations.now in
    out_of_sight c.args.visible.now (after_locals s ds).visible c.statements.new.visible c.restore.new.visible _ _ _ (shows_locals c.names_are_added.ensures s ds)
    (c.in_ok-statements.ensures.same
    ∙ shown_after c.args.visible.now c.declarations.new.visible c.args.taken c.in_ok-more.more c.args.self.now c.declarations.new.self s.ways s.exceptions ds
    c.in_ok-more.ensures.declares)
    c.of-extent.ensures.names c.of-extent.ensures.slots c.of-extent.ensures.subprograms c.restore.ensures.visible

-- ---- a statement

pub statement-returns-in-Null-clause-made : goal.statement-returns-in-Null-clause-made
statement-returns-in-Null-clause-made t c =
    nothing_made (site c.args.visible.now c.args.leaving c.args.taken c.args.exceptions.now) c.args.self.now _ _ (ap stmt_tree c.in-Null.is) refl

pub statement-returns-in-Delay-clause-made : goal.statement-returns-in-Delay-clause-made
statement-returns-in-Delay-clause-made t c =
    nothing_made (site c.args.visible.now c.args.leaving c.args.taken c.args.exceptions.now) c.args.self.now _ _ (ap stmt_tree c.in-Delay.is) refl

pub statement-returns-in-Abort-clause-made : goal.statement-returns-in-Abort-clause-made
statement-returns-in-Abort-clause-made t c =
    nothing_made (site c.args.visible.now c.args.leaving c.args.taken c.args.exceptions.now) c.args.self.now _ _ (ap stmt_tree c.in-Abort.is) refl

pub statement-returns-in-Requeue-clause-made : goal.statement-returns-in-Requeue-clause-made
statement-returns-in-Requeue-clause-made t c =
    nothing_made (site c.args.visible.now c.args.leaving c.args.taken c.args.exceptions.now) c.args.self.now _ _ (ap stmt_tree c.in-Requeue.is) refl

pub statement-returns-in-Accept-clause-made : goal.statement-returns-in-Accept-clause-made
statement-returns-in-Accept-clause-made t c =
    nothing_made (site c.args.visible.now c.args.leaving c.args.taken c.args.exceptions.now) c.args.self.now _ _ (ap stmt_tree c.in-Accept.is) refl

pub statement-returns-in-Select-clause-made : goal.statement-returns-in-Select-clause-made
statement-returns-in-Select-clause-made t c =
    nothing_made (site c.args.visible.now c.args.leaving c.args.taken c.args.exceptions.now) c.args.self.now _ _ (ap stmt_tree c.in-Select.is) refl

pub statement-returns-in-Assignment-clause-made : goal.statement-returns-in-Assignment-clause-made
statement-returns-in-Assignment-clause-made t c =
    let x = c.in-Assignment in
    stated (site c.args.visible.now c.args.leaving c.args.taken c.args.exceptions.now) c.args.self.now c.assign.new.self _ (tree.Assignment (name_tree x.name) (expr_tree x.value))
    (coded (assignment_code c.args.visible.now (name_tree x.name) (expr_tree x.value))) (ap stmt_tree x.is) refl _ c.assign.ensures.made

pub statement-returns-then-both-clause-made : goal.statement-returns-then-both-clause-made
statement-returns-then-both-clause-made t c =
    let s = site c.args.visible.now c.args.leaving c.args.taken c.args.exceptions.now in
    let x = c.in-If in
    let no_elsifs : x.elsifs.items ≡ [] = none_there x.elsifs.items (search rules) in
    let no_others : x.others.items ≡ [] = none_there x.others.items (search rules) in
    let body = stmt_trees c.deref.result.now in
    let is = ap stmt_tree x.is ∙ c.statements_by_parts.ensures.ifs x.field-0 x.condition x.body x.elsifs x.others
    ∙ (λ j. tree.If x.field-0 (expr_tree x.condition) (stmt_trees (sym c.deref.ensures.value j)) (elsif_trees (no_elsifs j)) (stmt_trees (no_others j))) in
    stated s c.args.self.now c.guarded.new.self _ (tree.If x.field-0 (expr_tree x.condition) body tree.NoElsifs tree.NoStmts)
    (guarded_code s.visible (expr_tree x.condition) (stmts_code s body)) is refl _ c.guarded.ensures.made

pub statement-returns-in_ok-statements-in-If-clause-made : goal.statement-returns-in_ok-statements-in-If-clause-made
statement-returns-in_ok-statements-in-If-clause-made t c =
    let s = site c.args.visible.now c.args.leaving c.args.taken c.args.exceptions.now in
    let x = c.in-If in
    let holds = stmts_code s (stmt_trees x.body.items) in
    let one = c.in_ok-branch-in-If.ensures.same in
    let two = c.in_ok-elsifs-in-If.ensures.same ∙ one in
    let is = ap stmt_tree x.is ∙ c.statements_by_parts.ensures.ifs c.in-If.field-0 c.in-If.condition c.in-If.body c.in-If.elsifs c.in-If.others in
    let alone : (length x.elsifs.items == 0 && length x.others.items == 0) ≡ false = search rules in
    let first = subst (λ l. OpensParts c.args.self.now c.no_places-waiting.result.items (λ last. fork_code s.visible (expr_tree x.condition) (stmts_code s (stmt_trees l)) last)
    c.branch-self.new.self c.branch-self.new.waiting.items) c.deref-in-If.ensures.value c.in_ok-branch-in-If.ensures.opens in
    let parts = subst (λ v. OpensParts c.branch-self.new.self c.branch-self.new.waiting.items (elsifs_code (site v c.args.leaving c.args.taken c.args.exceptions.now)
    (elsif_trees x.elsifs.items)) c.elsifs.new.self c.elsifs.new.waiting.items) one
    (subst (λ l. OpensParts c.branch-self.new.self c.branch-self.new.waiting.items (elsifs_code (site c.branch-self.new.visible c.args.leaving c.args.taken
    c.args.exceptions.now) (elsif_trees l)) c.elsifs.new.self c.elsifs.new.waiting.items) c.deref-in-If-2.ensures.value c.in_ok-elsifs-in-If.ensures.opens) in
    let others = c.in_ok-statements-in-If.ensures.made
    ∙ (λ j. adds c.elsifs.new.self (stmts_code (site (two j) c.args.leaving c.args.taken c.args.exceptions.now) (stmt_trees (c.deref-in-If-3.ensures.value j)))) in
    forked_made c.args.self.now c.branch-self.new.self c.elsifs.new.self c.statements.new.self c.rejoin.new.self c.no_places-waiting.result.items
    c.branch-self.new.waiting.items c.elsifs.new.waiting.items s.visible (expr_tree x.condition) holds (stmts_code s (stmt_trees x.others.items))
    (elsifs_code s (elsif_trees x.elsifs.items)) c.no_places-waiting.ensures first parts others
    (c.rejoin.ensures.made ∙ ap (λ l. all_led c.statements.new.self l (narrow (end_of c.statements.new.self))) c.deref-in-If-4.ensures.value)
    ∙ ap (adds c.args.self.now)
    (sym (forked s.visible (expr_tree x.condition) x.elsifs.items x.others.items holds
    (elsifs_code s (elsif_trees x.elsifs.items) (stmts_code s (stmt_trees x.others.items))) alone))
    ∙ ap (λ y. adds c.args.self.now (stmt_code s y)) (sym is)

pub statement-returns-in_ok-expression-in-Case-clause-made : goal.statement-returns-in_ok-expression-in-Case-clause-made
statement-returns-in_ok-expression-in-Case-clause-made t c =
    let s = site c.args.visible.now c.args.leaving c.args.taken c.args.exceptions.now in
    let x = c.in-Case in
    let all = alternative_trees c.deref-in-Case.result.now in
    let is = ap stmt_tree x.is ∙ c.statements_by_parts.ensures.cases x.field-0 x.value x.all
    ∙ ap (λ l. tree.Case x.field-0 (expr_tree x.value) (alternative_trees l)) (sym c.deref-in-Case.ensures.value) in
    stated s c.args.self.now c.alternatives.new.self _ (tree.Case x.field-0 (expr_tree x.value) all)
    (coded (expr_code s.visible 0 (expr_tree x.value)) ▹ alternatives_code s all) is refl _
    (then_added c.args.self.now c.expression.new.self c.alternatives.new.self (coded (expr_code s.visible 0 (expr_tree x.value))) (alternatives_code s all)
    c.in_ok-expression-in-Case.ensures.made _ c.alternatives.ensures.made)

pub statement-returns-in-Loop-clause-made : goal.statement-returns-in-Loop-clause-made
statement-returns-in-Loop-clause-made t c =
    let x = c.in-Loop in
    let is = ap stmt_tree x.is ∙ c.statements_by_parts.ensures.loops x.field-0 x.iteration x.body
    ∙ ap (λ l. tree.Loop x.field-0 (iteration_tree x.iteration) (stmt_trees l)) (sym c.deref-in-Loop.ensures.value) in
    looped (site c.args.visible.now c.args.leaving c.args.taken c.args.exceptions.now) c.args.self.now c.repeated.new.self _ x.field-0 (iteration_tree x.iteration)
    (stmt_trees c.deref-in-Loop.result.now) is _ c.repeated.ensures.made

pub statement-returns-then-is_empty-clause-made : goal.statement-returns-then-is_empty-clause-made
statement-returns-then-is_empty-clause-made t c =
    let s = site c.args.visible.now c.args.leaving c.args.taken c.args.exceptions.now in
    let x = c.in-Block in
    let no_handlers : x.handlers.items ≡ [] = none_there x.handlers.items (search rules) in
    let ds = map declaration_tree c.deref-then-is_empty-2.result.now in
    let body = stmt_trees c.deref-then-is_empty.result.now in
    let is = ap stmt_tree x.is ∙ c.statements_by_parts.ensures.blocks x.field-0 x.declarations x.body x.handlers
    ∙ (λ j. tree.Block x.field-0 (map declaration_tree (sym c.deref-then-is_empty-2.ensures.value j)) (stmt_trees (sym c.deref-then-is_empty.ensures.value j))
    (handler_trees (no_handlers j))) in
    stated s c.args.self.now c.block.new.self _ (tree.Block x.field-0 ds body tree.NoHandlers)
    (locals_code s ds ▹ stmts_code (after_locals s ds) body) is refl _ c.block.ensures.made

pub statement-returns-in_ok-handlers-in-Block-clause-made : goal.statement-returns-in_ok-handlers-in-Block-clause-made
statement-returns-in_ok-handlers-in-Block-clause-made t c =
    let s = site c.args.visible.now c.args.leaving c.args.taken c.args.exceptions.now in
    let x = c.in-Block in
    let ds = map declaration_tree c.deref-in-Block.result.now in
    let body = stmt_trees c.deref-in-Block-2.result.now in
    let all = c.deref-in-Block-3.result.now in
    let some : (length all == 0) ≡ false = ap (λ l. length l == 0) c.deref-in-Block-3.ensures.value ∙ search rules in
    let is = ap stmt_tree x.is ∙ c.statements_by_parts.ensures.blocks x.field-0 x.declarations x.body x.handlers
    ∙ (λ j. tree.Block x.field-0 (map declaration_tree (sym c.deref-in-Block.ensures.value j)) (stmt_trees (sym c.deref-in-Block-2.ensures.value j))
    (handler_trees (sym c.deref-in-Block-3.ensures.value j))) in
    let inner = site c.declarations.new.visible c.args.leaving c.in_ok-more-in-Block.more c.args.exceptions.now in
    let made = sequence_made inner c.covered.new.visible c.declarations.new.self c.covered.new.self c.handlers.new.self body (handler_trees all)
    c.in_ok-cover-in-Block.cover c.in_ok-cover-in-Block.jump c.in_ok-cover-in-Block.ensures.made c.in_ok-cover-in-Block.ensures.cover
    c.in_ok-cover-in-Block.ensures.jump c.in_ok-cover-in-Block.ensures.same c.in_ok-handlers-in-Block.ensures.made in
    let form : Site → CodePart = λ k. covered_code (stmts_code k body) (λ q. handlers_code k q [] (handler_trees all)) in
    let whole = locals_code s ds ▹ form (after_locals s ds) in
    let same : stmt_code s (tree.Block x.field-0 ds body (handler_trees all)) ≡ whole =
    ap (λ p. locals_code s ds ▹ p) (handled all (stmts_code (after_locals s ds) body) (λ q. handlers_code (after_locals s ds) q [] (handler_trees all)) some) in
    block_made s.visible c.declarations.new.visible s.taken c.in_ok-more-in-Block.more c.args.self.now c.declarations.new.self c.handlers.new.self s.ways
    s.exceptions ds form c.in_ok-more-in-Block.ensures.declares made
    ∙ ap (adds c.args.self.now) (sym same) ∙ ap (λ y. adds c.args.self.now (stmt_code s y)) (sym is)

pub statement-returns-in_ok-handlers-in-Block-clause-same : goal.statement-returns-in_ok-handlers-in-Block-clause-same
statement-returns-in_ok-handlers-in-Block-clause-same t c =
    let s = site c.args.visible.now c.args.leaving c.args.taken c.args.exceptions.now in
    let ds = map declaration_tree c.deref-in-Block.result.now in
    out_of_sight c.args.visible.now (after_locals s ds).visible c.handlers.new.visible c.restore.new.visible _ _ _ (shows_locals c.names_are_added.ensures s ds)
    (c.in_ok-handlers-in-Block.ensures.same ∙ c.in_ok-cover-in-Block.ensures.same
    ∙ shown_after c.args.visible.now c.declarations.new.visible c.args.taken c.in_ok-more-in-Block.more c.args.self.now c.declarations.new.self s.ways s.exceptions
    ds c.in_ok-more-in-Block.ensures.declares)
    c.of-extent.ensures.names c.of-extent.ensures.slots c.of-extent.ensures.subprograms c.restore.ensures.visible

-- ---- times

pub block-returns-clause-timely : goal.block-returns-clause-timely
block-returns-clause-timely t c =
    subst (λ z. stmts_timely z (stmt_trees c.args.body.now))
    (seen_after c.args.visible.now c.declarations.new.visible c.args.taken c.in_ok-more.more c.args.self.now c.declarations.new.self (ways_of c.args.leaving)
    c.args.exceptions.now (map declaration_tree c.args.declarations.now) c.in_ok-more.ensures.declares) c.in_ok-statements.ensures.timely

pub counted-returns-clause-timely : goal.counted-returns-clause-timely
counted-returns-clause-timely t c =
    subst (λ v. stmts_timely v.scope (stmt_trees c.args.body.now)) c.in_ok-show_parameter.ensures.shown c.in_ok-ranged.ensures.timely

pub statement-returns-then-both-clause-timely : goal.statement-returns-then-both-clause-timely
statement-returns-then-both-clause-timely t c =
    let x = c.in-If in
    let no_elsifs : x.elsifs.items ≡ [] = none_there x.elsifs.items (search rules) in
    let no_others : x.others.items ≡ [] = none_there x.others.items (search rules) in
    let body = stmt_trees c.deref.result.now in
    let is = ap stmt_tree x.is ∙ c.statements_by_parts.ensures.ifs x.field-0 x.condition x.body x.elsifs x.others
    ∙ (λ j. tree.If x.field-0 (expr_tree x.condition) (stmt_trees (sym c.deref.ensures.value j)) (elsif_trees (no_elsifs j)) (stmt_trees (no_others j))) in
    timed c.args.visible.now.scope _ (tree.If x.field-0 (expr_tree x.condition) body tree.NoElsifs tree.NoStmts) (stmts_timely c.args.visible.now.scope body) is
    (λ h. (h, tt, tt)) _ c.guarded.ensures.timely

pub statement-returns-in_ok-statements-in-If-clause-timely : goal.statement-returns-in_ok-statements-in-If-clause-timely
statement-returns-in_ok-statements-in-If-clause-timely t c =
    let s = c.args.visible.now.scope in
    let x = c.in-If in
    let one = c.in_ok-branch-in-If.ensures.same in
    let two = c.in_ok-elsifs-in-If.ensures.same ∙ one in
    let is = ap stmt_tree x.is ∙ c.statements_by_parts.ensures.ifs x.field-0 x.condition x.body x.elsifs x.others in
    let body = subst (λ l. stmts_timely s (stmt_trees l)) c.deref-in-If.ensures.value c.in_ok-branch-in-If.ensures.timely in
    let parts = subst (λ l. elsifs_timely s (elsif_trees l)) c.deref-in-If-2.ensures.value
    (subst (λ v. elsifs_timely v.scope (elsif_trees c.deref-in-If-2.result.now)) one c.in_ok-elsifs-in-If.ensures.timely) in
    let others = subst (λ l. stmts_timely s (stmt_trees l)) c.deref-in-If-3.ensures.value
    (subst (λ v. stmts_timely v.scope (stmt_trees c.deref-in-If-3.result.now)) two c.in_ok-statements-in-If.ensures.timely) in
    subst (stmt_timely s) (sym is) (body, parts, others)

pub statement-returns-in_ok-expression-in-Case-clause-timely : goal.statement-returns-in_ok-expression-in-Case-clause-timely
statement-returns-in_ok-expression-in-Case-clause-timely t c =
    let x = c.in-Case in
    let all = alternative_trees c.deref-in-Case.result.now in
    let is = ap stmt_tree x.is ∙ c.statements_by_parts.ensures.cases x.field-0 x.value x.all
    ∙ ap (λ l. tree.Case x.field-0 (expr_tree x.value) (alternative_trees l)) (sym c.deref-in-Case.ensures.value) in
    timed c.args.visible.now.scope _ (tree.Case x.field-0 (expr_tree x.value) all) (alternatives_timely c.args.visible.now.scope all) is (λ h. h) _
    c.alternatives.ensures.timely

pub statement-returns-in-Loop-clause-timely : goal.statement-returns-in-Loop-clause-timely
statement-returns-in-Loop-clause-timely t c =
    let x = c.in-Loop in
    let body = stmt_trees c.deref-in-Loop.result.now in
    let is = ap stmt_tree x.is ∙ c.statements_by_parts.ensures.loops x.field-0 x.iteration x.body
    ∙ ap (λ l. tree.Loop x.field-0 (iteration_tree x.iteration) (stmt_trees l)) (sym c.deref-in-Loop.ensures.value) in
    timed c.args.visible.now.scope _ (tree.Loop x.field-0 (iteration_tree x.iteration) body)
    (stmts_timely (turn_scope c.args.visible.now.scope (iteration_tree x.iteration)) body) is (λ h. h) _ c.repeated.ensures.timely

pub statement-returns-then-is_empty-clause-timely : goal.statement-returns-then-is_empty-clause-timely
statement-returns-then-is_empty-clause-timely t c =
    let x = c.in-Block in
    let no_handlers : x.handlers.items ≡ [] = none_there x.handlers.items (search rules) in
    let ds = map declaration_tree c.deref-then-is_empty-2.result.now in
    let body = stmt_trees c.deref-then-is_empty.result.now in
    let is = ap stmt_tree x.is ∙ c.statements_by_parts.ensures.blocks x.field-0 x.declarations x.body x.handlers
    ∙ (λ j. tree.Block x.field-0 (map declaration_tree (sym c.deref-then-is_empty-2.ensures.value j)) (stmt_trees (sym c.deref-then-is_empty.ensures.value j))
    (handler_trees (no_handlers j))) in
    timed c.args.visible.now.scope _ (tree.Block x.field-0 ds body tree.NoHandlers) (stmts_timely (locals_seen c.args.visible.now.scope ds) body) is
    (λ h. (h, tt)) _ c.block.ensures.timely

pub statement-returns-in_ok-handlers-in-Block-clause-timely : goal.statement-returns-in_ok-handlers-in-Block-clause-timely
statement-returns-in_ok-handlers-in-Block-clause-timely t c =
    let s = c.args.visible.now.scope in
    let x = c.in-Block in
    let ds = map declaration_tree c.deref-in-Block.result.now in
    let body = stmt_trees c.deref-in-Block-2.result.now in
    let all = handler_trees c.deref-in-Block-3.result.now in
    let is = ap stmt_tree x.is ∙ c.statements_by_parts.ensures.blocks x.field-0 x.declarations x.body x.handlers
    ∙ (λ j. tree.Block x.field-0 (map declaration_tree (sym c.deref-in-Block.ensures.value j)) (stmt_trees (sym c.deref-in-Block-2.ensures.value j))
    (handler_trees (sym c.deref-in-Block-3.ensures.value j))) in
    let seen = seen_after c.args.visible.now c.declarations.new.visible c.args.taken c.in_ok-more-in-Block.more c.args.self.now c.declarations.new.self
    (ways_of c.args.leaving) c.args.exceptions.now ds c.in_ok-more-in-Block.ensures.declares in
    let statements = subst (λ z. stmts_timely z body) seen c.in_ok-cover-in-Block.ensures.timely in
    let handled_ = subst (λ z. handlers_timely z all) seen
    (subst (λ v. handlers_timely v.scope all) c.in_ok-cover-in-Block.ensures.same c.in_ok-handlers-in-Block.ensures.timely) in
    subst (stmt_timely s) (sym is) (statements, handled_)
