use Rattle.std.proofs.Common.{arith, refl, map}
use Rattle.ada2012_tree.specs.Spans.{only, trees_of}
use Rattle.ada2012_tree.specs.StatementSpans.{alternative_spans, branch_spans, declaration_spans, handler_spans, statement_spans}
use Rattle.ada2012_parser.proofs.Readings.{add_passed, add_some, add_some_ended, any, any_some, ended_some, first, follow_some_any, goes_on_some, head_only, next, next_some, node, none, one, pass_any_some, pass_some, since, some_any, some_ended}
use Rattle.ada2012_parser.proofs.parser.Parser.+statement.Goals as goal

pub sequence-loop-self-init : goal.sequence-loop-self-init
sequence-loop-self-init t c = first statement_spans c.new-all.ensures.items c.in_ok-push.ensures.items c.in_ok-first.ensures

pub sequence-loop-self-smaller : goal.sequence-loop-self-smaller
sequence-loop-self-smaller t c = omega (arith, c.in_ok-next.ensures.shrinks)

pub sequence-loop-self-preserved : goal.sequence-loop-self-preserved
sequence-loop-self-preserved t c = next_some statement_spans _ c.in_ok-push-2.ensures.items c.loop-self.invariant c.in_ok-next.ensures

pub branch-returns : goal.branch-returns
branch-returns t c =
    node c.here-start.ensures c.since.ensures.start c.since.ensures.end_ refl (pass_some c.in_ok-word.ensures (any (one c.in_ok-condition.ensures (any
    (pass_some c.in_ok-word-2.ensures (any c.in_ok-statements.ensures))))))

pub branches-loop-self-init : goal.branches-loop-self-init
branches-loop-self-init t c = first branch_spans c.new-all.ensures.items c.in_ok-push.ensures.items c.in_ok-first.ensures

pub branches-loop-self-smaller : goal.branches-loop-self-smaller
branches-loop-self-smaller t c = omega (arith, c.in_ok-next.ensures.shrinks)

pub branches-loop-self-preserved : goal.branches-loop-self-preserved
branches-loop-self-preserved t c = next_some branch_spans _ c.in_ok-push-2.ensures.items c.loop-self.invariant c.in_ok-next.ensures

pub if_statement-returns : goal.if_statement-returns
if_statement-returns t c =
    node c.here-start.ensures c.since.ensures.start c.since.ensures.end_ c.conditional.ensures (some_any c.in_ok-branches.ensures (any (ended_some
    c.in_ok-other.ensures c.in_ok-end_of.ensures)))

pub alternative-returns : goal.alternative-returns
alternative-returns t c =
    node c.here-start.ensures c.since.ensures.start c.since.ensures.end_ refl (pass_some c.in_ok-word.ensures (any (some_any c.in_ok-choices.ensures (any
    (pass_some c.in_ok-mark.ensures (any c.in_ok-statements.ensures))))))

pub alternatives-loop-self-init : goal.alternatives-loop-self-init
alternatives-loop-self-init t c = first alternative_spans c.new-all.ensures.items c.in_ok-push.ensures.items c.in_ok-first.ensures

pub alternatives-loop-self-smaller : goal.alternatives-loop-self-smaller
alternatives-loop-self-smaller t c = omega (arith, c.in_ok-next.ensures.shrinks)

pub alternatives-loop-self-preserved : goal.alternatives-loop-self-preserved
alternatives-loop-self-preserved t c = next_some alternative_spans _ c.in_ok-push-2.ensures.items c.loop-self.invariant c.in_ok-next.ensures

pub case-returns : goal.case-returns
case-returns t c =
    node c.here-start.ensures c.since.ensures.start c.since.ensures.end_ c.case.ensures (pass_some c.in_ok-word.ensures (any (one c.in_ok-value.ensures (any
    (pass_some c.in_ok-word-2.ensures (any (some_ended c.in_ok-alternatives.ensures (any c.in_ok-end_of.ensures))))))))

pub loop_after-returns : goal.loop_after-returns
loop_after-returns t c =
    node refl c.since.ensures.start c.since.ensures.end_ c.iterated.ensures (add_some c.requires (any_some c.in_ok-iteration.ensures (pass_some
    c.in_ok-word.ensures (any (some_ended c.in_ok-statements.ensures (any (pass_some c.in_ok-word-2.ensures (any (pass_some c.in_ok-word-3.ensures (any
    (pass_any_some c.in_ok-end_name.ensures c.in_ok-mark.ensures)))))))))))

pub block_after-returns : goal.block_after-returns
block_after-returns t c =
    node refl c.since.ensures.start c.since.ensures.end_ c.block.ensures (add_some c.requires (pass_any_some c.in_ok-passes.ensures (some_ended
    c.in_ok-body.ensures (any (pass_any_some c.in_ok-end_name.ensures c.in_ok-mark.ensures)))))

pub handler-returns : goal.handler-returns
handler-returns t c =
    node c.here-start.ensures c.since.ensures.start c.since.ensures.end_ refl (pass_some c.in_ok-word.ensures (any (any_some c.in_ok-occurrence.ensures
    (some_any c.in_ok-choices.ensures (any (pass_some c.in_ok-mark.ensures (any c.in_ok-statements.ensures)))))))

pub handler_list-loop-self-init : goal.handler_list-loop-self-init
handler_list-loop-self-init t c = first handler_spans c.new-all.ensures.items c.in_ok-push.ensures.items c.in_ok-first.ensures

pub handler_list-loop-self-smaller : goal.handler_list-loop-self-smaller
handler_list-loop-self-smaller t c = omega (arith, c.in_ok-next.ensures.shrinks)

pub handler_list-loop-self-preserved : goal.handler_list-loop-self-preserved
handler_list-loop-self-preserved t c = next_some handler_spans _ c.in_ok-push-2.ensures.items c.loop-self.invariant c.in_ok-next.ensures

pub else_part-returns : goal.else_part-returns
else_part-returns t c = follow_some_any c.sequence.result (λ all. trees_of (map statement_spans all.items)) _ c.in_ok-word.ensures c.sequence.ensures

pub else_part-returns-then-not-at_word : goal.else_part-returns-then-not-at_word
else_part-returns-then-not-at_word t c = none statement_spans c.new.ensures.items

pub begun-returns : goal.begun-returns
begun-returns t c = follow_some_any c.sequence.result (λ all. trees_of (map statement_spans all.items)) _ c.in_ok-word.ensures c.sequence.ensures

pub handlers-returns : goal.handlers-returns
handlers-returns t c = follow_some_any c.handler_list.result (λ all. trees_of (map handler_spans all.items)) _ c.in_ok-word.ensures c.handler_list.ensures

pub handlers-returns-then-not-at_word : goal.handlers-returns-then-not-at_word
handlers-returns-then-not-at_word t c = none handler_spans c.new.ensures.items

pub body-returns : goal.body-returns
body-returns t c =
    node c.here-start.ensures c.since.ensures.start c.since.ensures.end_ c.new.ensures (any_some c.in_ok-declarations.ensures (any_some
    c.in_ok-statements.ensures (ended_some c.in_ok-handlers.ensures c.in_ok-word.ensures)))

pub subprogram_body-returns : goal.subprogram_body-returns
subprogram_body-returns t c =
    node refl c.since.ensures.start c.since.ensures.end_ c.subprogram_body.ensures (add_some c.requires (some_ended c.in_ok-body.ensures (any (pass_any_some
    c.in_ok-end_name.ensures c.in_ok-mark.ensures))))

pub task_body-returns : goal.task_body-returns
task_body-returns t c =
    node refl c.since.ensures.start c.since.ensures.end_ c.task_body.ensures (add_passed c.requires (pass_some c.in_ok-word.ensures (any (one
    c.in_ok-name.ensures (any (pass_some c.in_ok-word-2.ensures (any (some_ended c.in_ok-body.ensures (any (pass_any_some c.in_ok-end_name.ensures
    c.in_ok-mark.ensures))))))))))

pub entry_body-returns : goal.entry_body-returns
entry_body-returns t c =
    node c.here-start.ensures c.since.ensures.start c.since.ensures.end_ c.entry_body.ensures (pass_some c.in_ok-word.ensures (any (one c.in_ok-name.ensures
    (any (any_some c.in_ok-formals.ensures (pass_some c.in_ok-word-2.ensures (any (one c.in_ok-barrier.ensures (any (pass_some c.in_ok-word-3.ensures (any
    (some_ended c.in_ok-body.ensures (any (pass_any_some c.in_ok-end_name.ensures c.in_ok-mark.ensures))))))))))))))

pub protected_body-returns : goal.protected_body-returns
protected_body-returns t c =
    node refl c.since.ensures.start c.since.ensures.end_ c.protected_body.ensures (add_passed c.requires (pass_some c.in_ok-word.ensures (any (one
    c.in_ok-name.ensures (any (pass_some c.in_ok-word-2.ensures (any (ended_some c.in_ok-items.ensures (pass_some c.in_ok-word-3.ensures (any (pass_any_some
    c.in_ok-end_name.ensures c.in_ok-mark.ensures)))))))))))

pub protected_body_items-loop-self-init : goal.protected_body_items-loop-self-init
protected_body_items-loop-self-init t c = none declaration_spans c.new-all.ensures.items

pub protected_body_items-loop-self-smaller : goal.protected_body_items-loop-self-smaller
protected_body_items-loop-self-smaller t c = omega (arith, c.in_ok-next.ensures.shrinks)

pub protected_body_items-loop-self-preserved : goal.protected_body_items-loop-self-preserved
protected_body_items-loop-self-preserved t c = next declaration_spans _ c.in_ok-push.ensures.items c.loop-self.invariant c.in_ok-next.ensures

pub declarations-loop-self-init : goal.declarations-loop-self-init
declarations-loop-self-init t c = none declaration_spans c.new-all.ensures.items

pub declarations-loop-self-smaller : goal.declarations-loop-self-smaller
declarations-loop-self-smaller t c = omega (arith, c.in_ok-next.ensures.shrinks)

pub declarations-loop-self-preserved : goal.declarations-loop-self-preserved
declarations-loop-self-preserved t c = next declaration_spans _ c.in_ok-push.ensures.items c.loop-self.invariant c.in_ok-next.ensures

pub task-task_body-requires : goal.task-task_body-requires
task-task_body-requires t c = (omega (arith, c.decreases), since c.here-start.ensures c.in_ok-word.ensures)

pub task-returns-then-at_word : goal.task-returns-then-at_word
task-returns-then-at_word t c =
    goes_on_some c.task_body.result (λ d. only (declaration_spans d)) _ c.here-start.ensures c.in_ok-word.ensures c.task_body.ensures

pub task-task_declaration-requires : goal.task-task_declaration-requires
task-task_declaration-requires t c = since c.here-start.ensures c.in_ok-word.ensures

pub task-returns : goal.task-returns
task-returns t c =
    goes_on_some c.task_declaration.result (λ d. only (declaration_spans d)) _ c.here-start.ensures c.in_ok-word.ensures c.task_declaration.ensures

pub protected-protected_body-requires : goal.protected-protected_body-requires
protected-protected_body-requires t c = (omega (arith, c.decreases), since c.here-start.ensures c.in_ok-word.ensures)

pub protected-returns-then-at_word : goal.protected-returns-then-at_word
protected-returns-then-at_word t c =
    goes_on_some c.protected_body.result (λ d. only (declaration_spans d)) _ c.here-start.ensures c.in_ok-word.ensures c.protected_body.ensures

pub protected-protected_declaration-requires : goal.protected-protected_declaration-requires
protected-protected_declaration-requires t c = since c.here-start.ensures c.in_ok-word.ensures

pub protected-returns : goal.protected-returns
protected-returns t c =
    goes_on_some c.protected_declaration.result (λ d. only (declaration_spans d)) _ c.here-start.ensures c.in_ok-word.ensures c.protected_declaration.ensures

pub labelled-compound_after-requires : goal.labelled-compound_after-requires
labelled-compound_after-requires t c = (omega (arith, c.decreases), since c.here-start.ensures (some_ended c.in_ok-name.ensures (any c.in_ok-mark.ensures)))

pub labelled-returns : goal.labelled-returns
labelled-returns t c =
    goes_on_some c.compound_after.result (λ s. only (statement_spans s)) _ c.here-start.ensures (some_ended c.in_ok-name.ensures (any c.in_ok-mark.ensures))
    c.compound_after.ensures

pub subprogram-completed-requires : goal.subprogram-completed-requires
subprogram-completed-requires t c = (omega (arith, c.decreases), since c.here-start.ensures (one c.in_ok-specification.ensures c.in_ok-aspects.ensures))

pub subprogram-returns-then-not-at_mark : goal.subprogram-returns-then-not-at_mark
subprogram-returns-then-not-at_mark t c =
    goes_on_some c.completed.result (λ d. only (declaration_spans d)) _ c.here-start.ensures (one c.in_ok-specification.ensures c.in_ok-aspects.ensures)
    c.completed.ensures

pub subprogram-returns : goal.subprogram-returns
subprogram-returns t c =
    node c.here-start.ensures c.since.ensures.start c.since.ensures.end_ refl (one c.in_ok-specification.ensures (any (ended_some c.in_ok-aspects.ensures
    c.in_ok-mark.ensures)))

pub completed-null_procedure-requires : goal.completed-null_procedure-requires
completed-null_procedure-requires t c = head_only (since refl (add_some_ended c.requires c.in_ok-word.ensures))

pub completed-expression_function-requires : goal.completed-expression_function-requires
completed-expression_function-requires t c = head_only (since refl (add_some_ended c.requires c.in_ok-word.ensures))

pub completed-subprogram_body-requires : goal.completed-subprogram_body-requires
completed-subprogram_body-requires t c = (omega (arith, c.decreases), since refl (add_some_ended c.requires c.in_ok-word.ensures))
