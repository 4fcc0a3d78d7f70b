use Rattle.std.proofs.Common.{arith, rules, refl, map}
use Rattle.ada2012_tree.specs.Spans.{only, trees_of}
use Rattle.ada2012_tree.specs.ExpressionSpans.{association_spans, choice_spans, condition_spans, expr_spans, operand_spans, selector_spans}
use Rattle.ada2012_parser.proofs.Readings.{add_one, add_passed, any, any_some, ended_some, first, first_stays, follow_some, goes_on, goes_on_any, goes_on_some, next, next_some, node, node_since, none, one, pass_some, same_tree, since, since_more, some_any, some_ended, stays, then_since, tokens}
use Rattle.ada2012_parser.proofs.parser.Parser.+expression.Goals as goal

pub arguments-returns : goal.arguments-returns
arguments-returns t c =
    node c.here-start.ensures c.since.ensures.start c.since.ensures.end_ c.arguments.ensures (pass_some c.in_ok-mark.ensures (any (some_ended
    c.in_ok-all.ensures (any c.in_ok-mark-2.ensures))))

pub selectors-loop-self-init : goal.selectors-loop-self-init
selectors-loop-self-init t c = none selector_spans c.new-all.ensures.items

pub selectors-loop-self-smaller : goal.selectors-loop-self-smaller
selectors-loop-self-smaller t c = omega (arith, c.in_ok-next.ensures.shrinks)

pub selectors-loop-self-preserved : goal.selectors-loop-self-preserved
selectors-loop-self-preserved t c = next selector_spans _ c.in_ok-push.ensures.items c.loop-self.invariant c.in_ok-next.ensures

pub name-returns : goal.name-returns
name-returns t c = node c.here-start.ensures c.since.ensures.start c.since.ensures.end_ refl (one c.in_ok-prefix.ensures c.in_ok-selectors.ensures)

pub more_choices-loop-self-init : goal.more_choices-loop-self-init
more_choices-loop-self-init t c = first_stays choice_spans c.new-all.ensures.items c.in_ok-push.ensures.items c.requires

pub more_choices-loop-self-smaller : goal.more_choices-loop-self-smaller
more_choices-loop-self-smaller t c = omega (arith, c.in_ok-mark.ensures.shrinks, c.in_ok-next.ensures.shrinks)

pub more_choices-loop-self-preserved : goal.more_choices-loop-self-preserved
more_choices-loop-self-preserved t c =
    next choice_spans _ c.in_ok-push-2.ensures.items c.loop-self.invariant (pass_some c.in_ok-mark.ensures (any c.in_ok-next.ensures))

pub more_associations-loop-self-init : goal.more_associations-loop-self-init
more_associations-loop-self-init t c = first_stays association_spans c.new-all.ensures.items c.in_ok-push.ensures.items c.requires

pub more_associations-loop-self-smaller : goal.more_associations-loop-self-smaller
more_associations-loop-self-smaller t c = omega (arith, c.in_ok-mark.ensures.shrinks, c.in_ok-next.ensures.shrinks)

pub more_associations-loop-self-preserved : goal.more_associations-loop-self-preserved
more_associations-loop-self-preserved t c =
    next association_spans _ c.in_ok-push-2.ensures.items c.loop-self.invariant (pass_some c.in_ok-mark.ensures (any c.in_ok-next.ensures))

pub associated-returns : goal.associated-returns
associated-returns t c = follow_some c.expression.result (λ e. only (expr_spans e)) _ c.in_ok-mark.ensures c.expression.ensures

pub named_association-returns : goal.named_association-returns
named_association-returns t c = node refl c.since.ensures.start c.since.ensures.end_ refl (any_some c.in_ok-choices.ensures c.in_ok-value.ensures)

pub condition-returns : goal.condition-returns
condition-returns t c =
    node c.here-start.ensures c.since.ensures.start c.since.ensures.end_ refl (pass_some c.in_ok-word.ensures (any (one c.in_ok-condition.ensures (any
    (pass_some c.in_ok-word-2.ensures (any c.in_ok-value.ensures))))))

pub conditions-loop-self-init : goal.conditions-loop-self-init
conditions-loop-self-init t c = first condition_spans c.new-all.ensures.items c.in_ok-push.ensures.items c.in_ok-first.ensures

pub conditions-loop-self-smaller : goal.conditions-loop-self-smaller
conditions-loop-self-smaller t c = omega (arith, c.in_ok-next.ensures.shrinks)

pub conditions-loop-self-preserved : goal.conditions-loop-self-preserved
conditions-loop-self-preserved t c = next_some condition_spans _ c.in_ok-push-2.ensures.items c.loop-self.invariant c.in_ok-next.ensures

pub conditional-returns : goal.conditional-returns
conditional-returns t c =
    node refl c.since.ensures.start c.since.ensures.end_ c.in_ok-conditional.ensures (add_passed c.requires (some_any c.in_ok-conditions.ensures (any
    (pass_some c.in_ok-word.ensures (any (some_ended c.in_ok-other.ensures (any c.in_ok-mark.ensures)))))))

pub aggregate-returns : goal.aggregate-returns
aggregate-returns t c = node refl c.since.ensures.start c.since.ensures.end_ c.aggregate.ensures (ended_some c.in_ok-all.ensures c.in_ok-mark.ensures)

pub named_primary-returns : goal.named_primary-returns
named_primary-returns t c = node c.here-start.ensures c.since.ensures.start c.since.ensures.end_ c.of_name.ensures c.in_ok-name.ensures

pub power-returns : goal.power-returns
power-returns t c =
    first operand_spans c.new-all.ensures.items c.in_ok-push.ensures.items (node c.here-start.ensures c.since.ensures.start c.since.ensures.end_ refl
    (pass_some c.in_ok-mark.ensures (any c.in_ok-value.ensures)))

pub modified-returns : goal.modified-returns
modified-returns t c =
    node c.here-start.ensures c.since.ensures.start c.since.ensures.end_ c.in_ok-unary.ensures (pass_some (tokens c.pass.ensures) (any
    c.in_ok-operand.ensures))

pub signed_term-returns : goal.signed_term-returns
signed_term-returns t c =
    node c.here-start.ensures c.since.ensures.start c.since.ensures.end_ c.in_ok-unary.ensures (pass_some (tokens c.pass.ensures) (any
    c.in_ok-operand.ensures))

pub factor-returns : goal.factor-returns
factor-returns t c =
    node c.here-start.ensures c.since.ensures.start c.since.ensures.end_ c.in_ok-chain.ensures (one c.in_ok-first.ensures (any c.in_ok-operands.ensures))

pub term-returns : goal.term-returns
term-returns t c =
    node c.here-start.ensures c.since.ensures.start c.since.ensures.end_ c.in_ok-chain.ensures (one c.in_ok-first.ensures c.in_ok-operands.ensures)

pub simple-returns : goal.simple-returns
simple-returns t c =
    node c.here-start.ensures c.since.ensures.start c.since.ensures.end_ c.in_ok-chain.ensures (one c.in_ok-first.ensures c.in_ok-operands.ensures)

pub expression-returns : goal.expression-returns
expression-returns t c =
    node c.here-start.ensures c.since.ensures.start c.since.ensures.end_ c.in_ok-chain.ensures (one c.in_ok-first.ensures (any c.in_ok-operands.ensures))

pub multiplied-returns : goal.multiplied-returns
multiplied-returns t c =
    node c.here-start.ensures c.since.ensures.start c.since.ensures.end_ refl (pass_some (tokens c.pass.ensures) (any c.in_ok-value.ensures))

pub added-returns : goal.added-returns
added-returns t c = node c.here-start.ensures c.since.ensures.start c.since.ensures.end_ refl (pass_some (tokens c.pass.ensures) (any c.in_ok-value.ensures))

pub factors-loop-operator-init : goal.factors-loop-operator-init
factors-loop-operator-init t c = none operand_spans c.new-all.ensures.items

pub factors-loop-operator-smaller : goal.factors-loop-operator-smaller
factors-loop-operator-smaller t c = omega (arith, c.in_ok-next.ensures.shrinks)

pub factors-loop-operator-preserved : goal.factors-loop-operator-preserved
factors-loop-operator-preserved t c = next operand_spans _ c.in_ok-push.ensures.items c.loop-operator.invariant c.in_ok-next.ensures

pub terms-loop-operator-init : goal.terms-loop-operator-init
terms-loop-operator-init t c = none operand_spans c.new-all.ensures.items

pub terms-loop-operator-smaller : goal.terms-loop-operator-smaller
terms-loop-operator-smaller t c = omega (arith, c.in_ok-next.ensures.shrinks)

pub terms-loop-operator-preserved : goal.terms-loop-operator-preserved
terms-loop-operator-preserved t c = next operand_spans _ c.in_ok-push.ensures.items c.loop-operator.invariant c.in_ok-next.ensures

pub compared-returns : goal.compared-returns
compared-returns t c =
    first operand_spans c.new-all.ensures.items c.in_ok-push.ensures.items (node c.here-start.ensures c.since.ensures.start c.since.ensures.end_ refl
    (pass_some (tokens c.pass.ensures) (any c.in_ok-value.ensures)))

pub members-loop-self-init : goal.members-loop-self-init
members-loop-self-init t c = first choice_spans c.new-all.ensures.items c.in_ok-push.ensures.items c.in_ok-first.ensures

pub members-loop-self-smaller : goal.members-loop-self-smaller
members-loop-self-smaller t c = omega (arith, c.in_ok-mark.ensures.shrinks, c.in_ok-next.ensures.shrinks)

pub members-loop-self-preserved : goal.members-loop-self-preserved
members-loop-self-preserved t c =
    next_some choice_spans _ c.in_ok-push-2.ensures.items c.loop-self.invariant (pass_some c.in_ok-mark.ensures (any c.in_ok-next.ensures))

pub tested-returns : goal.tested-returns
tested-returns t c =
    node refl c.since.ensures.start c.since.ensures.end_ c.in_ok-membership.ensures (add_one c.requires (pass_some c.in_ok-membership_words.ensures (any
    c.in_ok-choices.ensures)))

pub joined_by-returns : goal.joined_by-returns
joined_by-returns t c =
    node c.here-start.ensures c.since.ensures.start c.since.ensures.end_ refl (pass_some c.in_ok-operator.ensures (any c.in_ok-value.ensures))

pub relations-loop-operator-init : goal.relations-loop-operator-init
relations-loop-operator-init t c = first operand_spans c.new-all.ensures.items c.in_ok-push.ensures.items c.in_ok-first.ensures

pub relations-loop-operator-smaller : goal.relations-loop-operator-smaller
relations-loop-operator-smaller t c = omega (arith, c.in_ok-next.ensures.shrinks)

pub relations-loop-operator-preserved : goal.relations-loop-operator-preserved
relations-loop-operator-preserved t c = next_some operand_spans _ c.in_ok-push-2.ensures.items c.loop-operator.invariant c.in_ok-next.ensures

pub choice-returns : goal.choice-returns
choice-returns t c = goes_on c.choice_after.result (λ choice. only (choice_spans choice)) _ c.here-start.ensures c.in_ok-first.ensures c.choice_after.ensures

pub choice-choice_after-requires : goal.choice-choice_after-requires
choice-choice_after-requires t c = (omega (arith, c.decreases), since c.here-start.ensures c.in_ok-first.ensures)

pub association-returns : goal.association-returns
association-returns t c =
    goes_on c.association_after.result (λ association. only (association_spans association)) _ c.here-start.ensures c.in_ok-first.ensures
    c.association_after.ensures

pub association-association_after-requires : goal.association-association_after-requires
association-association_after-requires t c = (omega (arith, c.decreases), since c.here-start.ensures c.in_ok-first.ensures)

pub association-named_association-requires : goal.association-named_association-requires
association-named_association-requires t c = (omega (arith, c.decreases), since c.here-start.ensures c.in_ok-word_span.ensures)

pub association-returns-then-at_word : goal.association-returns-then-at_word
association-returns-then-at_word t c =
    goes_on_some c.named_association.result (λ association. only (association_spans association)) _ c.here-start.ensures c.in_ok-word_span.ensures
    c.named_association.ensures

pub association_list-returns : goal.association_list-returns
association_list-returns t c =
    goes_on c.more_associations.result (λ all. trees_of (map association_spans all.items)) _ c.here-start.ensures c.in_ok-first.ensures
    c.more_associations.ensures

pub association_list-more_associations-requires : goal.association_list-more_associations-requires
association_list-more_associations-requires t c = (omega (arith, c.decreases), since c.here-start.ensures c.in_ok-first.ensures)

pub member-returns : goal.member-returns
member-returns t c = goes_on c.choice_after.result (λ choice. only (choice_spans choice)) _ c.here-start.ensures c.in_ok-first.ensures c.choice_after.ensures

pub member-choice_after-requires : goal.member-choice_after-requires
member-choice_after-requires t c = (omega (arith, c.decreases), since c.here-start.ensures c.in_ok-first.ensures)

pub relation-returns : goal.relation-returns
relation-returns t c = goes_on c.related.result (λ e. only (expr_spans e)) _ c.here-start.ensures c.in_ok-first.ensures c.related.ensures

pub relation-related-requires : goal.relation-related-requires
relation-related-requires t c = (omega (arith, c.decreases), since c.here-start.ensures c.in_ok-first.ensures)

pub choice_after-returns-then-not-at_mark : goal.choice_after-returns-then-not-at_mark
choice_after-returns-then-not-at_mark t c = same_tree c.value.ensures (stays c.requires)

pub choice_after-returns : goal.choice_after-returns
choice_after-returns t c =
    any (node refl c.since.ensures.start c.since.ensures.end_ c.range.ensures (add_one c.requires (pass_some c.in_ok-mark.ensures (any
    c.in_ok-last.ensures))))

pub association_after-named_association-requires : goal.association_after-named_association-requires
association_after-named_association-requires t c = (omega (arith, c.decreases), since_more c.requires c.in_ok-choice.ensures)

pub association_after-returns-then-at_choice_end : goal.association_after-returns-then-at_choice_end
association_after-returns-then-at_choice_end t c =
    goes_on_any c.named_association.result (λ association. only (association_spans association)) _ c.in_ok-choice.ensures c.named_association.ensures

pub association_after-returns : goal.association_after-returns
association_after-returns t c = stays (node_since c.since.ensures.start c.since.ensures.end_ (search rules) c.requires)

pub qualification-returns-then-at_mark : goal.qualification-returns-then-at_mark
qualification-returns-then-at_mark t c =
    node c.here-start.ensures c.since.ensures.start c.since.ensures.end_ c.in_ok-qualified.ensures (pass_some c.in_ok-mark.ensures (any
    c.in_ok-operand.ensures))

pub qualification-returns : goal.qualification-returns
qualification-returns t c =
    node c.here-start.ensures c.since-2.ensures.start c.since-2.ensures.end_ refl (pass_some c.in_ok-mark.ensures (any c.in_ok-name.ensures))

pub parenthesis-conditional-requires : goal.parenthesis-conditional-requires
parenthesis-conditional-requires t c = (omega (arith, c.decreases, c.in_ok-inside.ensures), since c.here-start.ensures c.in_ok-mark.ensures)

pub parenthesis-enclosed-requires : goal.parenthesis-enclosed-requires
parenthesis-enclosed-requires t c = (omega (arith, c.decreases, c.in_ok-inside.ensures), since c.here-start.ensures c.in_ok-mark.ensures)

pub enclosed-aggregate-requires : goal.enclosed-aggregate-requires
enclosed-aggregate-requires t c = (omega (arith, c.decreases), since refl (add_passed c.requires c.in_ok-first.ensures))

pub enclosed-returns-then-at_word : goal.enclosed-returns-then-at_word
enclosed-returns-then-at_word t c =
    goes_on_some c.aggregate.result (λ e. only (expr_spans e)) _ refl (add_passed c.requires c.in_ok-first.ensures) c.aggregate.ensures

pub enclosed-returns-then-at_mark : goal.enclosed-returns-then-at_mark
enclosed-returns-then-at_mark t c =
    node refl c.since.ensures.start c.since.ensures.end_ c.in_ok-parenthesized.ensures (add_passed c.requires (some_ended c.in_ok-first-2.ensures (any
    c.in_ok-mark.ensures)))

pub enclosed-association_after-requires : goal.enclosed-association_after-requires
enclosed-association_after-requires t c = (omega (arith, c.decreases), since c.here-inner.ensures c.in_ok-first-2.ensures)

pub enclosed-aggregate-requires-2 : goal.enclosed-aggregate-requires-2
enclosed-aggregate-requires-2 t c =
    (omega (arith, c.decreases), since refl (add_passed c.requires (then_since c.here-inner.ensures c.in_ok-first-2.ensures c.in_ok-first-3.ensures)))

pub enclosed-returns : goal.enclosed-returns
enclosed-returns t c =
    goes_on_some c.aggregate-2.result (λ e. only (expr_spans e)) _ refl (add_passed c.requires (then_since c.here-inner.ensures c.in_ok-first-2.ensures
    c.in_ok-first-3.ensures)) c.aggregate-2.ensures

pub related-returns-in-Some : goal.related-returns-in-Some
related-returns-in-Some t c = any (node refl c.since.ensures.start c.since.ensures.end_ c.in_ok-chain.ensures (add_one c.requires c.in_ok-operands.ensures))

pub joined_alike-returns : goal.joined_alike-returns
joined_alike-returns t c =
    node c.here-start.ensures c.since.ensures.start c.since.ensures.end_ refl (pass_some c.in_ok-operator.ensures (any c.in_ok-value.ensures))
