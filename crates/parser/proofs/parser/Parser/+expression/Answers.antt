use Rattle.std.proofs.Common.{arith, length, map, Some, sym, refl, ap, subst, ◌∙◌}
use Rattle.lexer.specs.declared.delimiter.Delimiter.TheVariants as marks
use Rattle.lexer.specs.declared.word.Word.TheVariants as words
use Rattle.lexer.specs.declared.token.TokenKind.TheVariants as kinds
use Rattle.ada_tree.specs.ExpressionTree.{expr_tree, selector_tree, argument_tree, elsif_value_tree}
use Rattle.ada_tree.specs.ExpressionGrammar.{Factor, Term, derives}
use Rattle.parser.specs.Reading.{Gives, many, first, is_mark, is_word, seq, mapped, skip_mark}
use Rattle.parser.specs.ExpressionReading as reading
use Rattle.parser.specs.ExpressionReading.{term_in, simple_in}
use Rattle.parser.proofs.general.Several.{Ends}
use Rattle.parser.proofs.expressions.Expressions.{continues_term}
use Rattle.parser.proofs.expressions.Operations.{exact_factor, exact_term}
use Rattle.parser.proofs.expressions.Levelled.{below}
use Rattle.parser.proofs.general.Loops.{pushed, goes, ends, gives_up, handed_on, many_starts, list_starts, map_none, map_one, map_pushed, next_read}
use Rattle.parser.proofs.general.Loops.{both_read, first_fails, second_fails, no_longer, chain_read, made_is}
use Rattle.parser.proofs.expressions.ExpressionLoops.{argument_smaller, selector_smaller, elsif_smaller, operator_read, operator_fails, operator_begins}
use Rattle.parser.proofs.expressions.ExpressionLoops.{no_operator, operator_smaller, logical_smaller}
use Rattle.parser.proofs.parser.Parser.+expression.Goals as goal

pub argument_list-loop-self-init : goal.argument_list-loop-self-init
argument_list-loop-self-init t c =
    let a = reading.argument_in (reading.values_at c.args.levels) in
    list_starts (is_mark marks.Comma) (mapped (λ x. x.1) (seq (skip_mark marks.Comma) a)) a c.args.self.now.rest.now (argument_tree c.in_ok-one.one) _ _
    c.in_ok-one.ensures
    (map_one argument_tree _ _ c.in_ok-one.one c.new-all.ensures.items c.in_ok-push.ensures.items)

pub argument_list-loop-self-smaller : goal.argument_list-loop-self-smaller
argument_list-loop-self-smaller t c = argument_smaller c.args.levels c.loop-self.self.rest.now _ _ _ _ c.in_ok-mark.ensures c.in_ok-next.ensures

pub argument_list-loop-self-preserved : goal.argument_list-loop-self-preserved
argument_list-loop-self-preserved t c =
    let a = reading.argument_in (reading.values_at c.args.levels) in
    goes pushed (is_mark marks.Comma) refl (mapped (λ x. x.1) (seq (skip_mark marks.Comma) a)) c.loop-self.invariant.0 c.loop-self.self.rest.now
    (map argument_tree c.loop-self.all.items) (argument_tree c.in_ok-next.next) _
    (reading.arguments_list (reading.values_at c.args.levels) c.args.self.now.rest.now) _
    (map_pushed argument_tree _ _ c.in_ok-next.next c.in_ok-push-2.ensures.items)
    (sym c.at_mark.ensures ∙ c.loop-self-test.true)
    (next_read (kinds.Delimiter marks.Comma) a c.loop-self.self.rest.now _ _ _ (argument_tree c.in_ok-next.next) c.in_ok-mark.ensures c.in_ok-next.ensures)
    (argument_smaller c.args.levels c.loop-self.self.rest.now _ _ _ _ c.in_ok-mark.ensures c.in_ok-next.ensures) c.loop-self.invariant.1 c.loop-self.invariant.2

pub argument_list-returns : goal.argument_list-returns
argument_list-returns t c =
    let a = reading.argument_in (reading.values_at c.args.levels) in
    ends pushed (is_mark marks.Comma) refl (mapped (λ x. x.1) (seq (skip_mark marks.Comma) a)) c.loop-self.invariant.0 c.loop-self.self.rest.now
    (map argument_tree c.loop-self.all.items)
    (reading.arguments_list (reading.values_at c.args.levels) c.args.self.now.rest.now) (sym c.at_mark.ensures ∙ c.loop-self-test.false) c.loop-self.invariant.2

pub selectors-loop-self-init : goal.selectors-loop-self-init
selectors-loop-self-init t c =
    many_starts reading.begins_selector (reading.selector_in (reading.values c.args.levels)) c.args.self.now.rest.now _
    (map_none selector_tree _ c.new-all.ensures.items)

pub selectors-loop-self-smaller : goal.selectors-loop-self-smaller
selectors-loop-self-smaller t c = selector_smaller c.args.levels c.loop-self.self.rest.now _ _ c.in_ok-next.ensures

pub selectors-loop-self-preserved : goal.selectors-loop-self-preserved
selectors-loop-self-preserved t c =
    goes pushed reading.begins_selector refl (reading.selector_in (reading.values c.args.levels)) c.loop-self.invariant.0 c.loop-self.self.rest.now
    (map selector_tree c.loop-self.all.items) (selector_tree c.in_ok-next.next) _
    (reading.selectors_in (reading.values c.args.levels) c.args.self.now.rest.now) _ (map_pushed selector_tree _ _ c.in_ok-next.next c.in_ok-push.ensures.items)
    (sym c.at_selector.ensures ∙ c.loop-self-test.true) c.in_ok-next.ensures
    (selector_smaller c.args.levels c.loop-self.self.rest.now _ _ c.in_ok-next.ensures) c.loop-self.invariant.1 c.loop-self.invariant.2

pub selectors-returns : goal.selectors-returns
selectors-returns t c =
    ends pushed reading.begins_selector refl (reading.selector_in (reading.values c.args.levels)) c.loop-self.invariant.0 c.loop-self.self.rest.now
    (map selector_tree c.loop-self.all.items)
    (reading.selectors_in (reading.values c.args.levels) c.args.self.now.rest.now) (sym c.at_selector.ensures ∙ c.loop-self-test.false) c.loop-self.invariant.2

pub selectors-returns-in_err-next : goal.selectors-returns-in_err-next
selectors-returns-in_err-next t c =
    handed_on (λ all. map selector_tree all.items) _ _ (reading.selectors_in (reading.values c.args.levels) c.args.self.now.rest.now) _
    c.from_residual.ensures.1
    (gives_up pushed reading.begins_selector refl (reading.selector_in (reading.values c.args.levels)) c.loop-self.invariant.0 c.loop-self.self.rest.now
    (map selector_tree c.loop-self.all.items) _
    (reading.selectors_in (reading.values c.args.levels) c.args.self.now.rest.now) (sym c.at_selector.ensures ∙ c.loop-self-test.true) c.in_err-next.ensures
    c.loop-self.invariant.1 c.loop-self.invariant.2)

pub elsif_values-loop-self-init : goal.elsif_values-loop-self-init
elsif_values-loop-self-init t c =
    many_starts (is_word words.Elsif) (reading.elsif_value_in (reading.values_at c.args.levels)) c.args.self.now.rest.now _
    (map_none elsif_value_tree _ c.new-all.ensures.items)

pub elsif_values-loop-self-smaller : goal.elsif_values-loop-self-smaller
elsif_values-loop-self-smaller t c = elsif_smaller c.args.levels c.loop-self.self.rest.now _ _ c.in_ok-next.ensures

pub elsif_values-loop-self-preserved : goal.elsif_values-loop-self-preserved
elsif_values-loop-self-preserved t c =
    goes pushed (is_word words.Elsif) refl (reading.elsif_value_in (reading.values_at c.args.levels)) c.loop-self.invariant.0 c.loop-self.self.rest.now
    (map elsif_value_tree c.loop-self.all.items) (elsif_value_tree c.in_ok-next.next) _
    (reading.elsif_values_in (reading.values_at c.args.levels) c.args.self.now.rest.now) _
    (map_pushed elsif_value_tree _ _ c.in_ok-next.next c.in_ok-push.ensures.items)
    (sym c.at_word.ensures ∙ c.loop-self-test.true) c.in_ok-next.ensures
    (elsif_smaller c.args.levels c.loop-self.self.rest.now _ _ c.in_ok-next.ensures) c.loop-self.invariant.1 c.loop-self.invariant.2

pub elsif_values-returns : goal.elsif_values-returns
elsif_values-returns t c =
    ends pushed (is_word words.Elsif) refl (reading.elsif_value_in (reading.values_at c.args.levels)) c.loop-self.invariant.0 c.loop-self.self.rest.now
    (map elsif_value_tree c.loop-self.all.items)
    (reading.elsif_values_in (reading.values_at c.args.levels) c.args.self.now.rest.now) (sym c.at_word.ensures ∙ c.loop-self-test.false)
    c.loop-self.invariant.2

pub elsif_values-returns-in_err-next : goal.elsif_values-returns-in_err-next
elsif_values-returns-in_err-next t c =
    handed_on (λ all. map elsif_value_tree all.items) _ _ (reading.elsif_values_in (reading.values_at c.args.levels) c.args.self.now.rest.now) _
    c.from_residual.ensures.1
    (gives_up pushed (is_word words.Elsif) refl (reading.elsif_value_in (reading.values_at c.args.levels)) c.loop-self.invariant.0 c.loop-self.self.rest.now
    (map elsif_value_tree c.loop-self.all.items) _
    (reading.elsif_values_in (reading.values_at c.args.levels) c.args.self.now.rest.now) (sym c.at_word.ensures ∙ c.loop-self-test.true) c.in_err-next.ensures
    c.loop-self.invariant.1 c.loop-self.invariant.2)

-- ---- chains

pub product-loop-operator-init : goal.product-loop-operator-init
product-loop-operator-init t c = (length c.args.self.now.rest.now, omega arith, refl)

pub product-loop-operator-smaller : goal.product-loop-operator-smaller
product-loop-operator-smaller t c =
    let k = c.args.levels in
    operator_smaller reading.multiplying c.loop-operator.self.rest.now c.in-Some.operator c.pass.new.self.rest.now _ c.in-Some.ensures c.pass.ensures
    (no_longer (reading.factor_in (reading.values k)) (derives Factor (Some k)) (λ _. Ends reading.starts_selector) c.pass.new.self.rest.now _ _
    (exact_factor k (reading.values k) (below k)) c.in_ok-right.ensures)

pub product-loop-operator-preserved : goal.product-loop-operator-preserved
product-loop-operator-preserved t c =
    let k = c.args.levels in
    let a = reading.factor_in (reading.values k) in
    let total = reading.chained reading.multiplying a (expr_tree c.args.first) c.args.self.now.rest.now in
    goes reading.joined (reading.begins reading.multiplying) refl (seq (reading.operator_of reading.multiplying) a) c.loop-operator.invariant.0
    c.loop-operator.self.rest.now (expr_tree c.loop-operator.left) (c.in-Some.operator, expr_tree c.in_ok-right.right) _ total _
    (made_is _ _ _ _ c.in_ok-left.ensures)
    (operator_begins reading.multiplying c.loop-operator.self.rest.now c.in-Some.operator c.in-Some.ensures)
    (operator_read reading.multiplying a c.loop-operator.self.rest.now c.in-Some.operator c.pass.new.self.rest.now _ _ c.in-Some.ensures c.pass.ensures
    c.in_ok-right.ensures)
    (operator_smaller reading.multiplying c.loop-operator.self.rest.now c.in-Some.operator c.pass.new.self.rest.now _ c.in-Some.ensures c.pass.ensures
    (no_longer a (derives Factor (Some k)) (λ _. Ends reading.starts_selector) c.pass.new.self.rest.now _ _ (exact_factor k (reading.values k) (below k))
    c.in_ok-right.ensures))
    c.loop-operator.invariant.1 c.loop-operator.invariant.2

pub product-returns : goal.product-returns
product-returns t c =
    let k = c.args.levels in
    let a = reading.factor_in (reading.values k) in
    let total = reading.chained reading.multiplying a (expr_tree c.args.first) c.args.self.now.rest.now in
    ends reading.joined (reading.begins reading.multiplying) refl (seq (reading.operator_of reading.multiplying) a) c.loop-operator.invariant.0
    c.loop-operator.self.rest.now (expr_tree c.loop-operator.left) total
    (no_operator reading.multiplying c.loop-operator.self.rest.now (sym c.in_default.is ∙ c.multiplying.ensures)) c.loop-operator.invariant.2

pub product-returns-in_err-right : goal.product-returns-in_err-right
product-returns-in_err-right t c =
    let k = c.args.levels in
    let a = reading.factor_in (reading.values k) in
    let total = reading.chained reading.multiplying a (expr_tree c.args.first) c.args.self.now.rest.now in
    handed_on expr_tree _ _ total _ c.from_residual.ensures.1
    (gives_up reading.joined (reading.begins reading.multiplying) refl (seq (reading.operator_of reading.multiplying) a) c.loop-operator.invariant.0
    c.loop-operator.self.rest.now (expr_tree c.loop-operator.left) _ total
    (operator_begins reading.multiplying c.loop-operator.self.rest.now c.in-Some.operator c.in-Some.ensures)
    (operator_fails reading.multiplying a c.loop-operator.self.rest.now c.in-Some.operator c.pass.new.self.rest.now _ c.in-Some.ensures c.pass.ensures
    c.in_err-right.ensures)
    c.loop-operator.invariant.1 c.loop-operator.invariant.2)

pub sum-loop-operator-init : goal.sum-loop-operator-init
sum-loop-operator-init t c = (length c.args.self.now.rest.now, omega arith, refl)

pub sum-loop-operator-smaller : goal.sum-loop-operator-smaller
sum-loop-operator-smaller t c =
    let k = c.args.levels in
    operator_smaller reading.adding c.loop-operator.self.rest.now c.in-Some.operator c.pass.new.self.rest.now _ c.in-Some.ensures c.pass.ensures
    (no_longer (reading.term_in (reading.values k)) (derives Term (Some k)) (λ _. Ends continues_term) c.pass.new.self.rest.now _ _
    (exact_term k (reading.values k) (below k)) c.in_ok-right.ensures)

pub sum-loop-operator-preserved : goal.sum-loop-operator-preserved
sum-loop-operator-preserved t c =
    let k = c.args.levels in
    let a = reading.term_in (reading.values k) in
    let total = reading.chained reading.adding a (expr_tree c.args.first) c.args.self.now.rest.now in
    goes reading.joined (reading.begins reading.adding) refl (seq (reading.operator_of reading.adding) a) c.loop-operator.invariant.0
    c.loop-operator.self.rest.now (expr_tree c.loop-operator.left) (c.in-Some.operator, expr_tree c.in_ok-right.right) _ total _
    (made_is _ _ _ _ c.in_ok-left.ensures)
    (operator_begins reading.adding c.loop-operator.self.rest.now c.in-Some.operator c.in-Some.ensures)
    (operator_read reading.adding a c.loop-operator.self.rest.now c.in-Some.operator c.pass.new.self.rest.now _ _ c.in-Some.ensures c.pass.ensures
    c.in_ok-right.ensures)
    (operator_smaller reading.adding c.loop-operator.self.rest.now c.in-Some.operator c.pass.new.self.rest.now _ c.in-Some.ensures c.pass.ensures
    (no_longer a (derives Term (Some k)) (λ _. Ends continues_term) c.pass.new.self.rest.now _ _ (exact_term k (reading.values k) (below k))
    c.in_ok-right.ensures))
    c.loop-operator.invariant.1 c.loop-operator.invariant.2

pub sum-returns : goal.sum-returns
sum-returns t c =
    let k = c.args.levels in
    let a = reading.term_in (reading.values k) in
    let total = reading.chained reading.adding a (expr_tree c.args.first) c.args.self.now.rest.now in
    ends reading.joined (reading.begins reading.adding) refl (seq (reading.operator_of reading.adding) a) c.loop-operator.invariant.0
    c.loop-operator.self.rest.now (expr_tree c.loop-operator.left) total
    (no_operator reading.adding c.loop-operator.self.rest.now (sym c.in_default.is ∙ c.adding.ensures)) c.loop-operator.invariant.2

pub sum-returns-in_err-right : goal.sum-returns-in_err-right
sum-returns-in_err-right t c =
    let k = c.args.levels in
    let a = reading.term_in (reading.values k) in
    let total = reading.chained reading.adding a (expr_tree c.args.first) c.args.self.now.rest.now in
    handed_on expr_tree _ _ total _ c.from_residual.ensures.1
    (gives_up reading.joined (reading.begins reading.adding) refl (seq (reading.operator_of reading.adding) a) c.loop-operator.invariant.0
    c.loop-operator.self.rest.now (expr_tree c.loop-operator.left) _ total
    (operator_begins reading.adding c.loop-operator.self.rest.now c.in-Some.operator c.in-Some.ensures)
    (operator_fails reading.adding a c.loop-operator.self.rest.now c.in-Some.operator c.pass.new.self.rest.now _ c.in-Some.ensures c.pass.ensures
    c.in_err-right.ensures)
    c.loop-operator.invariant.1 c.loop-operator.invariant.2)

pub term-returns-in-Ok : goal.term-returns-in-Ok
unfolding term_in
term-returns-in-Ok t c =
    let k = c.args.levels in
    subst (λ z. Gives expr_tree c.product.result c.product.new.self.rest.now z)
    (sym (chain_read reading.multiplying (reading.factor_in (reading.values k)) (reading.factor_in (reading.values k)) c.args.self.now.rest.now
    (expr_tree c.in-Ok.first)
    c.factor.new.self.rest.now c.in-Ok.ensures))
    c.product.ensures

pub term-returns-in-Err : goal.term-returns-in-Err
unfolding term_in
term-returns-in-Err t c =
    let k = c.args.levels in
    let a = reading.factor_in (reading.values k) in
    first_fails (λ x. reading.folded reading.joined x.0 x.1) (reading.factor_in (reading.values k))
    (many (reading.begins reading.multiplying) (seq (reading.operator_of reading.multiplying) a)) c.args.self.now.rest.now c.in-Err.refusal c.in-Err.ensures

pub simple-returns-in-Ok : goal.simple-returns-in-Ok
unfolding simple_in
simple-returns-in-Ok t c =
    let k = c.args.levels in
    subst (λ z. Gives expr_tree c.sum.result c.sum.new.self.rest.now z)
    (sym (chain_read reading.adding (reading.prefixed reading.sign (reading.term_in (reading.values k))) (reading.term_in
    (reading.values k)) c.args.self.now.rest.now (expr_tree c.in-Ok.first)
    c.signed.new.self.rest.now c.in-Ok.ensures))
    c.sum.ensures

pub simple-returns-in-Err : goal.simple-returns-in-Err
unfolding simple_in
simple-returns-in-Err t c =
    let k = c.args.levels in
    let a = reading.term_in (reading.values k) in
    first_fails (λ x. reading.folded reading.joined x.0 x.1) (reading.prefixed reading.sign (reading.term_in (reading.values k)))
    (many (reading.begins reading.adding) (seq (reading.operator_of reading.adding) a)) c.args.self.now.rest.now c.in-Err.refusal c.in-Err.ensures

pub chain-loop-operator-smaller : goal.chain-loop-operator-smaller
chain-loop-operator-smaller t c =
    logical_smaller c.args.levels c.args.operator c.loop-operator.self.rest.now _ _ _ c.in_ok-repeated.ensures c.in_ok-right-2.ensures

pub chain-loop-operator-preserved : goal.chain-loop-operator-preserved
chain-loop-operator-preserved t c =
    let k = c.args.levels in
    let o = c.args.operator in
    let a = reading.relation_in (reading.values k) in
    goes (reading.operated o) (is_word (reading.first_word o)) refl (mapped (λ x. x.1) (seq (reading.repeated o) a)) c.loop-operator.invariant.0
    c.loop-operator.self.rest.now (expr_tree c.loop-operator.all) (expr_tree c.in_ok-right-2.right) _
    (reading.logical_chain (reading.values k) (expr_tree c.args.left) o c.args.self.now.rest.now) _ c.in_ok-all-2.ensures
    (ap (λ w. is_word w (first c.loop-operator.self.rest.now)) (sym c.first_word.ensures) ∙ sym c.at_word.ensures ∙ c.loop-operator-test.true)
    (both_read (λ x. x.1) (reading.repeated o) a c.loop-operator.self.rest.now _ _ tt (expr_tree c.in_ok-right-2.right) c.in_ok-repeated.ensures
    c.in_ok-right-2.ensures)
    (logical_smaller k o c.loop-operator.self.rest.now _ _ _ c.in_ok-repeated.ensures c.in_ok-right-2.ensures) c.loop-operator.invariant.1
    c.loop-operator.invariant.2

pub chain-returns : goal.chain-returns
chain-returns t c =
    let k = c.args.levels in
    let o = c.args.operator in
    let a = reading.relation_in (reading.values k) in
    ends (reading.operated o) (is_word (reading.first_word o)) refl (mapped (λ x. x.1) (seq (reading.repeated o) a)) c.loop-operator.invariant.0
    c.loop-operator.self.rest.now (expr_tree c.loop-operator.all)
    (reading.logical_chain (reading.values k) (expr_tree c.args.left) o c.args.self.now.rest.now)
    (ap (λ w. is_word w (first c.loop-operator.self.rest.now)) (sym c.first_word.ensures) ∙ sym c.at_word.ensures ∙ c.loop-operator-test.false)
    c.loop-operator.invariant.2

pub chain-returns-in_err-repeated : goal.chain-returns-in_err-repeated
chain-returns-in_err-repeated t c =
    let k = c.args.levels in
    let o = c.args.operator in
    let a = reading.relation_in (reading.values k) in
    handed_on expr_tree _ _ (reading.logical_chain (reading.values k) (expr_tree c.args.left) o c.args.self.now.rest.now) _
    c.from_residual-in_err-repeated.ensures.1
    (gives_up (reading.operated o) (is_word (reading.first_word o)) refl (mapped (λ x. x.1) (seq (reading.repeated o) a)) c.loop-operator.invariant.0
    c.loop-operator.self.rest.now (expr_tree c.loop-operator.all) _
    (reading.logical_chain (reading.values k) (expr_tree c.args.left) o c.args.self.now.rest.now)
    (ap (λ w. is_word w (first c.loop-operator.self.rest.now)) (sym c.first_word.ensures) ∙ sym c.at_word.ensures ∙ c.loop-operator-test.true)
    (first_fails (λ x. x.1) (reading.repeated o) a c.loop-operator.self.rest.now _ c.in_err-repeated.ensures) c.loop-operator.invariant.1
    c.loop-operator.invariant.2)

pub chain-returns-in_err-right-2 : goal.chain-returns-in_err-right-2
chain-returns-in_err-right-2 t c =
    let k = c.args.levels in
    let o = c.args.operator in
    let a = reading.relation_in (reading.values k) in
    handed_on expr_tree _ _ (reading.logical_chain (reading.values k) (expr_tree c.args.left) o c.args.self.now.rest.now) _
    c.from_residual-in_err-right-2.ensures.1
    (gives_up (reading.operated o) (is_word (reading.first_word o)) refl (mapped (λ x. x.1) (seq (reading.repeated o) a)) c.loop-operator.invariant.0
    c.loop-operator.self.rest.now (expr_tree c.loop-operator.all) _
    (reading.logical_chain (reading.values k) (expr_tree c.args.left) o c.args.self.now.rest.now)
    (ap (λ w. is_word w (first c.loop-operator.self.rest.now)) (sym c.first_word.ensures) ∙ sym c.at_word.ensures ∙ c.loop-operator-test.true)
    (second_fails (λ x. x.1) (reading.repeated o) a c.loop-operator.self.rest.now _ tt _ c.in_ok-repeated.ensures c.in_err-right-2.ensures)
    c.loop-operator.invariant.1 c.loop-operator.invariant.2)
