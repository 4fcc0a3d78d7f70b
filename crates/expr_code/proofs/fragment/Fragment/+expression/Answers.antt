use Rattle.std.proofs.Common.{◌≡◌, ◌+◌, ℕ, ap, arith, drop, length, of_z, to_z, w64, ltb-false, ltb-true, refl, rules, sym, ◌∙◌}
use Rattle.std.proofs.lemmas.Result.{IfOk-weaker, on_ok_weaker}
use Rattle.std.specs.Prelude.{pos, ◌+ℤ◌}
use Rattle.ada_tree.specs.declared.expression.Selector as selectors
use Rattle.ada_tree.specs.ExpressionTree.{Arguments, Value, argument_tree, argument_trees, expr_tree, selector_tree, selector_trees}
use Rattle.image.specs.declared.instruction.Operation.TheVariants as op
use Rattle.types.specs.Evaluating.{fixed_value}
use Rattle.expr_code.specs.ExpressionCode.{actual_code, actuals_code, actuals_count, argument_code, arguments_code, deciding, expr_code, first_code, named_code, named_words, parts_of, path_code, path_part, selector_code, value_words, whole_of}
use Rattle.expr_code.specs.Locating.{IsNear}
use Rattle.expr_code.specs.Pieces.{Made, adds, end_of, narrow, rejoined}
use Rattle.expr_code.proofs.Actuals.{counted}
use Rattle.expr_code.proofs.FormsMade.{both_made, branch_added, chain_words, conditional_made, not_or_else, operands_end, operands_step, opens_end, opens_step, short_made, signed_made, whole_chain}
use Rattle.expr_code.proofs.Pieces.{adds_nothing, drop_end, none_added, same_added}
use Rattle.expr_code.proofs.SelectorsMade.{address_made, argument_at, element_made, arguments_end, arguments_over, arguments_step, found_at, named_made, other_named, path_end, path_next, stored_made}
use Rattle.expr_code.proofs.fragment.Fragment.+expression.Goals as goal
use Rattle.expr_code.proofs.fragment.Fragment.+expression.Goals.{passed-in-Some+in_ok-actual, passed-in_default}

pub actual-returns-in-Label : goal.actual-returns-in-Label
actual-returns-in-Label t c = record {
  made = sym (ap (λ a. adds c.args.self.now (actual_code c.args.visible.now c.args.depth c.args.subtype (argument_tree a))) c.in-Label.is
      ∙ adds_nothing c.args.self.now);
}

pub actuals-returns-in-Arguments-clause-high : goal.actuals-returns-in-Arguments-clause-high
actuals-returns-in-Arguments-clause-high t c =
    let tree = ap selector_tree c.in-Arguments.is ∙ c.arguments_by_parts.ensures c.in-Arguments.arguments ∙ ap (λ l. Arguments (argument_trees l)) (sym c.deref.ensures.value) in
    let found = found_at c.args.selectors.now _ c.selector-item.result _ c.loop-selector-test.true c.selector-item.is tree in
    IfOk-weaker c.passed.result (λ height. height ≡ c.args.depth + length c.deref.result.now)
    (λ height. height ≡ c.args.depth + actuals_count (selector_trees c.args.selectors.now)) (λ height p. p ∙ ap (λ n. c.args.depth + n) (sym (counted c.deref.result.now) ∙ sym (ap actuals_count found) ∙ c.loop-selector.invariant.1))
    c.passed.ensures.high

pub actuals-returns-in-Arguments-clause-made : goal.actuals-returns-in-Arguments-clause-made
actuals-returns-in-Arguments-clause-made t c =
    let tree = ap selector_tree c.in-Arguments.is ∙ c.arguments_by_parts.ensures c.in-Arguments.arguments ∙ ap (λ l. Arguments (argument_trees l)) (sym c.deref.ensures.value) in
    let found = found_at c.args.selectors.now _ c.selector-item.result _ c.loop-selector-test.true c.selector-item.is tree in
    on_ok_weaker _ (λ p. same_added c.args.self.now c.loop-selector.self c.passed.new.self _ _ c.loop-selector.invariant.0
    (sym (ap (actuals_code c.args.visible.now c.args.depth c.args.formals.now) found) ∙ c.loop-selector.invariant.2) p) c.passed.ensures.made

pub actuals-returns-clause-made : goal.actuals-returns-clause-made
actuals-returns-clause-made t c =
    none_added _ _ _ c.loop-selector.invariant.0
    (sym c.loop-selector.invariant.2 ∙ ap (λ l. actuals_code c.args.visible.now c.args.depth c.args.formals.now (selector_trees l))
    (drop_end c.args.selectors.now _ c.loop-selector-test.false))

pub argument-returns-in-Arguments : goal.argument-returns-in-Arguments
argument-returns-in-Arguments t c =
    let tree = ap selector_tree c.in-Arguments.is ∙ c.arguments_by_parts.ensures c.in-Arguments.arguments ∙ ap (λ l. Arguments (argument_trees l)) (sym c.deref.ensures.value) in
    let found = found_at c.args.selectors.now _ c.selector-item.result _ c.loop-selector-test.true c.selector-item.is tree in
    record {
      made = on_ok_weaker _ (λ p. same_added c.args.self.now c.loop-selector.self c.first_argument.new.self _ _ c.loop-selector.invariant.0
          (sym (ap (argument_code c.args.visible.now c.args.depth c.args.check) found) ∙ c.loop-selector.invariant.1) p) c.first_argument.ensures.made;
    }

pub argument-returns : goal.argument-returns
argument-returns t c = record {
  made = none_added _ _ _ c.loop-selector.invariant.0
      (sym c.loop-selector.invariant.1 ∙ ap (λ l. argument_code c.args.visible.now c.args.depth c.args.check (selector_trees l))
      (drop_end c.args.selectors.now _ c.loop-selector-test.false));
}

pub first_argument-returns-in-Expr : goal.first_argument-returns-in-Expr
first_argument-returns-in-Expr t c =
    let found = argument_at c.args.arguments.now _ c.argument-item.result (Value (expr_tree c.in-Expr.e)) c.loop-argument-test.true c.argument-item.is
    (ap argument_tree c.in-Expr.is) in
    record {
      made = on_ok_weaker _ (λ p. same_added c.args.self.now c.loop-argument.self c.checked.new.self _ _ c.loop-argument.invariant.0
          (sym (ap (first_code c.args.visible.now c.args.depth c.args.check) found) ∙ c.loop-argument.invariant.1) p) c.checked.ensures.made;
    }

pub first_argument-loop-argument-preserved : goal.first_argument-loop-argument-preserved
first_argument-loop-argument-preserved t c = (
  c.loop-argument.invariant.0,
  sym (ap (first_code c.args.visible.now c.args.depth c.args.check) (argument_at c.args.arguments.now _ c.argument-item.result _ c.loop-argument-test.true
      c.argument-item.is (ap argument_tree c.in_default.is))) ∙ c.loop-argument.invariant.1,
)

pub first_argument-returns : goal.first_argument-returns
first_argument-returns t c = record {
  made = none_added _ _ _ c.loop-argument.invariant.0
      (sym c.loop-argument.invariant.1 ∙ ap (λ l. first_code c.args.visible.now c.args.depth c.args.check (argument_trees l))
      (drop_end c.args.arguments.now _ c.loop-argument-test.false));
}

pub elsifs-loop-elsif-preserved : goal.elsifs-loop-elsif-preserved
elsifs-loop-elsif-preserved t c = λ final places rest. c.loop-elsif.invariant final places
    (opens_step c.args.visible.now c.args.depth c.args.width _ _ final _ _ places c.args.elsifs.now _ c.elsif-item.result c.loop-elsif-test.true
    c.elsif-item.is
    (branch_added c.loop-elsif.self c.expression.new.self c.test.new.self c.expression-in-loop-elsif.new.self c.close.new.self c.args.depth (c.args.depth + c.args.width) _ _ _ _ _ _
    c.in_ok-expression.ensures.made c.in_ok-test.ensures.made c.in_ok-expression-2.ensures.made c.in_ok-close.ensures.waits c.in_ok-test.ensures.place
    c.in_ok-raised.ensures.more c.in_ok-close.ensures.made) rest)

pub elsifs-returns : goal.elsifs-returns
elsifs-returns t c = record {
  opens = c.loop-elsif.invariant _ _ (opens_end c.args.visible.now c.args.depth c.args.width _ _ c.args.elsifs.now _ c.loop-elsif-test.false);
}

pub expression-returns-in_ok-put-in-Some-clause-made : goal.expression-returns-in_ok-put-in-Some-clause-made
expression-returns-in_ok-put-in-Some-clause-made t c =
    rw c.in-Unary.is (signed_made _ _ _ _ _ _ _ _ (sym c.unary_operation.ensures ∙ c.in-Some.is) c.in_ok-above-in-Some.ensures.more
    (rw c.deref-in-Unary.ensures at c.in_ok-expression-in-Unary.ensures.made) c.in_ok-put-in-Some.ensures.made)

pub expression-returns-in_ok-operands-in-Chain-clause-words : goal.expression-returns-in_ok-operands-in-Chain-clause-words
expression-returns-in_ok-operands-in-Chain-clause-words t c =
    let tree = ap expr_tree c.in-Chain.is ∙ c.chains_by_parts.ensures c.in-Chain.first c.in-Chain.second c.in-Chain.more in
    sym (ap (value_words c.args.visible.now) tree ∙ chain_words c.args.visible.now c.args.depth _ c.in-Chain.more.items refl)

pub expression-returns-in_ok-operands-in-Chain-clause-made : goal.expression-returns-in_ok-operands-in-Chain-clause-made
expression-returns-in_ok-operands-in-Chain-clause-made t c =
    let tree = ap expr_tree c.in-Chain.is ∙ c.chains_by_parts.ensures c.in-Chain.first c.in-Chain.second c.in-Chain.more in
    whole_chain c.args.visible.now c.args.depth _ _ _ _ _ c.in-Chain.second.value c.in-Chain.more.items
    (rw c.deref-in-Chain.ensures at c.in_ok-expression-in-Chain.ensures.made)
    (rw c.deref-in-Chain-2.ensures at c.in_ok-operand-in-Chain.ensures.made)
    (rw c.deref-in-Chain-3.ensures.value at c.in_ok-operands-in-Chain.ensures.made)
    ∙ ap (λ e. adds c.args.self.now (expr_code c.args.visible.now c.args.depth e)) (sym tree)

pub expression-returns-in_ok-expression-in-Conditional-2-clause-made : goal.expression-returns-in_ok-expression-in-Conditional-2-clause-made
expression-returns-in_ok-expression-in-Conditional-2-clause-made t c =
    let v = c.args.visible.now in
    let tree = ap expr_tree c.in-Conditional.is ∙ c.conditional_by_parts.ensures c.in-Conditional.field-0 c.in-Conditional.condition c.in-Conditional.value
    c.in-Conditional.elsifs c.in-Conditional.last in
    conditional_made v c.args.depth c.in-Conditional.field-0 _ _ _ _ c.in-Conditional.elsifs.items tree c.args.self.now c.expression-in-Conditional.new.self
    c.test.new.self c.expression-in-Conditional-2.new.self c.close.new.self c.elsifs.new.self c.expression-in-Conditional-3.new.self
    c.rejoin.new.self c.in_ok-width-in-Conditional.width _ _ _ c.close.new.waiting.items c.elsifs.new.waiting.items
    (c.in_ok-width-in-Conditional.ensures.words ∙ ap (λ e. value_words v (expr_tree e)) c.deref-in-Conditional-2.ensures) c.new-waiting.ensures.items
    (rw c.deref-in-Conditional.ensures at c.in_ok-expression-in-Conditional.ensures.made) c.in_ok-test-in-Conditional.ensures.made
    (rw c.deref-in-Conditional-2.ensures at c.in_ok-width-in-Conditional.ensures.made) c.in_ok-close-in-Conditional.ensures.waits
    c.in_ok-test-in-Conditional.ensures.place c.in_ok-raised-in-Conditional.ensures.more c.in_ok-close-in-Conditional.ensures.made
    (rw c.deref-in-Conditional-3.ensures.value at c.in_ok-elsifs-in-Conditional.ensures.opens)
    (rw c.deref-in-Conditional-4.ensures at c.in_ok-expression-in-Conditional-2.ensures.made)
    (c.rejoin.ensures.made
    ∙ ap (λ l. rejoined c.expression-in-Conditional-3.new.self l (narrow (end_of c.expression-in-Conditional-3.new.self))) c.deref-in-Conditional-5.ensures.value)

pub named-returns-in_default : goal.named-returns-in_default
named-returns-in_default t c =
    let v = c.args.visible.now in
    let all = selector_trees c.args.selectors.now in
    let parts = parts_of v c.args.depth all in
    let other = other_named v c.args.depth c.args.first.now all parts c.stands_first.result c.in_default.not-Part c.in_default.not-Named c.in_default.not-Callee
    c.in_default.not-Protected in
    record {
      words = sym other.0 ∙ ap (named_words v c.args.first.now all) c.stands_first.ensures;
      made = none_added _ _ _ refl (ap (named_code v c.args.depth c.args.first.now all parts) (sym c.stands_first.ensures) ∙ other.1);
    }

pub operand-returns-in_ok-above-in-Some : goal.operand-returns-in_ok-above-in-Some
operand-returns-in_ok-above-in-Some t c = record {
  made = on_ok_weaker _ (λ p. both_made c.args.self.now c.expression.new.self c.put.new.self c.args.depth _ _ c.args.operand.now.operator _ _
      (λ n. expr_code c.args.visible.now n (expr_tree c.args.operand.now.value)) _ (sym c.binary_operation.ensures ∙ c.in-Some.is)
      c.in_ok-second-in-Some.ensures.more c.in_ok-above-in-Some.ensures.more c.in_ok-expression-in-Some.ensures.made p) c.put.ensures.made;
}

pub operands-loop-operand-preserved : goal.operands-loop-operand-preserved
operands-loop-operand-preserved t c =
    operands_step c.args.visible.now c.args.depth _ _ _ c.args.all.now _ c.operand-item.result c.loop-operand-test.true c.operand-item.is
    c.in_ok-operand.ensures.made c.loop-operand.invariant

pub operands-returns : goal.operands-returns
operands-returns t c = record {
  made = operands_end c.args.visible.now c.args.depth _ _ c.args.all.now _ c.loop-operand-test.false c.loop-operand.invariant;
}

pub passed-returns-clause-made : goal.passed-returns-clause-made
passed-returns-clause-made t c =
    arguments_end c.args.visible.now _ _ c.loop-index.height c.args.formals.now c.args.arguments.now c.loop-index.index c.loop-index-test.false
    c.loop-index.invariant.1

pub path-loop-selector-init : goal.path-loop-selector-init
path-loop-selector-init t c = (let near : IsNear (pos 0) = omega arith in near, refl, refl)

pub path-select-requires : goal.path-select-requires
path-select-requires t c = (search (rules, selectors.the_lemmas), c.loop-selector.invariant.0)

pub path-loop-selector-preserved : goal.path-loop-selector-preserved
path-loop-selector-preserved t c =
    let next = path_next c.args.visible.now c.args.depth c.args.selectors.now c.loop-selector.selector-index c.loop-selector.part c.in_ok-part.part
    c.selector-item.result c.loop-selector-test.true c.selector-item.is c.in_ok-part.ensures.part c.loop-selector.self c.select.new.self
    c.in_ok-part.ensures.made _ _ c.loop-selector.invariant.1 c.loop-selector.invariant.2 in
    (c.in_ok-part.ensures.near, next.0, next.1)

pub path-returns-clause-near : goal.path-returns-clause-near
path-returns-clause-near t c = c.loop-selector.invariant.0

pub path-returns-clause-part : goal.path-returns-clause-part
path-returns-clause-part t c =
    (path_end c.args.visible.now c.args.depth c.args.selectors.now _ _ _ c.loop-selector.self _ c.loop-selector-test.false c.loop-selector.invariant.1
    c.loop-selector.invariant.2).0

pub path-returns-clause-made : goal.path-returns-clause-made
path-returns-clause-made t c =
    (path_end c.args.visible.now c.args.depth c.args.selectors.now _ _ _ c.loop-selector.self _ c.loop-selector-test.false c.loop-selector.invariant.1
    c.loop-selector.invariant.2).1

pub select-returns-in-Attribute-clause-made : goal.select-returns-in-Attribute-clause-made
select-returns-in-Attribute-clause-made t c =
    sym (ap (λ x. adds c.args.self.now (selector_code c.args.visible.now c.args.depth c.args.part (selector_tree x))) c.in-Attribute.is
    ∙ adds_nothing c.args.self.now)

pub short_circuit-returns-in-OrElse : goal.short_circuit-returns-in-OrElse
short_circuit-returns-in-OrElse t c = record {
  made = short_made _ _ _ _ _ _ c.args.depth _ _ _ _ c.args.operand.now.operator _ op.JumpIfNotZero _ _ c.requires.short
      (ap deciding c.in-OrElse.is) c.in_ok-one.ensures.more c.in_ok-above.ensures.more (search rules)
      c.in_ok-put.ensures.made c.in_ok-put-2.ensures.made c.in_ok-put-3.ensures.made c.in_ok-expression.ensures.made c.end-end.ensures
      c.patch.ensures.made;
}

pub short_circuit-returns-in_default : goal.short_circuit-returns-in_default
short_circuit-returns-in_default t c = record {
  made = short_made _ _ _ _ _ _ c.args.depth _ _ _ _ c.args.operand.now.operator _ op.JumpIfZero _ _ c.requires.short
      (not_or_else c.args.operand.now.operator c.requires.short c.in_default.not-OrElse) c.in_ok-one.ensures.more c.in_ok-above.ensures.more (search rules)
      c.in_ok-put.ensures.made c.in_ok-put-2.ensures.made c.in_ok-put-3.ensures.made c.in_ok-expression.ensures.made c.end-end.ensures
      c.patch-in_default.ensures.made;
}

pub actuals-loop-selector-preserved-in-Component : goal.actuals-loop-selector-preserved-in-Component
actuals-loop-selector-preserved-in-Component t c =
    let at = found_at c.args.selectors.now _ c.selector-item.result _ c.loop-selector-test.true c.selector-item.is (ap selector_tree c.in-Component.is) in (
      c.loop-selector.invariant.0,
      sym (ap actuals_count at) ∙ c.loop-selector.invariant.1,
      sym (ap (actuals_code c.args.visible.now c.args.depth c.args.formals.now) at) ∙ c.loop-selector.invariant.2,
    )

pub argument-loop-selector-preserved-in-Component : goal.argument-loop-selector-preserved-in-Component
argument-loop-selector-preserved-in-Component t c =
    let at = found_at c.args.selectors.now _ c.selector-item.result _ c.loop-selector-test.true c.selector-item.is (ap selector_tree c.in-Component.is) in
    (c.loop-selector.invariant.0, sym (ap (argument_code c.args.visible.now c.args.depth c.args.check) at) ∙ c.loop-selector.invariant.1)

pub actuals-loop-selector-preserved : goal.actuals-loop-selector-preserved
actuals-loop-selector-preserved t c =
    let at = found_at c.args.selectors.now _ c.selector-item.result _ c.loop-selector-test.true c.selector-item.is (ap selector_tree c.in-Attribute.is) in (
      c.loop-selector.invariant.0,
      sym (ap actuals_count at) ∙ c.loop-selector.invariant.1,
      sym (ap (actuals_code c.args.visible.now c.args.depth c.args.formals.now) at) ∙ c.loop-selector.invariant.2,
    )

pub argument-loop-selector-preserved : goal.argument-loop-selector-preserved
argument-loop-selector-preserved t c =
    let at = found_at c.args.selectors.now _ c.selector-item.result _ c.loop-selector-test.true c.selector-item.is (ap selector_tree c.in-Attribute.is) in
    (c.loop-selector.invariant.0, sym (ap (argument_code c.args.visible.now c.args.depth c.args.check) at) ∙ c.loop-selector.invariant.1)

pub address-returns-clause-made : goal.address-returns-clause-made
address-returns-clause-made t c =
    let shift : to_z w64 (of_z w64 c.in_ok-part.part.shift) ≡ c.in_ok-part.part.shift = search rules in
    let pushed : to_z w64 (of_z w64 c.with_shift.result) ≡ c.with_shift.result = search rules in
    address_made c.args.self.now c.put.new.self c.path.new.self c.patch.new.self c.args.depth _ _ _ _ _
    (path_part c.args.visible.now.scope (whole_of c.args.subtype) (selector_trees c.args.selectors.now))
    (λ n. path_code c.args.visible.now n (whole_of c.args.subtype) (selector_trees c.args.selectors.now))
    (search rules) c.in_ok-put.ensures.made c.in_ok-above.ensures.more c.in_ok-part.ensures.made
    (pushed ∙ c.with_shift.ensures ∙ ap (λ z. pos c.args.slot.offset +ℤ z) shift ∙ ap (λ p. pos c.args.slot.offset +ℤ p.shift) c.in_ok-part.ensures.part)
    c.patch.ensures.made

pub name-returns-in-None-clause-made : goal.name-returns-in-None-clause-made
name-returns-in-None-clause-made t c =
    let is = sym (ap fixed_value c.standing.ensures) ∙ sym c.fixed_value.ensures ∙ c.in-None.is in
    on_ok_weaker _ (λ p. named_made c.args.visible.now c.args.depth c.args.name.now.first c.deref.result.now c.args.name.now.selectors.items c.args.self.now
    c.named.new.self c.deref.ensures.value is p) c.named.ensures.made

pub stored-returns-clause-made : goal.stored-returns-clause-made
stored-returns-clause-made t c =
    stored_made c.args.visible.now c.args.depth c.args.selectors.now c.args.subtype c.in-Some.slot c.args.place c.args.self.now c.address.new.self c.put.new.self
    _ _ _ c.in_ok-last.last c.in-Some.is (search rules) c.in_ok-last.ensures.part c.in_ok-last.ensures.made c.in_ok-above.ensures.more
    c.words-words-2.ensures c.loaded_at.ensures c.in_ok-put.ensures.made

pub passed-loop-index-preserved : goal.passed-loop-index-preserved
passed-loop-index-preserved t c =
    let v = c.args.visible.now in
    let known = c.loop-index.invariant.0 in
    let more = c.in_ok-height.ensures.more in
    let behind : ℕ → Made = λ h. adds c.match-get.self (arguments_code v h (drop (c.loop-index.index + 1) c.args.formals.now)
    (argument_trees (drop (c.loop-index.index + 1) c.args.arguments.now))) in (
      omega (arith, known, more),
      ap behind more ∙ elim c.match-get.branch [
        | passed-in-Some+in_ok-actual w ↦ arguments_step v c.loop-index.self c.match-get.self _ c.loop-index.height c.args.formals.now c.args.arguments.now
            c.loop-index.index w.in-Some.formal.now _ (ltb-true c.loop-index.index (length c.args.formals.now) (sym w.in-Some.ensures.lookup.0))
            c.loop-index-test.true w.in-Some.ensures.lookup.1 c.index-arguments-index.is (w.self-is ∙ w.in_ok-actual.ensures.made) c.loop-index.invariant.1
        | passed-in_default w ↦ ap (λ y. adds y (arguments_code v (c.loop-index.height + 1) (drop (c.loop-index.index + 1) c.args.formals.now)
            (argument_trees (drop (c.loop-index.index + 1) c.args.arguments.now)))) w.self-is
            ∙ arguments_over v c.loop-index.self _ c.loop-index.height c.args.formals.now (drop c.loop-index.index c.args.arguments.now)
            (drop (c.loop-index.index + 1) c.args.arguments.now) c.loop-index.index
            (ltb-false c.loop-index.index (length c.args.formals.now) (sym w.in_default.ensures.lookup.0)) c.loop-index.invariant.1
      ],
    )

pub element-returns-in_ok-shift-in-Some-Array-clause-made : goal.element-returns-in_ok-shift-in-Some-Array-clause-made
element-returns-in_ok-shift-in-Some-Array-clause-made t c =
    element_made c.args.visible.now c.args.depth c.args.part (argument_trees c.args.arguments.now) c.in-Some-Array.index c.in-Some-Array.last
    c.in-Some-Array.many c.args.self.now c.misfit.new.self c.first_argument.new.self c.offset.new.self _ c.words-words.result _ _ (search rules)
    c.words-words.ensures (search rules) (search rules) c.in_ok-above-in-Some-Array.ensures.more (search rules)
    c.in_ok-first_argument-in-Some-Array.ensures.made c.in_ok-shift-in-Some-Array.ensures.made
