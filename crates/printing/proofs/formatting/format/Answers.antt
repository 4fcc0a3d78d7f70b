use Rattle.std.proofs.Common.{◌+◌, ◌∙◌, ap, arith, length, subst, sym}
use Rattle.printing.specs.Layout.{nothing_read}
use Rattle.printing.proofs.Going.{Moves, at_comment, at_token, comment_turn, gives, start, token_turn, white}
use Rattle.printing.proofs.formatting.format.Goals as goal

pub loop-at-init : goal.loop-at-init
loop-at-init c =
    subst (λ p. Moves c.args.text.now c.args.tokens.now 0 0 c.args.tokens.now p c.new-out.result.items) (sym c.new-progress.ensures)
    (subst (λ out. Moves c.args.text.now c.args.tokens.now 0 0 c.args.tokens.now nothing_read out) (sym c.new-out.ensures.items) (start c.args.text.now c.args.tokens.now))

pub loop-at-preserved-then-is_white : goal.loop-at-preserved-then-is_white
loop-at-preserved-then-is_white c =
    white c.args.text.now c.args.tokens.now c.loop-at.start c.loop-at.at c.loop-at.left.now c.loop-at.progress c.loop-at.out.items c.loop-at.invariant c.loop-at-test.true (sym c.is_white.ensures ∙ c.if-is_white.true)

pub slice_bounds-element-count : goal.slice_bounds-element-count
slice_bounds-element-count c =
    let here =
    at_token c.args.text.now c.args.tokens.now c.loop-at.start c.loop-at.at c.loop-at.left.now c.loop-at.progress c.loop-at.out.items c.in-Some.token.now c.requires c.loop-at.invariant c.loop-at-test.true
    (sym c.is_white.ensures ∙ c.if-is_white.false) (sym c.in-Some.ensures) in
    omega (arith, here.forward)

pub slice_bounds-element-start : goal.slice_bounds-element-start
slice_bounds-element-start c =
    let here =
    at_token c.args.text.now c.args.tokens.now c.loop-at.start c.loop-at.at c.loop-at.left.now c.loop-at.progress c.loop-at.out.items c.in-Some.token.now c.requires c.loop-at.invariant c.loop-at-test.true
    (sym c.is_white.ensures ∙ c.if-is_white.false) (sym c.in-Some.ensures) in
    omega (arith, here.forward, here.inside)

pub slice_bounds-element-end : goal.slice_bounds-element-end
slice_bounds-element-end c =
    let here =
    at_token c.args.text.now c.args.tokens.now c.loop-at.start c.loop-at.at c.loop-at.left.now c.loop-at.progress c.loop-at.out.items c.in-Some.token.now c.requires c.loop-at.invariant c.loop-at-test.true
    (sym c.is_white.ensures ∙ c.if-is_white.false) (sym c.in-Some.ensures) in
    omega (arith, here.forward, here.inside)

pub loop-at-smaller-in-Some : goal.loop-at-smaller-in-Some
loop-at-smaller-in-Some c =
    let here =
    at_token c.args.text.now c.args.tokens.now c.loop-at.start c.loop-at.at c.loop-at.left.now c.loop-at.progress c.loop-at.out.items c.in-Some.token.now c.requires c.loop-at.invariant c.loop-at-test.true
    (sym c.is_white.ensures ∙ c.if-is_white.false) (sym c.in-Some.ensures) in
    omega (arith, here.forward, here.inside, c.loop-at-test.true)

pub loop-at-preserved-in-Some : goal.loop-at-preserved-in-Some
loop-at-preserved-in-Some c =
    let here =
    at_token c.args.text.now c.args.tokens.now c.loop-at.start c.loop-at.at c.loop-at.left.now c.loop-at.progress c.loop-at.out.items c.in-Some.token.now c.requires c.loop-at.invariant c.loop-at-test.true
    (sym c.is_white.ensures ∙ c.if-is_white.false) (sym c.in-Some.ensures) in
    token_turn c.args.text.now c.args.tokens.now c.loop-at.start c.loop-at.at c.loop-at.left.now c.loop-at.progress c.loop-at.out.items c.in-Some.token.now here c.symbol_of.result c.without_first-left.result.now c.put_token.new.self c.put_token.new.out.items
    c.symbol_of.ensures c.without_first-left.ensures c.in_ok-put_token.ensures.after c.in_ok-put_token.ensures.text

pub loop-at-preserved : goal.loop-at-preserved
loop-at-preserved c =
    let here =
    at_comment c.args.text.now c.args.tokens.now c.loop-at.start c.loop-at.at c.loop-at.left.now c.loop-at.progress c.loop-at.out.items c.comment_length.result c.requires c.loop-at.invariant c.loop-at-test.true
    (sym c.is_white.ensures ∙ c.if-is_white.false) (sym c.in_default.ensures) c.comment_length.ensures.value in
    comment_turn c.args.text.now c.args.tokens.now c.loop-at.start c.loop-at.at c.loop-at.left.now c.loop-at.progress c.loop-at.out.items (c.loop-at.at + c.comment_length.result) here c.first_symbol.result c.put_comment.new.self c.put_comment.new.out.items
    c.trim_ascii_end-shown.result.now c.trim_ascii_end-shown.ensures.value c.first_symbol.ensures c.in_ok-put_comment.ensures.after c.in_ok-put_comment.ensures.text

pub returns-then-len-gt-TEXT_LIMIT : goal.returns-then-len-gt-TEXT_LIMIT
returns-then-len-gt-TEXT_LIMIT c = λ spells.
    let is =
    gives c.args.text.now c.args.tokens.now c.loop-at.start c.loop-at.at c.loop-at.left.now c.loop-at.progress c.loop-at.out.items c.put_ending.new.out.items c.loop-at.invariant c.loop-at-test.false c.in_ok-put_ending.ensures spells in
    omega (arith, c.len.ensures, ap length is, c.if-len-gt-TEXT_LIMIT.true)

pub returns : goal.returns
returns c = λ spells.
    let is =
    gives c.args.text.now c.args.tokens.now c.loop-at.start c.loop-at.at c.loop-at.left.now c.loop-at.progress c.loop-at.out.items c.put_ending.new.out.items c.loop-at.invariant c.loop-at-test.false c.in_ok-put_ending.ensures spells in
    (is, omega (arith, c.len.ensures, ap length is, c.if-len-gt-TEXT_LIMIT.false))
