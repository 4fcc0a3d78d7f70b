use Rattle.std.proofs.Common.{◌≡◌, ◌+◌, ◌<◌, ◌⊎◌, ◌++◌, ◌∷◌, [], Ok, Err, sym, ap, ◌∙◌, subst, inl, inr, arith}
use Rattle.std.proofs.lemmas.Result.{err_from_is_err_and}
use Rattle.base.specs.declared.limits.TheConstants.{TEXT_LIMIT}
use Rattle.lexer.specs.Fault.{memory_fault}
use Rattle.lexer.specs.Spelling.{IsBroken}
use Rattle.lexer.proofs.Loop.{Reads, start, read_is, broken_inside, element_inside, more_token, more_blank, broken_here, unspelled, only_spelled, too_long, refused, broken_is_least, long_is_least, none_broken}
use Rattle.lexer.proofs.lexing.tokens.Goals as goal

pub loop-at-init : goal.loop-at-init
loop-at-init c = subst (Reads c.args.text.now 0) (sym c.new-tokens.ensures.items) (start c.args.text.now)

pub overflow_add-at : goal.overflow_add-at
overflow_add-at c = omega (arith, broken_inside c.args.text.now c.loop-at.at c.in-Err.broken c.loop-at-test.true (read_is c.loop-at.at c.args.text.now (Err c.in-Err.broken) c.in-Err.ensures))

pub returns-in-Err-clause-complete : goal.returns-in-Err-clause-complete
returns-in-Err-clause-complete c = λ tokens spells. absurd (unspelled c.args.text.now c.loop-at.at c.loop-at.tokens.items tokens c.in-Err.broken c.loop-at.invariant c.loop-at-test.true (read_is c.loop-at.at c.args.text.now (Err c.in-Err.broken) c.in-Err.ensures) spells)

pub returns-in-Err-clause-fault : goal.returns-in-Err-clause-fault
returns-in-Err-clause-fault c = inl (subst (IsBroken c.args.text.now) (sym c.fault_at.ensures) (broken_here c.args.text.now c.loop-at.at c.loop-at.tokens.items c.in-Err.broken c.loop-at.invariant c.loop-at-test.true (read_is c.loop-at.at c.args.text.now (Err c.in-Err.broken) c.in-Err.ensures)))

pub overflow_add-end : goal.overflow_add-end
overflow_add-end c = omega (arith, (element_inside c.args.text.now c.loop-at.at c.in-Ok.element c.loop-at-test.true (read_is c.loop-at.at c.args.text.now (Ok c.in-Ok.element) c.in-Ok.ensures)).1)

pub returns-then-end-gt-TEXT_LIMIT-clause-complete : goal.returns-then-end-gt-TEXT_LIMIT-clause-complete
returns-then-end-gt-TEXT_LIMIT-clause-complete c = λ tokens spells.
    let lies = element_inside c.args.text.now c.loop-at.at c.in-Ok.element c.loop-at-test.true (read_is c.loop-at.at c.args.text.now (Ok c.in-Ok.element) c.in-Ok.ensures) in
    absurd (omega (arith, lies.1, spells.short, c.if-end-gt-TEXT_LIMIT.true))

pub returns-then-end-gt-TEXT_LIMIT-clause-fault : goal.returns-then-end-gt-TEXT_LIMIT-clause-fault
returns-then-end-gt-TEXT_LIMIT-clause-fault c =
    let lies = element_inside c.args.text.now c.loop-at.at c.in-Ok.element c.loop-at-test.true (read_is c.loop-at.at c.args.text.now (Ok c.in-Ok.element) c.in-Ok.ensures) in
    inl (subst (IsBroken c.args.text.now) (sym c.fault_at-then-end-gt-TEXT_LIMIT.ensures) (too_long c.args.text.now 1 TEXT_LIMIT (omega arith) (omega (arith, lies.1, c.if-end-gt-TEXT_LIMIT.true))))

pub loop-at-preserved-in_ok-push : goal.loop-at-preserved-in_ok-push
loop-at-preserved-in_ok-push c =
    subst (Reads c.args.text.now (c.loop-at.at + c.in-Ok.element.length)) (ap (λ k. c.loop-at.tokens.items ++ record { kind = k; start = c.loop-at.at; end_ = c.loop-at.at + c.in-Ok.element.length } ∷ []) (sym c.in-Some.kind-is) ∙ sym c.in_ok-push.ensures.items)
    (more_token c.args.text.now c.loop-at.at c.loop-at.tokens.items c.in-Ok.element c.in-Some.kind c.loop-at.invariant c.loop-at-test.true (read_is c.loop-at.at c.args.text.now (Ok c.in-Ok.element) c.in-Ok.ensures) (omega (arith, c.if-end-gt-TEXT_LIMIT.false)) c.in-Some.is)

pub loop-at-preserved : goal.loop-at-preserved
loop-at-preserved c =
    more_blank c.args.text.now c.loop-at.at c.loop-at.tokens.items c.in-Ok.element c.loop-at.invariant c.loop-at-test.true (read_is c.loop-at.at c.args.text.now (Ok c.in-Ok.element) c.in-Ok.ensures) (omega (arith, c.if-end-gt-TEXT_LIMIT.false)) c.in_default.is

pub loop-at-smaller-in_ok-push : goal.loop-at-smaller-in_ok-push
loop-at-smaller-in_ok-push c =
    let lies = element_inside c.args.text.now c.loop-at.at c.in-Ok.element c.loop-at-test.true (read_is c.loop-at.at c.args.text.now (Ok c.in-Ok.element) c.in-Ok.ensures) in
    omega (arith, lies.0, lies.1)

pub loop-at-smaller : goal.loop-at-smaller
loop-at-smaller c =
    let lies = element_inside c.args.text.now c.loop-at.at c.in-Ok.element c.loop-at-test.true (read_is c.loop-at.at c.args.text.now (Ok c.in-Ok.element) c.in-Ok.ensures) in
    omega (arith, lies.0, lies.1)

pub returns-clause-complete : goal.returns-clause-complete
returns-clause-complete c = λ tokens spells. only_spelled c.args.text.now c.loop-at.at c.loop-at.tokens.items tokens c.loop-at.invariant c.loop-at-test.false spells

pub returns-in_err-push-clause-fault : goal.returns-in_err-push-clause-fault
returns-in_err-push-clause-fault c =
    let p = err_from_is_err_and c.from_residual.result c.from_residual.ensures.1 in
    rw p.1 (inr (refused c.args.text.now c.loop-at.at c.loop-at.tokens.items c.in-Ok.element c.in-Some.kind p.0 p.2 c.loop-at.invariant c.loop-at-test.true (read_is c.loop-at.at c.args.text.now (Ok c.in-Ok.element) c.in-Ok.ensures) (omega (arith, c.if-end-gt-TEXT_LIMIT.false)) c.in-Some.is))

pub returns-in-Err-clause-least : goal.returns-in-Err-clause-least
returns-in-Err-clause-least c = λ f broken.
    subst (λ g. (g ≡ memory_fault) ⊎ (g.place < f.place) ⊎ (g ≡ f)) (sym c.fault_at.ensures)
    (inr (broken_is_least c.args.text.now c.loop-at.at c.loop-at.tokens.items c.in-Err.broken f c.loop-at.invariant (read_is c.loop-at.at c.args.text.now (Err c.in-Err.broken) c.in-Err.ensures) broken))

pub returns-then-end-gt-TEXT_LIMIT-clause-least : goal.returns-then-end-gt-TEXT_LIMIT-clause-least
returns-then-end-gt-TEXT_LIMIT-clause-least c = λ f broken.
    inr (inr (c.fault_at-then-end-gt-TEXT_LIMIT.ensures ∙ long_is_least c.args.text.now c.loop-at.at c.loop-at.tokens.items c.in-Ok.element f c.loop-at.invariant (read_is c.loop-at.at c.args.text.now (Ok c.in-Ok.element) c.in-Ok.ensures) c.if-end-gt-TEXT_LIMIT.true broken))

pub returns-clause-least : goal.returns-clause-least
returns-clause-least c = λ f broken. none_broken c.args.text.now c.loop-at.at c.loop-at.tokens.items f c.loop-at.invariant c.loop-at-test.false broken
