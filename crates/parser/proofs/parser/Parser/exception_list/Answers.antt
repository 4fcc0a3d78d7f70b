use Rattle.std.proofs.Common.{rules, sym, ◌∙◌}
use Rattle.lexer.specs.declared.token.TokenKind.TheVariants as kinds
use Rattle.lexer.specs.declared.delimiter.Delimiter.TheVariants as marks
use Rattle.parser.specs.Reading.{is_mark, seq, mapped, skip_mark}
use Rattle.parser.specs.StatementReading.{exception_choice_at}
use Rattle.parser.proofs.general.Lists.{plain_starts_behind, plain_goes, plain_ends, plain_fails, next_reads, next_fails}
use Rattle.parser.proofs.statements.Statements.{exception_turns}
use Rattle.parser.proofs.parser.Parser.exception_list.Goals as goal

pub loop-self-init : goal.loop-self-init
loop-self-init c =
    plain_starts_behind (is_mark marks.VerticalLine) (mapped (λ x. x.1) (seq (skip_mark marks.VerticalLine) exception_choice_at)) exception_turns
    exception_choice_at c.args.self.now.rest.now c.in_ok-head.head _ _ _ c.in_ok-head.ensures c.new-all.ensures.items c.in_ok-push.ensures.items

pub returns-in_err-next : goal.returns-in_err-next
returns-in_err-next c =
    let failed =
    plain_fails (is_mark marks.VerticalLine) (mapped (λ x. x.1) (seq (skip_mark marks.VerticalLine) exception_choice_at)) exception_turns
    c.loop-self.invariant.0 c.loop-self.self.rest.now c.loop-self.all.items _ _ (sym c.at_mark.ensures ∙ c.loop-self-test.true)
    (next_fails (kinds.Delimiter marks.VerticalLine) exception_choice_at c.loop-self.self.rest.now _ _ _ c.in_ok-mark.ensures c.in_err-next.ensures)
    c.loop-self.invariant.1 c.loop-self.invariant.2 in search rules

pub loop-self-smaller : goal.loop-self-smaller
loop-self-smaller c =
    (exception_turns).shrinks c.loop-self.self.rest.now _ _
    (next_reads (kinds.Delimiter marks.VerticalLine) exception_choice_at c.loop-self.self.rest.now _ _ _ _ c.in_ok-mark.ensures c.in_ok-next.ensures)

pub loop-self-preserved : goal.loop-self-preserved
loop-self-preserved c =
    plain_goes (is_mark marks.VerticalLine) (mapped (λ x. x.1) (seq (skip_mark marks.VerticalLine) exception_choice_at)) exception_turns c.loop-self.invariant.0
    c.loop-self.self.rest.now c.loop-self.all.items _ c.in_ok-next.next _ _ c.in_ok-push-2.ensures.items (sym c.at_mark.ensures ∙ c.loop-self-test.true)
    (next_reads (kinds.Delimiter marks.VerticalLine) exception_choice_at c.loop-self.self.rest.now _ _ _ _ c.in_ok-mark.ensures c.in_ok-next.ensures)
    c.loop-self.invariant.1 c.loop-self.invariant.2

pub returns : goal.returns
returns c =
    plain_ends (is_mark marks.VerticalLine) (mapped (λ x. x.1) (seq (skip_mark marks.VerticalLine) exception_choice_at)) exception_turns c.loop-self.invariant.0
    c.loop-self.self.rest.now c.loop-self.all.items _ (sym c.at_mark.ensures ∙ c.loop-self-test.false) c.loop-self.invariant.2
