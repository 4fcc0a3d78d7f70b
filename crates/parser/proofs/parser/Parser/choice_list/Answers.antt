use Rattle.std.proofs.Common.{rules, sym, ◌∙◌}
use Rattle.lexer.specs.declared.token.TokenKind.TheVariants as kinds
use Rattle.lexer.specs.declared.delimiter.Delimiter.TheVariants as marks
use Rattle.ada_tree.specs.ExpressionTree.{expr_tree}
use Rattle.parser.specs.Reading.{is_mark, seq, mapped, skip_mark}
use Rattle.parser.specs.ExpressionReading.{expression_at}
use Rattle.parser.proofs.general.Lists.{list_starts_behind, list_goes, list_ends, list_fails, next_reads, next_fails}
use Rattle.parser.proofs.statements.Statements.{choice_turns}
use Rattle.parser.proofs.parser.Parser.choice_list.Goals as goal

pub loop-self-init : goal.loop-self-init
loop-self-init c =
    list_starts_behind expr_tree (is_mark marks.VerticalLine) (mapped (λ x. x.1) (seq (skip_mark marks.VerticalLine) (expression_at c.args.levels)))
    (choice_turns c.args.levels) (expression_at c.args.levels) c.args.self.now.rest.now c.in_ok-head.head _ _ _ c.in_ok-head.ensures c.new-all.ensures.items
    c.in_ok-push.ensures.items

pub returns-in_err-next : goal.returns-in_err-next
returns-in_err-next c =
    let failed =
    list_fails expr_tree (is_mark marks.VerticalLine) (mapped (λ x. x.1) (seq (skip_mark marks.VerticalLine) (expression_at c.args.levels)))
    (choice_turns c.args.levels) c.loop-self.invariant.0 c.loop-self.self.rest.now c.loop-self.all.items _ _
    (sym c.at_mark.ensures ∙ c.loop-self-test.true)
    (next_fails (kinds.Delimiter marks.VerticalLine) (expression_at c.args.levels) c.loop-self.self.rest.now _ _ _ c.in_ok-mark.ensures
    c.in_err-next.ensures) c.loop-self.invariant.1 c.loop-self.invariant.2 in search rules

pub loop-self-smaller : goal.loop-self-smaller
loop-self-smaller c =
    ((choice_turns c.args.levels)).shrinks c.loop-self.self.rest.now _ _
    (next_reads (kinds.Delimiter marks.VerticalLine) (expression_at c.args.levels) c.loop-self.self.rest.now _ _ _ _ c.in_ok-mark.ensures
    c.in_ok-next.ensures)

pub loop-self-preserved : goal.loop-self-preserved
loop-self-preserved c =
    list_goes expr_tree (is_mark marks.VerticalLine) (mapped (λ x. x.1) (seq (skip_mark marks.VerticalLine) (expression_at c.args.levels)))
    (choice_turns c.args.levels) c.loop-self.invariant.0 c.loop-self.self.rest.now c.loop-self.all.items _ c.in_ok-next.next _ _
    c.in_ok-push-2.ensures.items (sym c.at_mark.ensures ∙ c.loop-self-test.true)
    (next_reads (kinds.Delimiter marks.VerticalLine) (expression_at c.args.levels) c.loop-self.self.rest.now _ _ _ _ c.in_ok-mark.ensures
    c.in_ok-next.ensures) c.loop-self.invariant.1 c.loop-self.invariant.2

pub returns : goal.returns
returns c =
    list_ends expr_tree (is_mark marks.VerticalLine) (mapped (λ x. x.1) (seq (skip_mark marks.VerticalLine) (expression_at c.args.levels)))
    (choice_turns c.args.levels) c.loop-self.invariant.0 c.loop-self.self.rest.now c.loop-self.all.items _ (sym c.at_mark.ensures ∙ c.loop-self-test.false)
    c.loop-self.invariant.2
