use Rattle.std.proofs.Common.{◌≡◌, ℕ, ◌≤◌, length, map}
use Rattle.lexer.specs.declared.delimiter.Delimiter.TheVariants as marks
use Rattle.ada_tree.specs.ExpressionTree.{expr_tree}
use Rattle.parser.specs.Reading.{is_mark, seq, mapped, skip_mark}
use Rattle.parser.specs.StatementReading.{choice_list_at}
use Rattle.parser.specs.ExpressionReading.{expression_at}
use Rattle.parser.proofs.general.Loops.{still, pushed}
use Rattle.parser.proofs.parser.Parser.choice_list.Given as goal

abbrev pub invariant-loop-self : goal.invariant-loop-self
invariant-loop-self l =
    (n : ℕ) × (length l.self.rest.now ≤ n)
    × (still pushed (is_mark marks.VerticalLine) (mapped (λ x. x.1) (seq (skip_mark marks.VerticalLine) (expression_at l.levels))) n
    (map expr_tree l.all.items) l.self.rest.now ≡ choice_list_at l.levels l.fn.self.rest.now)

abbrev pub decreases-loop-self : goal.decreases-loop-self
decreases-loop-self l = length l.self.rest.now
