use Rattle.std.proofs.Common.{◌≡◌, ℕ, ◌≤◌, length}
use Rattle.lexer.specs.declared.delimiter.Delimiter.TheVariants as marks
use Rattle.parser.specs.Reading.{is_mark, seq, mapped, skip_mark}
use Rattle.parser.specs.StatementReading.{exception_choice_at, exception_list_at}
use Rattle.parser.proofs.general.Loops.{still, pushed}
use Rattle.parser.proofs.parser.Parser.exception_list.Given as goal

abbrev pub invariant-loop-self : goal.invariant-loop-self
invariant-loop-self l =
    (n : ℕ) × (length l.self.rest.now ≤ n)
    × (still pushed (is_mark marks.VerticalLine) (mapped (λ x. x.1) (seq (skip_mark marks.VerticalLine) exception_choice_at)) n l.all.items l.self.rest.now
    ≡ exception_list_at l.fn.self.rest.now)

abbrev pub decreases-loop-self : goal.decreases-loop-self
decreases-loop-self l = length l.self.rest.now
