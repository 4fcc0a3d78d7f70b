use Rattle.std.proofs.Common.{◌≡◌, ℕ, ◌≤◌, length}
use Rattle.lexer.specs.declared.word.Word.TheVariants as words
use Rattle.parser.specs.Reading.{is_word}
use Rattle.parser.specs.ProgramReading.{unit_clause_at, clause_list_at}
use Rattle.parser.proofs.general.Loops.{still, pushed}
use Rattle.parser.proofs.parser.Parser.clause_list.Given as goal

abbrev pub invariant-loop-self : goal.invariant-loop-self
invariant-loop-self l =
    (n : ℕ) × (length l.self.rest.now ≤ n)
    × (still pushed (is_word words.With) unit_clause_at n l.all.items l.self.rest.now ≡ clause_list_at l.fn.self.rest.now)

abbrev pub decreases-loop-self : goal.decreases-loop-self
decreases-loop-self l = length l.self.rest.now
