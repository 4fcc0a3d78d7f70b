use Rattle.std.proofs.Common.{◌≡◌, ℕ, ◌≤◌, length}
use Rattle.lexer.specs.declared.word.Word.TheVariants as words
use Rattle.parser.specs.Reading.{is_word}
use Rattle.parser.specs.DeclarationReading.{task_entry_at, task_entries_at}
use Rattle.parser.proofs.general.Loops.{still, pushed}
use Rattle.parser.proofs.parser.Parser.task_entries.Given as goal

abbrev pub invariant-loop-self : goal.invariant-loop-self
invariant-loop-self l =
    (n : ℕ) × (length l.self.rest.now ≤ n)
    × (still pushed (is_word words.Entry) task_entry_at n l.all.items l.self.rest.now ≡ task_entries_at l.fn.self.rest.now)

abbrev pub decreases-loop-self : goal.decreases-loop-self
decreases-loop-self l = length l.self.rest.now
