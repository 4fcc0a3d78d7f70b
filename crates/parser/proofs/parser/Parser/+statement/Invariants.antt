use Rattle.std.proofs.Common.{◌≡◌, ℕ, ◌+◌, ◌*◌, ◌≤◌, length, map}
use Rattle.lexer.specs.declared.word.Word.TheVariants as words
use Rattle.ada_tree.specs.StatementTree.{elsif_tree, alternative_tree, handler_tree, stmt_tree}
use Rattle.parser.specs.Reading.{is_word}
use Rattle.parser.specs.StatementReading.{elsif_at, elsif_list_at, alternative_at, alternative_list_at, handler_at, handler_list_at, begins_statement}
use Rattle.parser.specs.StatementReading.{statement_at, statement_list_at, readers, readers_at}
use Rattle.parser.proofs.general.Loops.{still, pushed}
use Rattle.parser.proofs.parser.Parser.+statement.Given as goal

abbrev pub decreases-if_statement : goal.decreases-if_statement
decreases-if_statement l = 6 * l.levels + 0

abbrev pub decreases-case_statement : goal.decreases-case_statement
decreases-case_statement l = 6 * l.levels + 0

abbrev pub decreases-loop_statement : goal.decreases-loop_statement
decreases-loop_statement l = 6 * l.levels + 0

abbrev pub decreases-block_statement : goal.decreases-block_statement
decreases-block_statement l = 6 * l.levels + 0

abbrev pub decreases-statement : goal.decreases-statement
decreases-statement l = 6 * l.levels + 1

abbrev pub decreases-statements : goal.decreases-statements
decreases-statements l = 6 * l.levels + 2

abbrev pub decreases-elsif : goal.decreases-elsif
decreases-elsif l = 6 * l.levels + 3

abbrev pub decreases-else_part : goal.decreases-else_part
decreases-else_part l = 6 * l.levels + 3

abbrev pub decreases-alternative : goal.decreases-alternative
decreases-alternative l = 6 * l.levels + 3

abbrev pub decreases-handler : goal.decreases-handler
decreases-handler l = 6 * l.levels + 3

abbrev pub decreases-elsif_list : goal.decreases-elsif_list
decreases-elsif_list l = 6 * l.levels + 4

abbrev pub decreases-alternative_list : goal.decreases-alternative_list
decreases-alternative_list l = 6 * l.levels + 4

abbrev pub decreases-handler_list : goal.decreases-handler_list
decreases-handler_list l = 6 * l.levels + 4

abbrev pub decreases-handlers : goal.decreases-handlers
decreases-handlers l = 6 * l.levels + 5

abbrev pub invariant-elsif_list-loop-self : goal.invariant-elsif_list-loop-self
invariant-elsif_list-loop-self l =
    (n : ℕ) × (length l.self.rest.now ≤ n)
    × (still pushed (is_word words.Elsif) (elsif_at (readers_at l.levels)) n (map elsif_tree l.all.items) l.self.rest.now
    ≡ elsif_list_at (readers_at l.levels) l.fn.self.rest.now)

abbrev pub decreases-elsif_list-loop-self : goal.decreases-elsif_list-loop-self
decreases-elsif_list-loop-self l = length l.self.rest.now

abbrev pub invariant-alternative_list-loop-self : goal.invariant-alternative_list-loop-self
invariant-alternative_list-loop-self l =
    (n : ℕ) × (length l.self.rest.now ≤ n)
    × (still pushed (is_word words.When) (alternative_at (readers_at l.levels)) n (map alternative_tree l.all.items) l.self.rest.now
    ≡ alternative_list_at (readers_at l.levels) l.fn.self.rest.now)

abbrev pub decreases-alternative_list-loop-self : goal.decreases-alternative_list-loop-self
decreases-alternative_list-loop-self l = length l.self.rest.now

abbrev pub invariant-handler_list-loop-self : goal.invariant-handler_list-loop-self
invariant-handler_list-loop-self l =
    (n : ℕ) × (length l.self.rest.now ≤ n)
    × (still pushed (is_word words.When) (handler_at (readers_at l.levels).statements) n (map handler_tree l.all.items) l.self.rest.now
    ≡ handler_list_at (readers_at l.levels).statements l.fn.self.rest.now)

abbrev pub decreases-handler_list-loop-self : goal.decreases-handler_list-loop-self
decreases-handler_list-loop-self l = length l.self.rest.now

abbrev pub invariant-statements-loop-self : goal.invariant-statements-loop-self
invariant-statements-loop-self l =
    (n : ℕ) × (length l.self.rest.now ≤ n)
    × (still pushed begins_statement (statement_at l.levels (readers l.levels)) n (map stmt_tree l.all.items) l.self.rest.now
    ≡ statement_list_at l.levels (readers l.levels) l.fn.self.rest.now)

abbrev pub decreases-statements-loop-self : goal.decreases-statements-loop-self
decreases-statements-loop-self l = length l.self.rest.now
