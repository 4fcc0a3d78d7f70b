-- What a text is read as: its tokens and its tree, as far as it has them.
use Rattle.std.specs.Prelude.{ℕ, List, Option, Some, None}
use Rattle.lexer.specs.Spelling.{Spells}
use Rattle.ada_tree.specs.Language.{Tokens}
use Rattle.ada_tree.specs.ProgramTree.{program_tree}
use Rattle.parser.specs.Parsing.{Derives, IsFaulty}
use Rattle.mismatches.specs.Listed.{AreRemarksOf}
use Rattle.diagnostics.specs.hints.Notes.{IsUnspelled}
use Rattle.diagnostics.specs.declared.hints.parsed_text.Reading.{Reading}
use Rattle.diagnostics.specs.declared.hints.parsed_text.Reading.TheVariants as readings

-- the text breaks a rule of spelling; or tokens spell it, and these have a fault of the grammar, or a tree derives them, of whose types these remarks are
abbrev pub IsReadingOf : (text : List ℕ) → Reading → Type 0
IsReadingOf text readings.Misspelled = IsUnspelled text
IsReadingOf text (readings.Treeless tokens fault) = Spells text tokens × IsFaulty tokens fault
IsReadingOf text (readings.Derived tokens program remarks) =
    Spells text tokens × (Derives (program_tree program) tokens × AreRemarksOf (program_tree program) remarks)

-- the tokens that spell a text; none of one that breaks a rule of spelling
abbrev pub AreTokensOf : (text : List ℕ) → Option Tokens → Type 0
AreTokensOf text (Some tokens) = Spells text tokens
AreTokensOf text None = IsUnspelled text
