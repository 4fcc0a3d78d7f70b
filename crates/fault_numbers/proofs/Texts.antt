-- What is told of a text without tokens or without a tree has numbers from 1 to 7.
use Rattle.std.proofs.Common.{◌≡◌, ◌≤◌, ◌⊎◌, ℕ, List, arith, inl, inr}
use Rattle.base.specs.declared.faults.TheConstants.{TEXT_TOO_LONG, TOO_MANY_LEVELS, UNEXPECTED_TOKEN, WRONG_LABEL}
use Rattle.lexer.specs.Spelling.{Breaks, Stray, LeftOut, InComment, Identifier, Literal, Open, Label, TooLong, At}
use Rattle.fault_numbers.specs.Numbers.{GrammarNumbers, SpellingNumbers}

-- a rule of spelling, by its number
breaks_numbered : (number offset : ℕ) (text : List ℕ) → Breaks number offset text → (TEXT_TOO_LONG ≤ number) × (number ≤ WRONG_LABEL)
breaks_numbered number offset text (Stray c rest white quotation begins) = (omega arith, omega arith)
breaks_numbered number offset text (LeftOut e rest) = (omega arith, omega arith)
breaks_numbered number offset text (InComment inner c rest all wrong stays) = (omega arith, omega arith)
breaks_numbered number offset text (Identifier element rest longest word wrong) = (omega arith, omega arith)
breaks_numbered number offset text (Literal element rest longest numeral wrong) = (omega arith, omega arith)
breaks_numbered number offset text (Open inner rest all ends) = (omega arith, omega arith)
breaks_numbered number offset text (Label inner rest all wrong) = (omega arith, omega arith)

pub spelling_numbers : SpellingNumbers
spelling_numbers text fault (TooLong long) = (omega arith, omega arith)
spelling_numbers text fault (At {offset = offset} {number = number} {left = left} row breaks below) = breaks_numbered number offset left breaks

grammar_numbered : {A : Type 0} (number : ℕ) → (number ≡ UNEXPECTED_TOKEN) ⊎ ((number ≡ TOO_MANY_LEVELS) × A)
    → (UNEXPECTED_TOKEN ≤ number) × (number ≤ TOO_MANY_LEVELS)
grammar_numbered number (inl is) = (omega (arith, is), omega (arith, is))
grammar_numbered number (inr deep) = let is = deep.0 in (omega (arith, is), omega (arith, is))

pub grammar_numbers : GrammarNumbers
grammar_numbers tokens fault faulty = grammar_numbered fault.number faulty.number
