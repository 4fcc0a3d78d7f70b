-- What is reported is of the place of the fault.
use Rattle.std.proofs.Common.{◌≡◌, ℕ, List, sym, subst, inl, ◌∙◌}
use Rattle.base.specs.declared.faults.TheConstants.{UNEXPECTED_TOKEN}
use Rattle.lexer.specs.Spelling.{Spells}
use Rattle.lexer.specs.declared.fault.Fault.{Fault}
use Rattle.ada_tree.specs.Language.{Tokens}
use Rattle.parser.specs.Parsing.{IsFaulty}
use Rattle.parser.proofs.programs.Whole.{none_goes_on, same_fronts}
use Rattle.diagnostics.specs.continuations.Notes.{AreNotesOfPlace}
use Rattle.diagnostics.specs.hints.Notes.{AreNotesOfTokens, AreNotesOfText}

pub at_fault : (text notes : List ℕ) (tokens : Tokens) (fault : Fault) → Spells text tokens → IsFaulty tokens fault → fault.number ≡ UNEXPECTED_TOKEN
    → AreNotesOfTokens tokens notes → AreNotesOfText text notes
at_fault text notes tokens fault spells faulty number at =
    let none = none_goes_on faulty.front faulty.back faulty.none in
    let same = same_fronts at.front at.back faulty.front faulty.back (sym at.parts ∙ faulty.parts) at.some at.none faulty.some none in
    inl (record {
      tokens = tokens;
      spells = spells;
      fault = fault;
      faulty = faulty;
      unexpected = number;
      are_notes = subst (λ (f : Tokens). AreNotesOfPlace f faulty.back notes) same.0 (subst (λ (b : Tokens). AreNotesOfPlace at.front b notes) same.1 at.are_notes);
    })
