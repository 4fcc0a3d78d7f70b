-- What is reported of a text beside the explanation of its fault's number.
use Rattle.std.specs.Prelude.{◌≡◌, ◌≢◌, ◌⊎◌, ℕ, List, [], ◌++◌, Option, Some, None, if◌then◌else◌, nat_eq}
use Rattle.base.specs.declared.faults.TheConstants.{DECLARED_TWICE, NOT_STATIC, NO_MEANING, UNEXPECTED_TOKEN, UNMATCHED_BODY, WRONG_ARGUMENT_COUNT, WRONG_END_NAME, WRONG_STATIC_VALUE}
use Rattle.lexer.specs.declared.fault.Fault.{Fault}
use Rattle.lexer.specs.Spelling.{Spells, IsBroken}
use Rattle.ada_tree.specs.Language.{Tokens}
use Rattle.ada_tree.specs.ProgramTree.{ProgramTree}
use Rattle.parser.specs.Parsing.{Derives, IsFaulty, NoneGoesOn, SomeBegins}
use Rattle.diagnostics.specs.continuations.Notes.{AreNotesOfPlace}
use Rattle.diagnostics.specs.counterparts.Twice.{twice_other}
use Rattle.diagnostics.specs.counterparts.Unmatched.{unmatched_other}
use Rattle.mismatches.specs.Remarks.{remark_at}
use Rattle.diagnostics.specs.hints.BodyFaults.{body_fault, body_fault_lines}
use Rattle.diagnostics.specs.hints.Calls.{call_lines_at}
use Rattle.diagnostics.specs.hints.EndNames.{end_name_lines, ended_at}
use Rattle.diagnostics.specs.hints.Mismatched.{mismatch_lines}
use Rattle.diagnostics.specs.hints.Places.{after_empty, name_at, other_line}
use Rattle.diagnostics.specs.hints.StaticNotes.{static_lines}
use Rattle.diagnostics.specs.declared.hints.subjects.Subject.{Subject}
use Rattle.diagnostics.specs.declared.hints.subjects.Subject.TheVariants as subjects

-- what is reported is of the place after the longest part of the tokens that some tree's list begins with
pub record AreNotesOfTokens (tokens : Tokens) (notes : List ℕ) : Type 0 where
  pub front : Tokens
  pub back : Tokens
  pub parts : tokens ≡ front ++ back
  pub some : SomeBegins front
  pub none : NoneGoesOn front back
  pub are_notes : AreNotesOfPlace front back notes

-- the text's fault is a token that cannot stand where it does, and what is reported is of its place
pub record AreContinuationNotes (text notes : List ℕ) : Type 0 where
  pub tokens : Tokens
  pub spells : Spells text tokens
  pub fault : Fault
  pub faulty : IsFaulty tokens fault
  pub unexpected : fault.number ≡ UNEXPECTED_TOKEN
  pub are_notes : AreNotesOfPlace faulty.front faulty.back notes

-- the text breaks a rule of spelling
pub record IsUnspelled (text : List ℕ) : Type 0 where
  pub fault : Fault
  pub broken : IsBroken text fault

-- some tree derives the tokens of the text
pub record HasTree (text : List ℕ) : Type 0 where
  pub tokens : Tokens
  pub spells : Spells text tokens
  pub tree : ProgramTree
  pub derives : Derives tree tokens

-- the text's tokens have no tree, and are refused for another cause than a token that cannot stand where it does
pub record HasOtherFault (text : List ℕ) : Type 0 where
  pub tokens : Tokens
  pub spells : Spells text tokens
  pub fault : Fault
  pub faulty : IsFaulty tokens fault
  pub other : fault.number ≢ UNEXPECTED_TOKEN

-- what could stand at the place of the text's fault, or nothing where the fault is another one, or none
abbrev pub AreNotesOfText : List ℕ → List ℕ → Type 0
AreNotesOfText text notes = AreContinuationNotes text notes ⊎ ((notes ≡ []) × (IsUnspelled text ⊎ (HasTree text ⊎ HasOtherFault text)))

-- ---- what the tree says of a fault

abbrev pub other_of : Subject → ProgramTree → (name : List ℕ) → (place : ℕ) → Option ℕ
other_of subjects.Declarations t name place = twice_other t name place
other_of subjects.Bodies t name place = unmatched_other t name place
other_of subject t name place = None

abbrev pub other_of_name : Subject → ProgramTree → ℕ → Option (List ℕ) → Option ℕ
other_of_name subject t place (Some name) = other_of subject t name place
other_of_name subject t place None = None

-- by the name that stands at the place
abbrev pub other_place : Subject → ProgramTree → Tokens → ℕ → Option ℕ
other_place subject t tokens place = other_of_name subject t place (name_at place tokens)

-- where a name that is declared twice is declared before; how a body and its declaration fail to belong together, and where the other one is; the name
-- that is wanted after an `end`; how many actual parameters a call has, and how many formal ones what it calls; which types don't match; why an expression
-- isn't static, or its value is wrong
abbrev pub subject_lines : Subject → (text : List ℕ) → Tokens → ProgramTree → (place : ℕ) → List ℕ
subject_lines subjects.Declarations text tokens t place = other_line text (other_place subjects.Declarations t tokens place)
subject_lines subjects.Bodies text tokens t place =
    body_fault_lines (body_fault place t.package_) ++ other_line text (other_place subjects.Bodies t tokens place)
subject_lines subjects.EndNames text tokens t place = end_name_lines text (ended_at place t)
subject_lines subjects.Calls text tokens t place = call_lines_at text tokens place
subject_lines subjects.Types text tokens t place = mismatch_lines text tokens (remark_at t NO_MEANING place)
subject_lines subjects.StaticForms text tokens t place = static_lines text tokens t (remark_at t NOT_STATIC place)
subject_lines subjects.StaticValues text tokens t place = static_lines text tokens t (remark_at t WRONG_STATIC_VALUE place)

-- a tree derives the tokens of the text, and these are the lines that it says
pub record AreNotesByTree (subject : Subject) (place : ℕ) (text notes : List ℕ) : Type 0 where
  pub tokens : Tokens
  pub spells : Spells text tokens
  pub tree : ProgramTree
  pub derives : Derives tree tokens
  pub notes_are : notes ≡ after_empty (subject_lines subject text tokens tree place)

-- the text's tokens have no tree
pub record HasNone (text : List ℕ) : Type 0 where
  pub tokens : Tokens
  pub spells : Spells text tokens
  pub fault : Fault
  pub faulty : IsFaulty tokens fault

abbrev pub AreNotesOfSubject : Subject → ℕ → List ℕ → List ℕ → Type 0
AreNotesOfSubject subject place text notes = AreNotesByTree subject place text notes ⊎ ((notes ≡ []) × (IsUnspelled text ⊎ HasNone text))

-- ---- all

-- of which faults the tree says something
abbrev pub subject_of : ℕ → Option Subject
subject_of number =
    if nat_eq number DECLARED_TWICE then Some subjects.Declarations
    else (if nat_eq number UNMATCHED_BODY then Some subjects.Bodies
    else (if nat_eq number WRONG_END_NAME then Some subjects.EndNames
    else (if nat_eq number WRONG_ARGUMENT_COUNT then Some subjects.Calls
    else (if nat_eq number NO_MEANING then Some subjects.Types
    else (if nat_eq number NOT_STATIC then Some subjects.StaticForms
    else (if nat_eq number WRONG_STATIC_VALUE then Some subjects.StaticValues
    else None))))))

abbrev pub AreNotesOfSubjectIfAny : Option Subject → ℕ → List ℕ → List ℕ → Type 0
AreNotesOfSubjectIfAny (Some subject) place text notes = AreNotesOfSubject subject place text notes
AreNotesOfSubjectIfAny None place text notes = notes ≡ []

-- what is reported of the text, whose fault has this number and place, beside the explanation
abbrev pub AreNotesOf : ℕ → ℕ → List ℕ → List ℕ → Type 0
AreNotesOf number place text notes =
    ((number ≡ UNEXPECTED_TOKEN) × AreNotesOfText text notes)
    ⊎ ((number ≢ UNEXPECTED_TOKEN) × AreNotesOfSubjectIfAny (subject_of number) place text notes)

-- without a place the text has another fault, or none
abbrev pub AreNotesAt : ℕ → Option ℕ → List ℕ → List ℕ → Type 0
AreNotesAt number (Some place) text notes = AreNotesOf number place text notes
AreNotesAt number None text notes = notes ≡ []
