-- An explanation with what is said of one text after it.
use Rattle.std.specs.Prelude.{◌≡◌, ℕ, List, ◌++◌, Option, Some, None}
use Rattle.diagnostics.specs.explanations.Explained.{explanation_of}
use Rattle.diagnostics.specs.hints.Hinted.{AreHintsAt}
use Rattle.diagnostics.specs.hints.Notes.{AreNotesAt}

-- the explanation of the number, what to write instead, and what is reported of the text
pub record HasWhole (number : ℕ) (place : Option ℕ) (text whole : List ℕ) : Type 0 where
  pub explanation : List ℕ
  pub explained : explanation_of number ≡ Some explanation
  pub hints : List ℕ
  pub are_hints : AreHintsAt number place text hints
  pub notes : List ℕ
  pub are_notes : AreNotesAt number place text notes
  pub whole_is : whole ≡ explanation ++ hints ++ notes

-- None where no fault has the number
abbrev pub IsExplained : ℕ → Option ℕ → List ℕ → Option (List ℕ) → Type 0
IsExplained number place text None = explanation_of number ≡ None
IsExplained number place text (Some whole) = HasWhole number place text whole
