-- The texts of an image by their numbers.
use Rattle.std.specs.Prelude.{ℕ, zero, suc, List, [], length, Option, Some, None, slice_get}
use Rattle.image.specs.Sections.{Sections}
use Rattle.image.specs.declared.tasks.Task.{Task}
use Rattle.kernel.specs.Interrupts.{names_of_all}
use Rattle.kernel.specs.Text.{Names}

abbrev pub text_or_none : Option (List ℕ) → List ℕ
text_or_none None = []
text_or_none (Some text) = text

-- the text of this number, or the empty one where there is none
abbrev pub text_at : List (List ℕ) → ℕ → List ℕ
text_at texts number = text_or_none (slice_get texts number)

-- the texts numbered from 1: number 0 is none, and has the empty one
abbrev pub text_from_one : List (List ℕ) → ℕ → List ℕ
text_from_one texts zero = []
text_from_one texts (suc number) = text_at texts number

abbrev pub name_of : Option Task → List ℕ
name_of None = []
name_of (Some t) = t.name

-- tasks are numbered from 0, handlers of interrupts beyond them, exceptions from 1
abbrev pub names_of : Sections → Names
names_of i = record { task = names_of_all (length i.tasks) (λ t. name_of (slice_get i.tasks t)); exception = λ x. text_from_one i.exceptions x }
