-- Which number an exception has in code, and what puts it on the operand stack where it is raised (RM 11.2, 11.3).
use Rattle.std.specs.Prelude.{◌≡◌, ℕ, suc, Bool, true, ◌&&◌, List, [], ◌∷◌, Option, Some, None, bytes_eq, is_some, position, nat_lt, pos, if◌then◌else◌}
use Rattle.base.specs.declared.limits.TheConstants.{EXCEPTIONS}
use Rattle.ada_tree.specs.declared.expression.Identifier.{Identifier}
use Rattle.ada_tree.specs.declared.statement.ExceptionChoice.{ExceptionChoice}
use Rattle.ada_tree.specs.declared.statement.ExceptionChoice.TheVariants as choice
use Rattle.image.specs.declared.instruction.Operation.{Operation}
use Rattle.image.specs.declared.instruction.Operation.TheVariants as op
use Rattle.expr_soundness.specs.meaning.specs.Programs.{Program, exception_name, exception_number}
use Rattle.step_soundness.specs.Objects.{IsException}

-- numbers are those of places, from 1 on, in images, which have at most 36 exceptions (docs/FORMATS.md)
abbrev pub number_at : (place : Option ℕ) → Option ℕ
number_at None = None
number_at (Some place) = if nat_lt place EXCEPTIONS then Some (suc place) else None

abbrev pub number_among : (exceptions : List (List ℕ)) → (name : List ℕ) → Option ℕ
number_among exceptions name = number_at (position (bytes_eq name) exceptions)

-- its number, or the word that holds that of the handler around
abbrev pub pushed : Option ℕ → Option Operation
pushed None = None
pushed (Some number) = Some (op.Push (pos number))

abbrev pub loaded : Option ℕ → Option Operation
loaded None = None
loaded (Some word) = Some (op.LoadLocal word)

abbrev pub raised_by : (exceptions : List (List ℕ)) → (handled : Option ℕ) → Option Identifier → Option Operation
raised_by exceptions handled (Some name) = pushed (number_among exceptions name.name)
raised_by exceptions handled None = loaded handled

-- ---- where it is handled

-- the number for which a choice makes a row: 0 stands for all
abbrev pub choice_number : (exceptions : List (List ℕ)) → ExceptionChoice → Option ℕ
choice_number exceptions (choice.Exception name) = number_among exceptions name.name
choice_number exceptions (choice.Others place) = Some 0

abbrev pub are_numbered : (exceptions : List (List ℕ)) → List ExceptionChoice → Bool
are_numbered exceptions [] = true
are_numbered exceptions (c ∷ cs) = is_some (choice_number exceptions c) && are_numbered exceptions cs

-- each exception of the program has a name of its own, by which its number is found
abbrev pub AreNamed : Program → Type 0
AreNamed program = (x : ℕ) → IsException program x → exception_number program (exception_name program x) ≡ Some x
