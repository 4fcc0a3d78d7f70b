-- Where exceptions go on by rows of handlers, and code between two places that keeps the rules of images (RM 11.2, 11.4; docs/CODEGEN.md).
use Rattle.std.specs.Prelude.{◌≡◌, ◌≤◌, ◌<◌, ℕ, List, [], ◌∷◌, Some, None, if◌then◌else◌, slice_get}
use Rattle.handlers.specs.Innermost.{handles}
use Rattle.handlers.specs.declared.rows.Row.{Row}
use Rattle.image.specs.Sections.{Sections}
use Rattle.image.specs.declared.instruction.Instr.{Instr}
use Rattle.image.specs.declared.subprograms.Subprogram.{Subprogram}
use Rattle.expr_code.specs.Flows.{KeepsInstructionRules}
use Rattle.part_code.specs.Handling.{Handling}

-- ---- rows of handlers

-- where an exception goes on by rows of one region: where the first one leads that handles it
abbrev pub first_for : List Row → Handling
first_for [] x = None
first_for (q ∷ rows) x = if handles x q then Some q.target else first_for rows x

abbrev pub AreEachKept : Sections → Subprogram → (low high from to : ℕ) → Type 0
AreEachKept i s low high from to = (k : ℕ) (x : Instr) → from ≤ k → k < to → slice_get i.instructions k ≡ Some x → KeepsInstructionRules i s low high k x
