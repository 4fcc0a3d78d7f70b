-- The rows of choices of handlers (RM 11.2; docs/FORMATS.md).
use Rattle.std.specs.Prelude.{ℕ, List, [], ◌∷◌, Option, Some, None}
use Rattle.ada_tree.specs.declared.statement.ExceptionChoice.{ExceptionChoice}
use Rattle.handlers.specs.declared.rows.Row.{Row}
use Rattle.part_code.specs.Raising.{choice_number}

-- ---- rows of handlers

-- the row of a choice, which covers and leads to what another row does
abbrev pub row_for : Row → Option ℕ → Row
row_for q None = q
row_for q (Some exception) = record q { exception = exception }

abbrev pub choice_rows : (exceptions : List (List ℕ)) → Row → List ExceptionChoice → List Row
choice_rows exceptions q [] = []
choice_rows exceptions q (c ∷ cs) = row_for q (choice_number exceptions c) ∷ choice_rows exceptions q cs
