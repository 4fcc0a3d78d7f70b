-- The rows of handlers of one body among those of an image: others take nothing in its code.
use Rattle.std.proofs.Common.{◌≡◌, ℕ, ◌≤◌, List, [], ◌++◌, Option, Some, None, refl, ap, ◌∙◌, arith}
use Rattle.std.specs.List.{All}
use Rattle.image_laws.specs.handlers.specs.declared.rows.Row.{Row}
use Rattle.image_laws.specs.handlers.specs.Innermost.{handler_of}
use Rattle.image.specs.Sections.{Sections}
use Rattle.step_simulation.specs.part_code.specs.Handling.{GoesBy, GoesByRows, or_answer, unhandled}
use Rattle.stmt_code.proofs.AddedRows.{rows_first, rows_none, rows_second}
use Rattle.package_code.specs.Walking.{LieInFront}

or_none : (o : Option ℕ) → o ≡ or_answer o None
or_none (Some target) = refl
or_none None = refl

module _ (i : Sections) where
  -- where other rows lie in front of the code, and behind it
  pub goes_by_own : (before own after : List Row) (from to : ℕ) → i.rows ≡ before ++ (own ++ after) → LieInFront from before → All (λ q. to ≤ q.start) after
      → GoesByRows i own unhandled from to
  goes_by_own before own after from to rows front behind =
      rows_first i unhandled own after from to to (omega arith) behind
      (rows_second i unhandled before (own ++ after) 0 from to (omega arith) front
      (λ place x low high. ap (λ l. handler_of l place x) rows ∙ or_none (handler_of (before ++ (own ++ after)) place x)))

  -- code without rows of its own
  pub goes_past : (before after : List Row) (from to : ℕ) → i.rows ≡ before ++ after → LieInFront from before → All (λ q. to ≤ q.start) after
      → GoesBy i unhandled from to
  goes_past before after from to rows front behind = rows_none i unhandled from to (goes_by_own before [] after from to rows front behind)
