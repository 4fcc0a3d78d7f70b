use Rattle.std.proofs.Common.{◌≡◌, drop, length}
use Rattle.charts.specs.Signs.{Cells, with_events}
use Rattle.charts.specs.Tables.{HoldsCells}
use Rattle.charts.specs.declared.table.TheConstants.{CELLS}
use Rattle.charts.proofs.table.note_events.Given as goal

-- what is left leads to what all lead to
abbrev pub invariant-loop-event : goal.invariant-loop-event
invariant-loop-event l =
    ((shown : Cells) → HoldsCells l.fn.cells shown → (now : Cells) × HoldsCells l.cells now × (with_events l.fn.column (drop l.event-index l.fn.events) now ≡ with_events l.fn.column l.fn.events shown))
    × (length l.cells ≡ CELLS)
