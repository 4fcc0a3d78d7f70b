-- What a cell has of the signs of its column.
use Rattle.std.specs.Prelude.{ℕ, List, true, false, Some, None, codes}
use Rattle.charts.specs.declared.cell.Cell.{Cell}
use Rattle.charts.specs.declared.cell.Rest.{Rest}
use Rattle.charts.specs.declared.cell.Rest.TheVariants.{Nothing, Ready, Delayed, Queued}
use Rattle.charts.specs.declared.cell.Sign.{Sign}
use Rattle.charts.specs.declared.cell.Sign.TheVariants as signs

abbrev pub no_signs : Cell
no_signs = record { acts = false; is_preempted = false; is_late = false; is_unhandled = false; rests = None }

-- with one more sign, later than those before
abbrev pub noted : Sign → Cell → Cell
noted signs.Acts cell = record cell { acts = true }
noted signs.Preempted cell = record cell { is_preempted = true }
noted signs.Late cell = record cell { is_late = true }
noted signs.Unhandled cell = record cell { is_unhandled = true }
noted signs.Queues cell = record cell { acts = true; rests = Some Queued }
noted (signs.Rests rest) cell = record cell { rests = Some rest }

abbrev pub rest_mark : Rest → List ℕ
rest_mark Nothing = codes " "
rest_mark Ready = codes "="
rest_mark Delayed = codes "."
rest_mark Queued = codes "q"
