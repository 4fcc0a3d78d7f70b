use Rattle.std.proofs.Common.{drop}
use Rattle.image_loading.specs.NumberRanges.{EachOf, RowFits}
use Rattle.image_loading.proofs.number_ranges.rows_fit.Given as goal

abbrev pub invariant-loop-row : goal.invariant-loop-row
invariant-loop-row l = EachOf RowFits (drop l.row-index l.fn.rows) → EachOf RowFits l.fn.rows
