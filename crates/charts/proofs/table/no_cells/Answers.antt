use Rattle.std.proofs.Common.{ap, subst, sym, ◌∙◌, length}
use Rattle.std.proofs.lemmas.List.{length-replicate}
use Rattle.std.specs.Prelude.{replicate}
use Rattle.charts.specs.Cells.{no_signs}
use Rattle.charts.specs.Signs.{nothing_seen}
use Rattle.charts.specs.Tables.{HoldsCells}
use Rattle.charts.specs.declared.table.TheConstants.{CELLS}
use Rattle.charts.proofs.Tabled.{none_seen}
use Rattle.charts.proofs.table.no_cells.Goals as goal

pub returns-clause-nothing : goal.returns-clause-nothing
returns-clause-nothing c = subst (λ table. HoldsCells table nothing_seen) (sym (c.in_ok-cells.ensures ∙ ap (replicate CELLS) c.new.ensures)) none_seen
