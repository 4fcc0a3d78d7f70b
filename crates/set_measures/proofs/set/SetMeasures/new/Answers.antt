use Rattle.std.proofs.Common.{◌∙◌, ap, map, refl}
use Rattle.set_measures.specs.Stepping.{new_row}
use Rattle.set_measures.proofs.Measured.{before_runs}
use Rattle.set_measures.proofs.set.SetMeasures.new.Goals as goal

pub returns : goal.returns
returns c until limit =
    before_runs c.args.image.now until limit (record { rows = c.in_ok-rows.rows; schedules = 0; cut = 0 }) c.in_ok-measures.measures.items
    c.in_ok-measures.ensures (c.in_ok-rows.ensures ∙ ap (map new_row) c.deref.ensures.value) refl refl
