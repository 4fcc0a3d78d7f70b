-- Runs of an image: outcomes stay and lines grow.
use Rattle.std.proofs.Common.{ap, ◌∙◌}
use Rattle.kernel.specs.Laws.{LinesGrow}
use Rattle.kernel.specs.Worlds.{among}
use Rattle.kernel.specs.RunLaws.{run_lines, run_over, run_plus}
use Rattle.image.specs.Code.{code, start}
use Rattle.image.specs.Steps.{behaviour}
use Rattle.image_laws.specs.Laws.{LinesGrowOn, OutcomeStays}

pub outcome_stays : OutcomeStays
outcome_stays i schedule m n o is =
    run_plus (among (behaviour i schedule)) m n (start i schedule) ∙ run_over (among (behaviour i schedule)) n (code i schedule m) o is

pub lines_grow_on : LinesGrow → LinesGrowOn
lines_grow_on grow i schedule m n =
    let f = among (behaviour i schedule) in
    let x = run_lines f grow n (code i schedule m) in
    (x.0, ap (λ w. w.kernel.lines) (run_plus f m n (start i schedule)) ∙ x.1)
