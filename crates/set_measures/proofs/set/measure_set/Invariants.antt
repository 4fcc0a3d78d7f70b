use Rattle.std.proofs.Common.{List}
use Rattle.base.specs.declared.schedule.ScheduleLine.{ScheduleLine}
use Rattle.set_measures.specs.Sets.{IsMeasuredOn}
use Rattle.set_measures.specs.Stepping.{Left}
use Rattle.set_measures.proofs.Going.{runs_left}
use Rattle.set_measures.proofs.set.measure_set.Given as goal

abbrev pub invariant-loop-is_more : goal.invariant-loop-is_more
invariant-loop-is_more g l =
    (passed : List (List ScheduleLine)) × IsMeasuredOn l.image passed l.until l.limit l.measures × Left l.is_more l.choices passed l.choice

abbrev pub decreases-loop-is_more : goal.decreases-loop-is_more
decreases-loop-is_more g l = runs_left l.choices l.is_more l.choice
