use Rattle.std.proofs.Common.{drop}
use Rattle.image_loading.specs.NumberRanges.{EachOf, TaskNumbersFit}
use Rattle.image_loading.proofs.number_ranges.tasks_fit.Given as goal

abbrev pub invariant-loop-task : goal.invariant-loop-task
invariant-loop-task l = EachOf TaskNumbersFit (drop l.task-index l.fn.tasks) → EachOf TaskNumbersFit l.fn.tasks
