use Rattle.std.proofs.Common.{◌≡◌, drop}
use Rattle.expr_rules.specs.Findings.{noted}
use Rattle.ravenscar.specs.TaskingRules.{task_entries_faults}
use Rattle.ravenscar.proofs.tasking.task_entries_faults.Given as goal

abbrev pub invariant-loop-entry : goal.invariant-loop-entry
invariant-loop-entry l = noted l.found (task_entries_faults (drop l.entry-index l.entries)) ≡ noted l.fn.found (task_entries_faults l.entries)
