use Rattle.std.specs.Prelude.{[], take}
use Rattle.adarun.specs.Reporting.{AddsRefusals}
use Rattle.adarun.proofs.reporting.fault_report.Given as goal

abbrev pub invariant-loop-fault : goal.invariant-loop-fault
invariant-loop-fault l = AddsRefusals l.file l.text [] (take l.fault-index l.faults) l.report.items
