use Rattle.std.proofs.Common.{[], subst, sym}
use Rattle.adarun.specs.CodeTold.{TellsCode}
use Rattle.adarun.specs.Reporting.{AddsNone, AddsRefusals}
use Rattle.adarun.proofs.Reported.{adds_next}
use Rattle.adarun.proofs.reporting.fault_report.Goals as goal

pub loop-fault-init : goal.loop-fault-init
loop-fault-init c = subst (AddsRefusals c.args.file.now c.args.text.now [] []) (sym c.new-report.ensures.items) AddsNone

pub loop-fault-preserved : goal.loop-fault-preserved
loop-fault-preserved c =
    adds_next c.args.file.now c.args.text.now c.in_ok-parsed.parsed c.in_ok-parsed.ensures c.args.faults.now c.loop-fault.fault-index _ c.loop-fault.report.items
    c.put_refusal.new.out.items c.loop-fault-test.true c.loop-fault.invariant c.in_ok-put_refusal.ensures

pub put_refusal-requires : goal.put_refusal-requires
put_refusal-requires c =
    subst (λ t. TellsCode t c.deref.result.now) (sym c.in_ok-parsed.ensures)
    (subst (TellsCode c.args.text.now) (sym c.deref.ensures.value) c.in_ok-code.ensures)
