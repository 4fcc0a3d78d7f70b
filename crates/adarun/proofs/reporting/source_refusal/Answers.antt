use Rattle.std.proofs.Common.{Some, subst, sym}
use Rattle.std.specs.Prelude.{IfOk, option_map}
use Rattle.adarun.specs.CodeTold.{IsCodeTold}
use Rattle.adarun.specs.Reporting.{IsSourceRefusal}
use Rattle.adarun.proofs.reporting.source_refusal.Goals as goal

pub returns : goal.returns
returns c =
    subst (λ t. IfOk c.refusal_of.result (λ report. IsSourceRefusal c.args.file.now t c.args.fault.now (option_map (λ bytes. bytes.items) report)))
    c.in_ok-text.ensures
    c.refusal_of.ensures

pub refusal_of-requires : goal.refusal_of-requires
refusal_of-requires c =
    let place = Some c.args.fault.now.place in
    subst (λ t. IsCodeTold c.args.fault.now.number place t c.deref.result.now) (sym c.in_ok-text.ensures)
    (subst (IsCodeTold c.args.fault.now.number place c.args.text.now) (sym c.deref.ensures.value)
    (subst (λ n. IsCodeTold n place c.args.text.now c.in_ok-code.code.items) c.from.ensures c.in_ok-code.ensures))
