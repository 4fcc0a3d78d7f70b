use Rattle.std.proofs.lemmas.Result.{IfOk-weaker}
use Rattle.adarun.proofs.CodeTold.{of_accepted, of_treeless, of_unaccepted, of_unspelled}
use Rattle.adarun.proofs.Compiling.{parsed}
use Rattle.adarun.proofs.code_told.told_of_code.Goals as goal

pub returns-in-Err : goal.returns-in-Err
returns-in-Err c =
    IfOk-weaker c.nothing_told.result _ _ (λ told h. of_unspelled c.args.text.now told.items h.0 c.in-Err.fault h.1 c.in-Err.ensures.fault)
    c.nothing_told.ensures

pub returns-in-Err-parse : goal.returns-in-Err-parse
returns-in-Err-parse c =
    IfOk-weaker c.nothing_told-in-Err-parse.result _ _
    (λ told h.
    of_treeless c.args.text.now told.items h.0 c.in-Err-parse.fault h.1 _ c.deref.result.now c.in-Ok.ensures.sound c.deref.ensures.value
    c.in-Err-parse.ensures.fault)
    c.nothing_told-in-Err-parse.ensures

pub accepted_of-requires : goal.accepted_of-requires
accepted_of-requires c = record { parsed = parsed _ _ _ c.in-Ok-parse.program c.in-Ok.ensures.sound c.deref.ensures.value c.in-Ok-parse.ensures.found }

pub returns : goal.returns
returns c =
    IfOk-weaker c.nothing_told-in-Err-accepted_of.result _ _
    (λ told h.
    of_unaccepted c.args.text.now told.items h.0 c.in-Err-accepted_of.fault h.1 _ c.deref.result.now c.in-Ok.ensures.sound c.deref.ensures.value
    c.in-Ok-parse.program c.in-Ok-parse.ensures.found c.in-Err-accepted_of.ensures.refused)
    c.nothing_told-in-Err-accepted_of.ensures

pub returns-in-Ok-accepted_of : goal.returns-in-Ok-accepted_of
returns-in-Ok-accepted_of c =
    IfOk-weaker c.told_of_accepted.result _ _
    (λ told h.
    of_accepted c.args.text.now told.items _ c.deref.result.now c.in-Ok-parse.program c.in-Ok-accepted_of.accepted c.in-Ok.ensures.sound c.deref.ensures.value
    c.in-Ok-parse.ensures.found c.in-Ok-accepted_of.ensures.same c.told_of_accepted.ensures.legal c.told_of_accepted.ensures.restricted
    c.deref-in-Ok-accepted_of.result.now c.deref-in-Ok-accepted_of.ensures.value h)
    c.told_of_accepted.ensures.told
