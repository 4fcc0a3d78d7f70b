use Rattle.std.proofs.Common.{subst}
use Rattle.std.specs.Prelude.{IfSome}
use Rattle.searching.specs.Following.{IsMomentOf}
use Rattle.searching.proofs.Crossed.{crosses_from, met_quietly}
use Rattle.searching.proofs.crossing.cross.Goals as goal

pub returns-then-is_some-clause-met : goal.returns-then-is_some-clause-met
returns-then-is_some-clause-met g c = λ h until limit wanted now steps of rows.
    let slots = c.args.choices.now in
    let m = c.in-Some.moment in
    let is : IsMomentOf h m = subst (λ o. IfSome o (IsMomentOf h)) c.in-Some.is of in
    let from = crosses_from slots c.args.part c.args.choice.now until limit wanted h now c.args.left c.args.execution.now m steps is in
    met_quietly slots c.args.part c.args.choice.now until limit wanted h now c.args.left c.args.execution.now steps c.in_ok-met.met
    (c.in_ok-met.ensures.met h steps.stands.n from rows)

pub returns-then-is_some-clause-rows : goal.returns-then-is_some-clause-rows
returns-then-is_some-clause-rows g c = λ h until limit wanted now steps of rows.
    let slots = c.args.choices.now in
    let m = c.in-Some.moment in
    let is : IsMomentOf h m = subst (λ o. IfSome o (IsMomentOf h)) c.in-Some.is of in
    let from = crosses_from slots c.args.part c.args.choice.now until limit wanted h now c.args.left c.args.execution.now m steps is in
    c.in_ok-met.ensures.rows h steps.stands.n from rows

pub returns-clause-checkpoints : goal.returns-clause-checkpoints
returns-clause-checkpoints g c = λ h until limit wanted now steps of all.
    let is : IsMomentOf h c.in-Some.moment = subst (λ o. IfSome o (IsMomentOf h)) c.in-Some.is of in
    c.in_ok-keep_checkpoint.ensures h until limit wanted now is steps.within steps.stands all

pub returns-clause-rows : goal.returns-clause-rows
returns-clause-rows g c = λ h until limit wanted now steps of rows.
    let slots = c.args.choices.now in
    let m = c.in-Some.moment in
    let is : IsMomentOf h m = subst (λ o. IfSome o (IsMomentOf h)) c.in-Some.is of in
    let from = crosses_from slots c.args.part c.args.choice.now until limit wanted h now c.args.left c.args.execution.now m steps is in
    c.in_ok-met.ensures.rows h steps.stands.n from rows
