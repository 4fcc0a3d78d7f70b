use Rattle.std.proofs.Common.{◌≡◌, subst, sym}
use Rattle.std.specs.Prelude.{IfSome}
use Rattle.tasking.specs.Held.{kernel_of}
use Rattle.searching.specs.Following.{Standing}
use Rattle.searching.proofs.beginning.begin.Goals as goal

pub returns-in_default-clause-stands : goal.returns-in_default-clause-stands
returns-in_default-clause-stands c = λ until wanted all. c.in_ok-begun.ensures.stands until wanted

pub returns-in_default-last_for-clause-stands : goal.returns-in_default-last_for-clause-stands
returns-in_default-last_for-clause-stands c = λ until wanted all. c.in_ok-begun-2.ensures.stands until wanted

pub resume-requires-clause-rooms : goal.resume-requires-clause-rooms
resume-requires-clause-rooms c = subst (λ o. IfSome o (λ r. r.value ≡ c.args.image.now)) c.in-Some.is c.requires.rooms

pub resume-requires-clause-on_way : goal.resume-requires-clause-on_way
resume-requires-clause-on_way c = c.in-Some-last_for.ensures.on_way

pub resume-requires-clause-checkpoint : goal.resume-requires-clause-checkpoint
resume-requires-clause-checkpoint c =
    let x = c.requires.checkpoints in (
      x.0,
      x.1,
      c.in-Some-last_for.ensures.kept c.args.image.now c.args.choices.now x.0 c.args.limit x.1 x.2,
    )

pub returns-clause-stands : goal.returns-clause-stands
returns-clause-stands c = λ until wanted all.
    let h = c.in_ok-execution.execution in
    subst (λ n. Standing c.args.image.now c.args.schedule.now until c.args.limit wanted h (kernel_of h.tasking).now n) (sym c.left-left.ensures)
    (c.in_ok-execution.ensures.stands until wanted (c.in-Some-last_for.ensures.kept c.args.image.now c.args.choices.now until c.args.limit wanted all))
