use Rattle.std.proofs.Common.{drop, length, sym, subst, ap, ◌∙◌, arith}
use Rattle.kernel.specs.Invariant.{AreAttached}
use Rattle.image.specs.Code.{partition_of}
use Rattle.tasking.specs.Held.{kernel_of, pending_of}
use Rattle.execution.proofs.Handlers.{all_attached, pending_is}
use Rattle.execution.proofs.rooms.resume_tasking.Goals as goal

pub lines_from-lines-requires : goal.lines_from-lines-requires
lines_from-lines-requires g c = let few = c.requires.passed in let same = ap length c.lines.ensures in omega (arith, few, same)

pub resume-requires-clause-channels : goal.resume-requires-clause-channels
resume-requires-clause-channels g c = let e = c.handling_objects-attached.ensures.channels in omega (arith, e)

pub resume-requires-clause-attached : goal.resume-requires-clause-attached
resume-requires-clause-attached g c =
    let i = c.args.image.now in
    let attached = c.handling_objects-attached.result in
    let lines = c.lines_from-lines.result.now in
    let left = drop c.args.passed c.args.schedule.now in
    let pending = pending_is i attached lines left c.handling_objects-attached.ensures.objects (c.lines_from-lines.ensures ∙ ap (drop c.args.passed) c.lines.ensures) in
    subst (λ p. AreAttached p (pending_of attached lines)) (sym c.requires.partition)
    (subst (AreAttached (partition_of i)) (sym pending) (all_attached i c.instructions-instructions.ensures.well_formed left))

pub returns-clause-kernel : goal.returns-clause-kernel
returns-clause-kernel g c =
    let i = c.args.image.now in
    let attached = c.handling_objects-attached.result in
    let lines = c.lines_from-lines.result.now in
    let left = drop c.args.passed c.args.schedule.now in
    let pending = pending_is i attached lines left c.handling_objects-attached.ensures.objects (c.lines_from-lines.ensures ∙ ap (drop c.args.passed) c.lines.ensures) in
    c.resume.ensures.kernel ∙ ap (λ p. record (kernel_of c.args.pause.now) { pending = p }) pending
