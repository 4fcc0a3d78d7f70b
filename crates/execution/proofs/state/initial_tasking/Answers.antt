use Rattle.std.proofs.Common.{◌≡◌, sym, subst, ◌∙◌, arith}
use Rattle.std.specs.Prelude.{IfOk}
use Rattle.kernel.specs.Effects.{begin}
use Rattle.kernel.specs.Invariant.{AreAttached, Fits}
use Rattle.image.specs.Code.{partition_of}
use Rattle.tasking.specs.Held.{kernel_of, pending_of}
use Rattle.execution.proofs.Handlers.{all_attached, pending_is}
use Rattle.execution.proofs.Starting.{fits_image, same_partition}
use Rattle.execution.proofs.state.initial_tasking.Goals as goal

pub start-requires-clause-priorities : goal.start-requires-clause-priorities
start-requires-clause-priorities g c =
    let same = same_partition c.args.image.now _ _ (c.deref.ensures.value ∙ c.in_ok-bases.ensures) (c.deref-2.ensures.value ∙ c.in_ok-ceilings.ensures) in
    subst Fits (sym same) (fits_image c.steps_whole.ensures.starts c.args.image.now c.instructions-instructions.ensures.well_formed)

pub start-requires-clause-channels : goal.start-requires-clause-channels
start-requires-clause-channels g c = let e = c.handling_objects-attached.ensures.channels in omega (arith, e)

pub start-requires-clause-attached : goal.start-requires-clause-attached
start-requires-clause-attached g c =
    let same = same_partition c.args.image.now _ _ (c.deref.ensures.value ∙ c.in_ok-bases.ensures) (c.deref-2.ensures.value ∙ c.in_ok-ceilings.ensures) in
    subst (λ p. AreAttached p (pending_of c.handling_objects-attached.result c.lines-lines.result.now)) (sym same)
    (subst (AreAttached (partition_of c.args.image.now)) (sym (pending_is c.args.image.now c.handling_objects-attached.result c.lines-lines.result.now c.args.schedule.now c.handling_objects-attached.ensures.objects c.lines-lines.ensures)) (all_attached c.args.image.now c.instructions-instructions.ensures.well_formed c.args.schedule.now))

pub returns : goal.returns
returns g c =
    let same = same_partition c.args.image.now _ _ (c.deref.ensures.value ∙ c.in_ok-bases.ensures) (c.deref-2.ensures.value ∙ c.in_ok-ceilings.ensures) in
    let pending = pending_is c.args.image.now c.handling_objects-attached.result c.lines-lines.result.now c.args.schedule.now c.handling_objects-attached.ensures.objects
    c.lines-lines.ensures in
    subst (λ k. IfOk c.start.result (λ tasking. kernel_of tasking ≡ k)) (λ j. begin (same j) (pending j)) c.start.ensures
