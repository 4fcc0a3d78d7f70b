use Rattle.std.proofs.Common.{[], ◌∷◌, ◌++◌, ◌+◌, ◌≤◌, ◌∙◌, ap, arith, length}
use Rattle.execution.specs.Held.{world_of}
use Rattle.waveforms.specs.Signals.{components, from_one, shown_object, variable_values}
use Rattle.waveforms.proofs.Added.{one_added}
use Rattle.waveforms.proofs.Counts.{next_first, within}
use Rattle.waveforms.proofs.values.add_objects.Goals as goal

pub add_object-requires-clause-room : goal.add_object-requires-clause-room
add_object-requires-clause-room g c =
    let test = c.loop-object-test.true in
    let end_ = c.objects-object-end.ensures.image in
    let le : c.loop-object.object + 1 ≤ length c.args.machine.now.image.objects = omega (arith, test, end_) in
    let fits = within c.args.scopes.now (length c.args.machine.now.image.tasks) c.loop-object.object (length c.args.machine.now.image.objects) le in
    omega (arith, fits, c.loop-object.invariant.1, c.loop-object.invariant.2, c.requires.room)

pub loop-object-preserved : goal.loop-object-preserved
loop-object-preserved g c =
    let w = world_of c.args.machine.now in
    let object = c.loop-object.object in
    let shown = components c.args.scopes.now object in
    let next = next_first c.args.scopes.now (length c.args.machine.now.image.tasks) object in (
      one_added _ _ _ (shown_object c.args.scopes.now w) object _ c.loop-object.invariant.0 c.add_object.ensures.items
          (ap (λ inside. (from_one inside ∷ from_one (w.kernel.queued object) ∷ []) ++ variable_values (w.rest.memory.objects object) shown) c.first_inside-inside.ensures),
      omega (arith, c.add_object.ensures.len, next, c.loop-object.invariant.1),
      c.add_object.ensures.capacity ∙ c.loop-object.invariant.2,
    )
