use Rattle.std.proofs.Common.{◌≡◌, ◌∙◌, ◌+◌, ◌*◌, length, subst, sym}
use Rattle.base.specs.declared.limits.TheConstants.{OBJECTS}
use Rattle.tasking.specs.Held.{kernel_of}
use Rattle.tracing.specs.declared.calls.TheConstants.{ACTORS}
use Rattle.measuring.specs.Measures.{usage_measures}
use Rattle.measuring.specs.Stories.{with_step_inside}
use Rattle.measuring.specs.Tables.{IsGrid}
use Rattle.measuring.proofs.Inside.{inside_next, outside_next}
use Rattle.measuring.proofs.counting.note_step_inside.Goals as goal
use Rattle.measuring.proofs.counting.note_step_inside.Goals.{then-is_actor_inside, else-is_actor_inside}

pub loop-object-preserved : goal.loop-object-preserved
loop-object-preserved g c =
    let actions = (kernel_of c.args.before.now.tasking).actions c.args.ran in
    elim c.if-is_actor_inside.branch [
      | then-is_actor_inside w ↦ (
        λ used is.
            subst (λ table. IsGrid table (λ t o. usage_measures (with_step_inside (c.loop-object.object + 1) actions c.args.ran used t o))) (sym w.usages-is)
            (inside_next actions c.args.ran c.loop-object.object used w.note_usage.new.usages (sym c.is_actor_inside.ensures ∙ w.if-is_actor_inside.true)
            (w.note_usage.ensures.noted (with_step_inside c.loop-object.object actions c.args.ran used) (c.loop-object.invariant.0 used is))),
        subst (λ table. length table ≡ ACTORS * OBJECTS) (sym w.usages-is) w.note_usage.ensures.room,
      )
      | else-is_actor_inside w ↦ (
        λ used is.
            subst (λ table. IsGrid table (λ t o. usage_measures (with_step_inside (c.loop-object.object + 1) actions c.args.ran used t o))) (sym w.usages-is)
            (outside_next actions c.args.ran c.loop-object.object used c.loop-object.usages (sym c.is_actor_inside.ensures ∙ w.if-is_actor_inside.false) (c.loop-object.invariant.0 used is)),
        subst (λ table. length table ≡ ACTORS * OBJECTS) (sym w.usages-is) c.loop-object.invariant.1,
      )
    ]
