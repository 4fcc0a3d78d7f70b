use Rattle.std.proofs.Common.{[], ◌<◌, ◌∙◌, ap, arith}
use Rattle.std.specs.Prelude.{slice_index_or}
use Rattle.tracing.specs.declared.calls.TheConstants.{ACTORS}
use Rattle.measuring.specs.Measures.{measures}
use Rattle.measuring.specs.Text.{shown_frames}
use Rattle.measuring.proofs.Rows.{one_added}
use Rattle.measuring.proofs.text.add_frames.Goals as goal

pub loop-actor-preserved : goal.loop-actor-preserved
loop-actor-preserved c m is =
    let less : c.loop-actor.actor < ACTORS = omega (arith, c.loop-actor-test.true, c.requires.few) in
    one_added _ _ _ (shown_frames c.args.form c.args.image.now m) c.loop-actor.actor _ (c.loop-actor.invariant m is) c.in_ok-extend_from_slice.ensures.items
    (c.as_slice.ensures.value ∙ c.shown_frames.ensures m (ap (λ k. slice_index_or c.args.actors.now k (measures [])) c.from.ensures ∙ is c.loop-actor.actor (measures []) less))
