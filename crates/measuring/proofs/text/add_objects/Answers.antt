use Rattle.std.proofs.Common.{rules, [], ◌<◌, ◌∙◌, ap}
use Rattle.std.specs.Prelude.{slice_index_or}
use Rattle.tracing.specs.declared.calls.TheConstants.{ACTORS}
use Rattle.measuring.specs.Measures.{object_measures}
use Rattle.measuring.specs.Text.{shown_object}
use Rattle.measuring.proofs.Rows.{one_added}
use Rattle.measuring.proofs.text.add_objects.Goals as goal

pub loop-object-preserved : goal.loop-object-preserved
loop-object-preserved c m is =
    let less : c.loop-object.object < ACTORS = search rules in
    one_added _ _ _ (shown_object c.args.form c.args.image.now c.args.names.now m) c.loop-object.object _ (c.loop-object.invariant m is) c.in_ok-extend_from_slice.ensures.items
    (c.as_slice.ensures.value ∙ c.object_row.ensures m (ap (λ k. slice_index_or c.args.objects.now k (object_measures [])) c.from.ensures ∙ is c.loop-object.object (object_measures []) less))
