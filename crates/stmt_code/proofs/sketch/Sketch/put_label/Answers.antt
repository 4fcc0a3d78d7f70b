use Rattle.std.proofs.Common.{ap, refl, ◌∙◌}
use Rattle.image.specs.declared.instruction.Operation.TheVariants as op
use Rattle.expr_code.specs.Pieces.{narrow, one}
use Rattle.stmt_code.proofs.PartsAdded.{labelled_made}
use Rattle.stmt_code.proofs.sketch.Sketch.put_label.Goals as goal

pub returns : goal.returns
returns c = record {
  made = labelled_made _ _ _ c.args.label.now (λ n. one 1 (op.PutLine n)) _ _ _ c.self.view_is (c.narrow.ensures ∙ ap narrow c.in_ok-place.ensures.place)
      c.in_ok-place.ensures.labels c.in_ok-put.ensures.made refl;
}
