use Rattle.std.proofs.Common.{◌∙◌, ap, sym}
use Rattle.ada_tree.specs.StatementTree.{object_tree}
use Rattle.stmt_code.specs.Drafting.{adds}
use Rattle.stmt_code.specs.StatementCode.{local_object}
use Rattle.stmt_code.proofs.PartsAdded.{adds_nothing}
use Rattle.stmt_code.proofs.sketch.Sketch.local_object.Goals as goal

pub returns-in-None-clause-made : goal.returns-in-None-clause-made
returns-in-None-clause-made c =
    let m = c.args.self.now in
    sym (adds_nothing m)
    ∙ ap (λ o. adds m (local_object c.args.visible.now c.args.taken o (object_tree c.args.object.now).value)) (sym c.in-None.is ∙ c.subtype_of.ensures)
