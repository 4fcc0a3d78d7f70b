use Rattle.ada_tree.specs.StatementTree.{object_tree}
use Rattle.stmt_code.proofs.DeclarationsMade.{object_declared}
use Rattle.stmt_code.proofs.sketch.Sketch.declare.Goals as goal

pub returns : goal.returns
returns c = record {
  declares = object_declared c.args.visible.now _ c.args.taken _ c.args.self.now _ _ (object_tree c.args.object.now) c.in_ok-first.first _
      c.in_ok-first.ensures.place c.in_ok-more.ensures.made c.in_ok-mark.ensures.made c.narrow.ensures c.in_ok-show_object.ensures.shown
      c.in_ok-more.ensures.more;
}
