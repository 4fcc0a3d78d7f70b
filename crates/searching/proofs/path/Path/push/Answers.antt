use Rattle.std.proofs.Common.{sym, subst}
use Rattle.searching.specs.Following.{AreCheckpoints}
use Rattle.searching.proofs.Crossed.{checkpoints_both}
use Rattle.searching.proofs.path.Path.push.Goals as goal

pub returns : goal.returns
returns c = λ i slots until limit wanted all is.
    subst (AreCheckpoints i slots until limit wanted) (sym c.in_ok-push.ensures.items)
    (checkpoints_both i slots until limit wanted c.self.inside.checkpoints.items _
    (subst (AreCheckpoints i slots until limit wanted) (sym c.self.view_is) (c.make_room.ensures i slots until limit wanted all)) (is, tt))
