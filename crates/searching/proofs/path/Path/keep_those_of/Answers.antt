use Rattle.std.proofs.Common.{sym, subst}
use Rattle.searching.specs.Following.{AreCheckpoints}
use Rattle.searching.proofs.Crossed.{checkpoints_taken}
use Rattle.searching.proofs.path.Path.keep_those_of.Goals as goal

pub loop-self-init : goal.loop-self-init
loop-self-init c = λ i slots until limit wanted all. subst (AreCheckpoints i slots until limit wanted) (sym c.self.view_is) all

pub returns-then-is_on_way_of : goal.returns-then-is_on_way_of
returns-then-is_on_way_of c = λ i slots until limit wanted all. c.loop-self.invariant i slots until limit wanted all

pub loop-self-preserved : goal.loop-self-preserved
loop-self-preserved c = λ i slots until limit wanted all.
    subst (AreCheckpoints i slots until limit wanted) (sym c.pop.ensures.rest)
    (checkpoints_taken i slots until limit wanted _ c.loop-self.self-inside.checkpoints.items (c.loop-self.invariant i slots until limit wanted all))

pub loop-self-preserved-else-is_on_way_of : goal.loop-self-preserved-else-is_on_way_of
loop-self-preserved-else-is_on_way_of c = λ i slots until limit wanted all.
    subst (AreCheckpoints i slots until limit wanted) (sym c.pop.ensures.rest)
    (checkpoints_taken i slots until limit wanted _ c.loop-self.self-inside.checkpoints.items (c.loop-self.invariant i slots until limit wanted all))

pub returns : goal.returns
returns c = λ i slots until limit wanted all. c.loop-self.invariant i slots until limit wanted all
