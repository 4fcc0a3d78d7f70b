use Rattle.dispatch.proofs.Rings.{popped}
use Rattle.dispatch.proofs.ring.Ring.pop_front.Goals as goal

pub returns-clause-left : goal.returns-clause-left
returns-clause-left c = popped c.self.inside.places c.args.self.now c.self.inside.start c.self.inside.count c.self.view_is
