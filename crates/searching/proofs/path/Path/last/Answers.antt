use Rattle.std.proofs.Common.{◌<◌, ◌-◌, length, rules, sym, subst}
use Rattle.searching.proofs.Crossed.{checkpoint_at}
use Rattle.searching.specs.Following.{AreCheckpoints, IsCheckpoint}
use Rattle.searching.proofs.path.Path.last.Goals as goal

pub returns : goal.returns
returns c = λ i slots until limit wanted all.
    let items = c.self.inside.checkpoints.items in
    let some = c.if-count-eq0.false in
    let less : c.len-count.result - 1 < length items = search (rules, some, c.len-count.ensures) in
    subst (IsCheckpoint i slots until limit wanted) (sym c.index.ensures)
    (checkpoint_at i slots until limit wanted items (c.len-count.result - 1) c.index.result.now less
    (subst (AreCheckpoints i slots until limit wanted) (sym c.self.view_is) all))
