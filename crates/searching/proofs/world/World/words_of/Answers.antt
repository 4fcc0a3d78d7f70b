use Rattle.std.proofs.Common.{rules}
use Rattle.searching.proofs.Encoded.{encoded}
use Rattle.searching.proofs.world.World.words_of.Goals as goal

pub returns : goal.returns
returns g c = λ seen.
    encoded c.args.execution.now c.args.self.now c.rows-rows.result _ _ seen c.rows-rows.ensures c.in_ok-words.ensures
    (c.in_ok-are_added.ensures (search (rules, c.if-not-are_added.false)))
