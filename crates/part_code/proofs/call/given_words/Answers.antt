use Rattle.std.proofs.Common.{◌+◌, ap, ◌∙◌}
use Rattle.part_code.proofs.CopiesMade.{counted_end, counted_step}
use Rattle.part_code.proofs.call.given_words.Goals as goal

pub loop-destination-preserved : goal.loop-destination-preserved
loop-destination-preserved c =
    counted_step c.args.visible.now.scope c.args.destinations.now c.loop-destination.destination-index _ c.loop-destination-test.true
    c.loop-destination.all _ _ _ (c.in_ok-value.ensures.more ∙ ap (λ n. c.loop-destination.all + n) c.words-words.ensures)
    c.in_ok-all.ensures.more c.loop-destination.invariant

pub returns : goal.returns
returns c = record { words = counted_end c.args.visible.now.scope c.args.destinations.now _ _ _ c.loop-destination-test.false c.loop-destination.invariant }
