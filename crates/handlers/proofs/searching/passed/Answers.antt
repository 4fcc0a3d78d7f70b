use Rattle.std.proofs.Common.{sym, ◌∙◌}
use Rattle.handlers.proofs.Halving.{passed_half, stayed_half}
use Rattle.handlers.proofs.searching.passed.Goals as goal

pub loop-left-preserved-then-is_passed : goal.loop-left-preserved-then-is_passed
loop-left-preserved-then-is_passed g c =
    let i = c.loop-left.invariant in
    let k =
    passed_half c.args.edges.now c.requires c.args.place c.loop-left.low c.loop-left.left _ c.loop-left.probes.places i.0 i.1 i.2 i.3 c.loop-left-test.true _ _ c.index-edges-low.is
    c.is_passed.ensures.places (sym c.is_passed.ensures.passed ∙ c.if-is_passed.true) in
    (k.within, k.front, k.behind, k.halved, c.is_passed.ensures.exceptions ∙ i.4)

pub loop-left-preserved : goal.loop-left-preserved
loop-left-preserved g c =
    let i = c.loop-left.invariant in
    let k =
    stayed_half c.args.edges.now c.requires c.args.place c.loop-left.low c.loop-left.left _ c.loop-left.probes.places i.0 i.1 i.2 i.3 c.loop-left-test.true _ _ c.index-edges-low.is
    c.is_passed.ensures.places (sym c.is_passed.ensures.passed ∙ c.if-is_passed.false) in
    (k.within, k.front, k.behind, k.halved, c.is_passed.ensures.exceptions ∙ i.4)
