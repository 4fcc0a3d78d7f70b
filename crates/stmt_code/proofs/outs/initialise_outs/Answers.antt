use Rattle.std.proofs.Common.{refl}
use Rattle.stmt_code.proofs.WholesMade.{outs_end, outs_step}
use Rattle.stmt_code.proofs.outs.initialise_outs.Goals as goal

pub loop-formal-preserved : goal.loop-formal-preserved
loop-formal-preserved c =
    outs_step c.args.visible.now c.args.formals.now c.loop-formal.fragment c.initialise_out.new.fragment _ c.loop-formal.formal-index _ _
    c.loop-formal-test.true refl c.in_ok-initialise_out.ensures.made c.loop-formal.invariant

pub returns : goal.returns
returns c = record { made = outs_end c.args.visible.now c.args.formals.now _ _ c.loop-formal.formal-index c.loop-formal-test.false c.loop-formal.invariant }
