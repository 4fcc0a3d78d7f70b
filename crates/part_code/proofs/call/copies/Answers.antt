use Rattle.std.proofs.Common.{◌-◌, ap, ◌∙◌}
use Rattle.part_code.proofs.CopiesMade.{copied_end, copied_step, height_step}
use Rattle.part_code.proofs.call.copies.Goals as goal

pub loop-destination-preserved : goal.loop-destination-preserved
loop-destination-preserved c =
    let s = c.args.visible.now.scope in
    let all = c.args.destinations.now in (
      height_step s all _ _ c.loop-destination-test.true c.loop-destination.height _ c.loop-destination.invariant.0
          (c.below-rest.ensures ∙ ap (λ n. c.loop-destination.height - n - 1) c.words.ensures),
      copied_step s all _ _ c.loop-destination-test.true c.loop-destination.fragment c.copy.new.fragment _
          c.loop-destination.height c.loop-destination.invariant.0 c.in_ok-copy.ensures.made c.loop-destination.invariant.1,
    )

pub returns : goal.returns
returns c = record { made = copied_end c.args.visible.now.scope c.args.destinations.now _ _ _ c.loop-destination-test.false c.loop-destination.invariant.1 }
