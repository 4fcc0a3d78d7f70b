use Rattle.std.proofs.Common.{◌≡◌, ◌+◌, [], ◌∷◌, arith, if◌then◌else◌, suc}
use Rattle.waveforms.specs.Signals.{has_line}
use Rattle.waveforms.proofs.Added.{one_added}
use Rattle.waveforms.proofs.inputs.channels_of.Goals as goal

pub loop-number-preserved : goal.loop-number-preserved
loop-number-preserved c =
    let number = c.loop-number.number in
    let e : number + 1 ≡ suc number = omega arith in (
      one_added [] _ _ (λ n. if has_line c.args.schedule.now (suc n) then suc n ∷ [] else []) number _ c.loop-number.invariant.0 c.add_channel.ensures.items
          (λ j. if has_line (c.lines.ensures j) (e j) then e j ∷ [] else []),
      omega (arith, c.add_channel.ensures.len, c.loop-number.invariant.1),
    )
