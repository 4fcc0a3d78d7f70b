use Rattle.std.proofs.Common.{◌∙◌, ◌≤◌, arith, length, sym}
use Rattle.waveforms.proofs.Changes.{new_over}
use Rattle.waveforms.proofs.text.put_changes.Goals as goal

pub returns-else-signal-after-clause-items : goal.returns-else-signal-after-clause-items
returns-else-signal-after-clause-items c =
    let high = c.if-signal-after.false in
    let over : length c.args.after.now ≤ c.loop-signal.signal = omega (arith, high) in
    sym (new_over c.loop-signal.text.items c.args.before.now c.args.after.now c.loop-signal.signal over) ∙ c.loop-signal.invariant.0
