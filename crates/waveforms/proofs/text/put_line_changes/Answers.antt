use Rattle.std.proofs.Common.{◌∙◌, ◌+◌, ◌≤◌, arith, length, sym}
use Rattle.waveforms.proofs.Changes.{new_lines_over}
use Rattle.waveforms.proofs.text.put_line_changes.Goals as goal

pub returns-else-index-after-clause-items : goal.returns-else-index-after-clause-items
returns-else-index-after-clause-items c =
    let high = c.if-index-after.false in
    let index = c.loop-index.index in
    let over : length c.args.after.now ≤ index = omega (arith, high) in
    sym (new_lines_over c.loop-index.text.items c.args.before.now c.args.after.now (c.args.first + index) index over) ∙ c.loop-index.invariant.0
