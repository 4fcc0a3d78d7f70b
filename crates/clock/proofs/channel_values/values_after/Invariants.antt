use Rattle.std.proofs.Common.{◌≡◌, ◌++◌, drop}
use Rattle.clock.specs.ChannelValues.{no_values, values_from}
use Rattle.clock.proofs.channel_values.values_after.Given as goal

-- the rest of the lines makes the other rows, from the values so far
abbrev pub invariant-loop-line : goal.invariant-loop-line
invariant-loop-line l = l.rows.items ++ values_from l.values (drop l.line-index l.lines) ≡ values_from no_values l.lines
