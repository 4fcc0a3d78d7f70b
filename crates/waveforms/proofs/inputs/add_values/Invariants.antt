use Rattle.std.proofs.Common.{◌≡◌, ◌+◌, ◌++◌, drop, map, vec_capacity, vec_len}
use Rattle.waveforms.specs.Signals.{input_value}
use Rattle.waveforms.proofs.inputs.add_values.Given as goal

-- the values of the channels that are left are still to come
abbrev pub invariant-loop-channel : goal.invariant-loop-channel
invariant-loop-channel l =
    (l.values.items ++ map (input_value l.schedule l.time) (drop l.channel-index l.channels) ≡ l.fn.values.items ++ map (input_value l.schedule l.time) l.channels)
    × (vec_len l.values ≡ vec_len l.fn.values + l.channel-index)
    × (vec_capacity l.values ≡ vec_capacity l.fn.values)
