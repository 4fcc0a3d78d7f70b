use Rattle.std.proofs.Common.{◌≡◌, ◌+◌, ◌++◌, drop}
use Rattle.waveforms.specs.Waves.{channels_text}
use Rattle.waveforms.proofs.declarations.add_channels.Given as goal

-- the declarations of the channels that are left are still to come
abbrev pub invariant-loop-channel : goal.invariant-loop-channel
invariant-loop-channel l =
    (l.text.items ++ channels_text l.signal (drop l.channel-index l.channels) ≡ l.fn.text.items ++ channels_text l.fn.first l.channels)
    × (l.signal ≡ l.fn.first + l.channel-index)
