use Rattle.std.proofs.Common.{refl}
use Rattle.waveforms.proofs.Declared.{channels_next}
use Rattle.waveforms.proofs.declarations.add_channels.Goals as goal

pub loop-channel-preserved : goal.loop-channel-preserved
loop-channel-preserved c =
    let l = c.loop-channel in
    channels_next c.args.text.now.items l.text.items c.add_channel.new.text.items c.args.first l.signal c.in_ok-signal.signal c.args.channels.now l.channel-index
    _ c.loop-channel-test.true refl l.invariant c.in_ok-add_channel.ensures c.in_ok-signal.ensures
