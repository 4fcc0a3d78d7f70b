use Rattle.lowering_report.specs.Notes.{interrupt_words, channel_words}
use Rattle.lowering_report.proofs.Pieces.{two_pieces}
use Rattle.lowering_report.proofs.reports.put_channel.Goals as goal

pub returns : goal.returns
unfolding channel_words
returns c =
    two_pieces c.args.out.now.items _ _ (interrupt_words c.args.name.now) c.args.number.now c.in_ok-put_interrupt.ensures c.in_ok-extend_from_slice.ensures.items
