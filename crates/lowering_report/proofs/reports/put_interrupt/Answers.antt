use Rattle.std.proofs.Common.{codes}
use Rattle.lowering_report.specs.Notes.{interrupt_words}
use Rattle.lowering_report.proofs.Pieces.{three_pieces}
use Rattle.lowering_report.proofs.reports.put_interrupt.Goals as goal

pub returns : goal.returns
unfolding interrupt_words
returns c =
    three_pieces c.args.out.now.items _ _ _ (codes "note: ") c.args.name.now (codes " is channel ") c.in_ok-extend_from_slice.ensures.items
    c.in_ok-extend_from_slice-2.ensures.items c.in_ok-extend_from_slice-3.ensures.items
