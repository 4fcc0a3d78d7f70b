use Rattle.std.proofs.Common.{codes}
use Rattle.lowering_report.specs.Notes.{old_name_words}
use Rattle.lowering_report.proofs.Pieces.{three_pieces}
use Rattle.lowering_report.proofs.reports.put_old_name.Goals as goal

pub returns : goal.returns
unfolding old_name_words
returns c =
    three_pieces c.args.out.now.items _ _ _ (codes "note: ") c.args.name.now (codes " is renamed to ") c.in_ok-extend_from_slice.ensures.items
    c.in_ok-extend_from_slice-2.ensures.items c.in_ok-extend_from_slice-3.ensures.items
