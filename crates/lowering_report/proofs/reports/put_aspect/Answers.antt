use Rattle.std.proofs.Common.{codes}
use Rattle.lowering_report.specs.Notes.{aspect_words}
use Rattle.lowering_report.proofs.Pieces.{three_pieces}
use Rattle.lowering_report.proofs.reports.put_aspect.Goals as goal

pub returns : goal.returns
unfolding aspect_words
returns c =
    three_pieces c.args.out.now.items _ _ _ (codes "note: aspect ") c.args.name.now (codes " left out") c.in_ok-extend_from_slice.ensures.items
    c.in_ok-extend_from_slice-2.ensures.items c.in_ok-extend_from_slice-3.ensures.items
