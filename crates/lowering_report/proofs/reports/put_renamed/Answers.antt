use Rattle.lowering_report.specs.Notes.{old_name_words, renamed_words}
use Rattle.lowering_report.proofs.Pieces.{two_pieces}
use Rattle.lowering_report.proofs.reports.put_renamed.Goals as goal

pub returns : goal.returns
unfolding renamed_words
returns c =
    two_pieces c.args.out.now.items _ _ (old_name_words c.args.name.now) c.args.other.now c.in_ok-put_old_name.ensures c.in_ok-extend_from_slice.ensures.items
