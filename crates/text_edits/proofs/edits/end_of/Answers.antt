use Rattle.std.proofs.Common.{ap, sym, ◌∙◌}
use Rattle.text_edits.specs.Edits.{TextEdit}
use Rattle.text_edits.proofs.Added.{end_last}
use Rattle.text_edits.proofs.edits.end_of.Goals as goal

pub returns-in-len1-up : goal.returns-in-len1-up
returns-in-len1-up c =
    ap (λ s. s.end_) c.span.ensures ∙ ap (λ (e : TextEdit). e.span.end_) c.last-item.is ∙ sym (end_last c.args.edits.now c.last-item.result c.in-len1-up.len_at_least)
