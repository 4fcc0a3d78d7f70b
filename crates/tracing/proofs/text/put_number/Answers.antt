use Rattle.std.proofs.Common.{◌∙◌, ap, ◌++◌, append_assoc, decimal}
use Rattle.tracing.proofs.text.put_number.Goals as goal

pub returns-clause-items : goal.returns-clause-items
returns-clause-items c =
    let row = c.args.row.now.items in
    let words = c.args.words.now in
    c.put_count.ensures.items ∙ ap (λ v. v ++ decimal c.args.number) c.put.ensures.items ∙ append_assoc row words (decimal c.args.number)
