use Rattle.std.proofs.Common.{◌∙◌, ap, ◌++◌, append_assoc}
use Rattle.tracing.proofs.text.put_named.Goals as goal

pub returns-clause-items : goal.returns-clause-items
returns-clause-items c =
    c.put-2.ensures.items ∙ ap (λ v. v ++ c.args.name.now) c.put.ensures.items ∙ append_assoc c.args.row.now.items c.args.words.now c.args.name.now
