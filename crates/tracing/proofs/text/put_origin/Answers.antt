use Rattle.std.proofs.Common.{◌∙◌, ap, sym, ◌++◌, append_assoc, codes, decimal}
use Rattle.tracing.specs.Traces.{origin_text}
use Rattle.tracing.proofs.text.put_origin.Goals as goal

pub returns-in-Some-clause-items : goal.returns-in-Some-clause-items
returns-in-Some-clause-items c =
    let row = c.args.row.now.items in
    let line = codes " at " ++ decimal c.in-Some.origin.line in
    let column = codes ":" ++ decimal c.in-Some.origin.column in
    c.put_number-in-Some.ensures.items
    ∙ ap (λ v. v ++ column) c.put_number.ensures.items
    ∙ append_assoc row line column
    ∙ ap (λ o. row ++ origin_text o) (sym c.in-Some.is)
