use Rattle.std.proofs.Common.{◌++◌, sym, ap, ◌∙◌}
use Rattle.tracing.specs.Traces.{event_text, origin_text, row_names}
use Rattle.tracing.proofs.Words.{two}
use Rattle.tracing.proofs.text.put_trouble.Goals as goal

pub returns-in-RaisesAtCall-clause-items : goal.returns-in-RaisesAtCall-clause-items
returns-in-RaisesAtCall-clause-items g c =
    let row = c.args.row.now.items in
    two row _ _ _ _
    (two row _ _ _ _ c.put_exception-in-RaisesAtCall.ensures.items c.put.ensures.items)
    (c.put_origin-in-RaisesAtCall.ensures.items ∙ ap (λ o. c.put.new.row.items ++ origin_text o) c.origin_of-in-RaisesAtCall.ensures)
    ∙ ap (λ e. row ++ event_text (row_names c.args.image.now c.args.objects.now (g.O.Origins.known c.args.origins.now)) e) (sym c.in-RaisesAtCall.is)
