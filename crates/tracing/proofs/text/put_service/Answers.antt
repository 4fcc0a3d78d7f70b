use Rattle.std.proofs.Common.{◌++◌, sym, ap, ◌∙◌, codes}
use Rattle.tracing.specs.Traces.{event_text, row_names}
use Rattle.tracing.proofs.Words.{two}
use Rattle.tracing.proofs.text.put_service.Goals as goal

pub returns-in-Served-clause-items : goal.returns-in-Served-clause-items
returns-in-Served-clause-items g c =
    let name = c.as_slice.ensures.value ∙ c.actor_name.ensures.same in
    two c.args.row.now.items _ _ _ _ c.put_at.ensures.items
    (c.put_named.ensures.items ∙ ap (λ v. c.put_at.new.row.items ++ (codes " by " ++ v)) name)
    ∙ ap (λ e. c.args.row.now.items ++ event_text (row_names c.args.image.now c.args.objects.now (g.O.Origins.known c.args.origins.now)) e) (sym c.in-Served.is)
