use Rattle.std.proofs.Common.{rules, ◌≡◌, ◌++◌, of_z, to_z, w64, sym, ap, ◌∙◌, codes}
use Rattle.std.specs.Fmt.{signed_decimal}
use Rattle.tracing.specs.Traces.{event_text, row_names}
use Rattle.tracing.proofs.Words.{two}
use Rattle.tracing.proofs.text.put_request.Goals as goal

pub returns-in-Waits-clause-items : goal.returns-in-Waits-clause-items
returns-in-Waits-clause-items g c =
    let row = c.args.row.now.items in
    let time : to_z w64 (of_z w64 c.in-Waits.until) ≡ c.in-Waits.until = search rules in
    two row _ _ _ _ (c.put_until.ensures.items ∙ ap (λ t. row ++ (codes "waits until " ++ signed_decimal t)) time) c.put_place.ensures.items
    ∙ ap (λ e. row ++ event_text (row_names c.args.image.now c.args.objects.now (g.O.Origins.known c.args.origins.now)) e) (sym c.in-Waits.is)
