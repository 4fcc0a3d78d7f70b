use Rattle.std.proofs.Common.{◌∙◌, ap, ◌++◌}
use Rattle.tracing.specs.Traces.{origin_text}
use Rattle.tracing.proofs.text.put_place.Goals as goal

pub returns-clause-items : goal.returns-clause-items
returns-clause-items g c = c.put_origin.ensures.items ∙ ap (λ o. c.args.row.now.items ++ origin_text o) c.origin_at.ensures
