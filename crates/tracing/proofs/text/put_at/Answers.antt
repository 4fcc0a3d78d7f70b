use Rattle.std.proofs.Common.{◌∙◌, ap, ◌++◌, append_assoc, slice_get}
use Rattle.tracing.specs.Traces.{named_object}
use Rattle.tracing.proofs.text.put_at.Goals as goal

pub returns-clause-items : goal.returns-clause-items
returns-clause-items c =
    let name = named_object c.args.object (slice_get c.args.objects.now c.args.object) in
    c.put_object.ensures.items ∙ ap (λ v. v ++ name) c.put.ensures.items ∙ append_assoc c.args.row.now.items c.args.words.now name
