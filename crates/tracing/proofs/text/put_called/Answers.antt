use Rattle.std.proofs.Common.{◌∙◌, ap, sym, ◌++◌, append_assoc, append-nil, slice_get, codes, option_map}
use Rattle.tracing.specs.Traces.{named_object, operation_text}
use Rattle.tracing.proofs.text.put_called.Goals as goal

pub returns-in-Some-clause-items : goal.returns-in-Some-clause-items
returns-in-Some-clause-items g c =
    let row = c.args.row.now.items in
    let at = c.args.words.now ++ named_object c.args.object (slice_get c.args.objects.now c.args.object) in
    let known = sym c.operation_at.ensures ∙ ap (option_map (λ name. name.now)) c.in-Some.is in
    let name = ap (λ v. codes "." ++ v) c.as_bytes.ensures.same ∙ ap operation_text (sym known) in
    c.put_named.ensures.items ∙ ap (λ v. v ++ (codes "." ++ c.as_bytes.result.now)) c.put_at.ensures.items ∙ append_assoc row at (codes "." ++ c.as_bytes.result.now)
    ∙ ap (λ v. row ++ (at ++ v)) name

pub returns-in-None-clause-items : goal.returns-in-None-clause-items
returns-in-None-clause-items g c =
    let row = c.args.row.now.items in
    let at = c.args.words.now ++ named_object c.args.object (slice_get c.args.objects.now c.args.object) in
    let known = sym c.operation_at.ensures ∙ ap (option_map (λ name. name.now)) c.in-None.is in
    c.put_at.ensures.items ∙ ap (λ v. row ++ v) (sym (append-nil at)) ∙ ap (λ v. row ++ (at ++ operation_text v)) (sym known)
