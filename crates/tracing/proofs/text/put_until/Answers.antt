use Rattle.std.proofs.Common.{rules, ◌≡◌, ◌∙◌, ap, ◌++◌, append_assoc, of_z, to_z, w64}
use Rattle.std.specs.Fmt.{signed_decimal}
use Rattle.tracing.proofs.text.put_until.Goals as goal

pub returns-clause-items : goal.returns-clause-items
returns-clause-items c =
    let row = c.args.row.now.items in
    let words = c.args.words.now in
    let time : to_z w64 (of_z w64 c.args.time) ≡ c.args.time = search rules in
    c.put_time.ensures.items
    ∙ ap (λ t. c.put.new.row.items ++ signed_decimal t) time
    ∙ ap (λ v. v ++ signed_decimal c.args.time) c.put.ensures.items
    ∙ append_assoc row words (signed_decimal c.args.time)
