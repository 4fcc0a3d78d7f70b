use Rattle.std.proofs.Common.{◌≡◌, ◌+◌, ◌∙◌, suc, ap, arith}
use Rattle.remedies.specs.Likeness.{name_of}
use Rattle.remedies.specs.Misuse.{misused_name, unless_part}
use Rattle.remedies.specs.Recognition.{kind_at}
use Rattle.remedies.proofs.misuse.misused_here.Goals as goal

pub returns : goal.returns
returns c =
    let next : c.args.number + 1 ≡ suc c.args.number = omega arith in
    let here = c.kind_at.ensures ∙ ap (kind_at c.args.number) c.tokens.ensures.same in
    let after = c.kind_at-2.ensures ∙ (λ j. kind_at (next j) (c.tokens-2.ensures.same j)) in
    let misused = c.misused_name-construct.ensures ∙ ap (misused_name c.args.tokens.now) (c.name_of.ensures ∙ ap name_of here) in
    c.unless_part.ensures ∙ (λ j. unless_part (after j) (misused j))
