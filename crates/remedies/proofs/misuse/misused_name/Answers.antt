use Rattle.std.proofs.Common.{◌≡◌, ◌-◌, ◌∙◌, ap, arith, length, option_map, sym}
use Rattle.remedies.specs.Likeness.{first_where, introduces_same}
use Rattle.remedies.specs.Misuse.{introduced_as, misused_name, or_predefined}
use Rattle.remedies.proofs.misuse.misused_name.Goals as goal

pub returns-in-Some : goal.returns-in-Some
returns-in-Some c =
    let ts = c.args.tokens.now in
    let all : length ts - 0 ≡ length ts = omega arith in
    let first = c.first_same-number.ensures ∙ ap (first_where (introduces_same c.in-Some.name.now ts) 0) all in
    c.or_predefined.ensures
    ∙ ap (or_predefined c.in-Some.name.now) (c.introduced_as.ensures ∙ (λ j. introduced_as (c.tokens.ensures.same j) (first j)))
    ∙ sym (ap (λ n. misused_name ts (option_map (λ m. m.now) n)) c.in-Some.is)
