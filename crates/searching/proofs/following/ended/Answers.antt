use Rattle.std.proofs.Common.{◌≡◌, of_z, rules, subst, to_z, w64}
use Rattle.execution.specs.Held.{world_of}
use Rattle.searching.specs.Judging.{JudgedOutcome}
use Rattle.searching.specs.declared.one.Answer.TheVariants as answers
use Rattle.searching.proofs.Along.{ends_over}
use Rattle.searching.proofs.following.ended.Goals as goal

pub returns-in-Nothing : goal.returns-in-Nothing
returns-in-Nothing g c =
    let u : to_z w64 (of_z w64 c.args.now) ≡ c.args.now = search rules in
    let judged = subst (JudgedOutcome c.args.wanted c.args.outcome (to_z w64 (of_z w64 c.args.now))) c.in-Nothing.is c.outcome_found.ensures in
    ends_over c.args.slots.now c.args.wanted c.args.outcome c.args.now (world_of c.args.execution.now).kernel c.over.result
    (subst (λ z. JudgedOutcome c.args.wanted c.args.outcome z answers.Nothing) u judged) c.over.ensures
