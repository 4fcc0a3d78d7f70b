use Rattle.std.proofs.Common.{◌≡◌, of_z, rules, subst, to_z, w64}
use Rattle.execution.specs.Held.{world_of}
use Rattle.searching.specs.Meeting.{IsAtEnd}
use Rattle.searching.proofs.following.over.Goals as goal

pub returns-then-is_at_end : goal.returns-then-is_at_end
returns-then-is_at_end g c =
    let time = c.in-Some.time in
    let u : to_z w64 (of_z w64 time) ≡ time = search rules in (
      time,
      c.in-Some.ensures.0,
      subst (λ z. IsAtEnd z (world_of c.args.execution.now).kernel) u (c.is_at_end.ensures (search (rules, c.if-is_at_end.true))),
    )
