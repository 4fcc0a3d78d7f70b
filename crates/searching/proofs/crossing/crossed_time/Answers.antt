use Rattle.std.proofs.Common.{◌≡◌, of_z, rules, subst, sym, to_z, w64}
use Rattle.std.specs.Prelude.{◌<ℤ◌}
use Rattle.execution.specs.Held.{world_of}
use Rattle.likeness.specs.Worlds.{IsEarly}
use Rattle.searching.specs.Following.{CrossesAt, NoneBefore}
use Rattle.searching.specs.Meeting.{ArePartedAt}
use Rattle.searching.proofs.Crossed.{is_lt}
use Rattle.searching.proofs.crossing.crossed_time.Goals as goal

pub returns : goal.returns
returns g c =
    let time = c.in_ok-time.time in
    let u : to_z w64 (of_z w64 time) ≡ time = search rules in
    let slots = c.args.choices.now in
    let m = c.args.moment.now in
    let lt : m.world.time <ℤ time = search (rules, c.if-time.false, c.time.ensures, c.world.ensures) in
    let at : CrossesAt slots m c.args.execution.now c.args.front time = record {
      parted = subst (λ s. ArePartedAt time c.args.front s) c.slots.ensures.same c.in_ok-time.ensures.0;
      late = c.in_ok-time.ensures.1;
      early = is_lt m.world.time time lt;
      none = subst (λ z. NoneBefore z m.next) u (c.is_interrupted_before.ensures (search (rules, c.if-is_interrupted_before.false)));
      crossed = subst (λ z. IsEarly z (world_of c.args.execution.now).kernel → ⊥) u (c.has_come_to.ensures (search (rules, c.if-not-has_come_to.false)));
    } in
    subst (CrossesAt slots m c.args.execution.now c.args.front) (sym u) at
