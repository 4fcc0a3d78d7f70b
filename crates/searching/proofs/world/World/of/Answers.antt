use Rattle.std.proofs.Common.{◌≡◌, None, ap, rules, subst, ◌∙◌}
use Rattle.std.specs.Prelude.{IfSome}
use Rattle.tasking.specs.Held.{kernel_of, sleepers_of}
use Rattle.searching.specs.Following.{StandThere}
use Rattle.searching.proofs.world.World.of.Goals as goal

pub returns : goal.returns
returns g c =
    let h = c.args.execution.now in
    let same = c.tasking-tasking.ensures.same in
    let on : (kernel_of h.tasking).outcome ≡ None = search (rules, same, c.outcome.ensures, c.is_some.ensures, c.if-is_some.false) in
    let places = subst (λ o. IfSome o (λ p. StandThere c.tasking-tasking.result.now p.items)) c.in-Some.is c.in_ok-places.ensures in
    record {
      time = search (rules, same, c.now-time.ensures);
      on = on;
      handler = c.handler-handler.ensures.same ∙ ap (λ t. t.handler) same;
      places = subst (λ t. StandThere t c.in-Some.places.items) same places;
      sleepers =
          ap sleepers_of (c.in_ok-sleepers.ensures ∙ c.as_slice.ensures.value)
          ∙ (c.sleepers-sleeping.ensures ∙ ap (λ t. (kernel_of t).sleepers) same);
      contents = c.in_ok-contents.ensures;
      whole = c.tasking-tasking.ensures.whole;
    }
