use Rattle.std.proofs.Common.{◌≡◌, Some, ap, of_z, rules, subst, sym, to_z, w64, ◌∙◌}
use Rattle.std.specs.Prelude.{option_map}
use Rattle.searching.specs.Following.{IsCheckpoint}
use Rattle.searching.proofs.Crossed.{checkpoint_of}
use Rattle.searching.proofs.crossing.keep_checkpoint.Goals as goal

pub returns : goal.returns
returns g c = λ h until limit wanted now of within stands all.
    let slots = c.args.choices.now in
    let time = c.in-Some.time in
    let u : to_z w64 (of_z w64 time) ≡ time = search rules in
    let pause = c.in-Some-pause.pause.value in
    let copied : c.args.moment.pause ≡ Some pause = sym c.into_parts-world.ensures.pause ∙ ap (option_map (λ b. b.value)) c.in-Some-pause.is in
    let is = c.in_ok-checkpoint.ensures
    ∙ (λ j. record { choice = c.args.choice.now; front = c.args.front; time = u j; left = c.args.left; world = c.into_parts-world.ensures.world j; pause = pause }) in
    c.in_ok-push.ensures h.image slots until limit wanted all
    (subst (IsCheckpoint h.image slots until limit wanted) (sym is)
    (checkpoint_of slots until limit wanted c.args.choice.now h c.args.moment now c.args.left c.args.execution.now c.args.front time pause of within stands
    c.in-Some.ensures copied))
