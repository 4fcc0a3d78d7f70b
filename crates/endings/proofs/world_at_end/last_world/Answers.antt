use Rattle.std.proofs.Common.{◌≡◌, ◌∙◌, ◌-◌, ◌/◌, ap, length, of_z, rules, subst, to_z, w64}
use Rattle.tasking.specs.Held.{kernel_of}
use Rattle.endings.specs.LastSteps.{no_steps, waiting_from}
use Rattle.endings.specs.declared.sources.TheConstants.{ACTORS}
use Rattle.endings.proofs.Noted.{Follows, last_world_is, lent_back}
use Rattle.endings.proofs.world_at_end.last_world.Goals as goal

pub returns-clause-world : goal.returns-clause-world
returns-clause-world g c =
    let a = c.in-Ok.machine in
    let b = c.follow.new.machine in
    let d = c.follow-2.new.machine in
    let half = c.follow.new.lasts in
    let all = c.follow-2.new.lasts in
    let none : c.deref_mut.result.now ≡ no_steps ACTORS = search rules in
    let many : c.in_ok-lasts.lasts.len ≡ length half = search rules in
    let many_at_end : c.in_ok-lasts.lasts.len ≡ length all = search rules in
    let given : c.deref_mut-2.result.now ≡ half = c.deref_mut-2.ensures.value ∙ lent_back _ half _ many in
    let left : c.deref.result.now ≡ all = c.deref.ensures.value ∙ lent_back _ all _ many_at_end in
    let now : to_z w64 (of_z w64 c.now.result) ≡ c.now.result = search rules in
    let middle : to_z w64 (of_z w64 c.now-middle.result) ≡ c.now-middle.result = search rules in
    let second = subst (λ s. Follows b.image b.schedule b s (c.args.limit - c.args.limit / 2) d all) given c.follow-2.ensures.steps in
    last_world_is c.args.image.now c.args.schedule.now c.args.limit a b d c.deref_mut.result.now half all c.in-Ok.ensures.stands c.in-Ok.ensures.image
    c.in-Ok.ensures.schedule none c.follow.ensures.steps c.follow.ensures.image c.follow.ensures.schedule second c.follow-2.ensures.image _
    c.runner_of.ensures
    (c.in_ok-waiting_in.ensures ∙ ap (λ s. waiting_from (kernel_of d.tasking).place s 0 (length d.image.tasks)) left)
    (now ∙ c.now.ensures) (middle ∙ c.now-middle.ensures)
