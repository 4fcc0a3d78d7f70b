use Rattle.std.proofs.Common.{subst, sym}
use Rattle.execution.specs.Held.{world_of}
use Rattle.image_laws.specs.Whole.{IsWhole}
use Rattle.execution.proofs.rooms.Rooms.resume.Goals as goal

pub invariant_of-result : goal.invariant_of-result
invariant_of-result g c =
    let state = c.resume_state-state.result in
    subst (λ h. IsWhole h.image (world_of h)) (sym c.in_ok-state.ensures.ok)
    (subst (λ i. IsWhole i (world_of state)) (sym c.resume_state-state.ensures.image)
    (subst (IsWhole c.args.self) (sym c.resume_state-state.ensures.world) c.requires.whole))
