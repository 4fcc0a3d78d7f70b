use Rattle.std.proofs.Common.{ap}
use Rattle.execution.specs.Held.{HeldWorld}
use Rattle.execution.proofs.state.State.into_rooms.Goals as goal

pub invariant_of-result : goal.invariant_of-result
invariant_of-result g c = c.self.invariant

pub returns : goal.returns
returns g c = ap {A = HeldWorld} (λ h. h.image) c.self.view_is
