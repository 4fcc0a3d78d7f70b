use Rattle.std.proofs.Common.{IfSome, subst}
use Rattle.tasking.specs.Held.{kernel_of}
use Rattle.tasking.specs.Orderly.{StandsThere}
use Rattle.tasking.proofs.Delivering.{handler_there}
use Rattle.tasking.proofs.Moves.{seen}
use Rattle.tasking.proofs.tasking.Tasking.handler_inside.Goals as goal

pub is_inside-requires : goal.is_inside-requires
is_inside-requires g c =
    subst (λ o. IfSome o (λ t. StandsThere (kernel_of c.args.self.now) t)) c.in_ok-handler.was
    (handler_there (seen c.self.view_is) c.args.self.now c.self.view_is c.self.invariant)
