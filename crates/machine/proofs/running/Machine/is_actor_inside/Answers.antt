use Rattle.std.proofs.Common.{◌≡◌, Bool, true, false, cond, Option, Some, None, rules, refl, ap, ◌∙◌}
use Rattle.kernel.specs.Effects.{SameObject, AboveCeiling}
use Rattle.kernel.specs.State.{is_object_open}
use Rattle.tasking.specs.Held.{kernel_of, refused_as}
use Rattle.tasking.specs.protected.specs.declared.refusal.Refusal.{Refusal as Refused}
use Rattle.tasking.specs.protected.specs.declared.refusal.Refusal.TheVariants as refused
use Rattle.machine.proofs.running.Machine.is_actor_inside.Goals as goal

pub call_refusal-refusal-requires-clause-task : goal.call_refusal-refusal-requires-clause-task
call_refusal-refusal-requires-clause-task g c = c.is_there.ensures.there c.if-is_there.true

-- what is refused for another reason is outside
outside : (inside above : Bool) (told : Option Refused) → told ≡ refused_as (cond inside (Some SameObject) (cond above (Some AboveCeiling) None))
    → (told ≡ Some refused.SameObject → ⊥) → false ≡ inside
outside false above told is other = refl
outside true above told is other = absurd (other is)

pub returns-in_default : goal.returns-in_default
returns-in_default g c =
    let other : c.call_refusal-refusal.result ≡ Some refused.SameObject → ⊥ = search rules in
    outside _ _ _ c.call_refusal-refusal.ensures other
    ∙ ap (λ t. is_object_open c.args.object ((kernel_of t).actions c.args.actor)) (c.tasking-tasking.ensures.same ∙ ap (λ h. h.tasking) c.self.view_is)
