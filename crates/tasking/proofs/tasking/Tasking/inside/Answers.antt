use Rattle.std.proofs.Common.{◌++◌, ◌∷◌, [], ap, sym, ◌∙◌}
use Rattle.kernel.specs.State.{inside_among}
use Rattle.tasking.specs.Held.{kernel_of}
use Rattle.tasking.proofs.Delivering.{inside_is, one_more}
use Rattle.tasking.proofs.Moves.{seen}
use Rattle.tasking.proofs.tasking.Tasking.inside.Goals as goal

pub returns-in-Some : goal.returns-in-Some
returns-in-Some g c =
    let k = kernel_of c.args.self.now in
    c.push.ensures.items
    ∙ (ap (λ l. l ++ c.in-Some.handler ∷ []) c.tasks_inside-tasks.ensures.tasks
    ∙ (ap (one_more (inside_among k.partition.tasks k c.args.object)) (sym c.in-Some.is ∙ c.handler_inside.ensures)
    ∙ inside_is (seen c.self.view_is) c.args.self.now c.self.view_is c.self.invariant c.args.object))

pub returns-in_default : goal.returns-in_default
returns-in_default g c =
    let k = kernel_of c.args.self.now in
    c.tasks_inside-tasks.ensures.tasks
    ∙ (ap (one_more (inside_among k.partition.tasks k c.args.object)) (sym c.in_default.is ∙ c.handler_inside.ensures)
    ∙ inside_is (seen c.self.view_is) c.args.self.now c.self.view_is c.self.invariant c.args.object)
