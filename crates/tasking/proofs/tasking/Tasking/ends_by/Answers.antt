use Rattle.std.proofs.Common.{ap, sym, ◌∙◌}
use Rattle.kernel.specs.Dispatching.{becomes_ready}
use Rattle.kernel.specs.Effects.{ends, outer_of, with_actions}
use Rattle.tasking.specs.Held.{ending_as, kernel_of}
use Rattle.tasking.proofs.Waking.{again_ready}
use Rattle.tasking.proofs.tasking.Tasking.ends_by.Goals as goal

pub returns-in-HandsBack : goal.returns-in-HandsBack
returns-in-HandsBack g c =
    let k = kernel_of c.args.self.now in
    let t = c.args.task in
    let outer = outer_of (k.actions t) in
    let u = c.in-HandsBack.caller in
    c.becomes_ready.ensures
    ∙ (ap (becomes_ready u) c.closes-in-HandsBack.ensures
    ∙ (again_ready u (with_actions t outer k) ∙ ap (λ e. ends t (ending_as e) outer k) (sym c.in-HandsBack.is)))
