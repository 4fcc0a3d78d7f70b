use Rattle.std.proofs.Common.{◌≡◌, None, ap, rules, sym, ◌∙◌}
use Rattle.tasking.proofs.Pausing.{nobody_ready}
use Rattle.tasking.proofs.tasking.Tasking.is_idle.Goals as goal

pub returns-in-None-clause-ready : goal.returns-in-None-clause-ready
returns-in-None-clause-ready g c = λ e.
    let none : c.highest.result ≡ None = search (rules, c.is_none.ensures, e) in
    sym (ap (λ v. v.ready) c.self.view_is) ∙ nobody_ready (g.R.Ready.queues c.self.inside.ready) (sym c.highest.ensures.same ∙ none)
