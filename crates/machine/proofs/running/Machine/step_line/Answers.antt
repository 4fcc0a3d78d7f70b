use Rattle.std.proofs.Common.{◌≡◌, None, Some, subst}
use Rattle.kernel.specs.State.{Outcome}
use Rattle.tasking.specs.Held.{kernel_of}
use Rattle.execution.specs.Held.{Leads, lines_of}
use Rattle.machine.proofs.Stepping.{line_stepped}
use Rattle.machine.proofs.running.Machine.step_line.Goals as goal

pub returns-clause-world : goal.returns-clause-world
returns-clause-world g c =
    let line = c.step.result in
    let next = c.step.new.self in
    line_stepped c.outcome_stays.ensures c.args.self.now next line
    (subst (λ h. (kernel_of h.tasking).outcome ≡ None → Leads 1 h next (lines_of h.image line)) c.self.view_is c.step.ensures.leads)
    (subst (λ h. (o : Outcome) → (kernel_of h.tasking).outcome ≡ Some o → (line ≡ None) × (next ≡ h)) c.self.view_is (λ o is. let ends = c.step.ensures.over o is in (ends.0, ends.1)))
