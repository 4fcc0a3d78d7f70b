use Rattle.std.proofs.Common.{◌≡◌, [], ◌∷◌, None, rules, sym, subst}
use Rattle.kernel.specs.Text.{line_text as text_line}
use Rattle.image.specs.Texts.{names_of}
use Rattle.tasking.specs.Held.{kernel_of}
use Rattle.execution.specs.Held.{Leads, line_of}
use Rattle.machine.proofs.Stepping.{step_done, step_line, step_over, step_quiet}
use Rattle.machine.proofs.running.Machine.step.Goals as goal

pub returns-in-Some-clause-world : goal.returns-in-Some-clause-world
returns-in-Some-clause-world g c = λ m stands. step_over c.outcome_stays.ensures c.args.self.now m stands c.in-Some.outcome c.in-Some.ensures.outcome c.in-Some.ensures.last

pub returns-in-Some-step-clause-world : goal.returns-in-Some-step-clause-world
returns-in-Some-step-clause-world g c = λ m stands.
    let none : (kernel_of c.args.self.now.tasking).outcome ≡ None = search rules in
    let line = c.in-Some-step.line in
    let leads =
    subst (λ h. (kernel_of h.tasking).outcome ≡ None → Leads 1 h c.step.new.self (line_of h.image line ∷ [])) c.self.view_is c.in-Some-step.ensures.leads none in
    let text = subst (λ i. c.text_of.result.items ≡ text_line (names_of i) (line_of i line)) leads.image c.text_of.ensures in
    step_line c.args.self.now c.step.new.self m stands (line_of c.args.self.now.image line) c.text_of.result.items leads text c.in-Some-step.ensures.going

pub returns-in-Some-outcome-clause-world : goal.returns-in-Some-outcome-clause-world
returns-in-Some-outcome-clause-world g c = λ m stands.
    let none : (kernel_of c.args.self.now.tasking).outcome ≡ None = search rules in
    let leads = subst (λ h. (kernel_of h.tasking).outcome ≡ None → Leads 1 h c.step.new.self []) c.self.view_is c.in-None.ensures.leads none in
    step_done c.args.self.now c.step.new.self m stands leads c.in-Some-outcome.outcome c.in-Some-outcome.ensures.outcome c.in-Some-outcome.ensures.last

pub returns-in-None-outcome-clause-world : goal.returns-in-None-outcome-clause-world
returns-in-None-outcome-clause-world g c = λ m stands.
    let none : (kernel_of c.args.self.now.tasking).outcome ≡ None = search rules in
    let leads = subst (λ h. (kernel_of h.tasking).outcome ≡ None → Leads 1 h c.step.new.self []) c.self.view_is c.in-None.ensures.leads none in
    step_quiet c.args.self.now c.step.new.self m stands leads (sym c.in-None-outcome.ensures.outcome)
