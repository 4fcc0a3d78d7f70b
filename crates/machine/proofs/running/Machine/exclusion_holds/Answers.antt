use Rattle.std.proofs.Common.{◌≤◌, ◌∙◌, ap, arith, subst}
use Rattle.base.specs.declared.limits.TheConstants.{TASKS}
use Rattle.image.specs.Rules.{IsWellFormed}
use Rattle.image_laws.specs.Whole.{IsWhole}
use Rattle.tasking.specs.Held.{kernel_of}
use Rattle.execution.specs.Held.{world_of}
use Rattle.machine.proofs.Exclusion.{excludes}
use Rattle.machine.proofs.running.Machine.exclusion_holds.Goals as goal

pub returns-clause-answers : goal.returns-clause-answers
returns-clause-answers g c =
    let h = c.args.self.now in
    let whole = subst (λ h. IsWhole h.image (world_of h)) c.self.view_is c.tasking-tasking.ensures.whole in
    let well = subst IsWellFormed (c.image.ensures ∙ ap (λ h. h.image) c.self.view_is) c.instructions-instructions.ensures.well_formed in
    let few : (kernel_of h.tasking).partition.tasks ≤ TASKS = omega
    (arith, (c.code_leads_on.ensures.size h.image well).tasks, ap (λ p. p.tasks) whole.partition) in
    excludes h well few c.steps_whole.ensures.runner c.inside_lists.ensures (c.four_statements_hold.ensures _ (kernel_of h.tasking) whole.kept) whole
