use Rattle.std.proofs.Common.{◌≡◌, Some, rules, arith}
use Rattle.image.specs.Operations.{called}
use Rattle.execution.proofs.Entries.{subprogram_fits}
use Rattle.execution.proofs.state.initial_task.Goals as goal

pub new-requires-in-Some-clause-locals : goal.new-requires-in-Some-clause-locals
new-requires-in-Some-clause-locals c =
    let there : called c.args.program.now c.args.number ≡ Some c.in-Some.subprogram = search rules in
    let fits = (subprogram_fits c.args.program.now c.image-image.ensures.well_formed c.code_leads_on.ensures.leads_on c.code_leads_on.ensures.size c.args.number c.in-Some.subprogram there).1 in
    let width = c.width-width.ensures.is in
    omega (arith, fits, width)
