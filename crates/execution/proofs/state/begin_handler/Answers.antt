use Rattle.std.proofs.Common.{◌≡◌, Some, ap, sym, ◌∙◌, arith, rules}
use Rattle.image.specs.Attachments.{attached_to}
use Rattle.image.specs.Operations.{called}
use Rattle.image_laws.specs.Room.{widest}
use Rattle.processor.specs.Layout.{TaskRow}
use Rattle.execution.proofs.Entries.{subprogram_fits}
use Rattle.execution.proofs.Handlers.{handler_is, handles, no_parameters}
use Rattle.execution.proofs.state.begin_handler.Goals as goal

-- what is attached is there
pub unreachable-requires : goal.unreachable-requires
unreachable-requires c =
    let is : attached_to c.args.channel c.args.program.now.attachments ≡ Some c.in-Some.number = search rules in
    let h = handles c.args.program.now c.image-image.ensures.well_formed c.args.channel c.in-Some.number is in
    let none = sym c.called.ensures ∙ c.in_default-called.is in
    let there = h.there in
    absurd (cc)

pub serve-requires-clause-there : goal.serve-requires-clause-there
serve-requires-clause-there c =
    let is : attached_to c.args.channel c.args.program.now.attachments ≡ Some c.in-Some.number = search rules in
    let there : called c.args.program.now c.in-Some.number ≡ Some c.in-Some-called.subprogram = search rules in
    sym (no_parameters c.args.program.now c.image-image.ensures.well_formed c.args.channel c.in-Some.number c.in-Some-called.subprogram is there)

pub serve-requires-clause-fits : goal.serve-requires-clause-fits
serve-requires-clause-fits c =
    let there : called c.args.program.now c.in-Some.number ≡ Some c.in-Some-called.subprogram = search rules in
    (subprogram_fits c.args.program.now c.image-image.ensures.well_formed c.code_leads_on.ensures.leads_on c.code_leads_on.ensures.size c.in-Some.number c.in-Some-called.subprogram there).0

pub serve-requires-clause-room : goal.serve-requires-clause-room
serve-requires-clause-room c =
    let there : called c.args.program.now c.in-Some.number ≡ Some c.in-Some-called.subprogram = search rules in
    let fits = (subprogram_fits c.args.program.now c.image-image.ensures.well_formed c.code_leads_on.ensures.leads_on c.code_leads_on.ensures.size c.in-Some.number c.in-Some-called.subprogram there).1 in
    let width : c.restart.new.self.width ≡ widest c.args.program.now = ap {A = TaskRow} (λ r. r.width) c.restart.ensures ∙ c.requires in
    omega (arith, fits, width)

pub returns-clause-task : goal.returns-clause-task
returns-clause-task c =
    let i = c.args.program.now in
    let is : attached_to c.args.channel i.attachments ≡ Some c.in-Some.number = search rules in
    let there : called i c.in-Some.number ≡ Some c.in-Some-called.subprogram = search rules in
    handler_is i c.args.channel c.in-Some.number c.first_place-place.result c.in-Some-called.subprogram _ c.restart.new.self.task c.serve.new.self.task is there
    (no_parameters i c.image-image.ensures.well_formed c.args.channel c.in-Some.number c.in-Some-called.subprogram is there)
    c.first_place-place.ensures c.handler_role-role.ensures (search rules) c.serve.ensures.frame c.serve.ensures.callers c.serve.ensures.raising
