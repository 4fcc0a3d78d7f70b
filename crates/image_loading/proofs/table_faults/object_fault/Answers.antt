use Rattle.std.proofs.Common.{ap, ◌∙◌}
use Rattle.image_loading.specs.Decoding.{object_from}
use Rattle.image_loading.specs.FaultOrder.{first_of}
use Rattle.image_loading.specs.Loading.{barrier_faults, ceiling_faults, entry_faults}
use Rattle.image_loading.proofs.FirstFault.{three}
use Rattle.image_loading.proofs.table_faults.object_fault.Goals as goal

pub returns : goal.returns
returns c =
    let i = c.args.parts.now in
    let o = object_from c.args.object.now in
    let entry = c.entry_fault.ensures ∙ ap (λ e. first_of (entry_faults i c.args.subprograms c.args.number e)) c.called.ensures in
    rw (c.sooner-2.ensures, c.sooner.ensures)
    (three c.ceiling_fault.result c.entry_fault.result c.barrier_fault.result (ceiling_faults i c.args.byte c.args.object.now) (entry_faults i c.args.subprograms c.args.number o.entry) (barrier_faults c.args.byte c.args.object.now o) c.ceiling_fault.ensures entry c.barrier_fault.ensures)
