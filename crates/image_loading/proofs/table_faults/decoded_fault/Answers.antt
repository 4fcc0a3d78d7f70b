use Rattle.image_loading.specs.Loading.{body_faults, kind_faults, size_faults}
use Rattle.image_loading.proofs.FirstFault.{three}
use Rattle.image_loading.proofs.table_faults.decoded_fault.Goals as goal

pub returns : goal.returns
returns c =
    let i = c.args.parts.now in
    let s = c.args.s.now in
    rw (c.sooner-2.ensures, c.sooner.ensures)
    (three c.kind_fault.result c.size_fault.result c.body_fault.result (kind_faults i c.args.number c.args.byte c.args.raw.now s) (size_faults c.args.byte s) (body_faults i c.args.ordered c.args.code c.args.number c.args.byte s) c.kind_fault.ensures c.size_fault.ensures c.body_fault.ensures)
