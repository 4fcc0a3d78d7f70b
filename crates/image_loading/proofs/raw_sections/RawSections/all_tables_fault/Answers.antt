use Rattle.image_loading.specs.Loading.{attachment_part_faults, table_faults}
use Rattle.image_loading.proofs.FirstFault.{two}
use Rattle.image_loading.proofs.raw_sections.RawSections.all_tables_fault.Goals as goal

pub returns : goal.returns
returns c =
    let r = c.args.self.now in
    let i = c.args.parts.now in
    rw c.sooner.ensures
    (two c.table_fault.result c.attachment_part_fault.result (table_faults r i) (attachment_part_faults r i) c.table_fault.ensures
    c.attachment_part_fault.ensures)
