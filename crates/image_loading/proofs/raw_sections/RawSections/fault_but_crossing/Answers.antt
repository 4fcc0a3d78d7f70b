use Rattle.std.proofs.Common.{◌++◌, ap, ◌∙◌}
use Rattle.image_loading.specs.FaultOrder.{first_of}
use Rattle.image_loading.specs.Loading.{attachment_part_faults, code_part_faults, head_faults, table_faults, text_faults}
use Rattle.image_loading.proofs.FirstFault.{three}
use Rattle.image_loading.proofs.raw_sections.RawSections.fault_but_crossing.Goals as goal

pub returns : goal.returns
returns c =
    let r = c.args.self.now in
    let i = c.args.draft.now in
    rw (c.sooner-2.ensures, c.sooner.ensures)
    (three c.words_and_texts_fault.result c.all_tables_fault.result c.code_part_fault.result (head_faults r i ++ text_faults r)
    (table_faults r i ++ attachment_part_faults r i) (code_part_faults r i)
    (c.words_and_texts_fault.ensures ∙ ap (λ i. first_of (head_faults r i ++ text_faults r)) c.parts-parts.ensures)
    (c.all_tables_fault.ensures ∙ ap (λ i. first_of (table_faults r i ++ attachment_part_faults r i)) c.parts-parts.ensures)
    c.code_part_fault.ensures)
