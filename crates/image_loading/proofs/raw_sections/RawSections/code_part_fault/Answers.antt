use Rattle.std.proofs.Common.{[], if◌then◌else◌}
use Rattle.image_loading.specs.Loading.{behind_row, code_start, each, instruction_faults, place_faults, row_faults, rows_start}
use Rattle.image.specs.Rules.{has_ends}
use Rattle.image_loading.proofs.FirstFault.{three}
use Rattle.image_loading.proofs.raw_sections.RawSections.code_part_fault.Goals as goal

pub returns : goal.returns
returns c =
    let r = c.args.self.now in
    let i = c.args.draft.now in
    rw (c.sooner-2.ensures, c.sooner.ensures)
    (three c.all_rows_fault.result c.all_operands_fault.result c.all_places_fault.result (each (behind_row 8) (row_faults i (has_ends i) (code_start r)) 0 (rows_start r) r.rows) (each (behind_row 13) instruction_faults 0 (code_start r) r.instructions) (if has_ends i then each (behind_row 13) (place_faults i (code_start r)) 0 (code_start r) r.instructions else []) c.all_rows_fault.ensures c.all_operands_fault.ensures c.all_places_fault.ensures)
