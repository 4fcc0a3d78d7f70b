use Rattle.image_loading.specs.Loading.{behind_object, behind_row, behind_task, code_start, each, object_faults, objects_start, subprogram_faults, subprograms_start, task_faults, tasks_start}
use Rattle.image.specs.Rules.{has_ends}
use Rattle.image_loading.proofs.FirstFault.{three}
use Rattle.image_loading.proofs.raw_sections.RawSections.table_fault.Goals as goal

pub returns : goal.returns
returns c =
    let r = c.args.self.now in
    let i = c.args.parts.now in
    rw (c.sooner-2.ensures, c.sooner.ensures)
    (three c.all_objects_fault.result c.all_subprograms_fault.result c.all_tasks_fault.result (each behind_object (object_faults i (subprograms_start r)) 0 (objects_start r) r.objects) (each (behind_row 13) (subprogram_faults i (has_ends i) (code_start r)) 0 (subprograms_start r) r.subprograms) (each behind_task (task_faults i) 0 (tasks_start r) r.tasks) c.all_objects_fault.ensures c.all_subprograms_fault.ensures c.all_tasks_fault.ensures)
