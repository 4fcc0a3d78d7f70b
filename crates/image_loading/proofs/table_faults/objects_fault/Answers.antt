use Rattle.image_loading.specs.Loading.{behind_object, object_faults}
use Rattle.image_loading.proofs.FirstFault.{each_done, each_turn}
use Rattle.image_loading.proofs.table_faults.objects_fault.Goals as goal

pub loop-number-preserved : goal.loop-number-preserved
loop-number-preserved c =
    rw (c.sooner-fault.ensures, c.behind_object-byte.ensures)
    (each_turn behind_object (object_faults c.args.parts.now c.args.subprograms) c.args.objects.now c.loop-number.number c.loop-number.byte c.index-objects-number.result c.loop-number.fault c.object_fault.result _ c.loop-number-test.true c.index-objects-number.is c.loop-number.invariant c.object_fault.ensures)

pub returns : goal.returns
returns c = each_done behind_object (object_faults c.args.parts.now c.args.subprograms) c.args.objects.now c.loop-number.number c.loop-number.byte c.loop-number.fault _ c.loop-number-test.false c.loop-number.invariant
