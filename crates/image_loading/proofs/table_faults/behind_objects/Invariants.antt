use Rattle.std.proofs.Common.{◌≡◌, drop}
use Rattle.image_loading.specs.Loading.{behind_object, behind_all}
use Rattle.image_loading.proofs.table_faults.behind_objects.Given as goal

abbrev pub invariant-loop-object : goal.invariant-loop-object
invariant-loop-object l = behind_all behind_object l.byte (drop l.object-index l.objects) ≡ behind_all behind_object l.fn.start l.objects
