use Rattle.std.proofs.Common.{◌≡◌, drop}
use Rattle.image_loading.specs.Loading.{last_size_byte}
use Rattle.image_loading.proofs.table_faults.last_size_byte.Given as goal

abbrev pub invariant-loop-object : goal.invariant-loop-object
invariant-loop-object l = last_size_byte l.size l.byte (drop l.object-index l.objects) ≡ last_size_byte l.fn.last l.fn.start l.objects
