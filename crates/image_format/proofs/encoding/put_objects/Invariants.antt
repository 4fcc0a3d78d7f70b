use Rattle.std.proofs.Common.{◌≡◌, ◌++◌, drop, flat_map}
use Rattle.image_format.specs.Bytes.{object_bytes}
use Rattle.image_format.proofs.encoding.put_objects.Given as goal

-- what is left, behind what stands, is the whole
abbrev pub invariant-loop-object : goal.invariant-loop-object
invariant-loop-object l = l.out.items ++ flat_map object_bytes (drop l.object-index l.objects) ≡ l.fn.out.items ++ flat_map object_bytes l.objects
