use Rattle.std.proofs.Common.{◌≡◌, ◌++◌, drop, map}
use Rattle.image_loading.specs.Decoding.{object_from}
use Rattle.image_loading.proofs.decoding.objects.Given as goal

-- what is left, behind what stands, is the whole
abbrev pub invariant-loop-object : goal.invariant-loop-object
invariant-loop-object l = l.made.items ++ map object_from (drop l.object-index l.objects) ≡ map object_from l.objects
