use Rattle.std.proofs.Common.{◌≡◌, ◌++◌, drop, string_bytes}
use Rattle.image_format.specs.Listing.{object_line, numbered}
use Rattle.image_format.proofs.listing.put_objects.Given as goal

-- what is left, behind what stands, is the whole
abbrev pub invariant-loop-number : goal.invariant-loop-number
invariant-loop-number l = string_bytes l.out ++ numbered object_line l.number (drop l.number l.fn.objects) ≡ string_bytes l.fn.out ++ numbered object_line 0 l.fn.objects
