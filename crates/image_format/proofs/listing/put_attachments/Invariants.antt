use Rattle.std.proofs.Common.{◌≡◌, ◌++◌, drop, flat_map, string_bytes}
use Rattle.image_format.specs.Listing.{attach_line}
use Rattle.image_format.proofs.listing.put_attachments.Given as goal

-- what is left, behind what stands, is the whole
abbrev pub invariant-loop-a : goal.invariant-loop-a
invariant-loop-a l =
    string_bytes l.out ++ flat_map attach_line (drop l.a-index l.fn.attachments) ≡ string_bytes l.fn.out ++ flat_map attach_line l.fn.attachments
