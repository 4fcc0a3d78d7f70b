use Rattle.std.proofs.Common.{◌≡◌, ◌++◌, drop, flat_map, string_bytes}
use Rattle.image_format.specs.Listing.{row_line}
use Rattle.image_format.proofs.listing.put_rows.Given as goal

-- what is left, behind what stands, is the whole
abbrev pub invariant-loop-r : goal.invariant-loop-r
invariant-loop-r l = string_bytes l.out ++ flat_map row_line (drop l.r-index l.fn.rows) ≡ string_bytes l.fn.out ++ flat_map row_line l.fn.rows
