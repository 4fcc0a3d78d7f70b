use Rattle.std.proofs.Common.{◌≡◌, ◌++◌, ◌<◌, ◌^◌, drop, string_bytes}
use Rattle.image_format.specs.Listing.{subprogram_lines}
use Rattle.image_format.proofs.listing.put_subprograms.Given as goal

-- what is left, behind what stands, is the whole
abbrev pub invariant-loop-number : goal.invariant-loop-number
invariant-loop-number l =
    (string_bytes l.out ++ subprogram_lines l.number l.place (drop l.number l.fn.subprograms) l.rest ≡ string_bytes l.fn.out ++ subprogram_lines 0 0 l.fn.subprograms l.fn.instructions)
    × (l.place < 2 ^ 16)
