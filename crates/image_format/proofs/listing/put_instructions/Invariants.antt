use Rattle.std.proofs.Common.{◌≡◌, ◌+◌, ◌++◌, drop, string_bytes}
use Rattle.image_format.specs.Listing.{instruction_line, numbered}
use Rattle.image_format.proofs.listing.put_instructions.Given as goal

-- what is left, behind what stands, is the whole
abbrev pub invariant-loop-index : goal.invariant-loop-index
invariant-loop-index l = string_bytes l.out ++ numbered instruction_line (l.fn.place + l.index) (drop l.index l.fn.instructions) ≡ string_bytes l.fn.out ++ numbered instruction_line l.fn.place l.fn.instructions
