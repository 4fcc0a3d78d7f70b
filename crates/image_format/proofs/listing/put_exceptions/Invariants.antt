use Rattle.std.proofs.Common.{◌≡◌, ◌+◌, ◌++◌, drop, string_bytes}
use Rattle.image_format.specs.Listing.{exception_line, numbered}
use Rattle.image_format.proofs.listing.put_exceptions.Given as goal

-- what is left, behind what stands, is the whole
abbrev pub invariant-loop-index : goal.invariant-loop-index
invariant-loop-index l = string_bytes l.out ++ numbered exception_line (l.index + 1) (drop l.index l.fn.names) ≡ string_bytes l.fn.out ++ numbered exception_line 1 l.fn.names
