use Rattle.std.proofs.Common.{◌≡◌, ◌++◌, drop, flat_map}
use Rattle.image_format.specs.Bytes.{row_bytes}
use Rattle.image_format.proofs.encoding.put_rows.Given as goal

-- what is left, behind what stands, is the whole
abbrev pub invariant-loop-row : goal.invariant-loop-row
invariant-loop-row l = l.out.items ++ flat_map row_bytes (drop l.row-index l.rows) ≡ l.fn.out.items ++ flat_map row_bytes l.rows
