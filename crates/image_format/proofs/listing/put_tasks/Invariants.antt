use Rattle.std.proofs.Common.{◌≡◌, ◌++◌, drop, flat_map, string_bytes}
use Rattle.image_format.specs.Listing.{task_line}
use Rattle.image_format.proofs.listing.put_tasks.Given as goal

-- what is left, behind what stands, is the whole
abbrev pub invariant-loop-t : goal.invariant-loop-t
invariant-loop-t l = string_bytes l.out ++ flat_map task_line (drop l.t-index l.fn.tasks) ≡ string_bytes l.fn.out ++ flat_map task_line l.fn.tasks
