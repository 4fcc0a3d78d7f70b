use Rattle.std.proofs.Common.{◌≡◌, ◌++◌, drop, flat_map}
use Rattle.diagnostics.specs.continuations.Notes.{more_of}
use Rattle.diagnostics.proofs.continuations.notes.put_more.Given as goal

-- what is left, after what stands, is the whole
abbrev pub invariant-loop-continuation : goal.invariant-loop-continuation
invariant-loop-continuation l =
    l.out.items ++ flat_map more_of (drop l.continuation-index l.fn.continuations)
    ≡ l.fn.out.items ++ flat_map more_of l.fn.continuations
