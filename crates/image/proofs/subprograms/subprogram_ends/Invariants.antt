use Rattle.std.proofs.Common.{◌≡◌, ◌++◌, drop}
use Rattle.image.specs.Sections.{ends_of}
use Rattle.image.proofs.subprograms.subprogram_ends.Given as goal

-- the ends of what is left, behind those that stand, are all
abbrev pub invariant-loop-subprogram : goal.invariant-loop-subprogram
invariant-loop-subprogram l = l.ends.items ++ ends_of (drop l.subprogram-index l.subprograms) ≡ ends_of l.subprograms
