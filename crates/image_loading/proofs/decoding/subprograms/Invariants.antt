use Rattle.std.proofs.Common.{◌≡◌, ◌++◌, drop, map}
use Rattle.image_loading.specs.Decoding.{subprogram_from}
use Rattle.image_loading.proofs.decoding.subprograms.Given as goal

-- what is left, behind what stands, is the whole
abbrev pub invariant-loop-subprogram : goal.invariant-loop-subprogram
invariant-loop-subprogram l = l.made.items ++ map subprogram_from (drop l.subprogram-index l.subprograms) ≡ map subprogram_from l.subprograms
