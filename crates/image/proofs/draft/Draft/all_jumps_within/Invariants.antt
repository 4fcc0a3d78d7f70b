use Rattle.std.proofs.Common.{◌≡◌, drop}
use Rattle.image.specs.Rules.{all_placed, jumps_within}
use Rattle.image.proofs.draft.Draft.all_jumps_within.Given as goal

abbrev pub invariant-loop-place : goal.invariant-loop-place
invariant-loop-place l = all_placed (jumps_within l.fn.self) l.place (drop l.place l.fn.self.instructions) ≡ all_placed (jumps_within l.fn.self) 0 l.fn.self.instructions
