use Rattle.std.proofs.Common.{◌≡◌, drop}
use Rattle.image.specs.Rules.{all_begun, has_depth}
use Rattle.image.proofs.sections.Parts.begins_empty.Given as goal

abbrev pub invariant-loop-s : goal.invariant-loop-s
invariant-loop-s l = all_begun (λ first s. has_depth l.fn.self first 0) l.first (drop l.s-index l.fn.self.subprograms) ≡ all_begun (λ first s. has_depth l.fn.self first 0) 0 l.fn.self.subprograms
