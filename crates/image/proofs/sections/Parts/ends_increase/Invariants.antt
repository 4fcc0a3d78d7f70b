use Rattle.std.proofs.Common.{◌≡◌, drop, nat_lt}
use Rattle.image.specs.Rules.{all_begun}
use Rattle.image.proofs.sections.Parts.ends_increase.Given as goal

abbrev pub invariant-loop-s : goal.invariant-loop-s
invariant-loop-s l = all_begun (λ first s. nat_lt first s.end_) l.place (drop l.s-index l.fn.self.subprograms) ≡ all_begun (λ first s. nat_lt first s.end_) 0 l.fn.self.subprograms
