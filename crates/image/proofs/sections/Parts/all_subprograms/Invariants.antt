use Rattle.std.proofs.Common.{◌≡◌, drop}
use Rattle.image.specs.Rules.{all_placed, is_subprogram}
use Rattle.image.proofs.sections.Parts.all_subprograms.Given as goal

abbrev pub invariant-loop-number : goal.invariant-loop-number
invariant-loop-number l = all_placed (is_subprogram l.fn.self) l.number (drop l.number l.fn.self.subprograms) ≡ all_placed (is_subprogram l.fn.self) 0 l.fn.self.subprograms
