use Rattle.std.proofs.Common.{◌≡◌}
use Rattle.std.specs.Prelude.{option_map}
use Rattle.choices.specs.Filling.{parts_behind}
use Rattle.choices.specs.Texts.{ranges_in, ranges_of}
use Rattle.choices.proofs.Parts.{joined, size_of}
use Rattle.choices.proofs.ranges.ranges.Given as goal

abbrev pub invariant-loop-parts : goal.invariant-loop-parts
invariant-loop-parts l = joined l.ranges.items (ranges_in (parts_behind (option_map (λ r. r.now) l.parts))) ≡ ranges_of l.fn.text

abbrev pub decreases-loop-parts : goal.decreases-loop-parts
decreases-loop-parts l = size_of (option_map (λ r. r.now) l.parts)
