use Rattle.std.proofs.Common.{◌≡◌, ◌≤◌, ◌-◌, drop, length, true}
use Rattle.ada2012_lexer.specs.Quoted.{string_end}
use Rattle.ada2012_lexer.proofs.quoted.string_end.Given as goal

abbrev pub invariant-loop-at : goal.invariant-loop-at
invariant-loop-at l = record { value : string_end l.inside l.at (drop l.at l.text) ≡ string_end true 0 l.text; within : l.at ≤ length l.text }

abbrev pub decreases-loop-at : goal.decreases-loop-at
decreases-loop-at l = length l.text - l.at
