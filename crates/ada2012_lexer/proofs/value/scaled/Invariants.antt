use Rattle.std.proofs.Common.{◌≡◌, ◌≤◌, ◌*◌, ◌^◌, ◌-◌}
use Rattle.ada2012_lexer.specs.Shapes.{capped}
use Rattle.ada2012_lexer.proofs.value.scaled.Given as goal

abbrev pub invariant-loop-turns : goal.invariant-loop-turns
invariant-loop-turns l = record { value : l.scaled ≡ capped (l.value * l.base ^ l.turns); within : l.turns ≤ l.most }

abbrev pub decreases-loop-turns : goal.decreases-loop-turns
decreases-loop-turns l = l.most - l.turns
