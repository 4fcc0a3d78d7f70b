use Rattle.std.proofs.Common.{◌≡◌, ◌<◌, drop}
use Rattle.lexer.specs.Limits.{number_limit}
use Rattle.lexer.specs.Elements.{value}
use Rattle.lexer.specs.Reading.{value_from}
use Rattle.lexer.proofs.element.value.Given as goal

abbrev pub invariant-loop-c : goal.invariant-loop-c
invariant-loop-c l = record { in_range : l.value < number_limit; left : value_from l.value (drop l.c-index l.numeral) ≡ value l.numeral }
