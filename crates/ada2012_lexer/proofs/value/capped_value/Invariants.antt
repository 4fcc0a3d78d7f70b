use Rattle.std.proofs.Common.{◌≡◌, drop}
use Rattle.ada2012_lexer.specs.Numbers.{value}
use Rattle.ada2012_lexer.specs.Shapes.{capped}
use Rattle.ada2012_lexer.proofs.Capped.{value_from}
use Rattle.ada2012_lexer.proofs.value.capped_value.Given as goal

abbrev pub invariant-loop-c : goal.invariant-loop-c
invariant-loop-c l = (capped (value_from l.base l.value (drop l.c-index l.digits)) ≡ capped (value l.base l.digits)) × (capped l.value ≡ l.value)
