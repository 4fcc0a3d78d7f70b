use Rattle.std.proofs.Common.{arith, ◌∙◌, ◌*◌, ◌^◌, ◌-◌, min}
use Rattle.ada2012_lexer.proofs.Capped.{next_turn, scaled_to_end}
use Rattle.ada2012_lexer.proofs.value.scaled.Goals as goal

pub loop-turns-preserved : goal.loop-turns-preserved
loop-turns-preserved c = record {
  value = c.saturating_mul-scaled.ensures ∙ ((λ j. min (c.loop-turns.invariant.value j * c.from.ensures j) (2 ^ 64 - 1)) ∙ next_turn c.args.value c.args.base c.loop-turns.turns);
  within = omega (arith, c.loop-turns-test.true);
}

pub returns : goal.returns
returns c = λ v e value_is exponent_is.
    scaled_to_end c.args.value c.args.base c.args.exponent c.min-most.result c.loop-turns.turns c.loop-turns.scaled v e c.loop-turns.invariant.value c.min-most.ensures
    (omega (arith, c.loop-turns-test.false)) c.loop-turns.invariant.within value_is exponent_is
