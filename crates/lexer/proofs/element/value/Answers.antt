use Rattle.std.proofs.Common.{ap, sym, ◌∙◌, arith}
use Rattle.std.specs.Prelude.{option_map, pos}
use Rattle.lexer.proofs.Values.{out_of_range, over, value_from-none}
use Rattle.lexer.proofs.element.value.Goals as goal

pub returns-then-value-digit : goal.returns-then-value-digit
returns-then-value-digit c = sym (ap (option_map pos) (out_of_range c.args.numeral.now (over c.args.numeral.now c.loop-c.c-index c.loop-c.value c.loop-c.invariant.left c.loop-c-test.true (sym c.is_ascii_digit.ensures.value ∙ c.if-is_ascii_digit.true) (omega arith))))

pub loop-c-init : goal.loop-c-init
loop-c-init c = record { in_range = omega arith; left = value_from-none c.args.numeral.now }
