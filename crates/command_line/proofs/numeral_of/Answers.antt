use Rattle.std.proofs.Common.{sym, ◌∙◌}
use Rattle.command_line.proofs.Limits.{limit_is}
use Rattle.command_line.proofs.numeral_of.Goals as goal

pub returns-then-are_digits : goal.returns-then-are_digits
returns-then-are_digits c = limit_is c.args.digits.now c.parse.result c.ok.result (sym c.are_digits.ensures ∙ c.if-are_digits.true) c.parse.ensures.value.0 c.ok.ensures.value
