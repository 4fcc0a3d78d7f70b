use Rattle.std.proofs.Common.{ap, refl}
use Rattle.ada2012_lexer.specs.Shapes.{capped}
use Rattle.ada2012_lexer.proofs.Capped.{value_from-none}
use Rattle.ada2012_lexer.proofs.value.capped_value.Goals as goal

pub loop-c-init : goal.loop-c-init
loop-c-init c = (ap capped (value_from-none c.args.base c.args.digits.now), refl)
