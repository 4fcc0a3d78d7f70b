use Rattle.std.proofs.Common.{◌≡◌, drop}
use Rattle.clock.specs.Capped.{capped}
use Rattle.clock.specs.Texts.{digits_value, value_after}
use Rattle.clock.proofs.reading.capped_value.Given as goal

abbrev pub invariant-loop-digit : goal.invariant-loop-digit
invariant-loop-digit l = (capped (value_after l.value (drop l.digit-index l.digits)) ≡ capped (digits_value l.fn.digits)) × (capped l.value ≡ l.value)
