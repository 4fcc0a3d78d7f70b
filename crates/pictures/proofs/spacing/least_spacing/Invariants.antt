use Rattle.std.proofs.Common.{◌≡◌, drop}
use Rattle.pictures.specs.Front.{least_spacing}
use Rattle.pictures.proofs.spacing.least_spacing.Given as goal

abbrev pub invariant-loop-spacing : goal.invariant-loop-spacing
invariant-loop-spacing l = least_spacing (drop l.spacing-index l.fn.spacings) l.fn.span ≡ least_spacing l.fn.spacings l.fn.span
