-- What is known of the source of an image (docs/FORMATS.md, "Traces").
use Rattle.std.specs.Prelude.{ℕ, List, Option}
use Rattle.tracing.specs.declared.origin.Origin.{Origin}

-- by the address of an instruction: where it comes from, and the name of the operation or entry of a protected object that it calls
pub record Known : Type 0 where
  pub origin : ℕ → Option Origin
  pub operation : ℕ → Option (List ℕ)
