-- The values of choices.
use Rattle.std.proofs.Common.{◌≡◌, Option, Some, None, refl}
use Rattle.std.specs.Prelude.{option_map}
use Rattle.types.specs.declared.entity.Value.{Value as Scalar}
use Rattle.types.specs.declared.entity.Value.TheVariants as scalar
use Rattle.types.specs.Values.{value_of}
use Rattle.type_rules.specs.ObjectRules.{known_scalar}

pub known_back : (r : Option Scalar) → known_scalar (option_map value_of r) ≡ r
known_back None = refl
known_back (Some (scalar.Number z)) = refl
known_back (Some (scalar.Truth b)) = refl
