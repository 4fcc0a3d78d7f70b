-- What is known of a source by the instructions of its image: where they come from, and whose operations they call.
use Rattle.std.specs.Prelude.{ℕ, List, Option, option_map, take}
use Rattle.compiler.specs.stmt_code.specs.Placing.{place_at}
use Rattle.compiler.specs.stmt_code.specs.declared.tables.PlaceRow.{PlaceRow}
use Rattle.image.specs.Sections.{Sections}
use Rattle.diagnostics.specs.hints.Places.{column_from, line_from}
use Rattle.tracing.specs.Known.{Known}
use Rattle.tracing.specs.declared.origin.Origin.{Origin}
use Rattle.adarun.specs.Operations.{operation_in}

-- the line and the column of a byte of the text, both from 1
abbrev pub position_in : List ℕ → ℕ → Origin
position_in text place = record { line = line_from 1 (take place text); column = column_from 1 (take place text) }

-- of the innermost statement or declaration of whose code the instruction at this address is, by the places of the text's statements and declarations
abbrev pub origin_in : List ℕ → List PlaceRow → ℕ → Option Origin
origin_in text places address = option_map (position_in text) (place_at places address)

-- that, and the operation or entry that it calls, where the image's subprograms have these names
abbrev pub known_in : List ℕ → Sections → List PlaceRow → (names : List (List ℕ)) → Known
known_in text image places names = record { origin = origin_in text places; operation = operation_in image names }
