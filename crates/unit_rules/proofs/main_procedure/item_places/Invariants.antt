use Rattle.std.proofs.Common.{take}
use Rattle.types.specs.Seen.{ArePlaces}
use Rattle.unit_rules.specs.MainRules.{item_bytes}
use Rattle.unit_rules.proofs.main_procedure.item_places.Given as goal

abbrev pub invariant-loop-place : goal.invariant-loop-place
invariant-loop-place l = ArePlaces item_bytes (take l.place l.items) l.places
