use Rattle.std.proofs.Common.{take}
use Rattle.types.specs.Seen.{ArePlaces}
use Rattle.types.proofs.parts.Components.new.Given as goal

abbrev pub invariant-loop-place : goal.invariant-loop-place
invariant-loop-place l = ArePlaces (λ x. x.name) (take l.place l.fn.list.items) l.places
