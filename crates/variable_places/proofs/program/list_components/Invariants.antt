use Rattle.std.proofs.Common.{take}
use Rattle.variable_places.proofs.Walked.{ListsComponents}
use Rattle.variable_places.proofs.program.list_components.Given as goal

abbrev pub invariant-loop-component : goal.invariant-loop-component
invariant-loop-component l = ListsComponents l.fn.names l.fn.listing (take l.component-index l.components) l.listing
