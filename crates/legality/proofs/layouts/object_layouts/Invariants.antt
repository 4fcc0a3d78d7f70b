use Rattle.std.proofs.Common.{◌≡◌, ◌++◌, drop, map}
use Rattle.legality.specs.ProgramLayouts.{object_layouts, objects_words, placed}
use Rattle.legality.proofs.layouts.object_layouts.Given as goal

abbrev pub invariant-loop-number : goal.invariant-loop-number
invariant-loop-number l = l.layouts.items ++ map placed (objects_words l.fn.scope (drop l.number l.fn.scope)) ≡ object_layouts l.fn.scope
