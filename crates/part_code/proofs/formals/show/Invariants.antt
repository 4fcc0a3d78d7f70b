use Rattle.std.proofs.Common.{◌≡◌, ◌++◌, map, take}
use Rattle.part_code.specs.Formals.{no_subprogram, slot_for}
use Rattle.part_code.proofs.formals.show.Given as goal

abbrev pub invariant-loop-formal : goal.invariant-loop-formal
invariant-loop-formal l =
    (l.visible.scope ≡ l.fn.visible.scope)
    × (l.visible.slots ≡ l.fn.visible.slots ++ map slot_for (take l.formal-index l.placed))
    × (l.visible.subprograms ≡ l.fn.visible.subprograms ++ map no_subprogram (take l.formal-index l.placed))
    × (l.visible.operations ≡ l.fn.visible.operations)
