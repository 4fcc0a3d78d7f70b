use Rattle.std.proofs.Common.{◌≡◌, map}
use Rattle.ada_tree.specs.ProgramTree.{program_tree, protected_item_tree}
use Rattle.declaration_rules.specs.BodyNames.{object_body_scope}
use Rattle.program_soundness.specs.Fronts.{front}
use Rattle.package_code.specs.Walking.{IsInObjectBody}
use Rattle.package_code.proofs.walk.Walk.operations.Given as goal

abbrev pub invariant-loop-item : goal.invariant-loop-item
invariant-loop-item l =
    IsInObjectBody (program_tree l.accepted) l.directory l.object (object_body_scope (front (program_tree l.accepted) l.fn.self.place) l.place) l.components
    (map protected_item_tree l.items) l.item-index l.self
    × (l.self.place ≡ l.fn.self.place)
