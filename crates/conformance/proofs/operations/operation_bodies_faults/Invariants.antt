use Rattle.std.proofs.Common.{◌≡◌, [], drop, map, take}
use Rattle.std.specs.List.{list_any}
use Rattle.ada_tree.specs.ProgramTree.{protected_item_tree}
use Rattle.expr_rules.specs.Findings.{noted}
use Rattle.conformance.specs.MatchingRules.{operation_bodies_faults}
use Rattle.conformance.specs.declared.keys.Key.{Key}
use Rattle.conformance.specs.Tables.{front_before, front_specified, has_operation_key, is_seen}
use Rattle.conformance.proofs.operations.operation_bodies_faults.Given as goal

abbrev pub invariant-loop-body : goal.invariant-loop-body
invariant-loop-body l =
    let specified = front_specified l.front in
    let before = front_before l.front in
    let earlier = map protected_item_tree (take l.body-index l.bodies) in
    (noted l.found (operation_bodies_faults specified before l.object earlier (map protected_item_tree (drop l.body-index l.bodies)))
    ≡ noted l.fn.found (operation_bodies_faults specified before l.object [] (map protected_item_tree l.bodies)))
    × ((k : Key) → is_seen l.seen.set.keys k ≡ list_any (has_operation_key k l.object) earlier)
