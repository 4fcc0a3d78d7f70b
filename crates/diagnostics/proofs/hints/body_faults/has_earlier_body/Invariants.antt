use Rattle.std.proofs.Common.{◌≡◌, drop, map}
use Rattle.std.specs.List.{list_any}
use Rattle.ada_tree.specs.ProgramTree.{body_item_tree}
use Rattle.diagnostics.specs.hints.BodyFaults.{is_earlier_body}
use Rattle.diagnostics.proofs.hints.body_faults.has_earlier_body.Given as goal

-- what is left decides
abbrev pub invariant-loop-other : goal.invariant-loop-other
invariant-loop-other l =
    let found = list_any (is_earlier_body (body_item_tree l.fn.item)) in
    found (map body_item_tree (drop l.other-index l.fn.all)) ≡ found (map body_item_tree l.fn.all)
