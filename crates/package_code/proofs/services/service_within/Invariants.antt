use Rattle.std.proofs.Common.{◌≡◌, drop, map}
use Rattle.ada_tree.specs.ProgramTree.{body_item_tree, program_tree}
use Rattle.expr_soundness.specs.meaning.specs.Programs.{procedures_among, program_of}
use Rattle.program_soundness.specs.step_soundness.specs.Fitting.{entry_of}
use Rattle.package_code.proofs.services.service_within.Given as goal

abbrev pub invariant-loop-item : goal.invariant-loop-item
invariant-loop-item l =
    entry_of (procedures_among (program_of (program_tree l.accepted)).scope (map body_item_tree (drop l.item-index l.items))) l.object
    ≡ entry_of (procedures_among (program_of (program_tree l.accepted)).scope (map body_item_tree l.items)) l.object
