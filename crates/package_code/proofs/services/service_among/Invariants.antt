use Rattle.std.proofs.Common.{◌≡◌, Some, drop, map}
use Rattle.ada_tree.specs.ProgramTree.{program_tree, protected_item_tree}
use Rattle.expr_soundness.specs.meaning.specs.Programs.{operation_procedures, program_of}
use Rattle.program_soundness.specs.step_soundness.specs.Fitting.{entry_of}
use Rattle.package_code.proofs.services.service_among.Given as goal

abbrev pub invariant-loop-item : goal.invariant-loop-item
invariant-loop-item l =
    entry_of (operation_procedures (program_of (program_tree l.accepted)).scope (Some l.object) (map protected_item_tree (drop l.item-index l.items))) l.object
    ≡ entry_of (operation_procedures (program_of (program_tree l.accepted)).scope (Some l.object) (map protected_item_tree l.items)) l.object
