use Rattle.std.proofs.Common.{◌≡◌, drop, map}
use Rattle.types.specs.Entities.{operation_value}
use Rattle.package_code.specs.Directory.{seen_inside}
use Rattle.package_code.specs.Owners.{offered_names}
use Rattle.package_code.proofs.directory.Directory.tell_operations.Given as goal

abbrev pub invariant-loop-operation : goal.invariant-loop-operation
invariant-loop-operation l =
    seen_inside l.whole l.self l.object l.visible (offered_names (map operation_value (drop l.operation-index l.operations)))
    ≡ seen_inside l.whole l.self l.object l.fn.visible (offered_names (map operation_value l.operations))
