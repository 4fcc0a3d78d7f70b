use Rattle.std.proofs.Common.{◌≡◌, drop}
use Rattle.package_code.specs.Directory.{operation_told}
use Rattle.package_code.proofs.operations.operation_number.Given as goal

abbrev pub invariant-loop-operation : goal.invariant-loop-operation
invariant-loop-operation l = operation_told (drop l.operation-index l.operations) l.object l.name ≡ operation_told l.operations l.object l.name
