use Rattle.std.proofs.Common.{◌≡◌, ◌++◌, drop, map}
use Rattle.types.specs.Entities.{operation_value}
use Rattle.package_code.specs.Directory.{operation_told}
use Rattle.package_code.specs.Owners.{told_operation}
use Rattle.package_code.proofs.directory.Directory.numbers_of.Given as goal

abbrev pub invariant-loop-operation : goal.invariant-loop-operation
invariant-loop-operation l =
    l.numbers ++ map (told_operation (operation_told l.self.operations.items l.object)) (map operation_value (drop l.operation-index l.operations))
    ≡ map (told_operation (operation_told l.self.operations.items l.object)) (map operation_value l.operations)
