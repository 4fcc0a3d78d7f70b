use Rattle.std.proofs.Common.{◌≡◌, ◌++◌, drop}
use Rattle.package_code.specs.Directory.{number_told, operations_told}
use Rattle.package_code.specs.Owners.{protected_objects, told_behind_objects}
use Rattle.package_code.proofs.directory.Directory.visible_operations.Given as goal

abbrev pub invariant-loop-number : goal.invariant-loop-number
invariant-loop-number l =
    l.numbers ++ told_behind_objects (number_told l.whole l.self) (protected_objects (drop l.number l.whole)) ≡ operations_told l.whole l.self
