use Rattle.std.proofs.Common.{◌≡◌, ℕ, ◌≤◌, length, map}
use Rattle.ada_tree.specs.StatementTree.{operation_tree}
use Rattle.parser.specs.DeclarationReading.{begins_operation, operation_at, operations_at}
use Rattle.parser.proofs.general.Loops.{still, pushed}
use Rattle.parser.proofs.parser.Parser.operations.Given as goal

abbrev pub invariant-loop-self : goal.invariant-loop-self
invariant-loop-self l =
    (n : ℕ) × (length l.self.rest.now ≤ n)
    × (still pushed begins_operation (operation_at l.levels) n (map operation_tree l.all.items) l.self.rest.now ≡ operations_at l.levels l.fn.self.rest.now)

abbrev pub decreases-loop-self : goal.decreases-loop-self
decreases-loop-self l = length l.self.rest.now
