use Rattle.ada_tree.specs.StatementTree.{operation_tree}
use Rattle.conformance.specs.Tables.{declares_unlike_operation}
use Rattle.conformance.proofs.Alike.{declares_next}
use Rattle.conformance.proofs.declared.Profiles.declare_operations.Goals as goal

pub loop-operation-preserved : goal.loop-operation-preserved
loop-operation-preserved c =
    declares_next operation_tree (λ k p o. declares_unlike_operation k p c.args.object.now o) c.args.operations.now c.loop-operation.operation-index c.operation-item.result
    c.args.self.now.table.entries c.loop-operation.self.table.entries c.declare_operation.new.self.table.entries
    c.loop-operation-test.true c.operation-item.is c.loop-operation.invariant c.in_ok-declare_operation.ensures
