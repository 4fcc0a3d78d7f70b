use Rattle.std.proofs.Common.{map, refl, sym, ◌∙◌}
use Rattle.ada_tree.specs.StatementTree.{operation_tree}
use Rattle.expr_soundness.specs.meaning.specs.Programs.{attached_operation, handler_at}
use Rattle.package_code.specs.Handlers.{handler_among}
use Rattle.package_code.proofs.HandlerSearch.{first_found, none_first}
use Rattle.package_code.proofs.attaching.handler_among.Goals as goal

pub returns-in-Some : goal.returns-in-Some
returns-in-Some c =
    let s = c.args.scope.now in
    let d = c.args.directory.now in
    first_found s d (λ xs. handler_among s c.args.object c.args.channel (map operation_tree xs))
    (λ x. handler_at c.args.channel (attached_operation s c.args.object (operation_tree x)))
    (λ x rest. refl) c.args.operations.now c.loop-operation.operation-index c.operation-item.result c.loop-operation-test.true
    c.operation-item.is c.loop-operation.invariant
    c.in-Some.number (sym c.handler_at.ensures ∙ c.in-Some.is)

pub loop-operation-preserved : goal.loop-operation-preserved
loop-operation-preserved c =
    let s = c.args.scope.now in
    let d = c.args.directory.now in
    none_first s d (λ xs. handler_among s c.args.object c.args.channel (map operation_tree xs))
    (λ x. handler_at c.args.channel (attached_operation s c.args.object (operation_tree x)))
    (λ x rest. refl) c.args.operations.now c.loop-operation.operation-index c.operation-item.result c.loop-operation-test.true
    c.operation-item.is c.loop-operation.invariant
    (sym c.handler_at.ensures ∙ c.in_default.is)
