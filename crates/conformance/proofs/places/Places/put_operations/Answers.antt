use Rattle.ada_tree.specs.ProgramTree.{protected_item_tree}
use Rattle.conformance.specs.Tables.{has_operation_key, is_same_key}
use Rattle.conformance.proofs.Tabled.{own_operation, placed_as, puts_next}
use Rattle.conformance.proofs.places.Places.put_operations.Goals as goal

pub loop-body-preserved : goal.loop-body-preserved
loop-body-preserved c =
    let object = c.args.object.now in
    let x = c.body-item.result in
    let key = c.of_operation_body.result in
    let between = c.loop-body.self.table.entries in
    let new = c.put.new.self.table.entries in
    puts_next protected_item_tree (λ k i. has_operation_key k object i) c.args.bodies.now c.loop-body.body-index x c.args.self.now.table.entries between new c.args.place
    c.loop-body-test.true c.body-item.is c.loop-body.invariant
    (placed_as between new (is_same_key key) (λ k. has_operation_key k object (protected_item_tree x)) c.args.place
    (own_operation key object (protected_item_tree x) c.of_operation_body.ensures)
    c.in_ok-put.ensures)
