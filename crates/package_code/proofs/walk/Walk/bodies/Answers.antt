use Rattle.std.proofs.Common.{◌≡◌, length, rules, subst, sym}
use Rattle.ada_tree.specs.ProgramTree.{body_item_tree, program_tree}
use Rattle.program_soundness.specs.Fronts.{declared_in}
use Rattle.package_code.specs.Stopping.{StopsInRows}
use Rattle.package_code.proofs.Declared.{stands_at}
use Rattle.package_code.proofs.Stops.{stops_in_rows}
use Rattle.package_code.proofs.walk.Walk.bodies.Goals as goal

pub step-requires-clause-at : goal.step-requires-clause-at
step-requires-clause-at c =
    stands_at (declared_in (program_tree c.args.accepted.now).package_) c.args.self.now.place c.loop-item.self.place body_item_tree c.args.items.now
    c.loop-item.item-index c.item-item.result c.requires.at c.loop-item.invariant.1.1.0 c.loop-item-test.true c.item-item.is

pub returns-then-rows-gt-ROWS-clause-halts : goal.returns-then-rows-gt-ROWS-clause-halts
returns-then-rows-gt-ROWS-clause-halts c =
    let t = program_tree c.args.accepted.now in
    let at =
    stands_at (declared_in t.package_) c.args.self.now.place c.loop-item.self.place body_item_tree c.args.items.now c.loop-item.item-index c.item-item.result
    c.requires.at c.loop-item.invariant.1.1.0 c.loop-item-test.true c.item-item.is in
    let rows : c.many-rows.result ≡ length c.step.new.self.draft.rows.items = search rules in
    subst (λ place. StopsInRows t place c.many-rows.result) (sym c.item_place.ensures)
    (stops_in_rows t c.loop-item.self c.step.new.self (body_item_tree c.item-item.result) c.many-rows.result at c.loop-item.invariant.1.0
    c.loop-item.invariant.1.1.1 c.in_ok-step.ensures.told c.in_ok-step.ensures.place rows c.if-rows-gt-ROWS.true)
