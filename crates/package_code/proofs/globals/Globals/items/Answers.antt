use Rattle.std.proofs.Common.{map, rules, subst}
use Rattle.ada_tree.specs.ProgramTree.{item_tree}
use Rattle.step_simulation.specs.part_code.proofs.Lists.{take_all}
use Rattle.package_code.specs.Globals.{AddsItems}
use Rattle.package_code.specs.Providing.{item_tells}
use Rattle.package_code.proofs.Declared.{adds_none, all_at, item_next}
use Rattle.package_code.proofs.GlobalsRefused.{item_refuses}
use Rattle.package_code.proofs.globals.Globals.items.Goals as goal

pub loop-item-init : goal.loop-item-init
loop-item-init c = adds_none c.args.scope.now c.args.self.now

pub loop-item-preserved : goal.loop-item-preserved
loop-item-preserved c =
    item_next c.args.scope.now c.args.self.now c.loop-item.self c.item.new.self c.args.items.now c.loop-item.item-index c.item-item.result
    c.loop-item-test.true c.item-item.is c.loop-item.invariant c.in_ok-item.ensures.adds

pub returns-clause-adds : goal.returns-clause-adds
returns-clause-adds c = subst (λ l. AddsItems c.args.scope.now c.args.self.now (map item_tree l) c.loop-item.self)
    (take_all c.args.items.now c.loop-item.item-index c.loop-item-test.false) c.loop-item.invariant

pub returns-in_err-item-clause-refused : goal.returns-in_err-item-clause-refused
returns-in_err-item-clause-refused c =
    let whole = item_refuses c.args.scope.now c.args.self.now c.loop-item.self c.args.items.now c.loop-item.item-index c.item-item.result
    c.in_err-item.field-0.0 c.loop-item-test.true c.item-item.is c.loop-item.invariant c.in_err-item.ensures.refused in
    search (rules, whole)

pub item-requires-clause-told : goal.item-requires-clause-told
item-requires-clause-told c =
    all_at (item_tells c.args.scope.now) item_tree c.args.items.now c.loop-item.item-index c.item-item.result c.loop-item-test.true c.item-item.is
    c.requires.told
