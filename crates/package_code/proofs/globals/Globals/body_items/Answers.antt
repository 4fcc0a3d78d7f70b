use Rattle.std.proofs.Common.{map, rules, subst}
use Rattle.ada_tree.specs.ProgramTree.{body_item_tree}
use Rattle.expr_soundness.specs.meaning.specs.Programs.{items_among}
use Rattle.step_simulation.specs.part_code.proofs.Lists.{take_all}
use Rattle.package_code.specs.Globals.{AddsItems}
use Rattle.package_code.proofs.Declared.{adds_none, body_item_next, told_in_body}
use Rattle.package_code.proofs.GlobalsRefused.{body_item_refuses}
use Rattle.package_code.proofs.globals.Globals.body_items.Goals as goal

pub loop-item-init : goal.loop-item-init
loop-item-init c = adds_none c.args.scope.now c.args.self.now

pub loop-item-preserved : goal.loop-item-preserved
loop-item-preserved c =
    body_item_next c.args.scope.now c.args.self.now c.loop-item.self c.body_item.new.self c.args.items.now c.loop-item.item-index c.item-item.result
    c.loop-item-test.true c.item-item.is c.loop-item.invariant c.in_ok-body_item.ensures.adds

pub returns-clause-adds : goal.returns-clause-adds
returns-clause-adds c = subst (λ l. AddsItems c.args.scope.now c.args.self.now (items_among (map body_item_tree l)) c.loop-item.self)
    (take_all c.args.items.now c.loop-item.item-index c.loop-item-test.false) c.loop-item.invariant

pub returns-in_err-body_item-clause-refused : goal.returns-in_err-body_item-clause-refused
returns-in_err-body_item-clause-refused c =
    let whole = body_item_refuses c.args.scope.now c.args.self.now c.loop-item.self c.args.items.now c.loop-item.item-index c.item-item.result
    c.in_err-body_item.field-0.0 c.loop-item-test.true c.item-item.is c.loop-item.invariant c.in_err-body_item.ensures.refused in
    search (rules, whole)

pub body_item-requires-clause-told : goal.body_item-requires-clause-told
body_item-requires-clause-told c =
    told_in_body c.args.scope.now c.args.items.now c.loop-item.item-index c.item-item.result c.loop-item-test.true c.item-item.is c.requires.told
