use Rattle.std.proofs.Common.{map, rules, subst}
use Rattle.ada_tree.specs.ProgramTree.{body_item_tree, item_tree}
use Rattle.expr_soundness.specs.meaning.specs.Programs.{items_among}
use Rattle.package_code.specs.Globals.{AddsItems, RefusesAdding}
use Rattle.package_code.proofs.Declared.{adds_then}
use Rattle.package_code.proofs.GlobalsRefused.{adding_left, adding_right}
use Rattle.package_code.proofs.globals.Globals.declarations.Goals as goal

pub returns-clause-adds : goal.returns-clause-adds
returns-clause-adds c =
    let s = c.args.scope.now in
    let g = c.args.self.now in
    let p = c.args.package_.now in
    adds_then s g c.items.new.self c.body_items.new.self (map item_tree p.declaration.items.items)
    (items_among (map body_item_tree p.body.items.items))
    (subst (λ l. AddsItems s g (map item_tree l) c.items.new.self) c.deref.ensures.value c.in_ok-items.ensures.adds)
    (subst (λ l. AddsItems s c.items.new.self (items_among (map body_item_tree l)) c.body_items.new.self) c.deref-2.ensures.value
    c.in_ok-body_items.ensures.adds)

pub returns-in_err-items-clause-refused : goal.returns-in_err-items-clause-refused
returns-in_err-items-clause-refused c =
    let p = c.args.package_.now in
    let why = c.in_err-items.field-0.0 in
    let whole = adding_left c.args.scope.now c.args.self.now (map item_tree p.declaration.items.items) (items_among (map body_item_tree p.body.items.items)) why
    (subst (λ l. RefusesAdding c.args.scope.now c.args.self.now (map item_tree l) why) c.deref.ensures.value c.in_err-items.ensures.refused) in
    search (rules, whole)

pub returns-in_err-body_items-clause-refused : goal.returns-in_err-body_items-clause-refused
returns-in_err-body_items-clause-refused c =
    let p = c.args.package_.now in
    let why = c.in_err-body_items.field-0.0 in
    let s = c.args.scope.now in
    let whole = adding_right s c.args.self.now c.items.new.self (map item_tree p.declaration.items.items)
    (items_among (map body_item_tree p.body.items.items)) why
    (subst (λ l. AddsItems s c.args.self.now (map item_tree l) c.items.new.self) c.deref.ensures.value c.in_ok-items.ensures.adds)
    (subst (λ l. RefusesAdding s c.items.new.self (items_among (map body_item_tree l)) why) c.deref-2.ensures.value c.in_err-body_items.ensures.refused) in
    search (rules, whole)
