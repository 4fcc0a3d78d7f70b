use Rattle.std.proofs.Common.{map, rules, subst}
use Rattle.ada_tree.specs.ProgramTree.{body_item_tree, item_tree}
use Rattle.expr_soundness.specs.meaning.specs.Programs.{items_among}
use Rattle.package_code.specs.Objects.{AddsObjects, RefusesObjects}
use Rattle.package_code.proofs.ComponentSlots.{adds_both, refused_first, refused_second}
use Rattle.package_code.proofs.objects.ProtectedObjects.package.Goals as goal

pub returns-clause-adds : goal.returns-clause-adds
returns-clause-adds c =
    let s = c.args.scope.now in
    let p = c.args.package_.now in
    let old = c.args.self.now in
    let mid = c.items.new.self in
    let new = c.body_items.new.self in
    adds_both s old mid new (map item_tree p.declaration.items.items) (items_among (map body_item_tree p.body.items.items))
    (subst (λ l. AddsObjects s old (map item_tree l) mid) c.deref.ensures.value c.in_ok-items.ensures.adds)
    (subst (λ l. AddsObjects s mid (items_among (map body_item_tree l)) new) c.deref-2.ensures.value c.in_ok-body_items.ensures.adds)

pub returns-in_err-items-clause-refused : goal.returns-in_err-items-clause-refused
returns-in_err-items-clause-refused c =
    let s = c.args.scope.now in
    let p = c.args.package_.now in
    let why = c.in_err-items.field-0.0 in
    let whole = refused_first s (map item_tree p.declaration.items.items) (items_among (map body_item_tree p.body.items.items)) why
    (subst (λ l. RefusesObjects s (map item_tree l) why) c.deref.ensures.value c.in_err-items.ensures.refused) in
    search (rules, whole)

pub returns-in_err-body_items-clause-refused : goal.returns-in_err-body_items-clause-refused
returns-in_err-body_items-clause-refused c =
    let s = c.args.scope.now in
    let p = c.args.package_.now in
    let why = c.in_err-body_items.field-0.0 in
    let whole = refused_second s (map item_tree p.declaration.items.items) (items_among (map body_item_tree p.body.items.items)) why
    (subst (λ l. RefusesObjects s (items_among (map body_item_tree l)) why) c.deref-2.ensures.value c.in_err-body_items.ensures.refused) in
    search (rules, whole)
