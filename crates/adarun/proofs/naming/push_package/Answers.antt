use Rattle.std.proofs.Common.{map, subst}
use Rattle.compiler.specs.ada_tree.specs.ProgramTree.{body_item_tree, item_tree}
use Rattle.compiler.specs.meaning.specs.Programs.{items_among}
use Rattle.adarun.proofs.Named.{Adds, adds_both, on_ok}
use Rattle.adarun.proofs.naming.push_package.Goals as goal

pub returns : goal.returns
returns c =
    let p = c.args.package_.now in
    let old = c.args.names.now.items in
    let middle = c.push_items.new.names.items in
    let new = c.push_body_items.new.names.items in
    let declared = subst (λ l. Adds old (map item_tree l) middle) c.deref.ensures.value c.in_ok-push_items.ensures in
    on_ok _ _ _
    (λ h. adds_both old middle new (map item_tree p.declaration.items.items) (items_among (map body_item_tree p.body.items.items)) declared
    (subst (λ l. Adds middle (items_among (map body_item_tree l)) new) c.deref-2.ensures.value h))
    c.push_body_items.ensures
