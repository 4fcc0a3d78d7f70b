use Rattle.std.proofs.Common.{map, subst}
use Rattle.std.proofs.lemmas.Result.{on_ok_weaker}
use Rattle.ada_tree.specs.ProgramTree.{body_item_tree, item_tree}
use Rattle.meaning.specs.Programs.{items_among}
use Rattle.variable_places.proofs.Walked.{Adds, adds_both}
use Rattle.variable_places.proofs.program.push_package.Goals as goal

pub returns : goal.returns
returns c =
    let s = c.args.names.now in
    let p = c.args.package_.now in
    let old = c.args.scopes.now.items in
    let middle = c.push_items.new.scopes.items in
    let new = c.push_body_items.new.scopes.items in
    let declared = subst (λ l. Adds s old (map item_tree l) middle) c.deref.ensures.value c.in_ok-push_items.ensures in
    on_ok_weaker c.push_body_items.result
    (λ h. adds_both s old middle new (map item_tree p.declaration.items.items) (items_among (map body_item_tree p.body.items.items)) declared
    (subst (λ l. Adds s middle (items_among (map body_item_tree l)) new) c.deref-2.ensures.value h))
    c.push_body_items.ensures
