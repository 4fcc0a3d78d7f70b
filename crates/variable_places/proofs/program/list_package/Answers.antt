use Rattle.std.proofs.Common.{map, subst}
use Rattle.std.proofs.lemmas.Result.{on_ok_weaker}
use Rattle.ada_tree.specs.ProgramTree.{body_item_tree, item_tree}
use Rattle.meaning.specs.Programs.{items_among}
use Rattle.variable_places.proofs.Walked.{Lists, lists_both}
use Rattle.variable_places.proofs.program.list_package.Goals as goal

pub returns : goal.returns
returns c =
    let s = c.args.names.now in
    let p = c.args.package_.now in
    let old = c.args.listing.now in
    let middle = c.list_items.new.listing in
    let new = c.list_body_items.new.listing in
    let declared = subst (λ l. Lists s old (map item_tree l) middle) c.deref.ensures.value c.in_ok-list_items.ensures in
    on_ok_weaker c.list_body_items.result
    (λ h. lists_both s old middle new (map item_tree p.declaration.items.items) (items_among (map body_item_tree p.body.items.items)) declared
    (subst (λ l. Lists s middle (items_among (map body_item_tree l)) new) c.deref-2.ensures.value h))
    c.list_body_items.ensures
