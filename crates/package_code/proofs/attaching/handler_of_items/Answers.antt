use Rattle.std.proofs.Common.{map, refl, sym, ◌∙◌}
use Rattle.ada_tree.specs.ProgramTree.{item_tree}
use Rattle.package_code.specs.Handlers.{handler_in, handler_of_items}
use Rattle.package_code.proofs.HandlerSearch.{first_found, none_first}
use Rattle.package_code.proofs.attaching.handler_of_items.Goals as goal

pub returns-in-Some : goal.returns-in-Some
returns-in-Some c =
    let s = c.args.scope.now in
    let d = c.args.directory.now in
    first_found s d (λ xs. handler_of_items s c.args.channel (map item_tree xs))
    (λ x. handler_in s c.args.channel (item_tree x))
    (λ x rest. refl) c.args.items.now c.loop-item.item-index c.item-item.result c.loop-item-test.true c.item-item.is c.loop-item.invariant
    c.in-Some.number (sym c.handler_in.ensures ∙ c.in-Some.is)

pub loop-item-preserved : goal.loop-item-preserved
loop-item-preserved c =
    let s = c.args.scope.now in
    let d = c.args.directory.now in
    none_first s d (λ xs. handler_of_items s c.args.channel (map item_tree xs))
    (λ x. handler_in s c.args.channel (item_tree x))
    (λ x rest. refl) c.args.items.now c.loop-item.item-index c.item-item.result c.loop-item-test.true c.item-item.is c.loop-item.invariant
    (sym c.handler_in.ensures ∙ c.in_default.is)
