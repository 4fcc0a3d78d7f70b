use Rattle.std.proofs.Common.{◌≡◌, ◌<◌, sym, length, map, get_or}
use Rattle.std.proofs.lemmas.Bool.{ltb-true}
use Rattle.ada_tree.specs.ProgramTree.{body_item_tree, item_tree}
use Rattle.conformance.specs.Tables.{has_body_key}
use Rattle.conformance.proofs.Tabled.{seen_next}
use Rattle.conformance.proofs.Alike.{declared_next}
use Rattle.conformance.proofs.front.Front.go_on.Goals as goal

pub invariant_of-result : goal.invariant_of-result
invariant_of-result c =
    let front = c.self.inside in
    let items = front.items.now in
    let n = front.count in
    let x = c.in-Some.item.now in
    let less : n < length items = ltb-true n (length items) (sym c.in-Some.ensures.lookup.0) in
    let at : x ≡ get_or items n x = c.in-Some.ensures.lookup.1 in (
      seen_next body_item_tree has_body_key items n x front.bodies.set.keys c.see_item.new.self.set.keys less at c.self.invariant.0 c.in_ok-see_item-in-Some.ensures,
      declared_next body_item_tree (map item_tree front.specified.now) items n x front.profiles.table.entries c.declare_inner.new.profiles.table.entries
          less at c.self.invariant.1 c.in_ok-declare_inner-in-Some.ensures,
    )
