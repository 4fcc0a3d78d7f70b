use Rattle.std.proofs.Common.{true, refl, rules}
use Rattle.std.proofs.lemmas.Bool.{and_from}
use Rattle.ada_tree.specs.ProgramTree.{item_tree}
use Rattle.package_code.specs.Providing.{item_tells}
use Rattle.package_code.proofs.Declared.{all_at}
use Rattle.package_code.proofs.ComponentSlots.{objects_next, object_refused_among}
use Rattle.package_code.proofs.objects.ProtectedObjects.items.Goals as goal

pub loop-item-preserved : goal.loop-item-preserved
loop-item-preserved c =
    objects_next c.args.scope.now c.args.self.now c.loop-item.self c.item.new.self c.args.items.now c.loop-item.item-index c.item-item.result
    c.loop-item-test.true c.item-item.is c.loop-item.invariant c.in_ok-item.ensures.adds

pub returns-in_err-item-clause-refused : goal.returns-in_err-item-clause-refused
returns-in_err-item-clause-refused c =
    let whole = object_refused_among c.args.scope.now c.args.items.now c.loop-item.item-index c.item-item.result c.in_err-item.field-0.0 c.loop-item-test.true
    c.item-item.is c.in_err-item.ensures.refused in
    search (rules, whole)

pub item-requires-clause-told : goal.item-requires-clause-told
item-requires-clause-told c =
    and_from (item_tells c.args.scope.now (item_tree c.item-item.result)) true
    (all_at (item_tells c.args.scope.now) item_tree c.args.items.now c.loop-item.item-index c.item-item.result c.loop-item-test.true c.item-item.is
    c.requires.told) refl
