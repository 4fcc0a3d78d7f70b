use Rattle.std.proofs.Common.{length, ap, rules}
use Rattle.package_code.proofs.ComponentSlots.{component_made_next, component_slots_next, part_refused}
use Rattle.ada_tree.specs.StatementTree.{protected_component_tree}
use Rattle.package_code.specs.Providing.{component_tells}
use Rattle.package_code.proofs.Declared.{all_at}
use Rattle.package_code.proofs.ObjectRows.{component_next}
use Rattle.package_code.proofs.objects.component_words.Goals as goal

pub loop-part-preserved : goal.loop-part-preserved
loop-part-preserved c = (
  component_next c.args.scope.now c.loop-part.words.items c.push_component.new.words.items c.args.components.now c.loop-part.part-index c.part-item.result
      c.loop-part-test.true c.part-item.is c.loop-part.invariant.0 c.in_ok-push_component.ensures.words,
  component_slots_next c.args.scope.now c.args.object c.args.slots.now.items c.loop-part.slots.items c.push_component.new.slots.items
      (length c.loop-part.words.items) c.args.components.now c.loop-part.part-index c.part-item.result c.loop-part-test.true c.part-item.is
      (ap length c.loop-part.invariant.0) c.loop-part.invariant.1 c.in_ok-push_component.ensures.slots,
  component_made_next c.args.scope.now c.args.components.now c.loop-part.part-index c.part-item.result c.loop-part-test.true c.part-item.is
      c.loop-part.invariant.2 c.in_ok-push_component.ensures.made,
)

pub returns-in_err-push_component-clause-refused : goal.returns-in_err-push_component-clause-refused
returns-in_err-push_component-clause-refused c =
    let whole = part_refused c.args.scope.now c.args.components.now c.loop-part.part-index c.part-item.result (length c.loop-part.words.items)
    c.in_err-push_component.field-0.0 c.loop-part-test.true c.part-item.is (ap length c.loop-part.invariant.0) c.in_err-push_component.ensures.refused in
    search (rules, whole)

pub push_component-requires-clause-told : goal.push_component-requires-clause-told
push_component-requires-clause-told c =
    all_at (component_tells c.args.scope.now) protected_component_tree c.args.components.now c.loop-part.part-index c.part-item.result c.loop-part-test.true
    c.part-item.is c.requires.told
