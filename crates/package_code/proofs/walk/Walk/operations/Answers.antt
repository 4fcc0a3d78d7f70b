use Rattle.std.proofs.Common.{◌≡◌, map, rules, sym, subst, ◌∙◌, arith}
use Rattle.ada_tree.specs.ProgramTree.{program_tree, protected_item_tree}
use Rattle.declaration_rules.specs.BodyNames.{object_body_scope}
use Rattle.program_soundness.specs.Fronts.{front}
use Rattle.expr_code.specs.Code.{here}
use Rattle.package_code.specs.Stopping.{IsHalt}
use Rattle.package_code.specs.Walking.{IsInObjectBody}
use Rattle.package_code.proofs.Declared.{mapped_at}
use Rattle.package_code.proofs.WalkedInside.{operation_covered, operation_halts, operation_may, operation_number_is, within_next}
use Rattle.package_code.proofs.walk.Walk.operations.Goals as goal

pub operation-requires-clause-added : goal.operation-requires-clause-added
operation-requires-clause-added c =
    let t = program_tree c.args.accepted.now in
    operation_may c.scopes_are_sound.ensures c.names_are_known.ensures c.premises_hold.ensures t c.requires.legal c.requires.restricted c.args.directory.now
    c.requires.directory c.args.object (object_body_scope (front t c.args.self.now.place) c.args.place) c.args.components.now
    (map protected_item_tree c.args.items.now) c.loop-item.item-index c.loop-item.self c.loop-item.invariant.0 (protected_item_tree c.item-item.result)
    (mapped_at protected_item_tree c.args.items.now c.loop-item.item-index c.item-item.result c.loop-item-test.true c.item-item.is)
    c.requires.covered

pub operation-requires-clause-covered : goal.operation-requires-clause-covered
operation-requires-clause-covered c =
    let t = program_tree c.args.accepted.now in
    operation_covered c.scopes_are_sound.ensures c.names_are_known.ensures c.premises_hold.ensures t c.requires.legal c.requires.restricted c.args.directory.now
    c.requires.directory c.args.object (object_body_scope (front t c.args.self.now.place) c.args.place) c.args.components.now
    (map protected_item_tree c.args.items.now) c.loop-item.item-index c.loop-item.self c.loop-item.invariant.0 (protected_item_tree c.item-item.result)
    (mapped_at protected_item_tree c.args.items.now c.loop-item.item-index c.item-item.result c.loop-item-test.true c.item-item.is)
    c.requires.covered

pub operation-requires-clause-numbered : goal.operation-requires-clause-numbered
operation-requires-clause-numbered c =
    let t = program_tree c.args.accepted.now in
    operation_number_is c.scopes_are_sound.ensures c.names_are_known.ensures c.premises_hold.ensures t c.requires.legal c.requires.restricted
    c.args.directory.now c.requires.directory c.args.object (object_body_scope (front t c.args.self.now.place) c.args.place) c.args.components.now
    (map protected_item_tree c.args.items.now) c.loop-item.item-index c.loop-item.self c.loop-item.invariant.0 (protected_item_tree c.item-item.result)
    (mapped_at protected_item_tree c.args.items.now c.loop-item.item-index c.item-item.result c.loop-item-test.true c.item-item.is)
    c.bodies_are_numbered.ensures

pub loop-item-preserved : goal.loop-item-preserved
loop-item-preserved c =
    let t = program_tree c.args.accepted.now in
    let items = map protected_item_tree c.args.items.now in
    let s = object_body_scope (front t c.args.self.now.place) c.args.place in (
      subst (λ k. IsInObjectBody t c.args.directory.now c.args.object s c.args.components.now items k c.operation.new.self) (omega arith)
          (within_next c.scopes_are_sound.ensures c.names_are_known.ensures c.premises_hold.ensures t c.requires.legal c.requires.restricted c.args.directory.now
          c.requires.directory c.args.object s c.args.components.now items c.loop-item.item-index c.loop-item.self c.loop-item.invariant.0
          (protected_item_tree c.item-item.result)
          (mapped_at protected_item_tree c.args.items.now c.loop-item.item-index c.item-item.result c.loop-item-test.true c.item-item.is)
          c.operation.new.self c.in-Ok.ensures.adds),
      c.in-Ok.ensures.adds.place ∙ c.loop-item.invariant.1,
    )

pub returns-in-Err-clause-halts : goal.returns-in-Err-clause-halts
returns-in-Err-clause-halts c =
    let t = program_tree c.args.accepted.now in
    let before : c.len-before.result ≡ here c.loop-item.self.draft.code = search rules in
    subst (IsHalt t) (sym c.halt_for.ensures)
    (operation_halts c.scopes_are_sound.ensures c.names_are_known.ensures c.premises_hold.ensures t c.requires.legal c.requires.restricted
    c.args.directory.now c.requires.directory c.args.object (object_body_scope (front t c.args.self.now.place) c.args.place) c.args.components.now
    (map protected_item_tree c.args.items.now) c.loop-item.item-index c.loop-item.self c.loop-item.invariant.0 (protected_item_tree c.item-item.result)
    (mapped_at protected_item_tree c.args.items.now c.loop-item.item-index c.item-item.result c.loop-item-test.true c.item-item.is)
    c.own_place.result c.len-before.result c.own_place.ensures before c.in-Err.why c.in-Err.ensures.refused)
