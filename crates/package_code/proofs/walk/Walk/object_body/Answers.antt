use Rattle.std.proofs.Common.{◌≡◌, ◌≤◌, length, map, refl, arith, rules, sym, ap, ◌∙◌, subst}
use Rattle.std.proofs.lemmas.List.{length-map}
use Rattle.ada_tree.specs.ProgramTree.{program_tree, protected_item_tree}
use Rattle.types.specs.Entities.{operation_value}
use Rattle.declaration_rules.specs.BodyNames.{object_body_scope}
use Rattle.expr_soundness.specs.meaning.specs.Programs.{program_of}
use Rattle.program_soundness.specs.Fronts.{front}
use Rattle.package_code.specs.Bodies.{object_number}
use Rattle.package_code.specs.Directory.{seen_inside}
use Rattle.package_code.specs.Owners.{offered_names}
use Rattle.package_code.specs.Walking.{IsInObjectBody}
use Rattle.package_code.proofs.OperationBodies.{object_few}
use Rattle.package_code.proofs.WalkedInside.{object_enters, object_leaves, place_fits}
use Rattle.package_code.proofs.walk.Walk.object_body.Goals as goal

pub operations-requires-clause-within : goal.operations-requires-clause-within
operations-requires-clause-within c =
    let short : c.in_ok-short.short ≡ c.object_number-object.result = search rules in
    object_enters c.scopes_are_sound.ensures c.names_are_known.ensures c.premises_hold.ensures (program_tree c.args.accepted.now) c.requires.legal
    c.requires.restricted c.args.directory.now c.requires.directory c.args.self.now c.args.name.now (map protected_item_tree c.args.items.now) c.requires.at.0
    c.requires.at.1 c.requires.walked c.requires.told _ c.args.number c.in_ok-short.short (map operation_value c.in_ok-operations.operations)
    c.deref.result.now c.enter_object.new.scope c.scope-2.result.now c.object_number-object.result c.requires.numbered
    c.in_ok-operations.ensures.scope c.in_ok-operations.ensures.operations (c.deref.ensures.value ∙ c.in_ok-components.ensures.components) c.scope-2.ensures
    (c.object_number-object.ensures ∙ ap (λ s. object_number s c.args.name.now) (c.scope.ensures ∙ sym c.scope-2.ensures)) short
    (c.in_ok-tell_operations.ensures.seen
    ∙ ap (λ os. seen_inside c.scope-2.result.now c.args.directory.now c.object_number-object.result
    (record c.args.self.now.visible { scope = c.enter_object.new.scope }) (offered_names (map operation_value os))) c.as_slice.ensures)
    refl refl refl

-- behind the last of its bodies
behind_all : (c : goal.After-drop-components-2) → (let t = program_tree c.args.accepted.now in
    let items = map protected_item_tree c.args.items.now in
    IsInObjectBody t c.args.directory.now (object_number (program_of t).scope c.args.name.now)
    (object_body_scope (front t c.args.self.now.place) c.args.number) c.deref.result.now items (length items) c.operations-2.new.self)
behind_all c =
    let t = program_tree c.args.accepted.now in
    let short : c.in_ok-short.short ≡ c.object_number-object.result = search rules in
    let same : c.in_ok-short.short ≡ object_number (program_of t).scope c.args.name.now =
    short ∙ c.object_number-object.ensures ∙ ap (λ s. object_number s c.args.name.now) c.scope.ensures in
    let s = object_body_scope (front t c.args.self.now.place) c.args.number in
    let items = map protected_item_tree c.args.items.now in
    let components = c.deref.result.now in
    subst (λ k. IsInObjectBody t c.args.directory.now (object_number (program_of t).scope c.args.name.now) s components items k c.operations-2.new.self)
    (sym (length-map c.args.items.now protected_item_tree))
    (subst (λ o. IsInObjectBody t c.args.directory.now o s components items (length c.args.items.now) c.operations-2.new.self) same
    c.in_ok-operations-2.ensures.within)

pub returns-clause-walked : goal.returns-clause-walked
returns-clause-walked c =
    (object_leaves c.scopes_are_sound.ensures c.names_are_known.ensures c.premises_hold.ensures (program_tree c.args.accepted.now) c.requires.legal
    c.requires.restricted c.args.directory.now c.requires.directory c.args.self.now c.args.name.now (map protected_item_tree c.args.items.now)
    c.requires.at.0 c.requires.at.1 c.requires.walked c.requires.told c.args.number c.deref.result.now c.operations-2.new.self (behind_all c)
    c.in_ok-operations-2.ensures.place c.object_bodies_end.ensures (map operation_value c.in_ok-operations.operations) c.len-len.result
    c.leave_object.new.scope c.truncate.new.self c.truncate-2.new.self _ c.len-len.ensures.value c.in_ok-operations.ensures.operations
    c.leave_object.ensures c.truncate.ensures c.truncate-2.ensures refl refl refl refl).0

pub returns-clause-told : goal.returns-clause-told
returns-clause-told c =
    (object_leaves c.scopes_are_sound.ensures c.names_are_known.ensures c.premises_hold.ensures (program_tree c.args.accepted.now) c.requires.legal
    c.requires.restricted c.args.directory.now c.requires.directory c.args.self.now c.args.name.now (map protected_item_tree c.args.items.now)
    c.requires.at.0 c.requires.at.1 c.requires.walked c.requires.told c.args.number c.deref.result.now c.operations-2.new.self (behind_all c)
    c.in_ok-operations-2.ensures.place c.object_bodies_end.ensures (map operation_value c.in_ok-operations.operations) c.len-len.result
    c.leave_object.new.scope c.truncate.new.self c.truncate-2.new.self _ c.len-len.ensures.value c.in_ok-operations.ensures.operations
    c.leave_object.ensures c.truncate.ensures c.truncate-2.ensures refl refl refl refl).1

pub returns-in_err-short-clause-halts : goal.returns-in_err-short-clause-halts
returns-in_err-short-clause-halts c =
    let few = object_few c.scopes_are_sound.ensures c.names_are_known.ensures c.premises_hold.ensures (program_tree c.args.accepted.now) c.requires.legal
    c.requires.restricted c.args.self.now.place c.args.name.now (map protected_item_tree c.args.items.now)
    c.requires.at.0 c.requires.at.1 in
    let is = c.object_number-object.ensures ∙ ap (λ s. object_number s c.args.name.now) c.scope.ensures in
    let most : (program_of (program_tree c.args.accepted.now)).objects ≤ 64 = c.requires.objects in
    let small : c.object_number-object.result ≤ 65535 = omega (arith, few, is, most) in
    search (arith, rules, small)

pub overflow_add-self : goal.overflow_add-self
overflow_add-self c =
    let up = place_fits c.args.accepted.now.package_ c.args.self.now.place _ c.requires.at.1 in
    let stays = c.in_ok-operations-2.ensures.place in
    record { fits = omega (arith, up, stays) }
