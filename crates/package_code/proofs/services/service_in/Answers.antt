use Rattle.std.proofs.Common.{◌≡◌, [], ◌∷◌, Some, true, false, map, sym, ap, ◌∙◌}
use Rattle.std.specs.Prelude.{option_map}
use Rattle.ada_tree.specs.ProgramTree.{body_item_tree, program_tree, protected_item_tree}
use Rattle.types.specs.Places.{is_of}
use Rattle.expr_soundness.specs.meaning.specs.Programs.{object_numbered, operation_procedures, procedures_among, program_of}
use Rattle.program_soundness.specs.step_soundness.specs.Fitting.{entry_of}
use Rattle.package_code.specs.Objects.{service_of}
use Rattle.package_code.proofs.EntrySearch.{other_service, own_service}
use Rattle.package_code.proofs.services.service_in.Goals as goal

pub returns-then-is_object : goal.returns-then-is_object
returns-then-is_object c =
    let t = program_tree c.args.accepted.now in
    let s = (program_of t).scope in
    let o = c.args.object in
    let name = c.in-Protected.name in
    let is : is_of (object_numbered s name) (Some o) ≡ true =
    ap (λ z. is_of (object_numbered z name) (Some o)) (sym c.scope.ensures) ∙ sym c.is_object.ensures ∙ c.if-is_object.true in
    c.service_among.ensures
    ∙ ap (λ l. option_map (λ q. service_of t o (Some q)) (entry_of (operation_procedures s (Some o) (map protected_item_tree l)) o)) c.deref.ensures.value
    ∙ own_service t o name (map protected_item_tree c.in-Protected.items.items) c.in-Protected.field-2 is
    ∙ ap (λ x. option_map (λ q. service_of t o (Some q)) (entry_of (procedures_among s (x ∷ [])) o)) (sym (ap body_item_tree c.in-Protected.is))

pub returns-else-is_object : goal.returns-else-is_object
returns-else-is_object c =
    let t = program_tree c.args.accepted.now in
    let s = (program_of t).scope in
    let o = c.args.object in
    let name = c.in-Protected.name in
    let other : is_of (object_numbered s name) (Some o) ≡ false =
    ap (λ z. is_of (object_numbered z name) (Some o)) (sym c.scope.ensures) ∙ sym c.is_object.ensures ∙ c.if-is_object.false in
    other_service t o name (map protected_item_tree c.in-Protected.items.items) c.in-Protected.field-2 other
    ∙ ap (λ x. option_map (λ q. service_of t o (Some q)) (entry_of (procedures_among s (x ∷ [])) o)) (sym (ap body_item_tree c.in-Protected.is))
