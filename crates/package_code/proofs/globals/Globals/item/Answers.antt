use Rattle.std.proofs.Common.{◌∷◌, [], refl, sym, subst}
use Rattle.std.specs.Prelude.{OnOk}
use Rattle.ada_tree.specs.declared.declaration.Item.TheVariants as item
use Rattle.ada_tree.specs.ProgramTree.{item_tree}
use Rattle.package_code.specs.Globals.{AddsItems}
use Rattle.package_code.proofs.Variables.{adds_exception, adds_nothing}
use Rattle.package_code.proofs.globals.Globals.item.Goals as goal

pub returns-in-Type-clause-adds : goal.returns-in-Type-clause-adds
returns-in-Type-clause-adds c =
    let s = c.args.scope.now in
    let g = c.args.self.now in
    subst (λ i. AddsItems s g (item_tree i ∷ []) g) (sym c.in-Type.is)
    (adds_nothing s (item_tree (item.Type c.in-Type.field-0)) g refl refl)

pub returns-in-Subprogram-clause-adds : goal.returns-in-Subprogram-clause-adds
returns-in-Subprogram-clause-adds c =
    let s = c.args.scope.now in
    let g = c.args.self.now in
    subst (λ i. AddsItems s g (item_tree i ∷ []) g) (sym c.in-Subprogram.is)
    (adds_nothing s (item_tree (item.Subprogram c.in-Subprogram.field-0)) g refl refl)

pub returns-in-Task-clause-adds : goal.returns-in-Task-clause-adds
returns-in-Task-clause-adds c =
    let s = c.args.scope.now in
    let g = c.args.self.now in
    subst (λ i. AddsItems s g (item_tree i ∷ []) g) (sym c.in-Task.is)
    (adds_nothing s (item_tree (item.Task c.in-Task.field-0)) g refl refl)

pub returns-in-Protected-clause-adds : goal.returns-in-Protected-clause-adds
returns-in-Protected-clause-adds c =
    let s = c.args.scope.now in
    let g = c.args.self.now in
    subst (λ i. AddsItems s g (item_tree i ∷ []) g) (sym c.in-Protected.is)
    (adds_nothing s (item_tree (item.Protected c.in-Protected.field-0)) g refl refl)

pub returns-in-Object-clause-adds : goal.returns-in-Object-clause-adds
returns-in-Object-clause-adds c =
    subst (λ i. OnOk c.object.result (AddsItems c.args.scope.now c.args.self.now (item_tree i ∷ []) c.object.new.self)) (sym c.in-Object.is)
    c.object.ensures.adds

pub returns-in_ok-exception-in-Exception-clause-adds : goal.returns-in_ok-exception-in-Exception-clause-adds
returns-in_ok-exception-in-Exception-clause-adds c =
    let s = c.args.scope.now in
    let g = c.args.self.now in
    subst (λ i. AddsItems s g (item_tree i ∷ []) c.exception.new.self) (sym c.in-Exception.is)
    (adds_exception s c.in-Exception.name g c.exception.new.self c.in_ok-exception-in-Exception.ensures.slots
    c.in_ok-exception-in-Exception.ensures.words c.in_ok-exception-in-Exception.ensures.exceptions)
