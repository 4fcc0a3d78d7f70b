-- Declarations of protected objects in a legal program break no rule, and their names are new.
use Rattle.std.proofs.Common.{◌≡◌, ◌++◌, ◌+◌, List, [], ◌∷◌, false, Some}
use Rattle.expr_soundness.specs.base.specs.declared.faults.TheConstants.{DECLARED_TWICE}
use Rattle.expr_soundness.specs.ada_tree.specs.StatementTree.{ProtectedTree}
use Rattle.expr_soundness.specs.ada_tree.specs.ProgramTree.{BodyItemTree, OfItem, OfProtected, PackageTree, ProgramTree}
use Rattle.types.specs.Scopes.{Scope, is_visible}
use Rattle.expr_soundness.specs.expr_rules.proofs.TypedLaw.{back_empty, front_empty, unbroken}
use Rattle.expr_soundness.specs.type_rules.specs.SubtypeNames.{declared_twice, end_rule}
use Rattle.declaration_rules.specs.ProtectedRules.{operations_faults, parts_faults, protected_faults}
use Rattle.declaration_rules.specs.TaskRules.{aspect_faults}
use Rattle.legality.specs.ProgramRules.{IsLegal}
use Rattle.program_soundness.proofs.Origins.{all_items, at, scope_of}

-- ---- the parts of a declaration

pub parts_of_object : (s : Scope) (d : ProtectedTree) → protected_faults s d ≡ [] → parts_faults s d.name d.operations [] d.components ≡ []
parts_of_object s d h =
    let front = aspect_faults s d.aspect ++ operations_faults s d.name [] d.operations in
    let parts = parts_faults s d.name d.operations [] d.components in
    let ended = end_rule d.name d.end_name in
    back_empty front parts (front_empty (front ++ parts) ended (front_empty (front ++ parts ++ ended) (declared_twice s d.name) h))

-- ---- operations and their declarations

module _ (t : ProgramTree) (p : PackageTree) (legal : IsLegal t) (is : t.package_ ≡ Some p) where
  -- ---- declarations

  -- a declaration of a protected object breaks no rule, and its name is new
  pub object_faults : (front : List BodyItemTree) (d : ProtectedTree) (behind : List BodyItemTree) → all_items p ≡ front ++ OfItem (OfProtected d) ∷ behind
      → (protected_faults (scope_of p front) d ≡ []) × (is_visible (scope_of p front) d.name.name ≡ false)
  object_faults front d behind split =
      let s = scope_of p front in
      let h = (at t p legal is front (OfItem (OfProtected d)) behind split).unbroken in
      let inside = aspect_faults s d.aspect ++ operations_faults s d.name [] d.operations ++ parts_faults s d.name d.operations [] d.components ++ end_rule d.name d.end_name in
      (h, unbroken DECLARED_TWICE d.name.place (is_visible s d.name.name) (back_empty inside (declared_twice s d.name) h))
