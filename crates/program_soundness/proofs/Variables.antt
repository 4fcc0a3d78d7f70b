-- Declarations of objects in a legal program break no rule.
use Rattle.std.proofs.Common.{◌≡◌, ◌++◌, List, [], ◌∷◌, false, Some}
use Rattle.expr_soundness.specs.ada_tree.specs.StatementTree.{ObjectTree}
use Rattle.expr_soundness.specs.ada_tree.specs.ProgramTree.{BodyItemTree, OfItem, OfObject, PackageTree, ProgramTree}
use Rattle.types.specs.Scopes.{is_visible}
use Rattle.expr_soundness.specs.expr_rules.proofs.TypedLaw.{back_empty, front_empty, unbroken}
use Rattle.expr_soundness.specs.base.specs.declared.faults.TheConstants.{DECLARED_TWICE}
use Rattle.expr_soundness.specs.type_rules.specs.ObjectRules.{fixed_initial_faults}
use Rattle.expr_soundness.specs.type_rules.specs.SubtypeNames.{declared_twice, subtype_faults}
use Rattle.legality.specs.ProgramRules.{IsLegal}
use Rattle.program_soundness.proofs.Subtypes.{IsNamed, subtype_named}
use Rattle.program_soundness.proofs.Origins.{all_items, at, scope_of}

-- ---- in a legal program

module _ (t : ProgramTree) (p : PackageTree) (legal : IsLegal t) (is : t.package_ ≡ Some p) where
  -- a declaration of an object breaks no rule
  pub record IsLegalObject (front : List BodyItemTree) (d : ObjectTree) : Type 0 where
    pub named : IsNamed (scope_of p front) d.subtype
    pub initial : fixed_initial_faults (scope_of p front) d ≡ []
    pub hidden : is_visible (scope_of p front) d.name.name ≡ false

  pub legal_object : (front : List BodyItemTree) (d : ObjectTree) (behind : List BodyItemTree) → all_items p ≡ front ++ OfItem (OfObject d) ∷ behind → IsLegalObject front d
  legal_object front d behind split =
      let x = at t p legal is front (OfItem (OfObject d)) behind split in
      let s = scope_of p front in
      let two = front_empty (subtype_faults s d.subtype ++ fixed_initial_faults s d) (declared_twice s d.name) x.unbroken in
      record {
        named = subtype_named s x.sound d.subtype (front_empty (subtype_faults s d.subtype) (fixed_initial_faults s d) two);
        initial = back_empty (subtype_faults s d.subtype) (fixed_initial_faults s d) two;
        hidden =
            unbroken DECLARED_TWICE d.name.place (is_visible s d.name.name)
            (back_empty (subtype_faults s d.subtype ++ fixed_initial_faults s d) (declared_twice s d.name) x.unbroken);
      }
