-- The points of a package at which its bodies are judged, and what holds of the names that are visible there (RM 8.2, 8.3, 9.4).
use Rattle.std.specs.Prelude.{◌≡◌, ℕ, Bool, List, [], ◌∷◌, ◌++◌, Some}
use Rattle.expr_soundness.specs.ada_tree.specs.declared.expression.Identifier.{Identifier}
use Rattle.expr_soundness.specs.ada_tree.specs.ProgramTree.{BodyItemTree, PackageTree, ProgramTree, ProtectedItemTree}
use Rattle.types.specs.declared.entity.RecordComponent.{RecordComponent}
use Rattle.types.specs.Entities.{Protected, ProtectedObject}
use Rattle.types.specs.Scopes.{Scope, entity_at, number_of, standard}
use Rattle.declaration_rules.specs.BodyNames.{components_scope, object_body_scope}
use Rattle.declaration_rules.specs.Laws.{StandsFirst}
use Rattle.declaration_rules.specs.PackageNames.{body_items_scope, program_scope, specified_scope}
use Rattle.unit_rules.specs.PackageBodyRules.{body_item_faults}
use Rattle.unit_rules.specs.ProtectedBodyRules.{protected_item_faults, protected_items_scope}
use Rattle.expr_soundness.specs.SoundScopes.{AreKnownParts, SoundScope}

-- ---- in the body of the package

-- the names that are visible behind these items of it
abbrev pub scope_behind : PackageTree → (before : List BodyItemTree) → Scope
scope_behind p before = body_items_scope (specified_scope standard p) before

-- an item that breaks no rule where these names are visible, which are the first of all names of the package
pub record IsJudgedItem (t : ProgramTree) (s : Scope) (i : BodyItemTree) : Type 0 where
  pub sound : SoundScope s
  pub legal : body_item_faults s i ≡ []
  pub first : StandsFirst s (program_scope t)

-- ---- in the body of a protected object

-- an operation that breaks no rule where these names are visible, beside the components of its object
pub record IsJudgedOperation (s : Scope) (components : List RecordComponent) (i : ProtectedItemTree) : Type 0 where
  pub sound : SoundScope s
  pub legal : protected_item_faults s components i ≡ []
  pub seen : (is_function : Bool) → SoundScope (components_scope s is_function components)

-- the body of a protected object, in front of which these names are visible: the object, and each operation behind those in front of it
pub record IsObjectBody (s : Scope) (name : Identifier) (items : List ProtectedItemTree) : Type 0 where
  pub number : ℕ
  pub object : ProtectedObject
  pub numbered : number_of s name.name ≡ Some number
  pub stands : entity_at s number ≡ Some (Protected object)
  pub known : AreKnownParts s object.components
  pub judged : (earlier : List ProtectedItemTree) (i : ProtectedItemTree) (later : List ProtectedItemTree) → items ≡ earlier ++ i ∷ later
      → IsJudgedOperation (protected_items_scope (object_body_scope s number) earlier) object.components i
