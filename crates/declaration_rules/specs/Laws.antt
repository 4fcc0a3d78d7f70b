-- What stays of the visible names where a body ends, as statements; each is the contract of a public function.
use Rattle.std.specs.Prelude.{◌≡◌, ℕ, Bool, List, [], length, take}
use Rattle.ada_tree.specs.declared.expression.Identifier.{Identifier}
use Rattle.ada_tree.specs.declared.declaration.Formal.{Formal}
use Rattle.ada_tree.specs.StatementTree.{DeclarationTree, RangeTree}
use Rattle.ada_tree.specs.ProgramTree.{ItemTree}
use Rattle.types.specs.declared.entity.RecordComponent.{RecordComponent}
use Rattle.types.specs.Scopes.{Scope, operations_or, protected_at, with_operations}
use Rattle.declaration_rules.specs.BodyNames.{components_scope, formals_scope, loop_scope, object_body_scope}
use Rattle.declaration_rules.specs.ItemRules.{items_scope}
use Rattle.declaration_rules.specs.LocalRules.{locals_scope}

-- the visible names of the one stand first in the other, in their order
abbrev pub StandsFirst : Scope → Scope → Type 0
StandsFirst s t = take (length s) t ≡ s

-- declarations only add names, at the end
pub record NamesAreAdded : Type 0 where
  pub formals : (s : Scope) (fs : List Formal) → StandsFirst s (formals_scope s fs)
  pub parameter : (s : Scope) (name : Identifier) (r : RangeTree) → StandsFirst s (loop_scope s name r)
  pub locals : (s : Scope) (ds : List DeclarationTree) → StandsFirst s (locals_scope s ds)
  pub items : (s : Scope) (ds : List ItemTree) → StandsFirst s (items_scope s ds)
  pub components : (s : Scope) (is_function : Bool) (cs : List RecordComponent) → StandsFirst s (components_scope s is_function cs)
  -- what stands first in what stands first in a scope stands first in that
  pub together : (s t u : Scope) → StandsFirst s t → StandsFirst t u → StandsFirst s u

-- where the body of a protected object ends, its operations are put back, and all is as it was in front of the body
pub record ObjectBodiesEnd : Type 0 where
  pub begun : (s : Scope) (number : ℕ) → take (length s) (object_body_scope s number) ≡ with_operations s number []
  pub ended : (s : Scope) (number : ℕ) → with_operations (with_operations s number []) number (operations_or (protected_at s number) []) ≡ s
