-- What legality says of the names of a package, as statements; each is the contract of a public function.
use Rattle.std.specs.Prelude.{◌≡◌, ℕ, List, [], ◌∷◌, ◌++◌, Some}
use Rattle.expr_soundness.specs.ada_tree.specs.declared.declaration.Formal.{Formal}
use Rattle.expr_soundness.specs.ada_tree.specs.declared.expression.Identifier.{Identifier}
use Rattle.expr_soundness.specs.ada_tree.specs.StatementTree.{DeclarationTree, SubprogramTree}
use Rattle.expr_soundness.specs.ada_tree.specs.ProgramTree.{BodyItemTree, ItemTree, PackageTree, ProgramTree, ProtectedBody, ProtectedItemTree}
use Rattle.types.specs.Scopes.{Scope, standard}
use Rattle.expr_soundness.specs.type_rules.specs.ProfileRules.{formals_faults, profile_faults, subprogram_scope}
use Rattle.declaration_rules.specs.BodyNames.{formals_scope}
use Rattle.declaration_rules.specs.ItemRules.{items_faults, items_scope}
use Rattle.declaration_rules.specs.Laws.{StandsFirst}
use Rattle.declaration_rules.specs.LocalRules.{fixed_locals_faults, locals_faults, locals_scope}
use Rattle.unit_rules.specs.PackageBodyRules.{body_item_faults}
use Rattle.declaration_rules.specs.PackageNames.{inside_scope, program_scope, specified_scope}
use Rattle.legality.specs.ProgramRules.{IsLegal}
use Rattle.ravenscar.specs.ProgramRules.{IsRestricted}
use Rattle.kernel.specs.Invariant.{Fits}
use Rattle.expr_soundness.specs.meaning.specs.Programs.{program_of, program_partition}
use Rattle.expr_soundness.specs.SoundScopes.{SoundScope}
use Rattle.step_soundness.specs.Laws.{BarriersAreOwn}
use Rattle.step_soundness.specs.Objects.{AreSoundObjects}
use Rattle.program_soundness.specs.Points.{IsJudgedItem, IsObjectBody, scope_behind}

-- ---- scopes

-- declarations that break no rule keep a scope sound
pub record DeclarationsAreSound : Type 0 where
  pub items : (s : Scope) (ds : List ItemTree) → SoundScope s → items_faults s ds ≡ [] → SoundScope (items_scope s ds)
  pub subprogram : (s : Scope) (d : SubprogramTree) → SoundScope s → profile_faults s d ≡ [] → SoundScope (subprogram_scope s d)
  -- formals are judged in front of the first of them and of the subprogram's name
  pub formals : (s later : Scope) (fs : List Formal) → SoundScope s → StandsFirst s later → SoundScope later → formals_faults s [] fs ≡ []
      → SoundScope (formals_scope later fs)
  pub locals : (s : Scope) (ds : List DeclarationTree) → SoundScope s → locals_faults s ds ≡ [] → SoundScope (locals_scope s ds)
  pub fixed_locals : (s : Scope) (ds : List DeclarationTree) → SoundScope s → fixed_locals_faults s ds ≡ [] → SoundScope (locals_scope s ds)
  pub object : (s : Scope) (name : Identifier) (items : List ProtectedItemTree) (end_name : Identifier) → SoundScope s
      → body_item_faults s (ProtectedBody name items end_name) ≡ [] → IsObjectBody s name items

-- the names of a legal program are known: all of them, those in front of the package's body, and those at each item of that body
pub record ProgramScopesAreSound : Type 0 where
  pub whole : (t : ProgramTree) → IsLegal t → SoundScope (program_scope t)
  pub inside : (t : ProgramTree) (p : PackageTree) → IsLegal t → t.package_ ≡ Some p → SoundScope (inside_scope standard p)
  pub specified : (t : ProgramTree) (p : PackageTree) → IsLegal t → t.package_ ≡ Some p → SoundScope (specified_scope standard p)
  pub judged : (t : ProgramTree) (p : PackageTree) → IsLegal t → t.package_ ≡ Some p
      → (before : List BodyItemTree) (i : BodyItemTree) (behind : List BodyItemTree) → p.body.items ≡ before ++ i ∷ behind
      → IsJudgedItem t (scope_behind p before) i

-- ---- what runs need beside names

-- variables and components have values of their types at the start (RM 3.3.1)
pub record ObjectsAreSound : Type 0 where
  pub variables : (t : ProgramTree) → IsLegal t → AreSoundObjects (program_scope t) (program_of t).variables
  pub components : (t : ProgramTree) → IsLegal t → (o : ℕ) → AreSoundObjects (program_scope t) ((program_of t).components o)

-- priorities and ceilings are in their range, whatever the aspects of a program are (RM D.1, D.3)
abbrev pub PartitionsFit : Type 0
PartitionsFit = (t : ProgramTree) → Fits (program_partition (program_of t))

-- barriers tell the same while the components of their object do (RM D.7, Simple_Barriers)
abbrev pub BarriersAreTheirOwn : Type 0
BarriersAreTheirOwn = (t : ProgramTree) → IsRestricted t → BarriersAreOwn (program_of t)
