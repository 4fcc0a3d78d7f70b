-- Where the variables of the package and the components of its protected objects stand (RM 8.3; docs/FORMATS.md).
use Rattle.std.specs.Prelude.{◌≡◌, ◌≤◌, ◌+◌, ℕ, List, [], ◌∷◌, ◌++◌, length, map, slice_get, take, Option, Some}
use Rattle.base.specs.declared.limits.TheConstants.{WORDS}
use Rattle.ada_tree.specs.ProgramTree.{ProgramTree}
use Rattle.types.specs.declared.entity.RecordComponent.{RecordComponent}
use Rattle.types.specs.declared.entity.Role.TheVariants as role
use Rattle.types.specs.declared.entity.Subtype.{Subtype}
use Rattle.types.specs.Entities.{Entity, Object, Protected, ProtectedObject}
use Rattle.types.specs.Layouts.{Objects, total, words_of}
use Rattle.types.specs.Scopes.{Scope, entity_at, protected_at}
use Rattle.declaration_rules.specs.PackageNames.{program_scope}
use Rattle.size_rules.specs.ProgramSizes.{size_faults}

-- ---- words, where these names are visible

-- a variable of the package takes those of its subtype; a constant takes none
abbrev pub variable_words : Scope → Entity → List ℕ
variable_words s (Object role.Variable t) = words_of s t ∷ []
variable_words s e = []

-- of each variable among some names, in their order
abbrev pub variables_words : Scope → (names : Scope) → List ℕ
variables_words s [] = []
variables_words s (n ∷ rest) = variable_words s n.entity ++ variables_words s rest

-- of each component of a protected object, in their order
abbrev pub components_words : Scope → List RecordComponent → List ℕ
components_words s [] = []
components_words s (c ∷ cs) = words_of s c.subtype ∷ components_words s cs

abbrev pub object_words : Scope → Entity → List (List ℕ)
object_words s (Protected p) = components_words s p.components ∷ []
object_words s e = []

-- of each protected object among some names, in their order
abbrev pub objects_words : Scope → (names : Scope) → List (List ℕ)
objects_words s [] = []
objects_words s (n ∷ rest) = object_words s n.entity ++ objects_words s rest

-- ---- layouts: objects of these words one behind the other

abbrev pub placed : List ℕ → Objects
placed ws = record { words = ws; limit = WORDS }

-- the variables of the package, in the order of the text
abbrev pub variables_layout : Scope → Objects
variables_layout s = placed (variables_words s s)

-- the components of each protected object, each object at its number
abbrev pub object_layouts : Scope → List Objects
object_layouts s = map placed (objects_words s s)

-- ---- the laws of these words, as statements; each is the contract of a public function

abbrev pub total_of_all : List (List ℕ) → ℕ
total_of_all [] = 0
total_of_all (ws ∷ rest) = total ws + total_of_all rest

-- a program that passes no limit has room for its variables and components
abbrev pub HaveRoom : Scope → Type 0
HaveRoom s = total (variables_words s s) + total_of_all (objects_words s s) ≤ WORDS

abbrev pub WordsHaveRoom : Type 0
WordsHaveRoom = (t : ProgramTree) → size_faults t ≡ [] → HaveRoom (program_scope t)

-- the words of a variable stand behind those of the variables in front of it
abbrev pub VariablesStandInOrder : Type 0
VariablesStandInOrder =
    (s : Scope) (n : ℕ) (t : Subtype) → entity_at s n ≡ Some (Object role.Variable t)
    → slice_get (variables_words s s) (length (variables_words s (take n s))) ≡ Some (words_of s t)

-- protected objects stand in the order of their numbers
abbrev pub ObjectsStandAtTheirNumbers : Type 0
ObjectsStandAtTheirNumbers =
    (t : ProgramTree) (n : ℕ) (p : ProtectedObject)
    → protected_at (program_scope t) n ≡ Some p
    → slice_get (objects_words (program_scope t) (program_scope t)) p.number ≡ Some (components_words (program_scope t) p.components)
