-- The scopes of a program's dump: its package with the package's variables, and each protected object with its components.
use Rattle.std.specs.Prelude.{ℕ, ◌+◌, List, [], ◌∷◌, ◌++◌, Some, map, option_map}
use Rattle.ada_tree.specs.StatementTree.{ProtectedTree}
use Rattle.ada_tree.specs.ProgramTree.{ItemTree, OfProtected, PackageTree, ProgramTree}
use Rattle.declaration_rules.specs.PackageNames.{program_scope}
use Rattle.meaning.specs.Programs.{component, package_items, variables_among}
use Rattle.types.specs.declared.entity.Subtype.{Subtype}
use Rattle.types.specs.Layouts.{capped, words_of}
use Rattle.types.specs.Places.{Object}
use Rattle.types.specs.Scopes as types
use Rattle.waveforms.specs.Scopes.{VariableScope, Scopes, Variable}
use Rattle.variable_places.specs.Parts.{parts_of}

-- ---- objects one after the other (docs/FORMATS.md)

-- what was listed of the objects so far, and the number of the word after theirs
pub record Listed : Type 0 where
  pub variables : List Variable
  pub next : ℕ

abbrev pub none_listed : Listed
none_listed = record { variables = []; next = 0 }

-- with one object more, of this name
abbrev pub object_listed : types.Scope → Listed → (name : List ℕ) → Subtype → Listed
object_listed s l name t = record { variables = l.variables ++ parts_of s t name l.next; next = capped (l.next + capped (words_of s t)) }

abbrev pub all_listed : types.Scope → Listed → List Object → Listed
all_listed s l [] = l
all_listed s l (x ∷ xs) = all_listed s (object_listed s l x.name x.subtype) xs

-- ---- scopes, where these names are visible

abbrev pub package_scope : types.Scope → PackageTree → VariableScope
package_scope s p = record { name = p.declaration.name.name; variables = (all_listed s none_listed (variables_among s (package_items (Some p)))).variables }

abbrev pub object_scope : types.Scope → ProtectedTree → VariableScope
object_scope s d = record { name = d.name.name; variables = (all_listed s none_listed (map (component s) d.components)).variables }

-- of each protected object that is declared among these, and so each at its number
abbrev pub object_scopes : types.Scope → List ItemTree → List VariableScope
object_scopes s [] = []
object_scopes s (OfProtected d ∷ rest) = object_scope s d ∷ object_scopes s rest
object_scopes s (d ∷ rest) = object_scopes s rest

abbrev pub shown_scopes : types.Scope → ProgramTree → Scopes
shown_scopes s t = record { package_ = option_map (package_scope s) t.package_; objects = object_scopes s (package_items t.package_) }

-- where the names are visible that are so after the program's package
abbrev pub program_scopes : ProgramTree → Scopes
program_scopes t = shown_scopes (program_scope t) t
