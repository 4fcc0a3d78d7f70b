-- What ends at an `end`, by the place of the name that is written after it (RM 6.3, 7.1, 9.1, 9.4).
use Rattle.std.specs.Prelude.{ℕ, List, [], ◌++◌, Option, Some, None, codes, if◌then◌else◌, nat_eq}
use Rattle.ada_tree.specs.declared.expression.Identifier.{Identifier}
use Rattle.ada_tree.specs.StatementTree.{TaskDefinitionTree}
use Rattle.ada_tree.specs.ProgramTree.{BodyItemTree, EntryBody, ItemTree, OfItem, OfProtected, OfTask, OperationBody, PackageTree, ProgramTree, ProtectedBody, ProtectedItemTree, SubprogramBody, TaskBody}
use Rattle.diagnostics.specs.hints.Found.{first_found, or_else}
use Rattle.diagnostics.specs.hints.Places.{place_text}

-- what has this name, where the name after its `end` is at the place
abbrev pub ends_at : ℕ → (name end_name : Identifier) → Option Identifier
ends_at place name end_name = if nat_eq end_name.place place then Some name else None

abbrev pub task_end : ℕ → Identifier → Option TaskDefinitionTree → Option Identifier
task_end place name (Some d) = ends_at place name d.end_name
task_end place name None = None

abbrev pub item_end : ℕ → ItemTree → Option Identifier
item_end place (OfTask d) = task_end place d.name d.definition
item_end place (OfProtected d) = ends_at place d.name d.end_name
item_end place d = None

abbrev pub operation_end : ℕ → ProtectedItemTree → Option Identifier
operation_end place (OperationBody d b) = ends_at place d.name b.end_name
operation_end place (EntryBody d barrier b) = ends_at place d.name b.end_name

abbrev pub body_item_end : ℕ → BodyItemTree → Option Identifier
body_item_end place (OfItem d) = item_end place d
body_item_end place (SubprogramBody d b) = ends_at place d.name b.end_name
body_item_end place (TaskBody name b) = ends_at place name b.end_name
body_item_end place (ProtectedBody name items end_name) = or_else (ends_at place name end_name) (first_found (operation_end place) items)

-- the specification, the body, or something that is declared or has its body in them
abbrev pub package_end : ℕ → PackageTree → Option Identifier
package_end place p =
    or_else (ends_at place p.declaration.name p.declaration.end_name)
    (or_else (ends_at place p.body.name p.body.end_name)
    (or_else (first_found (item_end place) p.declaration.items) (first_found (body_item_end place) p.body.items)))

abbrev pub optional_end : ℕ → Option PackageTree → Option Identifier
optional_end place (Some p) = package_end place p
optional_end place None = None

-- The name of what ends where this place is that of the name after `end`: main, the package, or what it declares; of what bodies declare none.
abbrev pub ended_at : ℕ → ProgramTree → Option Identifier
ended_at place t = or_else (ends_at place t.main.name t.main.end_name) (optional_end place t.package_)

unfoldable pub expected_part : (name : List ℕ) → List ℕ
expected_part name = codes "hint: `end " ++ name

unfoldable pub ended_part : (text name : List ℕ) → (place : ℕ) → List ℕ
ended_part text name place = name ++ codes " at " ++ place_text text place ++ codes "\n"

-- the name that is wanted after the `end`, and where it is
abbrev pub end_name_lines : (text : List ℕ) → Option Identifier → List ℕ
end_name_lines text (Some i) = expected_part i.name ++ codes ";` is expected here, for " ++ ended_part text i.name i.place
end_name_lines text None = []
