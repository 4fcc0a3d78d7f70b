-- What is told of a program beside its image: the names of its protected objects and their entries, in the order of their declarations, which is that of the
-- objects' numbers in the image, and the places of its statements and declarations.
use Rattle.std.specs.Prelude.{◌≡◌, ℕ, List, [], ◌∷◌, map, Option, Some, None, Result, Ok, Err}
use Rattle.image.specs.Sections.{Sections}
use Rattle.lexer.specs.declared.fault.Fault.{Fault}
use Rattle.compiler.specs.ada_tree.specs.ProgramTree.{ItemTree, OfProtected, ProgramTree}
use Rattle.compiler.specs.ada_tree.specs.StatementTree.{OfEntry, OperationTree}
use Rattle.compiler.specs.meaning.specs.Programs.{package_items}
use Rattle.compiler.specs.package_code.specs.Places.{PlacesTell}
use Rattle.compiler.specs.stmt_code.specs.declared.tables.PlaceRow.{PlaceRow}
use Rattle.adarun.specs.Accepted.{Compiles}
use Rattle.adarun.specs.declared.compilation.Named.{Named}
use Rattle.adarun.specs.declared.naming.ObjectNames.{ObjectNames}

-- the name of the entry among operations, if one is declared
abbrev pub entry_among : List OperationTree → Option (List ℕ)
entry_among [] = None
entry_among (OfEntry d ∷ rest) = Some d.name.name
entry_among (o ∷ rest) = entry_among rest

abbrev pub declared_objects : List ItemTree → List ObjectNames
declared_objects [] = []
declared_objects (OfProtected d ∷ rest) = record { object = d.name.name; entry = entry_among d.operations } ∷ declared_objects rest
declared_objects (d ∷ rest) = declared_objects rest

abbrev pub objects_of : ProgramTree → List ObjectNames
objects_of t = declared_objects (package_items t.package_)

-- the names of the objects alone
abbrev pub names_alone : List ObjectNames → List (List ℕ)
names_alone objects = map (λ names. names.object) objects

abbrev pub object_names : ProgramTree → List (List ℕ)
object_names t = names_alone (objects_of t)

-- The text's image, and of the tree of which it was made the names of the objects and entries, and the places of the statements and declarations, by the
-- instructions of the image.
pub record CompilesNamed (text : List ℕ) (image : Sections) (objects : List ObjectNames) (places : List PlaceRow) : Type 0 where
  pub compiles : Compiles text image
  pub names : objects ≡ objects_of compiles.tree
  pub placed : PlacesTell compiles.tree image places

-- the image alone, or why there is none
abbrev pub imaged : Result Named Fault → Result Sections Fault
imaged (Ok named) = Ok named.image
imaged (Err fault) = Err fault
