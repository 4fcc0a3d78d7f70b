-- Whole texts without pointers, and the one that a declared program is.
use Rattle.std.specs.Prelude.{ℕ, List, Option, map}
use Rattle.ada_tree.specs.declared.expression.Identifier.{Identifier}
use Rattle.ada_tree.specs.declared.declaration.ArrayIndex.{ArrayIndex}
use Rattle.ada_tree.specs.declared.declaration.ArrayIndex.TheVariants as index
use Rattle.ada_tree.specs.declared.declaration.Component.{Component}
use Rattle.ada_tree.specs.declared.declaration.TypeDefinition.{TypeDefinition}
use Rattle.ada_tree.specs.declared.declaration.TypeDefinition.TheVariants as definition
use Rattle.ada_tree.specs.declared.declaration.TypeDeclaration.{TypeDeclaration}
use Rattle.ada_tree.specs.declared.declaration.Item.{Item}
use Rattle.ada_tree.specs.declared.declaration.Item.TheVariants as item
use Rattle.ada_tree.specs.declared.declaration.Body.{Body}
use Rattle.ada_tree.specs.declared.program.Pragma.{Pragma}
use Rattle.ada_tree.specs.declared.program.UnitClause.{UnitClause}
use Rattle.ada_tree.specs.declared.program.PackageDeclaration.{PackageDeclaration}
use Rattle.ada_tree.specs.declared.program.ProtectedBodyItem.{ProtectedBodyItem}
use Rattle.ada_tree.specs.declared.program.ProtectedBodyItem.TheVariants as protected_item
use Rattle.ada_tree.specs.declared.program.BodyItem.{BodyItem}
use Rattle.ada_tree.specs.declared.program.BodyItem.TheVariants as body_item
use Rattle.ada_tree.specs.declared.program.PackageBody.{PackageBody}
use Rattle.ada_tree.specs.declared.program.Package.{Package}
use Rattle.ada_tree.specs.declared.program.MainStatement.{MainStatement}
use Rattle.ada_tree.specs.declared.program.Main.{Main}
use Rattle.ada_tree.specs.declared.program.Program.{Program}
use Rattle.ada_tree.specs.ExpressionTree.{ExprTree, expr_tree}
use Rattle.ada_tree.specs.StatementTree.{AspectTree, aspect_tree, optional_tree, ObjectTree, object_tree, TaskTree, task_tree, SubprogramTree, subprogram_tree, EntryTree, entry_tree, ProtectedTree, protected_tree, DeclarationTree, declaration_tree, RangeTree, range_tree, StmtTrees, stmt_trees, HandlerTrees, handler_trees}

pub data IndexTree : Type 0 where
  OfRange : RangeTree → IndexTree
  OfSubtype : Identifier → IndexTree

abbrev pub index_tree : ArrayIndex → IndexTree
index_tree (index.Range range) = OfRange (range_tree range)
index_tree (index.Subtype name) = OfSubtype name

pub data DefinitionTree : Type 0 where
  Integer : RangeTree → DefinitionTree
  Array : IndexTree → Identifier → DefinitionTree
  Record : List Component → DefinitionTree
  Subtype : Identifier → Option RangeTree → DefinitionTree

abbrev pub definition_tree : TypeDefinition → DefinitionTree
definition_tree (definition.Integer range) = Integer (range_tree range)
definition_tree (definition.Array i component) = Array (index_tree i) component
definition_tree (definition.Record components) = Record components.items
definition_tree (definition.Subtype name range) = Subtype name (optional_tree range_tree range)

pub record TypeTree : Type 0 where
  pub name : Identifier
  pub definition : DefinitionTree

abbrev pub type_tree : TypeDeclaration → TypeTree
type_tree d = record { name = d.name; definition = definition_tree d.definition }

pub record BodyTree : Type 0 where
  pub declarations : List DeclarationTree
  pub statements : StmtTrees
  pub handlers : HandlerTrees
  pub end_name : Identifier

abbrev pub body_tree : Body → BodyTree
body_tree b = record {
  declarations = map declaration_tree b.declarations.items;
  statements = stmt_trees b.statements.items;
  handlers = handler_trees b.handlers.items;
  end_name = b.end_name;
}

pub data ItemTree : Type 0 where
  OfType : TypeTree → ItemTree
  OfObject : ObjectTree → ItemTree
  OfException : Identifier → ItemTree
  OfSubprogram : SubprogramTree → ItemTree
  OfTask : TaskTree → ItemTree
  OfProtected : ProtectedTree → ItemTree

abbrev pub item_tree : Item → ItemTree
item_tree (item.Type d) = OfType (type_tree d)
item_tree (item.Object d) = OfObject (object_tree d)
item_tree (item.Exception name) = OfException name
item_tree (item.Subprogram d) = OfSubprogram (subprogram_tree d)
item_tree (item.Task d) = OfTask (task_tree d)
item_tree (item.Protected d) = OfProtected (protected_tree d)

pub data ProtectedItemTree : Type 0 where
  OperationBody : SubprogramTree → BodyTree → ProtectedItemTree
  EntryBody : EntryTree → ExprTree → BodyTree → ProtectedItemTree

abbrev pub protected_item_tree : ProtectedBodyItem → ProtectedItemTree
protected_item_tree (protected_item.Subprogram d b) = OperationBody (subprogram_tree d) (body_tree b)
protected_item_tree (protected_item.Entry d barrier b) = EntryBody (entry_tree d) (expr_tree barrier) (body_tree b)

pub data BodyItemTree : Type 0 where
  OfItem : ItemTree → BodyItemTree
  SubprogramBody : SubprogramTree → BodyTree → BodyItemTree
  TaskBody : Identifier → BodyTree → BodyItemTree
  ProtectedBody : Identifier → List ProtectedItemTree → Identifier → BodyItemTree

abbrev pub body_item_tree : BodyItem → BodyItemTree
body_item_tree (body_item.Item d) = OfItem (item_tree d)
body_item_tree (body_item.Subprogram d b) = SubprogramBody (subprogram_tree d) (body_tree b)
body_item_tree (body_item.Task name b) = TaskBody name (body_tree b)
body_item_tree (body_item.Protected name items end_name) = ProtectedBody name (map protected_item_tree items.items) end_name

pub record PackageDeclarationTree : Type 0 where
  pub place : ℕ
  pub name : Identifier
  pub items : List ItemTree
  pub end_name : Identifier

abbrev pub package_declaration_tree : PackageDeclaration → PackageDeclarationTree
package_declaration_tree d = record { place = d.place; name = d.name; items = map item_tree d.items.items; end_name = d.end_name }

pub record PackageBodyTree : Type 0 where
  pub place : ℕ
  pub name : Identifier
  pub items : List BodyItemTree
  pub end_name : Identifier

abbrev pub package_body_tree : PackageBody → PackageBodyTree
package_body_tree d = record { place = d.place; name = d.name; items = map body_item_tree d.items.items; end_name = d.end_name }

pub record PackageTree : Type 0 where
  pub clauses : List UnitClause
  pub declaration : PackageDeclarationTree
  pub body : PackageBodyTree
  pub with_name : Identifier

abbrev pub package_tree : Package → PackageTree
package_tree p = record {
  clauses = p.clauses.items;
  declaration = package_declaration_tree p.declaration;
  body = package_body_tree p.body;
  with_name = p.with_name;
}

pub record MainTree : Type 0 where
  pub place : ℕ
  pub name : Identifier
  pub aspect : Option AspectTree
  pub statements : List MainStatement
  pub end_name : Identifier

abbrev pub main_tree : Main → MainTree
main_tree m = record { place = m.place; name = m.name; aspect = optional_tree aspect_tree m.aspect; statements = m.statements.items; end_name = m.end_name }

pub record ProgramTree : Type 0 where
  pub pragmas : List Pragma
  pub package_ : Option PackageTree
  pub main : MainTree

abbrev pub program_tree : Program → ProgramTree
program_tree p = record { pragmas = p.pragmas.items; package_ = optional_tree package_tree p.package_; main = main_tree p.main }
