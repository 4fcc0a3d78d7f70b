-- Statements and the declarations in them without pointers, and the ones that declared statements and declarations are.
use Rattle.std.specs.Prelude.{ℕ, Bool, List, [], ◌∷◌, Option, Some, None, map}
use Rattle.ada_tree.specs.declared.expression.Identifier.{Identifier}
use Rattle.ada_tree.specs.declared.statement.Range.{Range}
use Rattle.ada_tree.specs.declared.statement.Iteration.{Iteration}
use Rattle.ada_tree.specs.declared.statement.Iteration.TheVariants as iteration
use Rattle.ada_tree.specs.declared.statement.CaseChoices.{CaseChoices}
use Rattle.ada_tree.specs.declared.statement.CaseChoices.TheVariants as choices
use Rattle.ada_tree.specs.declared.statement.ExceptionChoice.{ExceptionChoice}
use Rattle.ada_tree.specs.declared.statement.Alternative.{Alternative}
use Rattle.ada_tree.specs.declared.statement.ElsifPart.{ElsifPart}
use Rattle.ada_tree.specs.declared.statement.Handler.{Handler}
use Rattle.ada_tree.specs.declared.statement.Stmt.{Stmt, Row_of-Stmt, end_of-Stmt, more_of-Stmt, Row_of-ElsifPart, end_of-ElsifPart, more_of-ElsifPart, Row_of-Alternative, end_of-Alternative, more_of-Alternative, Row_of-Handler, end_of-Handler, more_of-Handler}
use Rattle.ada_tree.specs.declared.statement.Stmt as declared
use Rattle.ada_tree.specs.declared.declaration.Aspect.{Aspect}
use Rattle.ada_tree.specs.declared.declaration.ObjectDeclaration.{ObjectDeclaration}
use Rattle.ada_tree.specs.declared.declaration.TaskDefinition.{TaskDefinition}
use Rattle.ada_tree.specs.declared.declaration.TaskEntry.{TaskEntry}
use Rattle.ada_tree.specs.declared.declaration.TaskDeclaration.{TaskDeclaration}
use Rattle.ada_tree.specs.declared.declaration.Formal.{Formal}
use Rattle.ada_tree.specs.declared.declaration.Subprogram.{Subprogram}
use Rattle.ada_tree.specs.declared.declaration.EntryDeclaration.{EntryDeclaration}
use Rattle.ada_tree.specs.declared.declaration.Operation.{Operation}
use Rattle.ada_tree.specs.declared.declaration.Operation.TheVariants as operation
use Rattle.ada_tree.specs.declared.declaration.ProtectedComponent.{ProtectedComponent}
use Rattle.ada_tree.specs.declared.declaration.ProtectedDeclaration.{ProtectedDeclaration}
use Rattle.ada_tree.specs.declared.declaration.Declaration.{Declaration}
use Rattle.ada_tree.specs.declared.declaration.Declaration.TheVariants as declaration
use Rattle.ada_tree.specs.ExpressionTree.{ExprTree, NameTree, expr_tree, name_tree}

-- ---- declarations

pub record AspectTree : Type 0 where
  pub place : ℕ
  pub name : Identifier
  pub value : ExprTree

abbrev pub aspect_tree : Aspect → AspectTree
aspect_tree a = record { place = a.place; name = a.name; value = expr_tree a.value }

abbrev pub optional_tree : {A B : Type 0} → (A → B) → Option A → Option B
optional_tree f None = None
optional_tree f (Some a) = Some (f a)

pub record ObjectTree : Type 0 where
  pub name : Identifier
  pub constant : Bool
  pub subtype : Identifier
  pub value : Option ExprTree

abbrev pub object_tree : ObjectDeclaration → ObjectTree
object_tree d = record { name = d.name; constant = d.constant; subtype = d.subtype; value = optional_tree expr_tree d.value }

pub record TaskDefinitionTree : Type 0 where
  pub entries : List TaskEntry
  pub end_name : Identifier

abbrev pub task_definition_tree : TaskDefinition → TaskDefinitionTree
task_definition_tree d = record { entries = d.entries.items; end_name = d.end_name }

pub record TaskTree : Type 0 where
  pub place : ℕ
  pub name : Identifier
  pub aspect : Option AspectTree
  pub definition : Option TaskDefinitionTree

abbrev pub task_tree : TaskDeclaration → TaskTree
task_tree d = record {
  place = d.place;
  name = d.name;
  aspect = optional_tree aspect_tree d.aspect;
  definition = optional_tree task_definition_tree d.definition;
}

pub record SubprogramTree : Type 0 where
  pub place : ℕ
  pub name : Identifier
  pub formals : List Formal
  pub result : Option Identifier

abbrev pub subprogram_tree : Subprogram → SubprogramTree
subprogram_tree d = record { place = d.place; name = d.name; formals = d.formals.items; result = d.result }

pub record EntryTree : Type 0 where
  pub place : ℕ
  pub name : Identifier
  pub formals : List Formal

abbrev pub entry_tree : EntryDeclaration → EntryTree
entry_tree d = record { place = d.place; name = d.name; formals = d.formals.items }

pub data OperationTree : Type 0 where
  OfSubprogram : SubprogramTree → Option AspectTree → OperationTree
  OfEntry : EntryTree → OperationTree

abbrev pub operation_tree : Operation → OperationTree
operation_tree (operation.Subprogram d a) = OfSubprogram (subprogram_tree d) (optional_tree aspect_tree a)
operation_tree (operation.Entry d) = OfEntry (entry_tree d)

pub record ProtectedComponentTree : Type 0 where
  pub name : Identifier
  pub subtype : Identifier
  pub value : Option ExprTree

abbrev pub protected_component_tree : ProtectedComponent → ProtectedComponentTree
protected_component_tree c = record { name = c.name; subtype = c.subtype; value = optional_tree expr_tree c.value }

pub record ProtectedTree : Type 0 where
  pub place : ℕ
  pub name : Identifier
  pub aspect : Option AspectTree
  pub operations : List OperationTree
  pub components : List ProtectedComponentTree
  pub end_name : Identifier

abbrev pub protected_tree : ProtectedDeclaration → ProtectedTree
protected_tree d =
    record {
      place = d.place;
      name = d.name;
      aspect = optional_tree aspect_tree d.aspect;
      operations = map operation_tree d.operations.items;
      components = map protected_component_tree d.components.items;
      end_name = d.end_name;
    }

pub data DeclarationTree : Type 0 where
  LocalObject : ObjectTree → DeclarationTree
  LocalTask : TaskTree → DeclarationTree
  LocalProtected : ProtectedTree → DeclarationTree

abbrev pub declaration_tree : Declaration → DeclarationTree
declaration_tree (declaration.Object d) = LocalObject (object_tree d)
declaration_tree (declaration.Task d) = LocalTask (task_tree d)
declaration_tree (declaration.Protected d) = LocalProtected (protected_tree d)

-- ---- parts of statements

pub record RangeTree : Type 0 where
  pub first : ExprTree
  pub last : ExprTree

abbrev pub range_tree : Range → RangeTree
range_tree r = record { first = expr_tree r.first; last = expr_tree r.last }

pub data IterationTree : Type 0 where
  Forever : IterationTree
  While : ExprTree → IterationTree
  For : Identifier → Bool → RangeTree → IterationTree

abbrev pub iteration_tree : Iteration → IterationTree
iteration_tree iteration.Forever = Forever
iteration_tree (iteration.While condition) = While (expr_tree condition)
iteration_tree (iteration.For parameter reversed range) = For parameter reversed (range_tree range)

pub data ChoicesTree : Type 0 where
  Values : List ExprTree → ChoicesTree
  OtherValues : ℕ → ChoicesTree

abbrev pub choices_tree : CaseChoices → ChoicesTree
choices_tree (choices.Values all) = Values (map expr_tree all.items)
choices_tree (choices.Others place) = OtherValues place

-- ---- statements

mutual
  pub data StmtTree : Type 0 where
    Null : ℕ → StmtTree
    Assignment : NameTree → ExprTree → StmtTree
    Call : NameTree → StmtTree
    Exit : ℕ → Option ExprTree → StmtTree
    Return : ℕ → Option ExprTree → StmtTree
    Raise : ℕ → Option Identifier → StmtTree
    Delay : ℕ → ExprTree → StmtTree
    DelayUntil : ℕ → ExprTree → StmtTree
    If : ℕ → ExprTree → StmtTrees → ElsifTrees → StmtTrees → StmtTree
    Case : ℕ → ExprTree → AlternativeTrees → StmtTree
    Loop : ℕ → IterationTree → StmtTrees → StmtTree
    Block : ℕ → List DeclarationTree → StmtTrees → HandlerTrees → StmtTree
    Abort : ℕ → Identifier → StmtTree
    Requeue : ℕ → Identifier → Option Identifier → StmtTree
    Accept : ℕ → Identifier → StmtTree
    Select : ℕ → StmtTree

  pub data StmtTrees : Type 0 where
    NoStmts : StmtTrees
    MoreStmts : StmtTree → StmtTrees → StmtTrees

  pub data ElsifTrees : Type 0 where
    NoElsifs : ElsifTrees
    MoreElsifs : ExprTree → StmtTrees → ElsifTrees → ElsifTrees

  pub data AlternativeTrees : Type 0 where
    NoAlternatives : AlternativeTrees
    MoreAlternatives : ℕ → ChoicesTree → StmtTrees → AlternativeTrees → AlternativeTrees

  pub data HandlerTrees : Type 0 where
    NoHandlers : HandlerTrees
    MoreHandlers : List ExceptionChoice → StmtTrees → HandlerTrees → HandlerTrees

abbrev mutual
  pub stmt_tree : Stmt → StmtTree
  stmt_tree (declared.Null place) = Null place
  stmt_tree (declared.Assignment target value) = Assignment (name_tree target) (expr_tree value)
  stmt_tree (declared.Call name) = Call (name_tree name)
  stmt_tree (declared.Exit place condition) = Exit place (optional_tree expr_tree condition)
  stmt_tree (declared.Return place value) = Return place (optional_tree expr_tree value)
  stmt_tree (declared.Raise place name) = Raise place name
  stmt_tree (declared.Delay place value) = Delay place (expr_tree value)
  stmt_tree (declared.DelayUntil place value) = DelayUntil place (expr_tree value)
  stmt_tree (declared.If' place condition s then_part t elsif_parts u else_part) = If place (expr_tree condition) (stmts_of_row then_part)
      (elsifs_of_row elsif_parts) (stmts_of_row else_part)
  stmt_tree (declared.Case' place value s alternatives) = Case place (expr_tree value) (alternatives_of_row alternatives)
  stmt_tree (declared.Loop' place iteration s statements) = Loop place (iteration_tree iteration) (stmts_of_row statements)
  stmt_tree (declared.Block' place declarations s statements t handlers) = Block place (map declaration_tree declarations.items) (stmts_of_row statements)
      (handlers_of_row handlers)
  stmt_tree (declared.Abort place name) = Abort place name
  stmt_tree (declared.Requeue place first second) = Requeue place first second
  stmt_tree (declared.Accept place name) = Accept place name
  stmt_tree (declared.Select place) = Select place

  pub stmts_of_row : {m : _} → Row_of-Stmt m → StmtTrees
  stmts_of_row end_of-Stmt = NoStmts
  stmts_of_row (more_of-Stmt one rest) = MoreStmts (stmt_tree one) (stmts_of_row rest)

  pub elsifs_of_row : {m : _} → Row_of-ElsifPart m → ElsifTrees
  elsifs_of_row end_of-ElsifPart = NoElsifs
  elsifs_of_row (more_of-ElsifPart condition s statements rest) = MoreElsifs (expr_tree condition) (stmts_of_row statements) (elsifs_of_row rest)

  pub alternatives_of_row : {m : _} → Row_of-Alternative m → AlternativeTrees
  alternatives_of_row end_of-Alternative = NoAlternatives
  alternatives_of_row (more_of-Alternative place choices s statements rest) = MoreAlternatives place (choices_tree choices) (stmts_of_row statements)
      (alternatives_of_row rest)

  pub handlers_of_row : {m : _} → Row_of-Handler m → HandlerTrees
  handlers_of_row end_of-Handler = NoHandlers
  handlers_of_row (more_of-Handler choices s statements rest) = MoreHandlers choices.items (stmts_of_row statements) (handlers_of_row rest)

abbrev pub stmts_of : List StmtTree → StmtTrees
stmts_of [] = NoStmts
stmts_of (s ∷ rest) = MoreStmts s (stmts_of rest)

abbrev pub elsifs_of : List (ExprTree × StmtTrees) → ElsifTrees
elsifs_of [] = NoElsifs
elsifs_of (x ∷ rest) = MoreElsifs x.0 x.1 (elsifs_of rest)

abbrev pub alternatives_of : List (ℕ × (ChoicesTree × StmtTrees)) → AlternativeTrees
alternatives_of [] = NoAlternatives
alternatives_of (x ∷ rest) = MoreAlternatives x.0 x.1.0 x.1.1 (alternatives_of rest)

abbrev pub handlers_of : List (List ExceptionChoice × StmtTrees) → HandlerTrees
handlers_of [] = NoHandlers
handlers_of (x ∷ rest) = MoreHandlers x.0 x.1 (handlers_of rest)

abbrev pub stmt_trees : List Stmt → StmtTrees
stmt_trees all = stmts_of (map stmt_tree all)

abbrev pub elsif_tree : ElsifPart → ExprTree × StmtTrees
elsif_tree e = (expr_tree e.condition, stmt_trees e.statements.items)

abbrev pub elsif_trees : List ElsifPart → ElsifTrees
elsif_trees all = elsifs_of (map elsif_tree all)

abbrev pub alternative_tree : Alternative → ℕ × (ChoicesTree × StmtTrees)
alternative_tree a = (a.place, (choices_tree a.choices, stmt_trees a.statements.items))

abbrev pub alternative_trees : List Alternative → AlternativeTrees
alternative_trees all = alternatives_of (map alternative_tree all)

abbrev pub handler_tree : Handler → List ExceptionChoice × StmtTrees
handler_tree h = (h.choices.items, stmt_trees h.statements.items)

abbrev pub handler_trees : List Handler → HandlerTrees
handler_trees all = handlers_of (map handler_tree all)
