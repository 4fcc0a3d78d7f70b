-- How large a tree is: the count of its nodes.
--
-- A node counts one if it has a token of its own wherever it stands; a comment names that token where it is not the node's first. Lists count what stands in
-- them. These have no token of their own, and count what stands in them:
--   - what only says of which kind a part is: a declaration that is an object, an item that is a task, an index that is a range;
--   - the choices of an alternative, and a body with the specification before it;
--   - a whole text, whose main procedure counts.
-- An identifier counts with what it stands in; a name is a node, of which its first identifier is the token.
use Rattle.std.specs.Prelude.{ℕ, ◌+◌, List, [], ◌∷◌, Option, Some, None, length}
use Rattle.ada_tree.specs.ExpressionTree.{ExprTree, Number, Named, Parenthesized, Conditional, Unary, Binary, ElsifValueTrees, NoElsifValues, MoreElsifValues, SelectorTrees, NoSelectors, MoreSelectors, SelectorTree, Component, Arguments, Attribute, ArgumentTrees, NoArguments, MoreArguments, ArgumentTree, Value, Text, NameTree}
use Rattle.ada_tree.specs.StatementTree as statements
use Rattle.ada_tree.specs.StatementTree.{AspectTree, ObjectTree, TaskDefinitionTree, TaskTree, SubprogramTree, EntryTree, OperationTree, ProtectedComponentTree, ProtectedTree, DeclarationTree, LocalObject, LocalTask, LocalProtected, RangeTree, IterationTree, Forever, While, For, ChoicesTree, Values, OtherValues, StmtTree, Null, Assignment, Call, Exit, Return, Raise, Delay, DelayUntil, If, Case, Loop, Block, Abort, Requeue, Accept, Select, StmtTrees, NoStmts, MoreStmts, ElsifTrees, NoElsifs, MoreElsifs, AlternativeTrees, NoAlternatives, MoreAlternatives, HandlerTrees, NoHandlers, MoreHandlers}
use Rattle.ada_tree.specs.ProgramTree.{IndexTree, OfRange, OfSubtype, DefinitionTree, Integer, Array, Record, Subtype, TypeTree, BodyTree, ItemTree, OfType, OfObject, OfException, OfSubprogram, OfTask, OfProtected, ProtectedItemTree, OperationBody, EntryBody, BodyItemTree, OfItem, SubprogramBody, TaskBody, ProtectedBody, PackageDeclarationTree, PackageBodyTree, PackageTree, MainTree, ProgramTree}

-- what they count together
abbrev pub total : {A : Type 0} → (A → ℕ) → List A → ℕ
total size [] = 0
total size (a ∷ rest) = size a + total size rest

abbrev pub size_if_any : {A : Type 0} → (A → ℕ) → Option A → ℕ
size_if_any size None = 0
size_if_any size (Some a) = size a

-- ---- expressions

abbrev mutual
  -- a binary operation by its operator
  pub expr_size : ExprTree → ℕ
  expr_size (Number value place) = 1
  expr_size (Named first selectors) = 1 + selectors_size selectors
  expr_size (Parenthesized place inner) = 1 + expr_size inner
  expr_size (Conditional place condition value elsif_values else_value) =
      1 + expr_size condition + expr_size value + elsif_values_size elsif_values + expr_size else_value
  expr_size (Unary operator place operand) = 1 + expr_size operand
  expr_size (Binary operator left right) = 1 + expr_size left + expr_size right

  -- each by its `elsif`
  pub elsif_values_size : ElsifValueTrees → ℕ
  elsif_values_size NoElsifValues = 0
  elsif_values_size (MoreElsifValues condition value rest) = 1 + expr_size condition + expr_size value + elsif_values_size rest

  pub selectors_size : SelectorTrees → ℕ
  selectors_size NoSelectors = 0
  selectors_size (MoreSelectors one rest) = selector_size one + selectors_size rest

  -- arguments by the parenthesis that closes them
  pub selector_size : SelectorTree → ℕ
  selector_size (Component name) = 1
  selector_size (Arguments arguments) = 1 + arguments_size arguments
  selector_size (Attribute name) = 1

  pub arguments_size : ArgumentTrees → ℕ
  arguments_size NoArguments = 0
  arguments_size (MoreArguments one rest) = argument_size one + arguments_size rest

  -- an argument by the parenthesis or comma before it
  pub argument_size : ArgumentTree → ℕ
  argument_size (Value e) = 1 + expr_size e
  argument_size (Text label place) = 1

abbrev pub name_size : NameTree → ℕ
name_size n = 1 + selectors_size n.selectors

-- ---- declarations

-- by its two dots
abbrev pub range_size : RangeTree → ℕ
range_size r = 1 + expr_size r.first + expr_size r.last

abbrev pub aspect_size : AspectTree → ℕ
aspect_size a = 1 + expr_size a.value

abbrev pub object_size : ObjectTree → ℕ
object_size d = 1 + size_if_any expr_size d.value

-- the definition, and each entry
abbrev pub task_definition_size : TaskDefinitionTree → ℕ
task_definition_size d = 1 + length d.entries

abbrev pub task_size : TaskTree → ℕ
task_size d = 1 + size_if_any aspect_size d.aspect + size_if_any task_definition_size d.definition

-- the specification, and each formal
abbrev pub subprogram_size : SubprogramTree → ℕ
subprogram_size d = 1 + length d.formals

abbrev pub entry_size : EntryTree → ℕ
entry_size d = 1 + length d.formals

abbrev pub operation_size : OperationTree → ℕ
operation_size (statements.OfSubprogram d a) = subprogram_size d + size_if_any aspect_size a
operation_size (statements.OfEntry d) = entry_size d

abbrev pub protected_component_size : ProtectedComponentTree → ℕ
protected_component_size c = 1 + size_if_any expr_size c.value

abbrev pub protected_size : ProtectedTree → ℕ
protected_size d = 1 + size_if_any aspect_size d.aspect + total operation_size d.operations + total protected_component_size d.components

abbrev pub declaration_size : DeclarationTree → ℕ
declaration_size (LocalObject d) = object_size d
declaration_size (LocalTask d) = task_size d
declaration_size (LocalProtected d) = protected_size d

-- ---- statements

-- the head of a loop
abbrev pub iteration_size : IterationTree → ℕ
iteration_size Forever = 1
iteration_size (While condition) = 1 + expr_size condition
iteration_size (For parameter is_reversed r) = 1 + range_size r

abbrev pub choices_size : ChoicesTree → ℕ
choices_size (Values all) = total expr_size all
choices_size (OtherValues place) = 1

abbrev mutual
  -- a statement by its last token, the semicolon
  pub stmt_size : StmtTree → ℕ
  stmt_size (Null place) = 1
  stmt_size (Assignment target value) = 1 + name_size target + expr_size value
  stmt_size (Call name) = 1 + name_size name
  stmt_size (Exit place condition) = 1 + size_if_any expr_size condition
  stmt_size (Return place value) = 1 + size_if_any expr_size value
  stmt_size (Raise place name) = 1
  stmt_size (Delay place value) = 1 + expr_size value
  stmt_size (DelayUntil place value) = 1 + expr_size value
  stmt_size (If place condition then_part elsif_parts else_part) =
      1 + expr_size condition + stmts_size then_part + elsifs_size elsif_parts + stmts_size else_part
  stmt_size (Case place value all) = 1 + expr_size value + alternatives_size all
  stmt_size (Loop place turns body) = 1 + iteration_size turns + stmts_size body
  stmt_size (Block place declarations body all) = 1 + total declaration_size declarations + stmts_size body + handlers_size all
  stmt_size (Abort place name) = 1
  stmt_size (Requeue place first second) = 1
  stmt_size (Accept place name) = 1
  stmt_size (Select place) = 1

  pub stmts_size : StmtTrees → ℕ
  stmts_size NoStmts = 0
  stmts_size (MoreStmts one rest) = stmt_size one + stmts_size rest

  -- each by its `elsif`
  pub elsifs_size : ElsifTrees → ℕ
  elsifs_size NoElsifs = 0
  elsifs_size (MoreElsifs condition body rest) = 1 + expr_size condition + stmts_size body + elsifs_size rest

  -- each by its `when`
  pub alternatives_size : AlternativeTrees → ℕ
  alternatives_size NoAlternatives = 0
  alternatives_size (MoreAlternatives place all body rest) = 1 + choices_size all + stmts_size body + alternatives_size rest

  -- each by its `when`, and each of its choices
  pub handlers_size : HandlerTrees → ℕ
  handlers_size NoHandlers = 0
  handlers_size (MoreHandlers all body rest) = 1 + length all + stmts_size body + handlers_size rest

-- ---- whole texts

abbrev pub index_size : IndexTree → ℕ
index_size (OfRange r) = range_size r
index_size (OfSubtype name) = 1

-- by the last token, the semicolon; of a record also each component
abbrev pub definition_size : DefinitionTree → ℕ
definition_size (Integer r) = 1 + range_size r
definition_size (Array i components) = 1 + index_size i
definition_size (Record components) = 1 + length components
definition_size (Subtype parent r) = 1 + size_if_any range_size r

abbrev pub type_size : TypeTree → ℕ
type_size d = 1 + definition_size d.definition

abbrev pub item_size : ItemTree → ℕ
item_size (OfType d) = type_size d
item_size (OfObject d) = object_size d
item_size (OfException name) = 1
item_size (OfSubprogram d) = subprogram_size d
item_size (OfTask d) = task_size d
item_size (OfProtected d) = protected_size d

-- by its `begin`
abbrev pub body_size : BodyTree → ℕ
body_size b = 1 + total declaration_size b.declarations + stmts_size b.statements + handlers_size b.handlers

abbrev pub protected_item_size : ProtectedItemTree → ℕ
protected_item_size (OperationBody d b) = subprogram_size d + body_size b
protected_item_size (EntryBody d barrier b) = entry_size d + expr_size barrier + body_size b

abbrev pub body_item_size : BodyItemTree → ℕ
body_item_size (OfItem d) = item_size d
body_item_size (SubprogramBody d b) = subprogram_size d + body_size b
body_item_size (TaskBody name b) = 1 + body_size b
body_item_size (ProtectedBody name items end_name) = 1 + total protected_item_size items

abbrev pub package_declaration_size : PackageDeclarationTree → ℕ
package_declaration_size d = 1 + total item_size d.items

abbrev pub package_body_size : PackageBodyTree → ℕ
package_body_size d = 1 + total body_item_size d.items

-- by the word `with` before main, and each clause
abbrev pub package_size : PackageTree → ℕ
package_size p = 1 + length p.clauses + package_declaration_size p.declaration + package_body_size p.body

-- main, and each of its statements
abbrev pub main_size : MainTree → ℕ
main_size m = 1 + size_if_any aspect_size m.aspect + length m.statements

-- each pragma, the package and main
abbrev pub size : ProgramTree → ℕ
size p = length p.pragmas + size_if_any package_size p.package_ + main_size p.main
