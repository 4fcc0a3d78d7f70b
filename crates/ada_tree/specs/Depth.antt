-- How deep a tree is: the greatest number of levels that are open at once in it.
--
-- These open a level, from their first token to their last:
--   - an expression in parentheses;
--   - the arguments of a name with their parentheses, the formals of a subprogram or an entry with theirs, and the index of an array type with its own;
--   - an if statement, a case statement, a loop and a block;
--   - an if expression, which opens two: one with its parenthesis, and in it one with its `if`.
-- Nothing else opens one: not the parentheses of a pragma, in which nothing can be nested, nor a declaration, a body, a select statement, operators or a list
-- of statements.
use Rattle.std.specs.Prelude.{ℕ, suc, max, List, [], ◌∷◌, Option, Some, None}
use Rattle.ada_tree.specs.ExpressionTree.{ExprTree, Number, Named, Parenthesized, Conditional, Unary, Binary, ElsifValueTrees, NoElsifValues, MoreElsifValues, SelectorTrees, NoSelectors, MoreSelectors, SelectorTree, Component, Arguments, Attribute, ArgumentTrees, NoArguments, MoreArguments, ArgumentTree, Value, Text, NameTree}
use Rattle.ada_tree.specs.StatementTree.{AspectTree, ObjectTree, TaskTree, SubprogramTree, EntryTree, OperationTree, OfSubprogram, OfEntry, ProtectedComponentTree, ProtectedTree, DeclarationTree, LocalObject, LocalTask, LocalProtected, RangeTree, IterationTree, Forever, While, For, ChoicesTree, Values, OtherValues, StmtTree, Null, Assignment, Call, Exit, Return, Raise, Delay, DelayUntil, If, Case, Loop, Block, Abort, Requeue, Accept, Select, StmtTrees, NoStmts, MoreStmts, ElsifTrees, NoElsifs, MoreElsifs, AlternativeTrees, NoAlternatives, MoreAlternatives, HandlerTrees, NoHandlers, MoreHandlers}
use Rattle.ada_tree.specs.declared.declaration.Formal.{Formal}
use Rattle.ada_tree.specs.ProgramTree as items
use Rattle.ada_tree.specs.ProgramTree.{IndexTree, OfRange, OfSubtype, DefinitionTree, Integer, Array, Record, Subtype, BodyTree, ItemTree, OfType, OfObject, OfException, OfTask, OfProtected, ProtectedItemTree, OperationBody, EntryBody, BodyItemTree, OfItem, SubprogramBody, TaskBody, ProtectedBody, PackageTree, MainTree, ProgramTree}

-- the depth of the deepest one; 0 where there is none
abbrev pub deepest : {A : Type 0} → (A → ℕ) → List A → ℕ
deepest depth [] = 0
deepest depth (a ∷ rest) = max (depth a) (deepest depth rest)

abbrev pub depth_if_any : {A : Type 0} → (A → ℕ) → Option A → ℕ
depth_if_any depth None = 0
depth_if_any depth (Some a) = depth a

-- ---- expressions

abbrev mutual
  pub expr_depth : ExprTree → ℕ
  expr_depth (Number value place) = 0
  expr_depth (Named first selectors) = selectors_depth selectors
  expr_depth (Parenthesized place inner) = suc (expr_depth inner)
  expr_depth (Conditional place condition value elsif_values else_value) =
      suc (suc (max (expr_depth condition) (max (expr_depth value) (max (elsif_values_depth elsif_values) (expr_depth else_value)))))
  expr_depth (Unary operator place operand) = expr_depth operand
  expr_depth (Binary operator left right) = max (expr_depth left) (expr_depth right)

  pub elsif_values_depth : ElsifValueTrees → ℕ
  elsif_values_depth NoElsifValues = 0
  elsif_values_depth (MoreElsifValues condition value rest) = max (expr_depth condition) (max (expr_depth value) (elsif_values_depth rest))

  pub selectors_depth : SelectorTrees → ℕ
  selectors_depth NoSelectors = 0
  selectors_depth (MoreSelectors one rest) = max (selector_depth one) (selectors_depth rest)

  pub selector_depth : SelectorTree → ℕ
  selector_depth (Component name) = 0
  selector_depth (Arguments arguments) = suc (arguments_depth arguments)
  selector_depth (Attribute name) = 0

  pub arguments_depth : ArgumentTrees → ℕ
  arguments_depth NoArguments = 0
  arguments_depth (MoreArguments one rest) = max (argument_depth one) (arguments_depth rest)

  pub argument_depth : ArgumentTree → ℕ
  argument_depth (Value e) = expr_depth e
  argument_depth (Text label place) = 0

abbrev pub name_depth : NameTree → ℕ
name_depth n = selectors_depth n.selectors

-- ---- declarations

abbrev pub range_depth : RangeTree → ℕ
range_depth r = max (expr_depth r.first) (expr_depth r.last)

abbrev pub aspect_depth : AspectTree → ℕ
aspect_depth a = expr_depth a.value

abbrev pub object_depth : ObjectTree → ℕ
object_depth d = depth_if_any expr_depth d.value

abbrev pub task_depth : TaskTree → ℕ
task_depth d = depth_if_any aspect_depth d.aspect

abbrev pub protected_component_depth : ProtectedComponentTree → ℕ
protected_component_depth c = depth_if_any expr_depth c.value

abbrev pub formals_depth : List Formal → ℕ
formals_depth [] = 0
formals_depth (f ∷ rest) = 1

abbrev pub subprogram_depth : SubprogramTree → ℕ
subprogram_depth d = formals_depth d.formals

abbrev pub entry_depth : EntryTree → ℕ
entry_depth d = formals_depth d.formals

abbrev pub operation_depth : OperationTree → ℕ
operation_depth (OfSubprogram d a) = max (subprogram_depth d) (depth_if_any aspect_depth a)
operation_depth (OfEntry d) = entry_depth d

abbrev pub protected_depth : ProtectedTree → ℕ
protected_depth d = max (depth_if_any aspect_depth d.aspect) (max (deepest operation_depth d.operations) (deepest protected_component_depth d.components))

abbrev pub declaration_depth : DeclarationTree → ℕ
declaration_depth (LocalObject d) = object_depth d
declaration_depth (LocalTask d) = task_depth d
declaration_depth (LocalProtected d) = protected_depth d

-- ---- statements

abbrev pub iteration_depth : IterationTree → ℕ
iteration_depth Forever = 0
iteration_depth (While condition) = expr_depth condition
iteration_depth (For parameter is_reversed r) = range_depth r

abbrev pub choices_depth : ChoicesTree → ℕ
choices_depth (Values all) = deepest expr_depth all
choices_depth (OtherValues place) = 0

abbrev mutual
  pub stmt_depth : StmtTree → ℕ
  stmt_depth (Null place) = 0
  stmt_depth (Assignment target value) = max (name_depth target) (expr_depth value)
  stmt_depth (Call name) = name_depth name
  stmt_depth (Exit place condition) = depth_if_any expr_depth condition
  stmt_depth (Return place value) = depth_if_any expr_depth value
  stmt_depth (Raise place name) = 0
  stmt_depth (Delay place value) = expr_depth value
  stmt_depth (DelayUntil place value) = expr_depth value
  stmt_depth (If place condition then_part elsif_parts else_part) =
      suc (max (expr_depth condition) (max (stmts_depth then_part) (max (elsifs_depth elsif_parts) (stmts_depth else_part))))
  stmt_depth (Case place value all) = suc (max (expr_depth value) (alternatives_depth all))
  stmt_depth (Loop place turns body) = suc (max (iteration_depth turns) (stmts_depth body))
  stmt_depth (Block place declarations body all) = suc (max (deepest declaration_depth declarations) (max (stmts_depth body) (handlers_depth all)))
  stmt_depth (Abort place name) = 0
  stmt_depth (Requeue place first second) = 0
  stmt_depth (Accept place name) = 0
  stmt_depth (Select place) = 0

  pub stmts_depth : StmtTrees → ℕ
  stmts_depth NoStmts = 0
  stmts_depth (MoreStmts one rest) = max (stmt_depth one) (stmts_depth rest)

  pub elsifs_depth : ElsifTrees → ℕ
  elsifs_depth NoElsifs = 0
  elsifs_depth (MoreElsifs condition body rest) = max (expr_depth condition) (max (stmts_depth body) (elsifs_depth rest))

  pub alternatives_depth : AlternativeTrees → ℕ
  alternatives_depth NoAlternatives = 0
  alternatives_depth (MoreAlternatives place all body rest) = max (choices_depth all) (max (stmts_depth body) (alternatives_depth rest))

  pub handlers_depth : HandlerTrees → ℕ
  handlers_depth NoHandlers = 0
  handlers_depth (MoreHandlers all body rest) = max (stmts_depth body) (handlers_depth rest)

-- ---- whole texts

abbrev pub index_depth : IndexTree → ℕ
index_depth (OfRange r) = range_depth r
index_depth (OfSubtype name) = 0

-- The index of an array type stands in parentheses.
abbrev pub definition_depth : DefinitionTree → ℕ
definition_depth (Integer r) = range_depth r
definition_depth (Array i components) = suc (index_depth i)
definition_depth (Record components) = 0
definition_depth (Subtype parent r) = depth_if_any range_depth r

abbrev pub item_depth : ItemTree → ℕ
item_depth (OfType d) = definition_depth d.definition
item_depth (OfObject d) = object_depth d
item_depth (OfException name) = 0
item_depth (items.OfSubprogram d) = subprogram_depth d
item_depth (OfTask d) = task_depth d
item_depth (OfProtected d) = protected_depth d

abbrev pub body_depth : BodyTree → ℕ
body_depth b = max (deepest declaration_depth b.declarations) (max (stmts_depth b.statements) (handlers_depth b.handlers))

abbrev pub protected_item_depth : ProtectedItemTree → ℕ
protected_item_depth (OperationBody d b) = max (subprogram_depth d) (body_depth b)
protected_item_depth (EntryBody d barrier b) = max (entry_depth d) (max (expr_depth barrier) (body_depth b))

abbrev pub body_item_depth : BodyItemTree → ℕ
body_item_depth (OfItem d) = item_depth d
body_item_depth (SubprogramBody d b) = max (subprogram_depth d) (body_depth b)
body_item_depth (TaskBody name b) = body_depth b
body_item_depth (ProtectedBody name items end_name) = deepest protected_item_depth items

abbrev pub package_depth : PackageTree → ℕ
package_depth p = max (deepest item_depth p.declaration.items) (deepest body_item_depth p.body.items)

abbrev pub main_depth : MainTree → ℕ
main_depth m = depth_if_any aspect_depth m.aspect

abbrev pub depth : ProgramTree → ℕ
depth p = max (depth_if_any package_depth p.package_) (main_depth p.main)
