-- A declaration or a statement has at most as many nodes as each of its spellings has tokens.
use Rattle.std.proofs.Common.{ℕ, ◌+◌, List, [], ◌∷◌, Option, Some, None, length, arith}
use Rattle.lexer.specs.declared.token.TokenKind.TheVariants as kinds
use Rattle.lexer.specs.declared.delimiter.Delimiter.TheVariants as marks
use Rattle.ada_tree.specs.declared.statement.ExceptionChoice.{ExceptionChoice}
use Rattle.ada_tree.specs.declared.statement.ExceptionChoice.TheVariants as exceptions
use Rattle.ada_tree.specs.declared.declaration.Formal.{Formal}
use Rattle.ada_tree.specs.declared.declaration.TaskEntry.{TaskEntry}
use Rattle.ada_tree.specs.ExpressionTree.{ExprTree}
use Rattle.ada_tree.specs.StatementTree.{AspectTree, ObjectTree, TaskDefinitionTree, TaskTree, SubprogramTree, EntryTree, OperationTree, OfSubprogram, OfEntry, ProtectedComponentTree, ProtectedTree, DeclarationTree, LocalObject, LocalTask, LocalProtected, RangeTree, IterationTree, Forever, While, For, ChoicesTree, Values, OtherValues, StmtTree, Null, Assignment, Call, Exit, Return, Raise, Delay, DelayUntil, If, Case, Loop, Block, Abort, Requeue, Accept, Select, StmtTrees, NoStmts, MoreStmts, ElsifTrees, NoElsifs, MoreElsifs, AlternativeTrees, NoAlternatives, MoreAlternatives, HandlerTrees, NoHandlers, MoreHandlers}
use Rattle.ada_tree.specs.Language.{Limit, separated}
use Rattle.ada_tree.specs.ExpressionGrammar.{Simple, expression}
use Rattle.ada_tree.specs.StatementGrammar.{range, aspect, initial, object, formal, formals, subprogram_with, subprogram, entry, task_entry, task_definition, task, operation, protected_component, private_part, protected, declaration, iteration, choices, exception_choice, block_declarations, stmt, stmts, further_stmts, else_stmts, elsifs, some_alternatives, alternatives, handlers, further_handlers}
use Rattle.ada_tree.specs.Size.{total, expr_size, range_size, aspect_size, object_size, task_definition_size, task_size, subprogram_size, entry_size, operation_size, protected_component_size, protected_size, declaration_size, iteration_size, choices_size, stmt_size, stmts_size, elsifs_size, alternatives_size, handlers_size}
use Rattle.ada_tree.proofs.Counts.{AtLeast, free, one, one_at, fewer, joins, later, sooner, opened, none, any, in_order, counted, parted, parted_counted}
use Rattle.ada_tree.proofs.ExpressionCounts.{name_counts, derives_counts, expression_counts}

-- ---- declarations

pub range_counts : (l : Limit) (r : RangeTree) → AtLeast (range_size r) (range l r)
range_counts l r = fewer (joins (derives_counts Simple r.first l) (joins one (derives_counts Simple r.last l))) (omega arith)

pub aspect_counts : (l : Limit) (a : AspectTree) → AtLeast (aspect_size a) (aspect l a)
aspect_counts l a = joins one_at (later (later (expression_counts l a.value)))

initial_counts : (l : Limit) (e : ExprTree) → AtLeast (expr_size e) (initial l e)
initial_counts l e = later (expression_counts l e)

pub object_counts : (l : Limit) (d : ObjectTree) → AtLeast (object_size d) (object l d)
object_counts l d = joins one_at (later (later (later (sooner (any {p = initial l} (initial_counts l) d.value)))))

formal_counts : (f : Formal) → AtLeast 1 (formal f)
formal_counts f = sooner one_at

formals_counts : (l : Limit) (all : List Formal) → AtLeast (length all) (formals l all)
formals_counts l [] = free
formals_counts l (f ∷ rest) = opened (λ m. later (sooner (parted_counted {p = formal} (kinds.Delimiter marks.Semicolon) formal_counts (f ∷ rest)))) l

subprogram_with_counts : (l : Limit) (place : ℕ) (name : _) (all : List Formal) (result : Option _) → AtLeast (1 + length all) (subprogram_with l place name all result)
subprogram_with_counts l place name all None = joins one_at (later (formals_counts l all))
subprogram_with_counts l place name all (Some result) = joins one_at (later (sooner (formals_counts l all)))

pub subprogram_counts : (l : Limit) (d : SubprogramTree) → AtLeast (subprogram_size d) (subprogram l d)
subprogram_counts l d = subprogram_with_counts l d.place d.name d.formals d.result

pub entry_counts : (l : Limit) (d : EntryTree) → AtLeast (entry_size d) (entry l d)
entry_counts l d = joins one_at (later (formals_counts l d.formals))

task_entry_counts : (d : TaskEntry) → AtLeast 1 (task_entry d)
task_entry_counts d = sooner one_at

task_definition_counts : (d : TaskDefinitionTree) → AtLeast (task_definition_size d) (task_definition d)
task_definition_counts d = joins one (sooner (counted {p = task_entry} task_entry_counts d.entries))

pub task_counts : (l : Limit) (d : TaskTree) → AtLeast (task_size d) (task l d)
task_counts l d =
    fewer (joins one_at (later (joins (any {p = aspect l} (aspect_counts l) d.aspect) (sooner (any {p = task_definition} task_definition_counts d.definition))))) (omega arith)

operation_counts : (l : Limit) (d : OperationTree) → AtLeast (operation_size d) (operation l d)
operation_counts l (OfSubprogram d a) = joins (subprogram_counts l d) (sooner (any {p = aspect l} (aspect_counts l) a))
operation_counts l (OfEntry d) = sooner (entry_counts l d)

protected_component_counts : (l : Limit) (c : ProtectedComponentTree) → AtLeast (protected_component_size c) (protected_component l c)
protected_component_counts l c = joins one_at (later (later (sooner (any {p = initial l} (initial_counts l) c.value))))

private_counts : (l : Limit) (all : List ProtectedComponentTree) → AtLeast (total protected_component_size all) (private_part l all)
private_counts l [] = free
private_counts l (c ∷ rest) = later (in_order {p = protected_component l} (protected_component_counts l) (c ∷ rest))

pub protected_counts : (l : Limit) (d : ProtectedTree) → AtLeast (protected_size d) (protected l d)
protected_counts l d =
    fewer (joins one_at (later (joins (any {p = aspect l} (aspect_counts l) d.aspect)
    (later (joins (in_order {p = operation l} (operation_counts l) d.operations) (sooner (private_counts l d.components))))))) (omega arith)

pub declaration_counts : (l : Limit) (d : DeclarationTree) → AtLeast (declaration_size d) (declaration l d)
declaration_counts l (LocalObject d) = object_counts l d
declaration_counts l (LocalTask d) = task_counts l d
declaration_counts l (LocalProtected d) = protected_counts l d

-- ---- statements

iteration_counts : (l : Limit) (place : ℕ) (i : IterationTree) → AtLeast (iteration_size i) (iteration l place i)
iteration_counts l place Forever = one_at
iteration_counts l place (While condition) = joins one_at (sooner (expression_counts l condition))
iteration_counts l place (For parameter is_reversed r) = joins one_at (later (later (later (sooner (range_counts l r)))))

choices_counts : (l : Limit) (c : ChoicesTree) → AtLeast (choices_size c) (choices l c)
choices_counts l (Values all) = parted {p = expression l} (kinds.Delimiter marks.VerticalLine) (expression_counts l) all
choices_counts l (OtherValues place) = one_at

exception_choice_counts : (c : ExceptionChoice) → AtLeast 1 (exception_choice c)
exception_choice_counts (exceptions.Exception name) = one_at
exception_choice_counts (exceptions.Others place) = one_at

exception_choices_counts : (all : List ExceptionChoice) → AtLeast (length all) (separated (kinds.Delimiter marks.VerticalLine) exception_choice all)
exception_choices_counts all = parted_counted {p = exception_choice} (kinds.Delimiter marks.VerticalLine) exception_choice_counts all

block_counts : (l : Limit) (place : ℕ) (all : List DeclarationTree) → AtLeast (total declaration_size all) (block_declarations l place all)
block_counts l place [] = free
block_counts l place (d ∷ rest) = later (sooner (in_order {p = declaration l} (declaration_counts l) (d ∷ rest)))

mutual
  pub stmt_counts : (s : StmtTree) (l : Limit) → AtLeast (stmt_size s) (stmt s l)
  stmt_counts (Null place) l = sooner one_at
  stmt_counts (Assignment target value) l = fewer (joins (name_counts target l) (joins one (sooner (expression_counts l value)))) (omega arith)
  stmt_counts (Call name) l = fewer (joins (name_counts name l) one) (omega arith)
  stmt_counts (Exit place condition) l = joins one_at (sooner (any (λ e. later (expression_counts l e)) condition))
  stmt_counts (Return place value) l = joins one_at (sooner (any {p = expression l} (expression_counts l) value))
  stmt_counts (Raise place name) l = sooner one_at
  stmt_counts (Delay place value) l = joins one_at (sooner (expression_counts l value))
  stmt_counts (DelayUntil place value) l = joins one_at (later (sooner (expression_counts l value)))
  stmt_counts (If place condition then_part elsif_parts else_part) l =
      opened (λ l. fewer (joins one_at (joins (expression_counts l condition) (later (joins (stmts_counts then_part l) (joins (elsifs_counts elsif_parts l) (sooner (else_counts else_part l))))))) (omega arith)) l
  stmt_counts (Case place value all) l =
      opened (λ l. fewer (joins one_at (joins (expression_counts l value) (later (sooner (some_alternatives_counts all l))))) (omega arith)) l
  stmt_counts (Loop place turns body) l = opened (λ l. fewer (joins (iteration_counts l place turns) (joins (stmts_counts body l) (sooner one))) (omega arith)) l
  stmt_counts (Block place declarations body all) l =
      opened (λ l. fewer (joins (block_counts l place declarations) (joins (stmts_counts body l) (joins (handlers_counts all l) (sooner one)))) (omega arith)) l
  stmt_counts (Abort place name) l = sooner one_at
  stmt_counts (Requeue place first second) l = sooner one_at
  stmt_counts (Accept place name) l = sooner one_at
  stmt_counts (Select place) l = sooner one_at

  pub stmts_counts : (s : StmtTrees) (l : Limit) → AtLeast (stmts_size s) (stmts s l)
  stmts_counts NoStmts l = none (λ ts h. h)
  stmts_counts (MoreStmts s rest) l = joins (stmt_counts s l) (further_stmts_counts rest l)

  further_stmts_counts : (s : StmtTrees) (l : Limit) → AtLeast (stmts_size s) (further_stmts s l)
  further_stmts_counts NoStmts l = free
  further_stmts_counts (MoreStmts s rest) l = joins (stmt_counts s l) (further_stmts_counts rest l)

  else_counts : (s : StmtTrees) (l : Limit) → AtLeast (stmts_size s) (else_stmts s l)
  else_counts NoStmts l = free
  else_counts (MoreStmts s rest) l = later (joins (stmt_counts s l) (further_stmts_counts rest l))

  elsifs_counts : (e : ElsifTrees) (l : Limit) → AtLeast (elsifs_size e) (elsifs e l)
  elsifs_counts NoElsifs l = free
  elsifs_counts (MoreElsifs condition body rest) l =
      fewer (joins (joins one (joins (expression_counts l condition) (later (stmts_counts body l)))) (elsifs_counts rest l)) (omega arith)

  some_alternatives_counts : (a : AlternativeTrees) (l : Limit) → AtLeast (alternatives_size a) (some_alternatives a l)
  some_alternatives_counts NoAlternatives l = none (λ ts h. h)
  some_alternatives_counts (MoreAlternatives place all body rest) l =
      fewer (joins (joins one_at (joins (choices_counts l all) (later (stmts_counts body l)))) (alternatives_counts rest l)) (omega arith)

  alternatives_counts : (a : AlternativeTrees) (l : Limit) → AtLeast (alternatives_size a) (alternatives a l)
  alternatives_counts NoAlternatives l = free
  alternatives_counts (MoreAlternatives place all body rest) l =
      fewer (joins (joins one_at (joins (choices_counts l all) (later (stmts_counts body l)))) (alternatives_counts rest l)) (omega arith)

  pub handlers_counts : (h : HandlerTrees) (l : Limit) → AtLeast (handlers_size h) (handlers h l)
  handlers_counts NoHandlers l = free
  handlers_counts (MoreHandlers all body rest) l =
      later (fewer (joins (joins one (joins (exception_choices_counts all) (later (stmts_counts body l)))) (further_handlers_counts rest l)) (omega arith))

  further_handlers_counts : (h : HandlerTrees) (l : Limit) → AtLeast (handlers_size h) (further_handlers h l)
  further_handlers_counts NoHandlers l = free
  further_handlers_counts (MoreHandlers all body rest) l =
      fewer (joins (joins one (joins (exception_choices_counts all) (later (stmts_counts body l)))) (further_handlers_counts rest l)) (omega arith)
