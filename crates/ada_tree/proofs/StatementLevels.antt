-- The depth of a declaration or a statement is what a limit of levels cuts its spellings off at.
use Rattle.std.proofs.Common.{ℕ, List, [], ◌∷◌, Option, Some, None}
use Rattle.lexer.specs.declared.token.TokenKind.TheVariants as kinds
use Rattle.lexer.specs.declared.delimiter.Delimiter.TheVariants as marks
use Rattle.ada_tree.specs.declared.declaration.Formal.{Formal}
use Rattle.ada_tree.specs.declared.expression.Identifier.{Identifier}
use Rattle.ada_tree.specs.ExpressionTree.{ExprTree}
use Rattle.ada_tree.specs.StatementTree.{AspectTree, ObjectTree, TaskTree, SubprogramTree, EntryTree, OperationTree, OfSubprogram, OfEntry, ProtectedComponentTree, ProtectedTree, DeclarationTree, LocalObject, LocalTask, LocalProtected, RangeTree, IterationTree, Forever, While, For, ChoicesTree, Values, OtherValues, StmtTree, Null, Assignment, Call, Exit, Return, Raise, Delay, DelayUntil, If, Case, Loop, Block, Abort, Requeue, Accept, Select, StmtTrees, NoStmts, MoreStmts, ElsifTrees, NoElsifs, MoreElsifs, AlternativeTrees, NoAlternatives, MoreAlternatives, HandlerTrees, NoHandlers, MoreHandlers}
use Rattle.ada_tree.specs.ExpressionGrammar.{Simple, expression}
use Rattle.ada_tree.specs.StatementGrammar.{formals, subprogram_with, subprogram, entry, operation, range, aspect, initial, object, task, protected_component, private_part, protected, declaration, iteration, choices, block_declarations, stmt, stmts, further_stmts, else_stmts, elsifs, some_alternatives, alternatives, handlers, further_handlers}
use Rattle.ada_tree.specs.Depth.{formals_depth, subprogram_depth, entry_depth, operation_depth, expr_depth, deepest, range_depth, aspect_depth, object_depth, task_depth, protected_component_depth, protected_depth, declaration_depth, iteration_depth, choices_depth, stmt_depth, stmts_depth, elsifs_depth, alternatives_depth, handlers_depth}
use Rattle.ada_tree.proofs.Levels.{Levels, always, after, before, both, opened, none, paired, any, in_order, parted}
use Rattle.ada_tree.proofs.ExpressionLevels.{name_levels, derives_levels, expression_levels}

-- ---- declarations

pub range_levels : (r : RangeTree) → Levels (range_depth r) (λ l. range l r)
range_levels r = both (derives_levels Simple r.first) (after (derives_levels Simple r.last))

pub aspect_levels : (a : AspectTree) → Levels (aspect_depth a) (λ l. aspect l a)
aspect_levels a = after (after (after (expression_levels a.value)))

initial_levels : (e : ExprTree) → Levels (expr_depth e) (λ l. initial l e)
initial_levels e = after (expression_levels e)

pub object_levels : (d : ObjectTree) → Levels (object_depth d) (λ l. object l d)
object_levels d = after (after (after (after (before (any {p = initial} initial_levels d.value)))))

pub task_levels : (d : TaskTree) → Levels (task_depth d) (λ l. task l d)
task_levels d = after (after (before (any {p = aspect} aspect_levels d.aspect)))

protected_component_levels : (c : ProtectedComponentTree) → Levels (protected_component_depth c) (λ l. protected_component l c)
protected_component_levels c = after (after (after (before (any {p = initial} initial_levels c.value))))

private_levels : (all : List ProtectedComponentTree) → Levels (deepest protected_component_depth all) (λ l. private_part l all)
private_levels [] = always
private_levels (c ∷ rest) = after (in_order {p = protected_component} protected_component_levels (c ∷ rest))

formals_levels : (all : List Formal) → Levels (formals_depth all) (λ l. formals l all)
formals_levels [] = always
formals_levels (f ∷ rest) = opened always

subprogram_with_levels : (place : ℕ) (name : Identifier) (all : List Formal) (result : Option Identifier) → Levels (formals_depth all) (λ l. subprogram_with l place name all result)
subprogram_with_levels place name all None = after (after (formals_levels all))
subprogram_with_levels place name all (Some result) = after (after (before (formals_levels all)))

pub subprogram_levels : (d : SubprogramTree) → Levels (subprogram_depth d) (λ l. subprogram l d)
subprogram_levels d = subprogram_with_levels d.place d.name d.formals d.result

pub entry_levels : (d : EntryTree) → Levels (entry_depth d) (λ l. entry l d)
entry_levels d = after (after (formals_levels d.formals))

operation_levels : (d : OperationTree) → Levels (operation_depth d) (λ l. operation l d)
operation_levels (OfSubprogram d a) = both (subprogram_levels d) (before (any {p = aspect} aspect_levels a))
operation_levels (OfEntry d) = before (entry_levels d)

pub protected_levels : (d : ProtectedTree) → Levels (protected_depth d) (λ l. protected l d)
protected_levels d = after (after (both (any {p = aspect} aspect_levels d.aspect) (after (both (in_order {p = operation} operation_levels d.operations) (before (private_levels d.components))))))

pub declaration_levels : (d : DeclarationTree) → Levels (declaration_depth d) (λ l. declaration l d)
declaration_levels (LocalObject d) = object_levels d
declaration_levels (LocalTask d) = task_levels d
declaration_levels (LocalProtected d) = protected_levels d

-- ---- statements

iteration_levels : (place : ℕ) (i : IterationTree) → Levels (iteration_depth i) (λ l. iteration l place i)
iteration_levels place Forever = always
iteration_levels place (While condition) = after (before (expression_levels condition))
iteration_levels place (For parameter is_reversed r) = after (after (after (after (before (range_levels r)))))

choices_levels : (c : ChoicesTree) → Levels (choices_depth c) (λ l. choices l c)
choices_levels (Values all) = parted {p = expression} (kinds.Delimiter marks.VerticalLine) expression_levels all
choices_levels (OtherValues place) = always

block_levels : (place : ℕ) (all : List DeclarationTree) → Levels (deepest declaration_depth all) (λ l. block_declarations l place all)
block_levels place [] = always
block_levels place (d ∷ rest) = after (before (in_order {p = declaration} declaration_levels (d ∷ rest)))

mutual
  pub stmt_levels : (s : StmtTree) → Levels (stmt_depth s) (stmt s)
  stmt_levels (Null place) = always
  stmt_levels (Assignment target value) = both (name_levels target) (after (before (expression_levels value)))
  stmt_levels (Call name) = before (name_levels name)
  stmt_levels (Exit place condition) = after (before (any (λ e. after (expression_levels e)) condition))
  stmt_levels (Return place value) = after (before (any {p = expression} expression_levels value))
  stmt_levels (Raise place name) = always
  stmt_levels (Delay place value) = after (before (expression_levels value))
  stmt_levels (DelayUntil place value) = after (after (before (expression_levels value)))
  stmt_levels (If place condition then_part elsif_parts else_part) =
      opened (after (both (expression_levels condition) (after (both (stmts_levels then_part) (both (elsifs_levels elsif_parts) (before (else_levels else_part)))))))
  stmt_levels (Case place value all) = opened (after (both (expression_levels value) (after (before (some_alternatives_levels all)))))
  stmt_levels (Loop place turns body) = opened (both (iteration_levels place turns) (before (stmts_levels body)))
  stmt_levels (Block place declarations body all) = opened (both (block_levels place declarations) (both (stmts_levels body) (before (handlers_levels all))))
  stmt_levels (Abort place name) = always
  stmt_levels (Requeue place first second) = always
  stmt_levels (Accept place name) = always
  stmt_levels (Select place) = always

  pub stmts_levels : (s : StmtTrees) → Levels (stmts_depth s) (stmts s)
  stmts_levels NoStmts = none (λ l ts h. h)
  stmts_levels (MoreStmts one rest) = both (stmt_levels one) (further_stmts_levels rest)

  further_stmts_levels : (s : StmtTrees) → Levels (stmts_depth s) (further_stmts s)
  further_stmts_levels NoStmts = always
  further_stmts_levels (MoreStmts one rest) = both (stmt_levels one) (further_stmts_levels rest)

  else_levels : (s : StmtTrees) → Levels (stmts_depth s) (else_stmts s)
  else_levels NoStmts = always
  else_levels (MoreStmts one rest) = after (both (stmt_levels one) (further_stmts_levels rest))

  elsifs_levels : (e : ElsifTrees) → Levels (elsifs_depth e) (elsifs e)
  elsifs_levels NoElsifs = always
  elsifs_levels (MoreElsifs condition body rest) = paired (expr_depth condition) (stmts_depth body) (elsifs_depth rest) (both (after (both (expression_levels condition) (after (stmts_levels body)))) (elsifs_levels rest))

  some_alternatives_levels : (a : AlternativeTrees) → Levels (alternatives_depth a) (some_alternatives a)
  some_alternatives_levels NoAlternatives = none (λ l ts h. h)
  some_alternatives_levels (MoreAlternatives place all body rest) = paired (choices_depth all) (stmts_depth body) (alternatives_depth rest) (both (after (both (choices_levels all) (after (stmts_levels body)))) (alternatives_levels rest))

  alternatives_levels : (a : AlternativeTrees) → Levels (alternatives_depth a) (alternatives a)
  alternatives_levels NoAlternatives = always
  alternatives_levels (MoreAlternatives place all body rest) = paired (choices_depth all) (stmts_depth body) (alternatives_depth rest) (both (after (both (choices_levels all) (after (stmts_levels body)))) (alternatives_levels rest))

  pub handlers_levels : (h : HandlerTrees) → Levels (handlers_depth h) (handlers h)
  handlers_levels NoHandlers = always
  handlers_levels (MoreHandlers all body rest) = after (both (after (after (after (stmts_levels body)))) (further_handlers_levels rest))

  further_handlers_levels : (h : HandlerTrees) → Levels (handlers_depth h) (further_handlers h)
  further_handlers_levels NoHandlers = always
  further_handlers_levels (MoreHandlers all body rest) = both (after (after (after (stmts_levels body)))) (further_handlers_levels rest)
