-- What stands in bodies (RM D.7; docs/LANGUAGE.md, "Rules of the profile"): local declarations, statements, barriers.
use Rattle.std.specs.Prelude.{ℕ, Bool, true, false, not, ◌||◌, List, [], ◌∷◌, ◌++◌, Option, Some, None, bytes_eq, codes}
use Rattle.std.specs.List.{list_any}
use Rattle.base.specs.declared.faults.TheConstants.{LOCAL_TASKING, TASK_ENTRY, WRONG_BARRIER, RELATIVE_DELAY, SELECT_STATEMENT, ABORT_STATEMENT, REQUEUE_STATEMENT}
use Rattle.ada_tree.specs.declared.expression.Identifier.{Identifier}
use Rattle.ada_tree.specs.ExpressionTree.{ExprTree, bare_name}
use Rattle.ada_tree.specs.StatementTree.{DeclarationTree, LocalObject, LocalTask, LocalProtected, StmtTree, Delay, If, Case, Loop, Block, Abort, Requeue, Accept, Select, StmtTrees, NoStmts, MoreStmts, ElsifTrees, NoElsifs, MoreElsifs, AlternativeTrees, NoAlternatives, MoreAlternatives, HandlerTrees, NoHandlers, MoreHandlers}
use Rattle.ada_tree.specs.ProgramTree.{BodyTree, ProtectedItemTree, OperationBody, EntryBody}
use Rattle.types.specs.declared.entity.RecordComponent.{RecordComponent}
use Rattle.types.specs.Statics.{start_of}
use Rattle.expr_rules.specs.Faults.{Faults, rule}

-- ---- declarations of bodies and blocks (No_Task_Hierarchy, No_Local_Protected_Objects)

-- 30, at a task or protected object, which is refused whole: nothing more is said of what stands in it
abbrev pub local_faults : DeclarationTree → Faults
local_faults (LocalObject d) = []
local_faults (LocalTask d) = rule LOCAL_TASKING d.place true
local_faults (LocalProtected d) = rule LOCAL_TASKING d.place true

abbrev pub locals_faults : List DeclarationTree → Faults
locals_faults [] = []
locals_faults (d ∷ ds) = local_faults d ++ locals_faults ds

-- ---- statements (Max_Task_Entries, No_Relative_Delay, No_Select_Statements, No_Abort_Statements, No_Requeue_Statements)

-- at the statement: 32, 34, 35, 36, 37
abbrev pub simple_faults : StmtTree → Faults
simple_faults (Accept place name) = rule TASK_ENTRY place true
simple_faults (Delay place e) = rule RELATIVE_DELAY place true
simple_faults (Select place) = rule SELECT_STATEMENT place true
simple_faults (Abort place name) = rule ABORT_STATEMENT place true
simple_faults (Requeue place first second) = rule REQUEUE_STATEMENT place true
simple_faults statement = []

abbrev mutual
  pub stmt_faults : StmtTree → Faults
  stmt_faults (If place condition body elsifs others) = stmts_faults body ++ elsifs_faults elsifs ++ stmts_faults others
  stmt_faults (Case place value all) = alternatives_faults all
  stmt_faults (Loop place iteration body) = stmts_faults body
  stmt_faults (Block place locals body all) = locals_faults locals ++ stmts_faults body ++ handlers_faults all
  stmt_faults simple = simple_faults simple

  pub stmts_faults : StmtTrees → Faults
  stmts_faults NoStmts = []
  stmts_faults (MoreStmts x rest) = stmt_faults x ++ stmts_faults rest

  pub elsifs_faults : ElsifTrees → Faults
  elsifs_faults NoElsifs = []
  elsifs_faults (MoreElsifs condition body rest) = stmts_faults body ++ elsifs_faults rest

  pub alternatives_faults : AlternativeTrees → Faults
  alternatives_faults NoAlternatives = []
  alternatives_faults (MoreAlternatives place choices body rest) = stmts_faults body ++ alternatives_faults rest

  pub handlers_faults : HandlerTrees → Faults
  handlers_faults NoHandlers = []
  handlers_faults (MoreHandlers choices body rest) = stmts_faults body ++ handlers_faults rest

abbrev pub body_faults : BodyTree → Faults
body_faults b = locals_faults b.declarations ++ stmts_faults b.statements ++ handlers_faults b.handlers

-- ---- barriers (Simple_Barriers)

abbrev pub is_truth_value : List ℕ → Bool
is_truth_value name = bytes_eq name (codes "TRUE") || bytes_eq name (codes "FALSE")

abbrev pub is_component : List RecordComponent → List ℕ → Bool
is_component components name = list_any (λ c. bytes_eq c.name name) components

abbrev pub is_simple_name : List RecordComponent → Option Identifier → Bool
is_simple_name components (Some name) = is_truth_value name.name || is_component components name.name
is_simple_name components None = false

-- 33, at the barrier: it is not the bare name of one of the object's components, nor True or False
abbrev pub barrier_rule : List RecordComponent → ExprTree → Faults
barrier_rule components barrier = rule WRONG_BARRIER (start_of barrier) (not (is_simple_name components (bare_name barrier)))

-- ---- the operations in the body of a protected object that has these components

abbrev pub operation_faults : List RecordComponent → ProtectedItemTree → Faults
operation_faults components (OperationBody d b) = body_faults b
operation_faults components (EntryBody d barrier b) = barrier_rule components barrier ++ body_faults b

abbrev pub operations_faults : List RecordComponent → List ProtectedItemTree → Faults
operations_faults components [] = []
operations_faults components (i ∷ is) = operation_faults components i ++ operations_faults components is
