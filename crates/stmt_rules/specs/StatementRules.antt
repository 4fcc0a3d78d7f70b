-- What statements break (RM 5, 11; docs/LANGUAGE.md, "Rules of statements"): where each rule is asked, in the order of the text.
use Rattle.std.specs.Prelude.{ℕ, Bool, true, false, ◌&&◌, List, [], ◌++◌}
use Rattle.ada_tree.specs.declared.statement.ExceptionChoice.{ExceptionChoice}
use Rattle.ada_tree.specs.ExpressionTree.{ExprTree}
use Rattle.ada_tree.specs.StatementTree.{IterationTree, Forever, While, For, ChoicesTree, StmtTree, If, Case, Loop, Block, StmtTrees, NoStmts, MoreStmts, ElsifTrees, NoElsifs, MoreElsifs, AlternativeTrees, NoAlternatives, MoreAlternatives, HandlerTrees, NoHandlers, MoreHandlers}
use Rattle.types.specs.declared.entity.Value.{Value as Scalar}
use Rattle.types.specs.Scopes.{Scope}
use Rattle.expr_rules.specs.declared.own.Wanted.{Wanted}
use Rattle.expr_rules.specs.Faults.{Faults}
use Rattle.expr_rules.specs.Typing.{own_of}
use Rattle.declaration_rules.specs.BodyNames.{loop_faults, loop_scope}
use Rattle.declaration_rules.specs.LocalRules.{locals_faults, locals_scope}
use Rattle.stmt_rules.specs.declared.around.Around.{Around}
use Rattle.stmt_rules.specs.declared.around.BodyKind.{BodyKind}
use Rattle.stmt_rules.specs.SimpleRules.{condition_faults, simple_faults}
use Rattle.stmt_rules.specs.CaseRules.{choices_faults, choices_wanted, chosen_by, others_rule, selecting_faults}
use Rattle.stmt_rules.specs.CaseRules as alternatives
use Rattle.stmt_rules.specs.HandlerRules.{exception_choices_faults, is_single, named_after}
use Rattle.stmt_rules.specs.HandlerRules as handlers

-- ---- loops (RM 5.5): a loop parameter is visible in the loop alone

abbrev pub iteration_faults : Scope → IterationTree → Faults
iteration_faults s Forever = []
iteration_faults s (While condition) = condition_faults s condition
iteration_faults s (For parameter reversed range) = loop_faults s parameter range

abbrev pub iteration_scope : Scope → IterationTree → Scope
iteration_scope s (For parameter reversed range) = loop_scope s parameter range
iteration_scope s iteration = s

-- what stands around the statements of a body
abbrev pub in_body : BodyKind → Around
in_body k = record { kind = k; in_loop = false; in_handler = false }

abbrev pub in_loop : Around → Around
in_loop a = record a { in_loop = true }

abbrev pub in_handler : Around → Around
in_handler a = record a { in_handler = true }

-- ---- statements; the names that one makes visible inside are not visible behind it

abbrev mutual
  pub stmt_faults : Scope → Around → StmtTree → Faults
  stmt_faults s a (If place condition body elsifs others) =
      condition_faults s condition ++ stmts_faults s a body ++ elsifs_faults s a elsifs ++ stmts_faults s a others
  stmt_faults s a (Case place value all) =
      selecting_faults s value ++ alternatives_faults s a (choices_wanted s (own_of s value)) [] all ++ others_rule place all
  stmt_faults s a (Loop place iteration body) = iteration_faults s iteration ++ stmts_faults (iteration_scope s iteration) (in_loop a) body
  stmt_faults s a (Block place locals body all) =
      locals_faults s locals ++ stmts_faults (locals_scope s locals) a body ++ more_handlers_faults (locals_scope s locals) a [] all
  stmt_faults s a simple = simple_faults s a simple

  pub stmts_faults : Scope → Around → StmtTrees → Faults
  stmts_faults s a NoStmts = []
  stmts_faults s a (MoreStmts x rest) = stmt_faults s a x ++ stmts_faults s a rest

  pub elsifs_faults : Scope → Around → ElsifTrees → Faults
  elsifs_faults s a NoElsifs = []
  elsifs_faults s a (MoreElsifs condition body rest) = condition_faults s condition ++ stmts_faults s a body ++ elsifs_faults s a rest

  -- alternatives of which values of this type are wanted, behind those that choose these values
  pub alternatives_faults : Scope → Around → Wanted → (before : List Scalar) → AlternativeTrees → Faults
  alternatives_faults s a w before NoAlternatives = []
  alternatives_faults s a w before (MoreAlternatives place choices body rest) =
      choices_faults s w before (alternatives.no_more rest) choices ++ stmts_faults s a body ++ alternatives_faults s a w (chosen_by s w before choices) rest

  -- handlers behind those that name these exceptions
  pub more_handlers_faults : Scope → Around → (before : List (List ℕ)) → HandlerTrees → Faults
  more_handlers_faults s a before NoHandlers = []
  more_handlers_faults s a before (MoreHandlers choices body rest) =
      exception_choices_faults s before (is_single choices && handlers.no_more rest) choices
      ++ stmts_faults s (in_handler a) body
      ++ more_handlers_faults s a (named_after before choices) rest

-- the handlers of a sequence of statements, which see what its statements see (RM 11.2)
abbrev pub handlers_faults : Scope → Around → HandlerTrees → Faults
handlers_faults s a all = more_handlers_faults s a [] all

-- a sequence of statements with its handlers
abbrev pub sequence_faults : Scope → Around → StmtTrees → HandlerTrees → Faults
sequence_faults s a body all = stmts_faults s a body ++ handlers_faults s a all

-- ---- the parts of statements, each by itself

abbrev pub elsif_faults : Scope → Around → ExprTree × StmtTrees → Faults
elsif_faults s a x = condition_faults s x.0 ++ stmts_faults s a x.1

abbrev pub alternative_faults : Scope → Around → Wanted → (before : List Scalar) → (is_last : Bool) → ℕ × (ChoicesTree × StmtTrees) → Faults
alternative_faults s a w before is_last x = choices_faults s w before is_last x.1.0 ++ stmts_faults s a x.1.1

abbrev pub handler_faults : Scope → Around → (before : List (List ℕ)) → (is_last : Bool) → List ExceptionChoice × StmtTrees → Faults
handler_faults s a before is_last x = exception_choices_faults s before (is_single x.0 && is_last) x.0 ++ stmts_faults s (in_handler a) x.1

abbrev pub looped_faults : Scope → Around → IterationTree → StmtTrees → Faults
looped_faults s a iteration body = iteration_faults s iteration ++ stmts_faults (iteration_scope s iteration) (in_loop a) body
