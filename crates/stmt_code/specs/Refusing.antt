-- What code of statements needs, by which a limit of images may refuse it: words of the operand stack and of the frame, and objects that are fit.
use Rattle.std.specs.Prelude.{ℕ, ◌+◌, false, List, Option, Some, None}
use Rattle.ada_tree.specs.declared.expression.Identifier.{Identifier}
use Rattle.ada_tree.specs.ExpressionTree.{ExprTree}
use Rattle.ada_tree.specs.StatementTree.{AlternativeTrees, Assignment, Block, Call, Case, DeclarationTree, DelayUntil, ElsifTrees, Exit, For, Forever, HandlerTrees, If, IterationTree, Loop, MoreAlternatives, MoreElsifs, MoreHandlers, MoreStmts, NoAlternatives, NoElsifs, NoHandlers, NoStmts, Null, RangeTree, Raise, StmtTree, StmtTrees, While}
use Rattle.declaration_rules.specs.BodyNames.{loop_scope}
use Rattle.expr_code.specs.declared.visible.Visible.{Visible}
use Rattle.part_code.specs.Bounds.{locals_words}
use Rattle.part_code.specs.Needs.{Needs, nothing, framed, stacked, both, needs_above, value_needs, with_object, locals_visible, locals_needs, assignment_needs, call_needs, choices_needs}

-- ---- what code needs

abbrev pub needs_if_any : Visible → Option ExprTree → Needs
needs_if_any v None = nothing
needs_if_any v (Some e) = value_needs v e

-- ---- where a statement stands

-- what is visible there, and the words of the frame that are taken
pub record Standpoint : Type 0 where
  pub visible : Visible
  pub taken : ℕ

-- in a loop over a range, which takes two words: those of its parameter and of the parameter's last value
abbrev pub counted_visible : Standpoint → Identifier → RangeTree → Visible
counted_visible a parameter range = with_object a.visible (loop_scope a.visible.scope parameter range) a.taken

abbrev pub inside_counted : Standpoint → Identifier → RangeTree → Standpoint
inside_counted a parameter range = record { visible = counted_visible a parameter range; taken = a.taken + 2 }

abbrev pub behind_locals : Standpoint → List DeclarationTree → Standpoint
behind_locals a ds = record { visible = locals_visible a.visible a.taken ds; taken = a.taken + locals_words a.visible.scope ds }

-- ---- statements

-- of the head of a loop: its condition, or the bounds of its range, of which the second is evaluated above the first
abbrev pub head_needs : Standpoint → IterationTree → Needs
head_needs a Forever = nothing
head_needs a (While condition) = value_needs a.visible condition
head_needs a (For parameter reversed range) =
    both (framed (a.taken + 2)) (both (value_needs a.visible range.first) (needs_above 1 a.visible range.last))

abbrev pub in_loop : Standpoint → IterationTree → Standpoint
in_loop a (For parameter reversed range) = inside_counted a parameter range
in_loop a iteration = a

-- of a handler: the exception on the operand stack, and a word of the frame for it
abbrev pub handler_needs : Standpoint → Needs
handler_needs a = record { stack = 1; frame = a.taken + 1; unfit = false }

abbrev pub inside_handler : Standpoint → Standpoint
inside_handler a = record a { taken = a.taken + 1 }

abbrev mutual
  pub stmt_needs : Standpoint → StmtTree → Needs
  stmt_needs a (Null place) = nothing
  stmt_needs a (Assignment target value) = assignment_needs a.visible target value
  stmt_needs a (Call name) = call_needs a.visible name
  stmt_needs a (Exit place condition) = needs_if_any a.visible condition
  stmt_needs a (Raise place name) = stacked 1
  stmt_needs a (DelayUntil place e) = value_needs a.visible e
  stmt_needs a (If place condition body elsifs others) =
      both (value_needs a.visible condition) (both (stmts_needs a body) (both (elsifs_needs a elsifs) (stmts_needs a others)))
  stmt_needs a (Case place value all) = both (value_needs a.visible value) (alternatives_needs a all)
  stmt_needs a (Loop place iteration body) = both (head_needs a iteration) (stmts_needs (in_loop a iteration) body)
  stmt_needs a (Block place ds body all) =
      both (locals_needs a.visible a.taken ds) (both (stmts_needs (behind_locals a ds) body) (handlers_needs (behind_locals a ds) all))
  stmt_needs a other = nothing

  pub stmts_needs : Standpoint → StmtTrees → Needs
  stmts_needs a NoStmts = nothing
  stmts_needs a (MoreStmts x rest) = both (stmt_needs a x) (stmts_needs a rest)

  pub elsifs_needs : Standpoint → ElsifTrees → Needs
  elsifs_needs a NoElsifs = nothing
  elsifs_needs a (MoreElsifs condition body rest) = both (value_needs a.visible condition) (both (stmts_needs a body) (elsifs_needs a rest))

  pub alternatives_needs : Standpoint → AlternativeTrees → Needs
  alternatives_needs a NoAlternatives = nothing
  alternatives_needs a (MoreAlternatives place choices body rest) =
      both (choices_needs choices) (both (stmts_needs a body) (alternatives_needs a rest))

  pub handlers_needs : Standpoint → HandlerTrees → Needs
  handlers_needs a NoHandlers = nothing
  handlers_needs a (MoreHandlers choices body rest) =
      both (handler_needs a) (both (stmts_needs (inside_handler a) body) (handlers_needs a rest))

-- of statements with their handlers
abbrev pub sequence_needs : Standpoint → StmtTrees → HandlerTrees → Needs
sequence_needs a body all = both (stmts_needs a body) (handlers_needs a all)

-- ---- bodies

abbrev pub in_body : Visible → (taken : ℕ) → Standpoint
in_body v taken = record { visible = v; taken = taken }

abbrev pub run_needs : Visible → (taken : ℕ) → List DeclarationTree → StmtTrees → HandlerTrees → Needs
run_needs v taken ds body all = both (locals_needs v taken ds) (sequence_needs (behind_locals (in_body v taken) ds) body all)
