-- The code of statements and of whole bodies, with the rows of their handlers and of their places (docs/CODEGEN.md). What no legal statement has some code is
-- given too.
use Rattle.std.specs.Prelude.{ℕ, suc, ◌+◌, Bool, true, false, ◌||◌, List, [], ◌∷◌, ◌++◌, Option, Some, None}
use Rattle.handlers.specs.declared.rows.Row.{Row}
use Rattle.ada_tree.specs.declared.expression.Identifier.{Identifier}
use Rattle.ada_tree.specs.ExpressionTree.{ExprTree, NameTree}
use Rattle.ada_tree.specs.ProgramTree.{BodyTree}
use Rattle.ada_tree.specs.StatementTree.{AlternativeTrees, Assignment, Block, Call, Case, ChoicesTree, DeclarationTree, DelayUntil, ElsifTrees, Exit, For, Forever, HandlerTrees, If, IterationTree, LocalObject, Loop, MoreAlternatives, MoreElsifs, MoreHandlers, MoreStmts, NoAlternatives, NoElsifs, NoHandlers, NoStmts, OtherValues, Raise, RangeTree, Return, StmtTree, StmtTrees, Values, While}
use Rattle.image.specs.declared.instruction.Operation.TheVariants as op
use Rattle.types.specs.declared.entity.Subtype.{Subtype}
use Rattle.types.specs.Scopes.{Scope}
use Rattle.type_rules.specs.SubtypeNames.{subtype_of}
use Rattle.declaration_rules.specs.BodyNames.{loop_scope}
use Rattle.declaration_rules.specs.LocalRules.{local_scope}
use Rattle.expr_code.specs.ExpressionCode.{expr_code}
use Rattle.expr_code.specs.Pieces.{narrow, nothing, one}
use Rattle.expr_code.specs.Pieces as pieces
use Rattle.expr_code.specs.declared.visible.Visible.{Visible}
use Rattle.part_code.specs.ChoiceRows.{choice_rows}
use Rattle.part_code.specs.Emitting.{ways_of}
use Rattle.part_code.specs.Lines.{LabelledValue, line_of}
use Rattle.part_code.specs.Needs.{with_object}
use Rattle.part_code.specs.ObjectCode.{object_code}
use Rattle.part_code.specs.PartCode.{words_in}
use Rattle.part_code.specs.Statements.{Ways, with_exit, within_handler}
use Rattle.part_code.specs.declared.leaving.Leaving.{Leaving}
use Rattle.part_code.specs.declared.turns.Turns.{Turns}
use Rattle.stmt_code.specs.Drafting.{CodePart, begun, coded, handles, labelled, marked, skipping, takes, ◌▹◌}
use Rattle.stmt_code.specs.Leaves.{any_leave, handlers_leave}
use Rattle.stmt_code.specs.Placing.{stmt_place}
use Rattle.stmt_code.specs.SimpleCode.{CallForm, Code, Line, assignment_code, bounds_code, call_form, choices_code, delay_code, exit_code, jump_code, last_code, next_code, null_code, raise_code}
use Rattle.stmt_code.specs.Turns.{is_full}
use Rattle.stmt_code.specs.declared.leaves.WayOut.TheVariants as way

-- where a statement stands: what is visible, its ways out, how many words of the frame are taken, and the names of the program's exceptions
pub record Site : Type 0 where
  pub visible : Visible
  pub ways : Ways
  pub taken : ℕ
  pub exceptions : List (List ℕ)

abbrev pub site : Visible → Leaving → (taken : ℕ) → (exceptions : List (List ℕ)) → Site
site v leaving taken exceptions = record { visible = v; ways = ways_of leaving; taken = taken; exceptions = exceptions }

-- ---- declarations (RM 3.3.1)

-- the words of an object, which come after those that are taken
abbrev pub local_object : Visible → (taken : ℕ) → Option Subtype → Option ExprTree → CodePart
local_object v taken None value = coded nothing
local_object v taken (Some t) value = takes (taken + words_in v.scope t) ▹ coded (object_code v (narrow taken) t value)

-- that of an object with the row of its place
abbrev pub local_code : Site → DeclarationTree → CodePart
local_code c (LocalObject d) = marked d.name.place (local_object c.visible c.taken (subtype_of c.visible.scope d.subtype) d.value)
local_code c d = coded nothing

abbrev pub words_taken : Scope → Option Subtype → ℕ
words_taken s None = 0
words_taken s (Some t) = words_in s t

-- what follows a declaration
abbrev pub after_local : Site → DeclarationTree → Site
after_local c (LocalObject d) = record c {
  visible = with_object c.visible (local_scope c.visible.scope (LocalObject d)) (narrow c.taken);
  taken = c.taken + words_taken c.visible.scope (subtype_of c.visible.scope d.subtype);
}
after_local c d = c

abbrev pub locals_code : Site → List DeclarationTree → CodePart
locals_code c [] = coded nothing
locals_code c (d ∷ ds) = local_code c d ▹ locals_code (after_local c d) ds

abbrev pub after_locals : Site → List DeclarationTree → Site
after_locals c [] = c
after_locals c (d ∷ ds) = after_locals (after_local c d) ds

-- ---- lines

abbrev pub line_code : Visible → Option LabelledValue → CodePart
line_code v None = coded nothing
line_code v (Some line) = coded (expr_code v 0 line.value) ▹ labelled line.label (λ n. one 1 (op.PutLine n))

abbrev pub called_code : Visible → NameTree → CallForm → CodePart
called_code v name (Code a) = coded a
called_code v name Line = line_code v (line_of name)

-- ---- conditions and choices (RM 5.3, 5.4)

-- statements where a condition holds, and nothing after them
abbrev pub guarded_code : Visible → ExprTree → (holds : CodePart) → CodePart
guarded_code v e holds = coded (expr_code v 0 e) ▹ skipping 0 1 op.JumpIfZero holds

-- where it doesn't, something else
abbrev pub fork_code : Visible → ExprTree → (holds fails : CodePart) → CodePart
fork_code v e holds fails = coded (expr_code v 0 e) ▹ skipping 1 1 op.JumpIfZero holds ▹ skipping 0 0 op.Jump fails

-- the one part of an `if`, or one of several
abbrev pub if_code : Visible → ExprTree → ElsifTrees → StmtTrees → (holds fails : CodePart) → CodePart
if_code v e NoElsifs NoStmts holds fails = guarded_code v e holds
if_code v e parts others holds fails = fork_code v e holds fails

-- the value is dropped where it is chosen
abbrev pub chosen_code : (body : CodePart) → CodePart
chosen_code body = coded (one 1 op.Drop) ▹ body

abbrev pub alternative_code : Scope → ChoicesTree → (body others : CodePart) → CodePart
alternative_code s (Values cs) body others =
    coded (choices_code s cs) ▹ skipping 1 1 op.Jump (chosen_code body) ▹ skipping 0 0 op.Jump others
alternative_code s (OtherValues place) body others = chosen_code body ▹ skipping 0 0 op.Jump others

-- ---- ways out (RM 5.5, 5.7, 6.5)

-- a jump over the way out and the way out, a jump to the end, where something leads there
abbrev pub with_way : (leaves : Bool) → (Option ℕ → CodePart) → CodePart
with_way false f = f None
with_way true f = begun (λ start. coded (one 0 (op.Jump (narrow (start + 2)))) ▹ skipping 0 0 op.Jump (f (Some (narrow (start + 1)))))

-- what is repeated
abbrev pub turned : CodePart → CodePart
turned a = begun (λ turn. a ▹ coded (one 0 (op.Jump (narrow turn))))

abbrev pub while_code : Visible → ExprTree → CodePart → CodePart
while_code v e body = begun (λ turn. coded (expr_code v 0 e) ▹ skipping 0 1 op.JumpIfZero (body ▹ coded (one 0 (op.Jump (narrow turn)))))

-- the statements of a turn, and where that wasn't the last one the parameter's next value
abbrev pub turns_code : Turns → CodePart → CodePart
turns_code t body =
    begun (λ turn. body ▹ coded (last_code t) ▹ skipping 0 1 op.JumpIfNotZero (coded (pieces.◌▸◌ (next_code t) (one 0 (op.Jump (narrow turn))))))

-- these where the range isn't null; nothing is tested where it never is
abbrev pub ranged_code : (full : Bool) → Turns → CodePart → CodePart
ranged_code true t turns = turns
ranged_code false t turns = coded (null_code t) ▹ skipping 0 1 op.JumpIfNotZero turns

-- ---- loops over ranges

-- the words of a loop
abbrev pub turns_at : (taken : ℕ) → (reversed : Bool) → Turns
turns_at taken reversed = record { counter = narrow taken; limit = narrow (taken + 1); reversed = reversed }

abbrev pub in_turn : Site → Identifier → RangeTree → Site
in_turn c parameter r = record c { visible = with_object c.visible (loop_scope c.visible.scope parameter r) (narrow c.taken); taken = c.taken + 2 }

abbrev pub counted_code : Site → (reversed : Bool) → RangeTree → (body : CodePart) → CodePart
counted_code c reversed r body =
    takes (c.taken + 2) ▹ coded (bounds_code c.visible r (turns_at c.taken reversed))
    ▹ ranged_code (is_full c.visible.scope r) (turns_at c.taken reversed) (turns_code (turns_at c.taken reversed) body)

-- the turns of a loop, after its way out
abbrev pub loop_code : Site → IterationTree → (body : Site → CodePart) → CodePart
loop_code c Forever body = turned (body c)
loop_code c (While e) body = while_code c.visible e (body c)
loop_code c (For parameter reversed r) body = counted_code c reversed r (body (in_turn c parameter r))

-- ---- handlers (RM 11.2)

abbrev pub in_handler : Site → Site
in_handler c = record c { ways = within_handler (narrow c.taken) c.ways; taken = c.taken + 1 }

-- what the rows of handlers cover: these statements, and the jump after them
abbrev pub covered : (start jump : ℕ) → Row
covered start jump = record { start = narrow start; end_ = narrow (suc jump); exception = 0; target = narrow (suc jump) }

abbrev pub leads_to : Row → (target : ℕ) → Row
leads_to q target = record q { target = narrow target }

-- the exception is kept in a word of the frame
abbrev pub kept_code : (taken : ℕ) → CodePart
kept_code taken = takes (taken + 1) ▹ coded (one 1 (op.StoreLocal (narrow taken)))

-- statements, a jump over their handlers, and these
abbrev pub covered_code : (body : CodePart) → (handlers : Row → CodePart) → CodePart
covered_code body handlers = begun (λ start. body ▹ begun (λ jump. skipping 0 0 op.Jump (handlers (covered start jump))))

-- where there are any
abbrev pub sequence_code : HandlerTrees → (body : CodePart) → (handlers : Row → CodePart) → CodePart
sequence_code NoHandlers body handlers = body
sequence_code all body handlers = covered_code body handlers

-- ---- statements

abbrev mutual
  pub stmt_code : Site → StmtTree → CodePart
  stmt_code c (Assignment name e) = coded (assignment_code c.visible name e)
  stmt_code c (Call name) = called_code c.visible name (call_form c.visible name)
  stmt_code c (Exit place e) = coded (exit_code c.visible c.ways.exit e)
  stmt_code c (Return place e) = coded (jump_code c.ways.return)
  stmt_code c (Raise place name) = coded (raise_code c.exceptions c.ways.handled name)
  stmt_code c (DelayUntil place e) = coded (delay_code c.visible e)
  stmt_code c (If place e body parts others) =
      if_code c.visible e parts others (stmts_code c body) (elsifs_code c parts (stmts_code c others))
  stmt_code c (Case place e all) = coded (expr_code c.visible 0 e) ▹ alternatives_code c all
  stmt_code c (Loop place iteration body) =
      with_way (any_leave body way.Exit) (λ exit. loop_code (record c { ways = with_exit exit c.ways }) iteration (λ inner. stmts_code inner body))
  stmt_code c (Block place ds body all) =
      locals_code c ds ▹ sequence_code all (stmts_code (after_locals c ds) body) (λ q. handlers_code (after_locals c ds) q [] all)
  stmt_code c other = coded nothing

  -- one after another
  pub stmts_code : Site → StmtTrees → CodePart
  stmts_code c NoStmts = coded nothing
  stmts_code c (MoreStmts x rest) = marked (stmt_place x) (stmt_code c x) ▹ stmts_code c rest

  -- the parts of an `if` after the first one, before the last statements
  pub elsifs_code : Site → ElsifTrees → (last : CodePart) → CodePart
  elsifs_code c NoElsifs last = last
  elsifs_code c (MoreElsifs e body rest) last = fork_code c.visible e (stmts_code c body) (elsifs_code c rest last)

  -- after the last alternative a value that is left is dropped, which legal choices never leave
  pub alternatives_code : Site → AlternativeTrees → CodePart
  alternatives_code c NoAlternatives = coded (one 1 op.Drop)
  alternatives_code c (MoreAlternatives place choices body rest) =
      alternative_code c.visible.scope choices (stmts_code c body) (alternatives_code c rest)

  -- one after another; then the rows of all their choices
  pub handlers_code : Site → (cover : Row) → (own : List Row) → HandlerTrees → CodePart
  handlers_code c q own NoHandlers = handles own
  handlers_code c q own (MoreHandlers choices body rest) =
      begun (λ target. kept_code c.taken ▹ stmts_code (in_handler c) body
      ▹ skipping 0 0 op.Jump (handlers_code c q (own ++ choice_rows c.exceptions (leads_to q target) choices) rest))

-- ---- bodies (RM 6.3)

-- the statements and handlers of a body
abbrev pub in_body : Site → (way_out : Option ℕ) → Site
in_body c end = record c { ways = record { exit = None; return = end; handled = None } }

-- its declarations, the way out, if a return leads there, and its statements
abbrev pub run_code : Site → BodyTree → CodePart
run_code c b =
    locals_code c b.declarations
    ▹ with_way (any_leave b.statements way.Return || handlers_leave b.handlers way.Return)
    (λ end. sequence_code b.handlers (stmts_code (in_body (after_locals c b.declarations) end) b.statements)
    (λ q. handlers_code (in_body (after_locals c b.declarations) end) q [] b.handlers))
