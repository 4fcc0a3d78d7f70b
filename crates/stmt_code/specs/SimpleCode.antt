-- The code of statements without others within, and of the parts of a `case` and of loops over ranges, as pieces (docs/CODEGEN.md). What no legal statement has
-- some code is given too.
use Rattle.std.specs.Prelude.{ℕ, ◌+◌, ◌*◌, ℤ, pos, nat_eq, length, cond, Bool, true, false, List, [], ◌∷◌, Option, Some, None}
use Rattle.ada_tree.specs.declared.expression.Identifier.{Identifier}
use Rattle.ada_tree.specs.ExpressionTree.{ArgumentTrees, ExprTree, NameTree, NoSelectors, SelectorTrees}
use Rattle.ada_tree.specs.StatementTree.{RangeTree}
use Rattle.image.specs.declared.instruction.Operation.{Operation}
use Rattle.image.specs.declared.instruction.Operation.TheVariants as op
use Rattle.image.specs.declared.instruction.Region.TheVariants as regions
use Rattle.types.specs.declared.entity.FormalParameter.{FormalParameter}
use Rattle.types.specs.declared.entity.Subtype.{Subtype}
use Rattle.types.specs.Entities.{Profile}
use Rattle.types.specs.Evaluations.{Gives, Val}
use Rattle.types.specs.Bounds.{bounds_of}
use Rattle.types.specs.Scopes.{Scope, integer}
use Rattle.types.specs.Shapes.{word_of}
use Rattle.types.specs.Statics.{static_fault, static_value}
use Rattle.types.specs.Values.{Number, Truth, Value}
use Rattle.part_code.specs.step_soundness.specs.Fitting.{entity_named}
use Rattle.expr_soundness.specs.BoundsLaw.{is_inside}
use Rattle.expr_code.specs.ExpressionCode.{expr_code, path_part, whole_of}
use Rattle.expr_code.specs.Pieces.{Piece, narrow, nothing, one, ◌▸◌}
use Rattle.expr_code.specs.Seeing.{external_of, external_profile, profile_named, subprogram_of}
use Rattle.expr_code.specs.declared.visible.Visible.{Visible}
use Rattle.part_code.specs.EntryNames.{entry_behind, is_own_entry}
use Rattle.part_code.specs.Emitting.{store_operation, stored_at}
use Rattle.part_code.specs.Moving.{moves}
use Rattle.part_code.specs.PartCode.{actuals_code, actuals_height, actuals_targets, address_at, copies_code, fitting_code, move_code, object_named, words_in}
use Rattle.part_code.specs.Passing.{ExternalName, actuals_behind, operation_behind}
use Rattle.part_code.specs.Raising.{raised_by}
use Rattle.part_code.specs.Turns.{next_operation, word_of_first, word_of_last}
use Rattle.part_code.specs.declared.moving.Source.{Source}
use Rattle.part_code.specs.declared.turns.Turns.{Turns}

-- ---- assignments (RM 5.2)

-- the subtype of the object, or of the part of it, that is assigned to
abbrev pub assigned_part : Visible → Source → SelectorTrees → Subtype
assigned_part v x all = (path_part v.scope (whole_of x.whole) all).subtype

-- its address, the value, and what stores its words there
abbrev pub stored_code : Visible → Source → SelectorTrees → ExprTree → Piece
stored_code v x all e =
    address_at v 0 x.slot x.whole all ▸ fitting_code v 1 (assigned_part v x all) e
    ▸ one (1 + words_in v.scope (assigned_part v x all)) (stored_at x.slot.region (words_in v.scope (assigned_part v x all)))

-- to an object of one word: the value, and what stores it
abbrev pub word_code : Visible → Source → ExprTree → Piece
word_code v x e = fitting_code v 0 x.whole e ▸ one 1 (store_operation x.slot)

-- its address, and what moves the words there
abbrev pub moved_code : Visible → Source → SelectorTrees → ExprTree → Piece
moved_code v x all e =
    address_at v 0 x.slot x.whole all ▸ move_code v (record { region = x.slot.region; words = words_in v.scope (assigned_part v x all) }) e

abbrev pub assigned_code : Visible → Source → SelectorTrees → ExprTree → Piece
assigned_code v x NoSelectors e = cond (nat_eq (words_in v.scope x.whole) 1) (word_code v x e) (stored_code v x NoSelectors e)
assigned_code v x all e = stored_code v x all e

abbrev pub target_code : Visible → Option Source → (moved : Bool) → SelectorTrees → ExprTree → Piece
target_code v None moved all e = nothing
target_code v (Some x) true all e = moved_code v x all e
target_code v (Some x) false all e = assigned_code v x all e

abbrev pub assignment_code : Visible → NameTree → ExprTree → Piece
assignment_code v name e = target_code v (object_named v name.first) (moves v name e) name.selectors e

-- ---- calls (RM 6.4, 9.5.1, 9.5.3)

-- the actual parameters, the call, and what is copied back
abbrev pub invoked_code : Visible → List FormalParameter → ArgumentTrees → Operation → Piece
invoked_code v formals all call =
    actuals_code v 0 formals all ▸ one (actuals_height v 0 formals all) call ▸ copies_code v.scope (actuals_targets v formals all)

-- a call of a procedure with this profile and number
abbrev pub procedure_code : Visible → Profile → Option ArgumentTrees → (number : Option ℕ) → Piece
procedure_code v p (Some all) (Some number) = invoked_code v p.formals all (op.Call number)
procedure_code v p arguments number = nothing

-- a call through the name of an object: of its entry, after a test that no action is open, or of another operation
abbrev pub through_code : Visible → ArgumentTrees → Option Profile → (entry number : Option ℕ) → Piece
through_code v all (Some p) (Some object) number = one 0 op.CheckBlocking ▸ invoked_code v p.formals all (op.EntryCall object)
through_code v all (Some p) None (Some number) = invoked_code v p.formals all (op.ProtectedCall number)
through_code v all profile entry number = nothing

-- what a call has besides lines
pub data CallForm : Type 0 where
  Code : Piece → CallForm
  Line : CallForm

-- a bare name without a profile: an entry of the body's own object, which is the test alone, or a line
abbrev pub bare_form : (own_entry : Bool) → CallForm
bare_form true = Code (one 0 op.CheckBlocking)
bare_form false = Line

abbrev pub behind_form : Visible → NameTree → Option ExternalName → CallForm
behind_form v name None = bare_form (is_own_entry (entity_named v.scope name.first.name))
behind_form v name (Some x) =
    Code (through_code v x.arguments (external_profile v.scope name.first.name x.operation.name)
    (entry_behind v.scope name.first.name x.operation.name) (external_of v name.first.name x.operation.name))

abbrev pub profiled_form : Visible → NameTree → Option Profile → CallForm
profiled_form v name (Some p) = Code (procedure_code v p (actuals_behind name.selectors) (subprogram_of v name.first.name))
profiled_form v name None = behind_form v name (operation_behind name.selectors)

abbrev pub call_form : Visible → NameTree → CallForm
call_form v name = profiled_form v name (profile_named v.scope name.first.name)

-- ---- ways out (RM 5.7, 6.5), exceptions (RM 11.3), delays (RM 9.6)

abbrev pub jump_code : (way : Option ℕ) → Piece
jump_code None = nothing
jump_code (Some place) = one 0 (op.Jump place)

abbrev pub leaving_code : (way : Option ℕ) → Piece
leaving_code None = nothing
leaving_code (Some place) = one 1 (op.JumpIfNotZero place)

abbrev pub exit_code : Visible → (way : Option ℕ) → Option ExprTree → Piece
exit_code v way None = jump_code way
exit_code v way (Some e) = expr_code v 0 e ▸ leaving_code way

abbrev pub raising : Option Operation → Piece
raising None = nothing
raising (Some x) = one 0 x ▸ one 1 op.Raise

abbrev pub raise_code : (exceptions : List (List ℕ)) → (handled : Option ℕ) → Option Identifier → Piece
raise_code exceptions handled name = raising (raised_by exceptions handled name)

-- a test that no action is open, the time, and the delay
abbrev pub timed_code : Visible → ExprTree → Piece
timed_code v e = one 0 op.CheckBlocking ▸ expr_code v 0 e ▸ one 1 op.DelayUntil

-- where the bounds of the time are no numbers of 64 bits, which those of each text are, an instruction that no image may have
abbrev pub delay_code : Visible → ExprTree → Piece
delay_code v e = cond (is_inside (bounds_of v.scope e) integer) (timed_code v e) (one 0 (op.LoadBlock regions.Locals 0))

-- ---- choices of a `case` (RM 5.4)

-- the word of a static value, and 0 where there is none
abbrev pub choice_word : (fault : Option ℕ) → Val Value → ℤ
choice_word None (Gives (Number z)) = z
choice_word None (Gives (Truth b)) = word_of b
choice_word fault other = pos 0

-- a copy of the value, the word, whether they are equal, and a jump where they are
abbrev pub test_code : (word : ℤ) → (to : ℕ) → Piece
test_code word to = one 1 op.Duplicate ▸ one 2 (op.Push word) ▸ one 3 op.Equal ▸ one 2 (op.JumpIfNotZero to)

abbrev pub tests_code : Scope → (to : ℕ) → List ExprTree → Piece
tests_code s to [] = nothing
tests_code s to (c ∷ cs) = test_code (choice_word (static_fault s c) (static_value s c)) to ▸ tests_code s to cs

-- all lead to the instruction after the jump that follows them
unfoldable pub choices_code : Scope → List ExprTree → Piece
choices_code s cs base = tests_code s (narrow (base + 4 * length cs + 1)) cs base

-- ---- loops over ranges (RM 5.5)

abbrev pub bounds_code : Visible → RangeTree → Turns → Piece
bounds_code v r t =
    expr_code v 0 r.first ▸ expr_code v 1 r.last ▸ one 2 (op.StoreLocal (word_of_last t)) ▸ one 1 (op.StoreLocal (word_of_first t))

-- whether the range is null
abbrev pub null_code : Turns → Piece
null_code t = one 0 (op.LoadLocal (word_of_last t)) ▸ one 1 (op.LoadLocal (word_of_first t)) ▸ one 2 op.Less

-- whether the parameter has its last value
abbrev pub last_code : Turns → Piece
last_code t = one 0 (op.LoadLocal t.counter) ▸ one 1 (op.LoadLocal t.limit) ▸ one 2 op.Equal

-- its next value
abbrev pub next_code : Turns → Piece
next_code t =
    one 0 (op.LoadLocal t.counter) ▸ one 1 (op.Push (pos 1)) ▸ one 2 (next_operation t.reversed) ▸ one 1 (op.StoreLocal t.counter)
