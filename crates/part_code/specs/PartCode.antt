-- The code of parts of statements, as pieces (docs/CODEGEN.md). What no legal statement has some code is given too.
use Rattle.std.specs.Prelude.{ℕ, suc, ◌+◌, cond, not, List, [], ◌∷◌, Option, Some, None}
use Rattle.ada_tree.specs.declared.declaration.Mode.TheVariants as mode
use Rattle.ada_tree.specs.declared.expression.Identifier.{Identifier}
use Rattle.ada_tree.specs.ExpressionTree.{ArgumentTree, ArgumentTrees, Conditional, ElsifValueTrees, ExprTree, MoreArguments, MoreElsifValues, Named, NoElsifValues, Parenthesized, SelectorTrees, Text, Value}
use Rattle.ada_tree.specs.Size.{total}
use Rattle.image.specs.Rules.{is_block}
use Rattle.image.specs.declared.instruction.Operation.TheVariants as op
use Rattle.types.specs.declared.entity.FormalParameter.{FormalParameter}
use Rattle.types.specs.declared.entity.Subtype.{Subtype}
use Rattle.types.specs.declared.standing.Standing.{Standing}
use Rattle.types.specs.declared.standing.Standing.TheVariants as standing
use Rattle.types.specs.Layouts.{capped, words_of}
use Rattle.types.specs.Scopes.{Scope, form_at, number_of}
use Rattle.types.specs.Standings.{stands_first}
use Rattle.expr_code.specs.Emitting.{has_numbers}
use Rattle.expr_code.specs.ExpressionCode.{address_code, checked_code, expr_code, fork_code, misfit_code, path_code, path_part, range_check, whole_of}
use Rattle.expr_code.specs.Naming.{loaded_at}
use Rattle.expr_code.specs.Pieces.{Piece, nothing, one, ◌▸◌}
use Rattle.expr_code.specs.Seeing.{slot_of}
use Rattle.expr_code.specs.declared.visible.Slot.{Slot}
use Rattle.expr_code.specs.declared.visible.Visible.{Visible}
use Rattle.part_code.specs.Emitting.{stored_at}
use Rattle.part_code.specs.Moving.{source_at}
use Rattle.part_code.specs.declared.call.Destination.{Destination}
use Rattle.part_code.specs.declared.moving.Moved.{Moved}
use Rattle.part_code.specs.declared.moving.Source.{Source}

-- how many words an instruction moves of an object of this subtype
abbrev pub words_in : Scope → Subtype → ℕ
words_in s t = capped (words_of s t)

-- a value that is checked against a subtype, where its words are as many as an instruction moves; else an instruction that no image may have
abbrev pub fitting_code : Visible → (depth : ℕ) → Subtype → ExprTree → Piece
fitting_code v d t e = misfit_code (not (is_block (words_in v.scope t))) d ▸ checked_code v d t e (expr_code v d e)

-- ---- addresses (RM 4.1)

-- of an object of this subtype whose words stand there, or of the part of it that selectors lead to
abbrev pub address_at : Visible → (depth : ℕ) → Slot → (whole : Subtype) → SelectorTrees → Piece
address_at v d slot t all = address_code d slot.offset (path_part v.scope (whole_of t) all) (path_code v (d + 1) (whole_of t) all)

-- ---- arrays and records that are moved to the address on the operand stack (RM 5.2)

-- from a variable, or a part of one
abbrev pub moved_from : Visible → Moved → Option Source → SelectorTrees → Piece
moved_from v to (Some x) all = address_at v 1 x.slot x.whole all ▸ one 2 (op.Copy to.region x.slot.region to.words)
moved_from v to None all = nothing

-- from the one that an if expression chooses
abbrev mutual
  pub move_code : Visible → Moved → ExprTree → Piece
  move_code v to (Named first all) = moved_from v to (source_at v (record { first = first; selectors = all })) all
  move_code v to (Parenthesized place e) = move_code v to e
  move_code v to (Conditional place condition value elsifs last) =
      fork_code 1 0 (expr_code v 1 condition) (move_code v to value) (moves_code v to elsifs (move_code v to last))
  move_code v to e = nothing

  pub moves_code : Visible → Moved → ElsifValueTrees → (last : Piece) → Piece
  moves_code v to NoElsifValues last = last
  moves_code v to (MoreElsifValues condition value rest) last = fork_code 1 0 (expr_code v 1 condition) (move_code v to value) (moves_code v to rest last)

-- ---- checks

-- the check of the number on top against a subtype; other values need none
abbrev pub range_code : Scope → (depth : ℕ) → Subtype → Piece
range_code s d t = cond (has_numbers (form_at s t.type_number)) (range_check d t) nothing

-- ---- actual parameters, from left to right (RM 6.4.1)

-- the object with this standing and place
abbrev pub object_at : Standing → Option Slot → Option Source
object_at (standing.Part r t) (Some x) = Some (record { slot = x; whole = t })
object_at w x = None

-- the one that an identifier denotes
abbrev pub object_named : Visible → Identifier → Option Source
object_named v first = object_at (stands_first v.scope (number_of v.scope first.name)) (slot_of v first.name)

-- the object, or the part of one, that is copied back to: where it is, and the code of its address
abbrev pub target_at : Visible → Option Source → SelectorTrees → Option Destination
target_at v (Some x) all = Some (record { region = x.slot.region; subtype = (path_part v.scope (whole_of x.whole) all).subtype })
target_at v None all = None

abbrev pub target_address : Visible → (depth : ℕ) → Option Source → SelectorTrees → Piece
target_address v d (Some x) all = address_at v d x.slot x.whole all
target_address v d None all = nothing

abbrev pub target_of : Visible → ExprTree → Option Destination
target_of v (Named first all) = target_at v (object_named v first) all
target_of v e = None

abbrev pub target_code : Visible → (depth : ℕ) → ExprTree → Piece
target_code v d (Named first all) = target_address v d (object_named v first) all
target_code v d e = nothing

-- its value above its address, checked against the subtype of the parameter
abbrev pub copied_in : Visible → (depth : ℕ) → Option Destination → Subtype → Piece
copied_in v d (Some x) t =
    one (d + 1) op.Duplicate ▸ one (d + 1 + 1) (loaded_at x.region (words_in v.scope x.subtype)) ▸ range_code v.scope (d + 1 + words_in v.scope x.subtype) t
copied_in v d None t = nothing

abbrev pub target_words : Scope → Option Destination → ℕ
target_words s (Some x) = words_in s x.subtype
target_words s None = 0

-- of mode `in` the value; of mode `out` the address; of mode `in out` both
abbrev pub moded_code : Visible → (depth : ℕ) → FormalParameter → ExprTree → Piece
moded_code v d f e = elim f.mode [
  | mode.In ↦ fitting_code v d f.subtype e
  | mode.Out ↦ target_code v d e
  | mode.InOut ↦ target_code v d e ▸ copied_in v d (target_of v e) f.subtype
]

-- the words on the operand stack then
abbrev pub moded_height : Visible → (depth : ℕ) → FormalParameter → ExprTree → ℕ
moded_height v d f e = elim f.mode [
  | mode.In ↦ d + words_in v.scope f.subtype
  | mode.Out ↦ d + 1
  | mode.InOut ↦ d + 1 + target_words v.scope (target_of v e)
]

abbrev pub moded_target : Visible → FormalParameter → ExprTree → Option Destination
moded_target v f e = elim f.mode [ mode.In ↦ None | mode.Out ↦ target_of v e | mode.InOut ↦ target_of v e ]

abbrev pub actual_code : Visible → (depth : ℕ) → FormalParameter → ArgumentTree → Piece
actual_code v d f (Value e) = moded_code v d f e
actual_code v d f (Text label place) = nothing

abbrev pub actual_height : Visible → (depth : ℕ) → FormalParameter → ArgumentTree → ℕ
actual_height v d f (Value e) = moded_height v d f e
actual_height v d f (Text label place) = d

abbrev pub actual_target : Visible → FormalParameter → ArgumentTree → Option Destination
actual_target v f (Value e) = moded_target v f e
actual_target v f (Text label place) = None

abbrev pub actuals_code : Visible → (depth : ℕ) → List FormalParameter → ArgumentTrees → Piece
actuals_code v d (f ∷ fs) (MoreArguments a rest) = actual_code v d f a ▸ actuals_code v (actual_height v d f a) fs rest
actuals_code v d fs all = nothing

abbrev pub actuals_height : Visible → (depth : ℕ) → List FormalParameter → ArgumentTrees → ℕ
actuals_height v d (f ∷ fs) (MoreArguments a rest) = actuals_height v (actual_height v d f a) fs rest
actuals_height v d fs all = d

abbrev pub with_target : Option Destination → List Destination → List Destination
with_target (Some x) rest = x ∷ rest
with_target None rest = rest

abbrev pub actuals_targets : Visible → List FormalParameter → ArgumentTrees → List Destination
actuals_targets v (f ∷ fs) (MoreArguments a rest) = with_target (actual_target v f a) (actuals_targets v fs rest)
actuals_targets v fs all = []

-- ---- what is copied back after a call, from the first parameter on (RM 6.4.1)

-- a value on top of its address is stored there
abbrev pub copy_code : Scope → (height : ℕ) → Destination → Piece
copy_code s h x = range_code s h x.subtype ▸ one h (stored_at x.region (words_in s x.subtype))

abbrev pub given_words : Scope → Destination → ℕ
given_words s x = suc (words_in s x.subtype)

abbrev pub copies_code : Scope → List Destination → Piece
copies_code s [] = nothing
copies_code s (x ∷ xs) = copy_code s (total (given_words s) (x ∷ xs)) x ▸ copies_code s xs
