-- The code of whole subprograms: of procedures, functions and main (docs/CODEGEN.md). What no legal subprogram has some code is given too.
use Rattle.std.specs.Prelude.{ℕ, ◌+◌, cond, nat_eq, pos, List, [], ◌∷◌, Option, Some, None}
use Rattle.ada_tree.specs.declared.declaration.Mode.TheVariants as mode
use Rattle.ada_tree.specs.declared.program.MainStatement.{MainStatement}
use Rattle.ada_tree.specs.declared.program.MainStatement.TheVariants as main
use Rattle.ada_tree.specs.ExpressionTree.{ExprTree}
use Rattle.ada_tree.specs.ProgramTree.{BodyTree}
use Rattle.image.specs.declared.instruction.Operation.TheVariants as op
use Rattle.image.specs.declared.instruction.Region.TheVariants as regions
use Rattle.types.specs.declared.entity.Subtype.{Subtype}
use Rattle.types.specs.Scopes.{Scope}
use Rattle.expr_code.specs.ExpressionCode.{checked_code, expr_code}
use Rattle.expr_code.specs.Pieces.{Piece, nothing, one, ◌▸◌}
use Rattle.expr_code.specs.Seeing.{subprogram_of}
use Rattle.expr_code.specs.declared.visible.Visible.{Visible}
use Rattle.part_code.specs.Formals.{returned_more}
use Rattle.part_code.specs.ObjectCode.{object_code, within_frame}
use Rattle.part_code.specs.PartCode.{words_in}
use Rattle.part_code.specs.declared.formals.PlacedFormal.{PlacedFormal}
use Rattle.stmt_code.specs.Drafting.{CodePart, coded, ◌▹◌}
use Rattle.stmt_code.specs.StatementCode.{Site, run_code}

-- ---- `out` parameters, which begin as objects without initial value (RM 6.4.1)

abbrev pub out_code : Visible → PlacedFormal → Piece
out_code v x = elim x.mode [ mode.In ↦ nothing | mode.Out ↦ object_code v x.offset x.subtype None | mode.InOut ↦ nothing ]

abbrev pub outs_code : Visible → List PlacedFormal → Piece
outs_code v [] = nothing
outs_code v (x ∷ xs) = out_code v x ▸ outs_code v xs

-- ---- what the end of a body gives back (RM 6.4.1)

-- so many words of the frame, from an offset on, above `depth` words of the operand stack
abbrev pub load_code : (depth offset many : ℕ) → Piece
load_code d offset many =
    cond (nat_eq many 1) (one d (op.LoadLocal offset))
    (within_frame (d + many) (one d (op.Push (pos offset)) ▸ one (d + 1) (op.LoadBlock regions.Locals many)))

-- the address to which a parameter is copied back, which the word there holds, and its value; of one that is not copied back nothing
abbrev pub given_code : Scope → (depth : ℕ) → PlacedFormal → (address : Option ℕ) → Piece
given_code s d x None = nothing
given_code s d x (Some a) = one d (op.LoadLocal a) ▸ load_code (d + 1) x.offset (words_in s x.subtype)

-- the words of all addresses and values
abbrev pub height_given : Scope → List PlacedFormal → ℕ
height_given s [] = 0
height_given s (x ∷ xs) = returned_more x.address (words_in s x.subtype) (height_given s xs)

-- from the last parameter to the first
abbrev pub back_code : Scope → List PlacedFormal → Piece
back_code s [] = nothing
back_code s (x ∷ xs) = back_code s xs ▸ given_code s (height_given s xs) x x.address

abbrev pub return_code : Scope → List PlacedFormal → Piece
return_code s xs = back_code s xs ▸ one (height_given s xs) op.Return

-- ---- subprograms

-- a procedure whose parameters were given these places: first values of `out` parameters, its declarations and statements, and what it gives back
abbrev pub procedure_code : Site → List PlacedFormal → BodyTree → CodePart
procedure_code c xs b = coded (outs_code c.visible xs) ▹ run_code c b ▹ coded (return_code c.visible.scope xs)

-- a function: the value that it returns, checked against the subtype of its result
abbrev pub function_code : Visible → Subtype → ExprTree → Piece
function_code v t e = checked_code v 0 t e (expr_code v 0 e) ▸ one 1 op.Return

-- ---- main (RM 10.2)

abbrev pub call_code : (number : Option ℕ) → Piece
call_code None = nothing
call_code (Some n) = one 0 (op.Call n)

abbrev pub main_call : Visible → MainStatement → Piece
main_call v (main.Null place) = nothing
main_call v (main.Call package_ procedure) = call_code (subprogram_of v procedure.name)

-- one after another
abbrev pub calls_code : Visible → List MainStatement → Piece
calls_code v [] = nothing
calls_code v (x ∷ rest) = main_call v x ▸ calls_code v rest

abbrev pub main_code : Visible → List MainStatement → Piece
main_code v all = calls_code v all ▸ one 0 op.Return
