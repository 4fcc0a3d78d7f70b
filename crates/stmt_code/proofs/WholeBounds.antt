-- How many instructions whole subprograms have at most.
use Rattle.std.proofs.Common.{◌≡◌, ℕ, suc, ◌+◌, ◌*◌, ◌≤◌, List, [], ◌∷◌, length, ap, arith}
use Rattle.ada_tree.specs.declared.declaration.Formal.{Formal}
use Rattle.ada_tree.specs.declared.program.MainStatement.{MainStatement}
use Rattle.ada_tree.specs.ExpressionTree.{ExprTree}
use Rattle.ada_tree.specs.ProgramTree.{BodyTree}
use Rattle.ada_tree.specs.Size.{total}
use Rattle.image.specs.declared.instruction.Operation.TheVariants as op
use Rattle.types.specs.declared.entity.Subtype.{Subtype}
use Rattle.types.specs.Scopes.{Scope}
use Rattle.declaration_rules.specs.LocalRules.{locals_scope}
use Rattle.expr_code.specs.Code.{Adds, here}
use Rattle.expr_code.specs.Emitting.{EmitsChecked}
use Rattle.expr_code.specs.declared.code.Code.{Code}
use Rattle.expr_code.specs.declared.visible.Visible.{Visible}
use Rattle.expr_code.proofs.Growing.{added_here}
use Rattle.part_code.specs.Bounds.{formals_words, function_bound, handlers_words, locals_words, main_bound, procedure_bound, run_bound, stmts_words, words_if_any}
use Rattle.part_code.specs.Formals.{PlacesFormals, StandInTurn, placed_words}
use Rattle.part_code.specs.MainCalls.{AddsCalls}
use Rattle.stmt_code.specs.Subprograms.{fresh}
use Rattle.part_code.specs.declared.frame_words.FrameWords.{FrameWords}
use Rattle.part_code.specs.declared.formals.PlacedFormal.{PlacedFormal}
use Rattle.part_code.specs.declared.formals.PlacedFormals.{PlacedFormals}
use Rattle.part_code.proofs.FormalWords.{placed_long}

-- ---- procedures

pub formals_total : (s behind : Scope) (fs : List Formal) (xs : List PlacedFormal) (from out last top : ℕ) → StandInTurn s from out fs xs last top
    → total (placed_words behind) xs ≡ formals_words s behind fs
formals_total s behind [] [] from out last top h = omega arith
formals_total s behind [] (x ∷ xs) from out last top h = absurd h
formals_total s behind (f ∷ fs) [] from out last top h = absurd h
formals_total s behind (f ∷ fs) (x ∷ xs) from out last top h =
    let own = ap (words_if_any behind) h.2 in
    let rest = formals_total s behind fs xs h.0 h.1 last top h.5 in
    omega (arith, own, rest)

pub procedure_room : (v later : Visible) (fs : List Formal) (b : BodyTree) (words : FrameWords) (placed : PlacedFormals) → PlacesFormals v fs later words placed
    → (2 * length placed.formals.items + total (placed_words later.scope) placed.formals.items)
    + (run_bound later.scope b.declarations b.statements b.handlers + suc (3 * length placed.formals.items)) ≤ procedure_bound v.scope fs b
procedure_room v later fs b words placed p =
    let xs = placed.formals.items in
    let long = placed_long v.scope fs xs 0 placed.passed placed.passed words.taken p.stand in
    let all = formals_total v.scope later.scope fs xs 0 placed.passed placed.passed words.taken p.stand in
    let formals = ap (λ s. formals_words v.scope s fs) p.scope in
    let locals = ap (λ s. locals_words s b.declarations) p.scope in
    let inside = ap (λ s. stmts_words (locals_scope s b.declarations) b.statements) p.scope in
    let handled = ap (λ s. handlers_words (locals_scope s b.declarations) b.handlers) p.scope in
    omega (arith, long, all, formals, locals, inside, handled)

-- ---- functions, and main

pub function_few : (v : Visible) (fs : List Formal) (t : Subtype) (e : ExprTree) (old valued new : Code) → EmitsChecked v (fresh old) 0 t e valued
    → Adds valued 1 op.Return new
    → here new ≤ here old + function_bound fs e
function_few v fs t e old valued new p q =
    let value = p.sized in
    let last = added_here valued new 1 op.Return q in
    omega (arith, value, last)

pub main_few : (v : Visible) (all : List MainStatement) (old called new : Code) → AddsCalls v (fresh old) all called → Adds called 0 op.Return new
    → here new ≤ here old + main_bound all
main_few v all old called new p q =
    let calls = p.sized in
    let last = added_here called new 0 op.Return q in
    omega (arith, calls, last)
