-- The body of a function is one `return`: what it returns breaks no rule where the body breaks none.
use Rattle.std.proofs.Common.{◌≡◌, ℕ, List, [], ◌∷◌, Bool, true, false, ◌&&◌, Some, None, refl, ap, subst}
use Rattle.std.specs.Prelude.{is_some}
use Rattle.expr_soundness.specs.ada_tree.specs.ExpressionTree.{ExprTree}
use Rattle.expr_soundness.specs.ada_tree.specs.StatementTree.{DeclarationTree, SubprogramTree, StmtTrees, NoStmts, MoreStmts, Return}
use Rattle.expr_soundness.specs.ada_tree.specs.ProgramTree.{BodyTree}
use Rattle.types.specs.Scopes.{Scope}
use Rattle.expr_soundness.specs.expr_rules.specs.declared.own.Wanted.TheVariants.{OfType}
use Rattle.expr_soundness.specs.expr_rules.specs.ExpressionRules.{faults_of}
use Rattle.expr_soundness.specs.expr_rules.proofs.TypedLaw.{back_empty, front_empty, judged, unbroken}
use Rattle.declaration_rules.specs.LocalRules.{locals_faults, locals_scope}
use Rattle.step_soundness.specs.stmt_rules.specs.declared.around.BodyKind.{BodyKind}
use Rattle.step_soundness.specs.stmt_rules.specs.declared.around.BodyKind.TheVariants as kind
use Rattle.step_soundness.specs.stmt_rules.specs.StatementRules.{handlers_faults, in_body, sequence_faults, stmts_faults}
use Rattle.unit_rules.specs.BodyRules.{body_faults, function_body_faults, has_no_declarations, has_no_handlers, is_function_body, is_single_return}
use Rattle.expr_soundness.specs.meaning.specs.Programs.{returned}
use Rattle.program_soundness.proofs.Listing.{same_some}

pub both_true : (a b : Bool) → (a && b) ≡ true → (a ≡ true) × (b ≡ true)
both_true true b h = (refl, h)
both_true false b h = cc

returned_is : (statements : StmtTrees) (value : ExprTree) → returned statements ≡ Some value
    → (place : ℕ) × (statements ≡ MoreStmts (Return place (Some value)) NoStmts)
returned_is (MoreStmts (Return place (Some e)) NoStmts) value h = (place, ap (λ x. MoreStmts (Return place (Some x)) NoStmts) (same_some e value h))
returned_is (MoreStmts (Return place (Some e)) (MoreStmts y rest)) value h = cc
returned_is (MoreStmts (Return place None) NoStmts) value h = cc
returned_is (MoreStmts (Return place None) (MoreStmts y rest)) value h = cc
returned_is statements value h = cc

none_declared : (ds : List DeclarationTree) → has_no_declarations ds ≡ true → ds ≡ []
none_declared [] h = refl
none_declared (d ∷ ds) h = cc

-- a function's body declares nothing
pub bare_body : (d : SubprogramTree) (b : BodyTree) → is_some d.result ≡ true → function_body_faults d b ≡ [] → b.declarations ≡ []
bare_body d b some h =
    none_declared b.declarations
    (both_true (has_no_declarations b.declarations) (has_no_handlers b.handlers && is_single_return b.statements)
    (judged (is_some d.result) (is_function_body b) (unbroken _ d.name.place _ h) some)).0

pub value_legal : (s : Scope) (n : ℕ) (b : BodyTree) (value : ExprTree) → body_faults s (kind.Function (Some n)) b ≡ []
    → b.declarations ≡ [] → returned b.statements ≡ Some value
    → faults_of s (OfType n) value ≡ []
value_legal s n b value legal bare is =
    let k : BodyKind = kind.Function (Some n) in
    let u : Scope = locals_scope s b.declarations in
    let x = returned_is b.statements value is in
    let sequence : sequence_faults u (in_body k) b.statements b.handlers ≡ [] = back_empty (locals_faults s b.declarations) _ legal in
    let all : stmts_faults u (in_body k) b.statements ≡ [] = front_empty _ (handlers_faults u (in_body k) b.handlers) sequence in
    let here : stmts_faults s (in_body k) b.statements ≡ [] = subst (λ ds. stmts_faults (locals_scope s ds) (in_body k) b.statements ≡ []) bare all in
    let one : stmts_faults s (in_body k) (MoreStmts (Return x.0 (Some value)) NoStmts) ≡ [] = subst (λ y. stmts_faults s (in_body k) y ≡ []) x.1 here in
    front_empty (faults_of s (OfType n) value) [] one
