-- What refuses a procedure or a function refuses its body; which labels, and how many rows of handlers, stand behind it.
use Rattle.std.proofs.Common.{◌≡◌, ℕ, ◌+◌, ◌≤◌, List, [], ◌∷◌, length, true, inl, inr, Option, Some, None, Result, Ok, Err, sym, ap, ◌∙◌, subst, arith}
use Rattle.std.specs.Prelude.{OnOk, is_some}
use Rattle.ada_tree.specs.declared.expression.Identifier.{Identifier}
use Rattle.ada_tree.specs.ExpressionTree.{ExprTree}
use Rattle.ada_tree.specs.declared.statement.Stmt.{Stmt}
use Rattle.ada_tree.specs.StatementTree.{MoreStmts, Return, StmtTree, StmtTrees, SubprogramTree, stmt_tree, stmt_trees}
use Rattle.ada_tree.specs.ProgramTree.{BodyTree}
use Rattle.expr_soundness.specs.meaning.specs.Programs.{returned}
use Rattle.expr_code.specs.Code.{here}
use Rattle.expr_code.specs.declared.refusal.Refusal.{Refusal}
use Rattle.expr_code.specs.declared.visible.Visible.{Visible}
use Rattle.step_simulation.specs.part_code.specs.Bounds.{function_bound, procedure_bound}
use Rattle.step_simulation.specs.part_code.specs.Needs.{HasManyLabels, IsNeeding, Needs}
use Rattle.step_simulation.specs.part_code.specs.Rows.{body_rows}
use Rattle.stmt_code.specs.WholeRefusals.{RefusesFunction, RefusesProcedure, body_labels, procedure_needs}
use Rattle.stmt_code.specs.declared.draft.Draft.{Draft}
use Rattle.step_simulation.specs.part_code.proofs.Within.{needing_refused, within_self}
use Rattle.package_code.specs.Refusing.{function_if_any}
use Rattle.package_code.specs.Walking.{AddsAsTold, RefusesBody}
use Rattle.package_code.proofs.Counted.{function_within}

abbrev labels_by : (before : List (List ℕ)) → BodyTree → Option Identifier → List (List ℕ)
labels_by before b o = elim o [ None ↦ body_labels before b | Some r ↦ before ]

abbrev rows_by : (before : ℕ) → BodyTree → Option Identifier → ℕ
rows_by before b o = elim o [ None ↦ body_rows before b | Some r ↦ before ]

pub procedure_told : (old new : Draft) (d : SubprogramTree) (b : BodyTree) → d.result ≡ None → new.labels ≡ body_labels old.labels b
    → length new.rows.items ≡ body_rows (length old.rows.items) b → AddsAsTold old d b new
procedure_told old new d b none labels rows = record {
  labels = labels ∙ sym (ap (labels_by old.labels b) none);
  rows = rows ∙ sym (ap (rows_by (length old.rows.items) b) none);
}

pub value_told : (old new : Draft) (d : SubprogramTree) (b : BodyTree) (r : Identifier) → d.result ≡ Some r → new.labels ≡ old.labels
    → new.rows.items ≡ old.rows.items
    → AddsAsTold old d b new
value_told old new d b r some labels rows = record {
  labels = labels ∙ sym (ap (labels_by old.labels b) some);
  rows = ap length rows ∙ sym (ap (rows_by (length old.rows.items) b) some);
}

pub both_ok : {X Y : Type 0} (r : Result X Y) (P Q : Type 0) → OnOk r P → OnOk r Q → OnOk r (P × Q)
both_ok (Ok x) P Q p q = (p, q)
both_ok (Err y) P Q p q = tt

module _ (v : Visible) (old : Draft) (d : SubprogramTree) (b : BodyTree) (why : Refusal) where
  abbrev needs_by : Option Identifier → Needs
  needs_by o = elim o [ None ↦ procedure_needs v d.formals b | Some r ↦ function_if_any v d.formals (returned b.statements) ]

  abbrev bound : ℕ
  bound = here old.code + procedure_bound v.scope d.formals b

  pub procedure_refused : d.result ≡ None → RefusesProcedure v old d.formals b why → RefusesBody v old d b why
  procedure_refused none (inl n) = inl (subst (λ o. IsNeeding bound (needs_by o) why) (sym none) n)
  procedure_refused none (inr h) = inr (subst (λ o. HasManyLabels (labels_by old.labels b o) why) (sym none) h)

  value_needing : (r : Identifier) (o : Option ExprTree) → d.result ≡ Some r → returned b.statements ≡ o → IsNeeding bound (function_if_any v d.formals o) why
      → RefusesBody v old d b why
  value_needing r o some is n =
      inl (subst (λ x. IsNeeding bound (needs_by x) why) (sym some) (subst (λ x. IsNeeding bound (function_if_any v d.formals x) why) (sym is) n))

  pub value_refused : (r : Identifier) (e : ExprTree) → d.result ≡ Some r → returned b.statements ≡ Some e → RefusesFunction v old d.formals e why
      → RefusesBody v old d b why
  value_refused r e some is n =
      let less = function_within v.scope d.formals b e is in
      value_needing r (Some e) some is
      (needing_refused (here old.code + function_bound d.formals e) bound (function_if_any v d.formals (Some e)) (function_if_any v d.formals (Some e))
      (up (here old.code) (function_bound d.formals e) (procedure_bound v.scope d.formals b) less) (within_self _) why n)
    where
      up : (a p q : ℕ) → p ≤ q → a + p ≤ a + q
      up a p q h = omega (arith, h)

-- ---- bodies of several statements return no value

two_none : (a b : StmtTree) (rest : StmtTrees) → is_some (returned (MoreStmts a (MoreStmts b rest))) ≡ true → ⊥
two_none (Return place value) b rest h = cc
two_none a b rest h = cc

pub many_none : (items : List Stmt) → 2 ≤ length items → is_some (returned (stmt_trees items)) ≡ true → ⊥
many_none [] up h = omega (arith, up)
many_none (x ∷ []) up h = omega (arith, up)
many_none (x ∷ y ∷ rest) up h = two_none (stmt_tree x) (stmt_tree y) (stmt_trees rest) h
