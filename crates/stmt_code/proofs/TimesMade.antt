-- Lists of statements, of parts of an `if`, of alternatives and of handlers delay to times within 64 bits where each of them does (RM 9.6).
use Rattle.std.proofs.Common.{◌≡◌, ◌≤◌, ◌<◌, ℕ, ◌+◌, List, [], ◌∷◌, drop, length, refl, sym, ◌∙◌, ap, subst}
use Rattle.std.specs.Prelude.{OnOk, Result, get_or}
use Rattle.std.proofs.lemmas.Result.{on_ok_weaker}
use Rattle.ada_tree.specs.declared.statement.Alternative.{Alternative}
use Rattle.ada_tree.specs.declared.statement.ElsifPart.{ElsifPart}
use Rattle.ada_tree.specs.declared.statement.Handler.{Handler}
use Rattle.ada_tree.specs.declared.statement.Stmt.{Stmt}
use Rattle.ada_tree.specs.StatementTree.{DeclarationTree, LocalObject, LocalProtected, LocalTask, StmtTree, alternative_trees, elsif_trees, handler_trees, stmt_tree, stmt_trees}
use Rattle.types.specs.Scopes.{Scope}
use Rattle.expr_code.specs.declared.visible.Visible.{Visible}
use Rattle.expr_code.proofs.Going.{drop_at}
use Rattle.expr_code.proofs.Pieces.{drop_end}
use Rattle.part_code.specs.Statements.{Ways}
use Rattle.stmt_code.specs.Declaring.{AddsLocals, site_at}
use Rattle.stmt_code.specs.Drafting.{Sketched}
use Rattle.stmt_code.specs.StatementCode.{Site, after_local, after_locals}
use Rattle.stmt_code.specs.Timely.{alternatives_timely, elsifs_timely, handlers_timely, locals_seen, stmt_timely, stmts_timely}
use Rattle.stmt_code.proofs.DeclarationsMade.{shown_after}

module _ (s : Scope) (W : Type 0) where
  pub statements_on : (all : List Stmt) (n : ℕ) (x : Stmt) → n < length all → x ≡ get_or all n x → stmt_timely s (stmt_tree x)
      → (stmts_timely s (stmt_trees (drop n all)) → W) → stmts_timely s (stmt_trees (drop (n + 1) all)) → W
  statements_on all n x less is own goes rest = goes (subst (λ l. stmts_timely s (stmt_trees l)) (sym (drop_at all n x less is)) (own, rest))

  pub statements_done : (all : List Stmt) (n : ℕ) → length all ≤ n → (stmts_timely s (stmt_trees (drop n all)) → W) → W
  statements_done all n le goes = goes (subst (λ l. stmts_timely s (stmt_trees l)) (sym (drop_end all n le)) tt)

  pub elsifs_on : (all : List ElsifPart) (n : ℕ) (x : ElsifPart) → n < length all → x ≡ get_or all n x → stmts_timely s (stmt_trees x.statements.items)
      → (elsifs_timely s (elsif_trees (drop n all)) → W) → elsifs_timely s (elsif_trees (drop (n + 1) all)) → W
  elsifs_on all n x less is own goes rest = goes (subst (λ l. elsifs_timely s (elsif_trees l)) (sym (drop_at all n x less is)) (own, rest))

  pub elsifs_done : (all : List ElsifPart) (n : ℕ) → length all ≤ n → (elsifs_timely s (elsif_trees (drop n all)) → W) → W
  elsifs_done all n le goes = goes (subst (λ l. elsifs_timely s (elsif_trees l)) (sym (drop_end all n le)) tt)

  pub alternatives_on : (all : List Alternative) (n : ℕ) (x : Alternative) → n < length all → x ≡ get_or all n x → stmts_timely s (stmt_trees x.statements.items)
      → (alternatives_timely s (alternative_trees (drop n all)) → W) → alternatives_timely s (alternative_trees (drop (n + 1) all)) → W
  alternatives_on all n x less is own goes rest = goes (subst (λ l. alternatives_timely s (alternative_trees l)) (sym (drop_at all n x less is)) (own, rest))

  pub alternatives_done : (all : List Alternative) (n : ℕ) → length all ≤ n → (alternatives_timely s (alternative_trees (drop n all)) → W) → W
  alternatives_done all n le goes = goes (subst (λ l. alternatives_timely s (alternative_trees l)) (sym (drop_end all n le)) tt)

  pub handlers_on : (all : List Handler) (n : ℕ) (x : Handler) → n < length all → x ≡ get_or all n x → stmts_timely s (stmt_trees x.statements.items)
      → (handlers_timely s (handler_trees (drop n all)) → W) → handlers_timely s (handler_trees (drop (n + 1) all)) → W
  handlers_on all n x less is own goes rest = goes (subst (λ l. handlers_timely s (handler_trees l)) (sym (drop_at all n x less is)) (own, rest))

  pub handlers_done : (all : List Handler) (n : ℕ) → length all ≤ n → (handlers_timely s (handler_trees (drop n all)) → W) → W
  handlers_done all n le goes = goes (subst (λ l. handlers_timely s (handler_trees l)) (sym (drop_end all n le)) tt)

-- ---- after declarations

pub seen_there : (c : Site) (ds : List DeclarationTree) → (after_locals c ds).visible.scope ≡ locals_seen c.visible.scope ds
seen_there c [] = refl
seen_there c (LocalObject d ∷ ds) = seen_there (after_local c (LocalObject d)) ds
seen_there c (LocalTask d ∷ ds) = seen_there c ds
seen_there c (LocalProtected d ∷ ds) = seen_there c ds

pub seen_after : (v later : Visible) (taken more : ℕ) (old new : Sketched) (w : Ways) (exceptions : List (List ℕ)) (ds : List DeclarationTree)
    → AddsLocals v taken old ds later more new → later.scope ≡ locals_seen v.scope ds
seen_after v later taken more old new w exceptions ds p =
    ap (λ x. x.scope) (shown_after v later taken more old new w exceptions ds p) ∙ seen_there (site_at v taken w exceptions) ds

-- ---- a statement

pub timed : {T E : Type 0} (s : Scope) (x y : StmtTree) (P : Type 0) → x ≡ y → (P → stmt_timely s y) → (r : Result T E) → OnOk r P → OnOk r (stmt_timely s x)
timed s x y P is f r p = subst (λ z. OnOk r (stmt_timely s z)) (sym is) (on_ok_weaker r f p)
