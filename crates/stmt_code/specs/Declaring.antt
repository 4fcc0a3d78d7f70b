-- What declarations of objects add to what is put together, and what is visible and taken after them (RM 3.3.1).
use Rattle.std.specs.Prelude.{◌≡◌, ℕ, List}
use Rattle.ada_tree.specs.StatementTree.{DeclarationTree}
use Rattle.expr_code.specs.declared.visible.Visible.{Visible}
use Rattle.part_code.specs.Statements.{Ways}
use Rattle.stmt_code.specs.Drafting.{Sketched, adds}
use Rattle.stmt_code.specs.StatementCode.{Site, after_locals, locals_code}

abbrev pub site_at : Visible → (taken : ℕ) → Ways → (exceptions : List (List ℕ)) → Site
site_at v taken w exceptions = record { visible = v; ways = w; taken = taken; exceptions = exceptions }

-- Their code was added, and what follows them is at the site after them, whatever its ways out and the program's exceptions.
pub record AddsLocals (v : Visible) (taken : ℕ) (old : Sketched) (ds : List DeclarationTree) (later : Visible) (more : ℕ) (new : Sketched) : Type 0 where
  pub made : (w : Ways) (exceptions : List (List ℕ)) → new ≡ adds old (locals_code (site_at v taken w exceptions) ds)
  pub next : (w : Ways) (exceptions : List (List ℕ)) → after_locals (site_at v taken w exceptions) ds ≡ site_at later more w exceptions
