-- What legality tells of the parts of loops that are not over ranges.
use Rattle.std.proofs.Common.{◌≡◌, ℕ, true, Option, []}
use Rattle.std.specs.Prelude.{is_some}
use Rattle.ada_tree.specs.ExpressionTree.{ExprTree}
use Rattle.ada_tree.specs.StatementTree as statements
use Rattle.ada_tree.specs.StatementTree.{Forever, StmtTrees, While}
use Rattle.types.specs.Scopes.{Scope}
use Rattle.expr_soundness.specs.expr_rules.proofs.TypedLaw.{back_empty, front_empty}
use Rattle.part_code.specs.stmt_rules.specs.SimpleRules.{condition_faults}
use Rattle.part_code.specs.stmt_rules.specs.StatementRules.{in_loop, stmts_faults}
use Rattle.stmt_code.specs.Emitting.{AreAcceptedStatements, IsAcceptedStatement}
use Rattle.stmt_code.specs.Leaves.{any_leave}
use Rattle.stmt_code.specs.declared.leaves.WayOut.TheVariants as way
use Rattle.part_code.specs.Statements.{Ways, with_exit}
use Rattle.stmt_code.proofs.Accepting.{ways_in_loop}

module _ (s : Scope) (w : Ways) (place : ℕ) (body : StmtTrees) (exit : Option ℕ) (there : any_leave body way.Exit ≡ true → is_some exit ≡ true) where
  pub forever_body : IsAcceptedStatement s w (statements.Loop place Forever body) → AreAcceptedStatements s (with_exit exit w) body
  forever_body h =
      record { around = in_loop h.around; ways = ways_in_loop w h.around (any_leave body) exit there h.ways; unbroken = h.unbroken; restricted = h.restricted }

  pub while_body : (e : ExprTree) → IsAcceptedStatement s w (statements.Loop place (While e) body) → AreAcceptedStatements s (with_exit exit w) body
  while_body e h = record {
    around = in_loop h.around;
    ways = ways_in_loop w h.around (any_leave body) exit there h.ways;
    unbroken = back_empty (condition_faults s e) (stmts_faults s (in_loop h.around) body) h.unbroken;
    restricted = h.restricted;
  }

pub while_condition : (s : Scope) (w : Ways) (place : ℕ) (body : StmtTrees) (e : ExprTree) → IsAcceptedStatement s w (statements.Loop place (While e) body)
    → condition_faults s e ≡ []
while_condition s w place body e h = front_empty (condition_faults s e) (stmts_faults s (in_loop h.around) body) h.unbroken
