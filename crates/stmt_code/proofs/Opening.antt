-- What legality tells of the parts of an `if`.
use Rattle.std.proofs.Common.{◌≡◌, ℕ, ◌+◌, ◌++◌, [], ◌||◌, sym, ap, ◌∙◌, subst}
use Rattle.ada_tree.specs.ExpressionTree.{ExprTree}
use Rattle.ada_tree.specs.StatementTree as statements
use Rattle.ada_tree.specs.StatementTree.{ElsifTrees, StmtTree, StmtTrees}
use Rattle.types.specs.Scopes.{Scope}
use Rattle.expr_soundness.specs.expr_rules.specs.Faults.{Faults}
use Rattle.expr_soundness.specs.expr_rules.proofs.TypedLaw.{back_empty, front_empty}
use Rattle.part_code.specs.step_soundness.specs.body_restrictions.specs.BodyRules as restrictions
use Rattle.part_code.specs.stmt_rules.specs.SimpleRules.{condition_faults}
use Rattle.part_code.specs.stmt_rules.specs.StatementRules.{elsifs_faults, stmt_faults, stmts_faults}
use Rattle.stmt_code.specs.Emitting.{AreAcceptedElsifs, AreAcceptedStatements, HasWays, IsAcceptedStatement}
use Rattle.stmt_code.specs.Leaves.{any_leave, elsifs_leave, leaves}
use Rattle.stmt_code.proofs.Accepting.{ways_left, ways_right}
use Rattle.part_code.specs.Statements.{Ways}

module _ (s : Scope) (w : Ways) (x : statements.StmtTree) (place : ℕ) (e : ExprTree) (body : StmtTrees) (elsifs : ElsifTrees) (others : StmtTrees)
    (is : x ≡ statements.If place e body elsifs others) (h : IsAcceptedStatement s w x) where
  whole : stmt_faults s h.around (statements.If place e body elsifs others) ≡ []
  whole = ap (stmt_faults s h.around) (sym is) ∙ h.unbroken

  three_faults : ((condition_faults s e ++ stmts_faults s h.around body) ++ elsifs_faults s h.around elsifs) ≡ []
  three_faults = front_empty ((condition_faults s e ++ stmts_faults s h.around body) ++ elsifs_faults s h.around elsifs) (stmts_faults s h.around others) whole

  two_faults : (condition_faults s e ++ stmts_faults s h.around body) ≡ []
  two_faults = front_empty (condition_faults s e ++ stmts_faults s h.around body) (elsifs_faults s h.around elsifs) three_faults

  abbrev forbidden : Faults
  forbidden = restrictions.stmts_faults body ++ restrictions.elsifs_faults elsifs

  all_allowed : forbidden ++ restrictions.stmts_faults others ≡ []
  all_allowed = ap restrictions.stmt_faults (sym is) ∙ h.restricted

  two_allowed : forbidden ≡ []
  two_allowed = front_empty forbidden (restrictions.stmts_faults others) all_allowed

  pub if_condition : condition_faults s e ≡ []
  if_condition = front_empty (condition_faults s e) (stmts_faults s h.around body) two_faults

  whole_ways : HasWays w h.around (λ q. any_leave body q || (elsifs_leave elsifs q || any_leave others q))
  whole_ways = subst (λ b. HasWays w h.around b) (ap leaves is) h.ways

  behind_ways : HasWays w h.around (λ q. elsifs_leave elsifs q || any_leave others q)
  behind_ways = ways_right w h.around (any_leave body) (λ q. elsifs_leave elsifs q || any_leave others q) whole_ways

  pub if_body : AreAcceptedStatements s w body
  if_body = record {
    around = h.around;
    ways = ways_left w h.around (any_leave body) (λ q. elsifs_leave elsifs q || any_leave others q) whole_ways;
    unbroken = back_empty (condition_faults s e) (stmts_faults s h.around body) two_faults;
    restricted = front_empty (restrictions.stmts_faults body) (restrictions.elsifs_faults elsifs) two_allowed;
  }

  pub if_elsifs : AreAcceptedElsifs s w elsifs
  if_elsifs = record {
    around = h.around;
    ways = ways_left w h.around (elsifs_leave elsifs) (any_leave others) behind_ways;
    unbroken = back_empty (condition_faults s e ++ stmts_faults s h.around body) (elsifs_faults s h.around elsifs) three_faults;
    restricted = back_empty (restrictions.stmts_faults body) (restrictions.elsifs_faults elsifs) two_allowed;
  }

  pub if_others : AreAcceptedStatements s w others
  if_others = record {
    around = h.around;
    ways = ways_right w h.around (elsifs_leave elsifs) (any_leave others) behind_ways;
    unbroken = back_empty ((condition_faults s e ++ stmts_faults s h.around body) ++ elsifs_faults s h.around elsifs) (stmts_faults s h.around others) whole;
    restricted = back_empty forbidden (restrictions.stmts_faults others) all_allowed;
  }
