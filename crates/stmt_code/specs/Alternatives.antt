-- What is asked of the alternatives of a `case` (RM 5.4).
use Rattle.std.specs.Prelude.{◌≡◌, List, []}
use Rattle.ada_tree.specs.ExpressionTree.{ExprTree}
use Rattle.ada_tree.specs.StatementTree.{AlternativeTrees}
use Rattle.types.specs.declared.entity.Value.{Value as Scalar}
use Rattle.types.specs.Scopes.{Scope}
use Rattle.expr_soundness.specs.expr_rules.specs.Typing.{own_of}
use Rattle.part_code.specs.step_soundness.specs.body_restrictions.specs.BodyRules as restrictions
use Rattle.part_code.specs.stmt_rules.specs.declared.around.Around.{Around}
use Rattle.part_code.specs.stmt_rules.specs.CaseRules.{choices_wanted}
use Rattle.part_code.specs.stmt_rules.specs.StatementRules.{alternatives_faults}
use Rattle.stmt_code.specs.Emitting.{HasWays}
use Rattle.part_code.specs.Statements.{Ways}
use Rattle.stmt_code.specs.Leaves.{alternatives_leave}

-- ---- what is asked

-- no rule and no restriction is broken in alternatives for values of this expression, behind others that choose some values, with these ways out
pub record AreAcceptedAlternatives (s : Scope) (w : Ways) (e : ExprTree) (all : AlternativeTrees) : Type 0 where
  pub around : Around
  pub ways : HasWays w around (alternatives_leave all)
  pub before : List Scalar
  pub unbroken : alternatives_faults s around (choices_wanted s (own_of s e)) before all ≡ []
  pub restricted : restrictions.alternatives_faults all ≡ []
