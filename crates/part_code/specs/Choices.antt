-- Which choices of a `case` break no rule (RM 5.4).
use Rattle.std.specs.Prelude.{◌≡◌, Bool, List, []}
use Rattle.ada_tree.specs.ExpressionTree.{ExprTree}
use Rattle.ada_tree.specs.StatementTree.{ChoicesTree}
use Rattle.types.specs.declared.entity.Value.{Value as Scalar}
use Rattle.types.specs.Scopes.{Scope}
use Rattle.expr_soundness.specs.expr_rules.specs.Typing.{own_of}
use Rattle.step_soundness.specs.stmt_rules.specs.CaseRules.{choices_faults, choices_wanted}

-- no rule is broken in choices, and in alternatives, of values of this expression, behind others that choose some values
pub record AreLegalChoices (s : Scope) (e : ExprTree) (choices : ChoicesTree) : Type 0 where
  pub before : List Scalar
  pub is_last : Bool
  pub unbroken : choices_faults s (choices_wanted s (own_of s e)) before is_last choices ≡ []
