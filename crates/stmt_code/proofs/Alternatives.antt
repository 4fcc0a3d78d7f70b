-- What legality tells of the parts of a `case`.
use Rattle.std.proofs.Common.{◌≡◌, ℕ, ◌+◌, ◌++◌, []}
use Rattle.ada_tree.specs.ExpressionTree.{ExprTree}
use Rattle.ada_tree.specs.StatementTree as statements
use Rattle.ada_tree.specs.StatementTree.{AlternativeTrees}
use Rattle.types.specs.Scopes.{Scope}
use Rattle.expr_soundness.specs.expr_rules.specs.Typing.{own_of}
use Rattle.expr_soundness.specs.expr_rules.proofs.TypedLaw.{back_empty, front_empty}
use Rattle.part_code.specs.stmt_rules.specs.CaseRules.{choices_wanted, others_rule, selecting_faults}
use Rattle.part_code.specs.stmt_rules.specs.StatementRules.{alternatives_faults}
use Rattle.expr_code.specs.Emitting as expressions
use Rattle.stmt_code.specs.Alternatives.{AreAcceptedAlternatives}
use Rattle.stmt_code.specs.Emitting.{IsAcceptedStatement}
use Rattle.part_code.specs.Statements.{Ways}
use Rattle.part_code.proofs.Selecting.{selecting_inside}

module _ (s : Scope) (w : Ways) (place : ℕ) (e : ExprTree) (all : AlternativeTrees) (h : IsAcceptedStatement s w (statements.Case place e all)) where
  two_faults : (selecting_faults s e ++ alternatives_faults s h.around (choices_wanted s (own_of s e)) [] all) ≡ []
  two_faults = front_empty (selecting_faults s e ++ alternatives_faults s h.around (choices_wanted s (own_of s e)) [] all) (others_rule place all) h.unbroken

  pub case_selecting : selecting_faults s e ≡ []
  case_selecting = front_empty (selecting_faults s e) (alternatives_faults s h.around (choices_wanted s (own_of s e)) [] all) two_faults

  pub case_alternatives : AreAcceptedAlternatives s w e all
  case_alternatives = record {
    around = h.around;
    ways = h.ways;
    before = [];
    unbroken = back_empty (selecting_faults s e) (alternatives_faults s h.around (choices_wanted s (own_of s e)) [] all) two_faults;
    restricted = h.restricted;
  }

pub selecting_legal : (s : Scope) (e : ExprTree) → selecting_faults s e ≡ [] → expressions.IsLegalExpression s e
selecting_legal s e h = record { wanted = _; unbroken = selecting_inside s e h }
