-- Code of assignments that was added: the value of a whole object of one word, and what stores it.
use Rattle.std.proofs.Common.{◌≡◌, not, refl, sym, ap, ◌∙◌}
use Rattle.ada_tree.specs.ExpressionTree.{ExprTree, NameTree, NoSelectors}
use Rattle.ada_tree.specs.StatementTree as statements
use Rattle.types.specs.declared.entity.Role.{Role}
use Rattle.types.specs.declared.entity.Subtype.{Subtype}
use Rattle.types.specs.declared.standing.Standing.TheVariants as standing
use Rattle.types.specs.Scopes.{Scope, number_of}
use Rattle.types.specs.Standings.{select_all, standing_of, stands_first}
use Rattle.expr_soundness.specs.expr_rules.specs.declared.own.Own.TheVariants.{Typed}
use Rattle.expr_soundness.specs.expr_rules.specs.declared.own.Wanted.TheVariants.{Anything, OfType}
use Rattle.expr_soundness.specs.expr_rules.specs.ExpressionRules.{faults_of, name_faults, target_faults}
use Rattle.expr_soundness.specs.expr_rules.specs.NameRules.{is_changeable, mismatch, variable_rule}
use Rattle.expr_soundness.specs.expr_rules.specs.Typing.{own_of_standing, typed_wanted}
use Rattle.expr_soundness.specs.expr_rules.proofs.TypedLaw.{back_empty, front_empty, unbroken}
use Rattle.part_code.specs.stmt_rules.specs.SimpleRules.{assigned_wanted}
use Rattle.expr_code.specs.Emitting.{IsFit}
use Rattle.stmt_code.specs.Emitting.{IsLegalStatement}
use Rattle.part_code.specs.Layout.{IsVariable}
use Rattle.part_code.proofs.ObjectNames.{changeable}

-- ---- what is legal

-- what a name without parts stands for
pub whole_stands : (s : Scope) (name : NameTree) (r : Role) (t : Subtype) → name.selectors ≡ NoSelectors
    → stands_first s (number_of s name.first.name) ≡ standing.Part r t → standing_of s name.first name.selectors ≡ standing.Part r t
whole_stands s name r t whole_name stands = ap (standing_of s name.first) whole_name ∙ ap (λ w. select_all s w NoSelectors) stands

module _ (s : Scope) (name : NameTree) (e : ExprTree) (r : Role) (t : Subtype) (standing_is : standing_of s name.first name.selectors ≡ standing.Part r t)
    (legal : IsLegalStatement s (statements.Assignment name e)) where
  pub assigned_fit : IsFit s t e
  assigned_fit = record {
    wanted = OfType t.type_number;
    fits = refl;
    unbroken = ap (λ w. faults_of s (typed_wanted (own_of_standing w)) e) (sym standing_is)
        ∙ back_empty (target_faults s name.first name.selectors) (faults_of s (assigned_wanted s name) e) legal.unbroken;
  }

  pub assigned_variable : IsVariable r
  assigned_variable =
      let target = front_empty (target_faults s name.first name.selectors) (faults_of s (assigned_wanted s name) e) legal.unbroken in
      let whole = back_empty (name_faults s name.first name.selectors) (variable_rule s name.first.place Anything (standing_of s name.first name.selectors)) target in
      let this = ap (variable_rule s name.first.place Anything) (sym standing_is) ∙ whole in
      changeable r (unbroken _ name.first.place (not (is_changeable r)) (back_empty (mismatch s Anything (Typed t.type_number) name.first.place) _ this))
