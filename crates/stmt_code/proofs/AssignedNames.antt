-- The target of a legal assignment is an object, or a part of one, of a known subtype, and no attribute stands among its parts.
use Rattle.std.proofs.Common.{◌≡◌, ◌++◌, ◌∙◌, [], true, ap}
use Rattle.std.proofs.lemmas.List.{append-nil}
use Rattle.ada_tree.specs.ExpressionTree.{ExprTree, Named, NameTree}
use Rattle.ada_tree.specs.StatementTree.{Assignment}
use Rattle.types.specs.declared.entity.Role.{Role}
use Rattle.types.specs.declared.entity.Subtype.{Subtype}
use Rattle.types.specs.declared.standing.Standing.{Standing}
use Rattle.types.specs.declared.standing.Standing.TheVariants as standing
use Rattle.types.specs.Scopes.{Scope, number_of}
use Rattle.types.specs.Standings.{standing_of, stands_first}
use Rattle.expr_soundness.specs.expr_rules.specs.declared.own.Wanted.TheVariants.{Anything}
use Rattle.expr_soundness.specs.expr_rules.specs.ExpressionRules.{faults_of, name_faults, target_faults}
use Rattle.expr_soundness.specs.expr_rules.specs.NameRules.{value_rule, variable_rule}
use Rattle.expr_soundness.specs.expr_rules.proofs.TypedLaw.{back_empty, front_empty}
use Rattle.expr_soundness.specs.SoundScopes.{IsKnown, SoundScope}
use Rattle.expr_code.specs.Emitting.{IsLegalExpression}
use Rattle.expr_code.specs.Going.{IsLegalPath}
use Rattle.expr_code.specs.Providing.{HasWhatExpressionsNeed}
use Rattle.expr_code.specs.declared.visible.Visible.{Visible}
use Rattle.expr_code.proofs.Going.{whole_path}
use Rattle.part_code.specs.Needs.{is_object}
use Rattle.part_code.specs.stmt_rules.specs.SimpleRules.{assigned_wanted}
use Rattle.part_code.proofs.CoveredObjects.{IsObjectAt, IsTarget, name_target, named_known, object_first, object_valueless, target_object}
use Rattle.stmt_code.specs.Emitting.{IsLegalStatement}

module _ (v : Visible) (sound : SoundScope v.scope) (covered : HasWhatExpressionsNeed v) (name : NameTree) (e : ExprTree)
    (h : IsLegalStatement v.scope (Assignment name e)) where
  abbrev s : Scope
  s = v.scope

  abbrev ends : Standing
  ends = standing_of s name.first name.selectors

  in_target : target_faults s name.first name.selectors ≡ []
  in_target = front_empty (target_faults s name.first name.selectors) (faults_of s (assigned_wanted s name) e) h.unbroken

  pub in_name : name_faults s name.first name.selectors ≡ []
  in_name = front_empty (name_faults s name.first name.selectors) (variable_rule s name.first.place Anything ends) in_target

  target : IsTarget v sound covered ends
  target =
      name_target v sound covered name.first name.selectors Anything in_name
      (back_empty (name_faults s name.first name.selectors) (variable_rule s name.first.place Anything ends) in_target)

  pub assigned_object : is_object ends ≡ true
  assigned_object = target_object v sound covered ends target

  pub assigned_first : IsObjectAt (stands_first s (number_of s name.first.name))
  assigned_first = object_first v sound covered name.first name.selectors in_name assigned_object

  pub assigned_known : (r : Role) (t : Subtype) → ends ≡ standing.Part r t → IsKnown s t
  assigned_known r t is = named_known v sound covered name.first name.selectors in_name r t is

  -- it has a value too
  target_legal : IsLegalExpression s (Named name.first name.selectors)
  target_legal = record {
    wanted = Anything;
    unbroken = ap (λ w. name_faults s name.first name.selectors ++ value_rule name.first.place w) target.is
        ∙ append-nil (name_faults s name.first name.selectors) ∙ in_name;
  }

  pub assigned_path : (r : Role) (t : Subtype) → stands_first s (number_of s name.first.name) ≡ standing.Part r t → IsLegalPath s t name.selectors
  assigned_path r t stands = whole_path s sound name.first name.selectors r t target_legal stands (object_valueless ends assigned_object)
