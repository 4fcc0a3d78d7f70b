-- Code of conversions: their operand, checked.
use Rattle.std.proofs.Common.{◌≡◌, ◌++◌, [], true, false, not, Option, Some, refl, sym, ap, ◌∙◌}
use Rattle.base.specs.declared.faults.TheConstants.{NAME_NOT_VISIBLE, NO_MEANING}
use Rattle.ada_tree.specs.declared.expression.Identifier.{Identifier}
use Rattle.ada_tree.specs.ExpressionTree as tree
use Rattle.ada_tree.specs.ExpressionTree.{Arguments, ExprTree, MoreArguments, MoreSelectors, NoArguments, NoSelectors, SelectorTrees}
use Rattle.types.specs.declared.entity.Subtype.{Subtype}
use Rattle.types.specs.declared.standing.Standing.TheVariants as standing
use Rattle.types.specs.Entities.{Integers, TypeForm}
use Rattle.types.specs.Scopes.{form_at, is_visible, number_of, Scope}
use Rattle.types.specs.Standings.{conversion_stands, select, standing_of, stands_first}
use Rattle.expr_soundness.specs.expr_rules.specs.Faults.{rule}
use Rattle.expr_soundness.specs.expr_rules.specs.NameRules.{conversion_slot, end_rule, is_doubtful, part_rule, value_rule}
use Rattle.expr_soundness.specs.expr_rules.specs.ExpressionRules.{argument_faults, arguments_faults, selectors_faults}
use Rattle.expr_soundness.specs.expr_rules.specs.Typing.{is_integers}
use Rattle.expr_soundness.specs.expr_rules.specs.declared.own.Wanted.TheVariants.{AnyInteger}
use Rattle.expr_soundness.specs.expr_rules.proofs.TypedLaw.{back_empty, front_empty, unbroken}
use Rattle.expr_code.specs.Emitting.{IsFit, IsLegalExpression}

abbrev pub with_argument : ExprTree → SelectorTrees
with_argument e = MoreSelectors (Arguments (MoreArguments (tree.Value e) NoArguments)) NoSelectors

-- only integer types are converted to
converts : (t : Subtype) (o : Option TypeForm) → is_doubtful (conversion_stands t o true) ≡ false → o ≡ Some Integers
converts t (Some Integers) h = refl
converts t o h = absurd cc

module _ (s : Scope) (first : Identifier) (e : ExprTree) (t : Subtype) (stands : stands_first s (number_of s first.name) ≡ standing.Named t) (legal : IsLegalExpression s (tree.Named first (with_argument e))) where
  parts : selectors_faults s first.place (standing.Named t) (with_argument e) ≡ []
  parts =
      let hidden = rule NAME_NOT_VISIBLE first.place (not (is_visible s first.name)) in
      let all = selectors_faults s first.place (stands_first s (number_of s first.name)) (with_argument e) in
      let whole = value_rule first.place (standing_of s first (with_argument e)) in
      ap (λ w. selectors_faults s first.place w (with_argument e)) (sym stands) ∙ back_empty hidden all (front_empty (hidden ++ all) whole legal.unbroken)

  one : part_rule s first.place (standing.Named t) (Arguments (MoreArguments (tree.Value e) NoArguments)) ++ arguments_faults s (standing.Named t) 0 (MoreArguments (tree.Value e) NoArguments) ≡ []
  one = front_empty _ (end_rule s first.place (select s (standing.Named t) (Arguments (MoreArguments (tree.Value e) NoArguments)))) parts

  pub integers : form_at s t.type_number ≡ Some Integers
  integers = converts t (form_at s t.type_number) (unbroken NO_MEANING first.place _ (front_empty _ (arguments_faults s (standing.Named t) 0 (MoreArguments (tree.Value e) NoArguments)) one))

  pub operand_fit : IsFit s t e
  operand_fit =
      let all = back_empty (part_rule s first.place (standing.Named t) (Arguments (MoreArguments (tree.Value e) NoArguments))) (arguments_faults s (standing.Named t) 0 (MoreArguments (tree.Value e) NoArguments)) one in
      let its = front_empty (argument_faults s (conversion_slot (form_at s t.type_number)) (tree.Value e)) [] all in
      record {
        wanted = AnyInteger;
        fits = ap is_integers integers;
        unbroken = ap (λ o. argument_faults s (conversion_slot o) (tree.Value e)) (sym integers) ∙ its;
      }
