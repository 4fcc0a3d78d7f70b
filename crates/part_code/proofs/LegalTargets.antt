-- Which actual parameters of modes `out` and `in out` break no rule (RM 6.4.1).
use Rattle.std.proofs.Common.{◌≡◌, ℕ, [], Bool, true, false, not, refl, sym, ap, ◌∙◌}
use Rattle.std.specs.Prelude.{nat_eq}
use Rattle.ada_tree.specs.declared.declaration.Mode.{Mode}
use Rattle.ada_tree.specs.declared.declaration.Mode.TheVariants as mode
use Rattle.ada_tree.specs.declared.expression.Identifier.{Identifier}
use Rattle.ada_tree.specs.ExpressionTree as tree
use Rattle.ada_tree.specs.ExpressionTree.{ExprTree, Named, SelectorTrees}
use Rattle.types.specs.declared.entity.FormalParameter.{FormalParameter}
use Rattle.types.specs.declared.entity.Role.{Role}
use Rattle.types.specs.declared.entity.Subtype.{Subtype}
use Rattle.types.specs.declared.standing.Standing.TheVariants as standing
use Rattle.types.specs.Layouts.{words_of}
use Rattle.types.specs.Scopes.{Scope, base_range_of}
use Rattle.types.specs.Standings.{standing_of}
use Rattle.expr_soundness.specs.expr_rules.specs.declared.names.Slot.{Slot as Expected}
use Rattle.expr_soundness.specs.expr_rules.specs.declared.names.Slot.TheVariants.{Expects, Takes}
use Rattle.expr_soundness.specs.expr_rules.specs.declared.own.Own.TheVariants.{Typed}
use Rattle.expr_soundness.specs.expr_rules.specs.declared.own.Wanted.TheVariants.{OfType}
use Rattle.expr_soundness.specs.expr_rules.specs.ExpressionRules.{argument_faults, faults_in}
use Rattle.expr_soundness.specs.expr_rules.specs.NameRules.{actual_rule, formal_slot, is_changeable, mismatch, variable_rule}
use Rattle.expr_soundness.specs.expr_rules.proofs.TypedLaw.{back_empty, front_empty, same_number, unbroken}
use Rattle.expr_soundness.specs.SoundScopes.{SoundScope}
use Rattle.expr_code.specs.Actuals.{IsPassedLegally}
use Rattle.expr_code.specs.Emitting as expressions
use Rattle.expr_code.specs.Providing.{HasWhatExpressionsNeed}
use Rattle.expr_code.specs.declared.visible.Visible.{Visible}
use Rattle.expr_code.proofs.Widths.{words_by_type}
use Rattle.part_code.specs.Layout.{IsVariable}
use Rattle.part_code.specs.Needs.{names_object as is_named}
use Rattle.part_code.proofs.CoveredObjects.{name_target, target_object, value_name}
use Rattle.part_code.proofs.ObjectNames.{changeable}

-- ---- types and words

-- subtypes of one type have as many words
pub same_words : (s : Scope) (t u : Subtype) → t.type_number ≡ u.type_number → words_of s t ≡ words_of s u
same_words s t u same = sym (words_by_type s t) ∙ ap (λ n. words_of s (base_range_of n)) same ∙ words_by_type s u

-- ---- what is legal

-- what is expected of an actual parameter that is copied back
abbrev slot_by : ℕ → Mode → Expected
slot_by n m = elim m [ mode.In ↦ Expects (OfType n) | mode.Out ↦ Takes n | mode.InOut ↦ Takes n ]

pub out_takes : (f : FormalParameter) → f.mode ≡ mode.Out → formal_slot f ≡ Takes f.subtype.type_number
out_takes f is = ap (slot_by f.subtype.type_number) is

pub both_takes : (f : FormalParameter) → f.mode ≡ mode.InOut → formal_slot f ≡ Takes f.subtype.type_number
both_takes f is = ap (slot_by f.subtype.type_number) is

-- an actual parameter that is copied back names a variable of the type of the formal
pub record IsOfType (n : ℕ) (r : Role) (t : Subtype) : Type 0 where
  pub variable : IsVariable r
  pub same : n ≡ t.type_number

pub taken_legal : (s : Scope) (n : ℕ) (first : Identifier) (selectors : SelectorTrees) (r : Role) (t : Subtype)
    → standing_of s first selectors ≡ standing.Part r t
    → argument_faults s (Takes n) (tree.Value (Named first selectors)) ≡ [] → IsOfType n r t
taken_legal s n first selectors r t stands legal =
    let kept = ap (variable_rule s first.place (OfType n)) (sym stands)
    ∙ back_empty (faults_in s (OfType n) (Named first selectors)) (variable_rule s first.place (OfType n) (standing_of s first selectors)) legal in
    record {
      variable = changeable r (unbroken _ first.place (not (is_changeable r)) (back_empty (mismatch s (OfType n) (Typed t.type_number) first.place) _ kept));
      same = same_number n t.type_number
          (holds (nat_eq n t.type_number) (unbroken _ first.place (not (nat_eq n t.type_number)) (front_empty (mismatch s (OfType n) (Typed t.type_number) first.place) _ kept)));
    }
  where
    holds : (b : Bool) → not b ≡ false → b ≡ true
    holds true h = refl
    holds false h = cc

-- No rule is broken in its name, nor in the parts after that.
pub name_legal : (s : Scope) (f : FormalParameter) (e : ExprTree) → formal_slot f ≡ Takes f.subtype.type_number → IsPassedLegally s f (tree.Value e)
    → expressions.IsLegalExpression s e
name_legal s f e takes legal = record {
  wanted = OfType f.subtype.type_number;
  unbroken = front_empty (faults_in s (OfType f.subtype.type_number) e) _ (ap (λ x. argument_faults s x (tree.Value e)) (sym takes) ∙ legal);
}

-- It is an object, or a part of one.
pub actual_object : (v : Visible) → SoundScope v.scope → HasWhatExpressionsNeed v → (f : FormalParameter) (e : ExprTree)
    → formal_slot f ≡ Takes f.subtype.type_number → IsPassedLegally v.scope f (tree.Value e) → is_named v.scope e ≡ true
actual_object v sound cover f e takes legal =
    by_name e (name_legal v.scope f e takes legal)
    (back_empty (faults_in v.scope (OfType n) e) (actual_rule v.scope (OfType n) e) (ap (λ x. argument_faults v.scope x (tree.Value e)) (sym takes) ∙ legal))
  where
    n : ℕ
    n = f.subtype.type_number

    by_name : (x : ExprTree) → expressions.IsLegalExpression v.scope x → actual_rule v.scope (OfType n) x ≡ [] → is_named v.scope x ≡ true
    by_name (Named first selectors) h k =
        target_object v sound cover (standing_of v.scope first selectors)
        (name_target v sound cover first selectors (OfType n) (value_name v.scope first selectors h) k)
    by_name x h k = absurd cc
