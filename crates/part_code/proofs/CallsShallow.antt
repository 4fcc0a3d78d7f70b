-- Labels are no legal actual parameters.
use Rattle.std.proofs.Common.{◌≡◌, ℕ, List, []}
use Rattle.ada_tree.specs.declared.declaration.Mode.{Mode}
use Rattle.ada_tree.specs.declared.declaration.Mode.TheVariants as mode
use Rattle.ada_tree.specs.ExpressionTree.{Text}
use Rattle.types.specs.declared.entity.FormalParameter.{FormalParameter}
use Rattle.types.specs.Scopes.{Scope}
use Rattle.expr_soundness.specs.expr_rules.specs.declared.names.Slot.TheVariants.{Expects, Takes}
use Rattle.expr_soundness.specs.expr_rules.specs.declared.own.Wanted.TheVariants.{OfType}
use Rattle.expr_soundness.specs.expr_rules.specs.ExpressionRules.{argument_faults}
use Rattle.expr_soundness.specs.expr_rules.specs.NameRules.{formal_slot, label_rule}

-- a label is no actual parameter
pub label_illegal : (s : Scope) (f : FormalParameter) (label : List ℕ) (place : ℕ) → argument_faults s (formal_slot f) (Text label place) ≡ [] → ⊥
label_illegal s f label place h = by_kind f.mode h
  where
    by_kind : (m : Mode) → label_rule
        (elim m [
          | mode.In ↦ Expects (OfType f.subtype.type_number)
          | mode.Out ↦ Takes f.subtype.type_number
          | mode.InOut ↦ Takes f.subtype.type_number
        ]) place ≡ [] → ⊥
    by_kind mode.In k = cc
    by_kind mode.Out k = cc
    by_kind mode.InOut k = cc
