-- Legal choices of case statements are static: the evaluation of each gives a value (RM 5.4).
use Rattle.std.proofs.Common.{◌≡◌, [], List, None}
use Rattle.base.specs.declared.faults.TheConstants.{WRONG_CHOICES}
use Rattle.ada_tree.specs.ExpressionTree.{ExprTree}
use Rattle.types.specs.declared.entity.Value.{Value as Scalar}
use Rattle.types.specs.Scopes.{Scope}
use Rattle.types.specs.Statics.{fault_of, start_of, static_fault}
use Rattle.expr_soundness.specs.expr_rules.specs.declared.own.Wanted.{Wanted}
use Rattle.expr_soundness.specs.expr_rules.specs.Faults.{rule}
use Rattle.expr_soundness.specs.expr_rules.specs.StaticRules.{static_faults}
use Rattle.expr_soundness.specs.expr_rules.proofs.TypedLaw.{front_empty}
use Rattle.expr_soundness.specs.SoundScopes.{SoundScope}
use Rattle.program_soundness.proofs.Statics.{must_be_static}
use Rattle.part_code.specs.stmt_rules.specs.CaseRules.{choice_faults, choice_value, is_chosen}

module _ (s : Scope) (sound : SoundScope s) where
  -- a choice that breaks no rule is static
  pub choice_static : (w : Wanted) (c : ExprTree) (before : List Scalar) → choice_faults s w before c ≡ [] → static_fault s c ≡ None
  choice_static w c before h =
      let x = must_be_static s sound w None c
      (front_empty (static_faults s w None c) (rule WRONG_CHOICES (start_of c) (is_chosen before (choice_value s w c))) h) in
      λ j. fault_of (x.static j) (x.gives j)
