-- What is named behind a protected object stands for its operation or entry, which is called with what stands behind that (RM 9.4, 9.5).
use Rattle.std.proofs.Common.{◌≡◌, ℕ, [], List, None, Some, sym, ap, ◌∙◌}
use Rattle.std.specs.Prelude.{bytes_eq, not, position, slice_get}
use Rattle.base.specs.declared.faults.TheConstants.{NAME_NOT_VISIBLE}
use Rattle.ada_tree.specs.declared.expression.Identifier.{Identifier}
use Rattle.ada_tree.specs.ExpressionTree.{Component, MoreSelectors, SelectorTrees}
use Rattle.types.specs.declared.standing.Callee.{Callee}
use Rattle.types.specs.declared.standing.Callee.TheVariants as callee
use Rattle.types.specs.declared.standing.Standing.TheVariants as standing
use Rattle.types.specs.Entities.{Operation, Profile, Protected, ProtectedObject}
use Rattle.types.specs.Scopes.{Scope, entity_at, is_visible, number_of, protected_of}
use Rattle.types.specs.Standings.{called_operation, callee_profile, operation_profile, operation_stands, profile_among, select, stands_first, stands_for}
use Rattle.expr_soundness.specs.expr_rules.specs.ExpressionRules.{name_faults, selector_faults, selectors_faults}
use Rattle.expr_soundness.specs.expr_rules.specs.Faults.{rule}
use Rattle.expr_soundness.specs.expr_rules.proofs.TypedLaw.{back_empty}
use Rattle.expr_code.specs.Seeing.{external_profile, profile_behind}
use Rattle.expr_code.proofs.Externals.{IsBehind, is_behind}

-- ---- an operation by its place in the object's declaration

module _ (o : ProtectedObject) (operation : List ℕ) (k : ℕ) (x : Operation) (placed : position (λ y. bytes_eq y.name operation) o.operations ≡ Some k)
    (found : slice_get o.operations k ≡ Some x) where
  pub operation_told : profile_behind (Some o) operation ≡ Some x.profile
  operation_told = ap (λ m. elim m [ None ↦ None | Some j ↦ profile_among (Some o) j ]) placed ∙ ap operation_profile found

  module _ (s : Scope) (n : ℕ) (there : entity_at s n ≡ Some (Protected o)) where
    pub operation_profiled : callee_profile s (callee.Operation n k) ≡ Some x.profile
    operation_profiled = ap (λ e. profile_among (protected_of e) k) there ∙ ap operation_profile found

    pub operation_selected : (place : ℕ)
        → select s (standing.Protected n) (Component (record { name = operation; place = place })) ≡ standing.Callee (callee.Operation n k)
    operation_selected place = ap (λ e. operation_stands n (protected_of e) operation) there ∙ ap (called_operation n) placed

-- ---- by its profile

module _ (s : Scope) (first operation : Identifier) (p : Profile) (told : external_profile s first.name operation.name ≡ Some p) where
  abbrev at : IsBehind s first.name operation.name p
  at = is_behind s first.name operation.name p told

  abbrev pub named_behind : Callee
  named_behind = callee.Operation at.number at.place

  pub behind_profile : callee_profile s named_behind ≡ Some p
  behind_profile = operation_profiled at.protected operation.name at.place at.entry at.placed at.found s at.number at.stands ∙ ap Some at.profiled

  pub behind_begins : stands_first s (number_of s first.name) ≡ standing.Protected at.number
  behind_begins = ap (stands_first s) at.numbered ∙ ap (stands_for at.number) at.stands

  pub behind_stands : select s (standing.Protected at.number) (Component operation) ≡ standing.Callee named_behind
  behind_stands = operation_selected at.protected operation.name at.place at.entry at.placed at.found s at.number at.stands operation.place

  -- the rules of what stands behind it
  pub behind_legal : (rest : SelectorTrees) → name_faults s first (MoreSelectors (Component operation) rest) ≡ []
      → selectors_faults s first.place (standing.Callee named_behind) rest ≡ []
  behind_legal rest h =
      let w = standing.Protected at.number in
      let x = MoreSelectors (Component operation) rest in
      ap (λ u. selectors_faults s first.place u rest) (sym behind_stands)
      ∙ back_empty (selector_faults s first.place w (Component operation)) (selectors_faults s first.place (select s w (Component operation)) rest)
      (ap (λ u. selectors_faults s first.place u x) (sym behind_begins)
      ∙ back_empty (rule NAME_NOT_VISIBLE first.place (not (is_visible s first.name)))
      (selectors_faults s first.place (stands_first s (number_of s first.name)) x) h)
