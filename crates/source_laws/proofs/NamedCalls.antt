-- Calls, by the name of a subprogram or behind that of a protected object: what is expected of each actual parameter (RM 6.4).
use Rattle.std.proofs.Common.{◌≡◌, ◌+◌, ℕ, suc, [], ◌∷◌, List, Some, ap, ◌∙◌, subst, arith}
use Rattle.std.specs.Prelude.{slice_get}
use Rattle.ada_tree.specs.declared.expression.Identifier.{Identifier}
use Rattle.ada_tree.specs.ExpressionTree.{Arguments, ArgumentTree, ArgumentTrees, MoreSelectors, SelectorTrees}
use Rattle.types.specs.declared.entity.FormalParameter.{FormalParameter}
use Rattle.types.specs.declared.standing.Callee.{Callee}
use Rattle.types.specs.declared.standing.Callee.TheVariants as callee
use Rattle.types.specs.declared.standing.Standing.{Standing}
use Rattle.types.specs.declared.standing.Standing.TheVariants as standing
use Rattle.types.specs.Entities.{Profile}
use Rattle.types.specs.Scopes.{Scope, number_of, profile_of}
use Rattle.types.specs.Standings.{callee_profile, select, stands_first, stands_for}
use Rattle.expr_soundness.specs.expr_rules.specs.ExpressionRules.{argument_faults, arguments_faults, selector_faults, selectors_faults}
use Rattle.expr_soundness.specs.expr_rules.specs.NameRules.{formal_slot_or, part_rule, profile_formals, slot_at}
use Rattle.expr_soundness.specs.expr_rules.proofs.TypedLaw.{back_empty, front_empty}
use Rattle.expr_code.specs.Seeing.{NamesProfile, profile_named}
use Rattle.source_laws.proofs.NeedsScopes.{names_profile}
use Rattle.expr_code.proofs.PeakSlots.{slot_by}

module _ (s : Scope) where
  -- from this formal on
  abbrev pub SlotsFrom : Standing → ℕ → List FormalParameter → Type 0
  SlotsFrom w k fs = (m j : ℕ) → m ≡ k + j → slot_at s w m ≡ formal_slot_or (slice_get fs j)

  pub first_slot : (w : Standing) (k : ℕ) (f : FormalParameter) (fs : List FormalParameter) (a : ArgumentTree) → SlotsFrom w k (f ∷ fs)
      → argument_faults s (slot_at s w k) a ≡ [] → argument_faults s (slot_by f.mode f.subtype.type_number) a ≡ []
  first_slot w k f fs a same h = subst (λ x. argument_faults s x a ≡ []) (same k 0 (omega arith)) h

  pub later_slots : (w : Standing) (k : ℕ) (f : FormalParameter) (fs : List FormalParameter) → SlotsFrom w k (f ∷ fs) → SlotsFrom w (suc k) fs
  later_slots w k f fs same m j is = same m (suc j) (omega (arith, is))

  -- ---- whatever is called

  module _ (f : Callee) (p : Profile) (is : callee_profile s f ≡ Some p) where
    pub profile_slots : SlotsFrom (standing.Callee f) 0 p.formals
    profile_slots m j at =
        ap (λ o. formal_slot_or (slice_get (profile_formals o) m)) is ∙ ap (λ n. formal_slot_or (slice_get p.formals n))
        (let same : m ≡ j = omega (arith, at) in same)

  -- in the parentheses behind it
  pub called_arguments : (place : ℕ) (f : Callee) (all : ArgumentTrees) (rest : SelectorTrees)
      → selectors_faults s place (standing.Callee f) (MoreSelectors (Arguments all) rest) ≡ [] → arguments_faults s (standing.Callee f) 0 all ≡ []
  called_arguments place f all rest h =
      let w = standing.Callee f in
      back_empty (part_rule s place w (Arguments all)) (arguments_faults s w 0 all)
      (front_empty (selector_faults s place w (Arguments all)) (selectors_faults s place (select s w (Arguments all)) rest) h)

  -- ---- a subprogram by its name

  module _ (first : Identifier) (p : Profile) (there : profile_named s first.name ≡ Some p) where
    pub names : NamesProfile s first.name p
    names = names_profile s first.name p there

    abbrev pub called : Standing
    called = standing.Callee (callee.Direct names.number)

    pub profile_is : callee_profile s (callee.Direct names.number) ≡ Some p
    profile_is = ap profile_of names.stands

    pub begins_there : stands_first s (number_of s first.name) ≡ called
    begins_there = ap (stands_first s) names.numbered ∙ ap (stands_for names.number) names.stands
