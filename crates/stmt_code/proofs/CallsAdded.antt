-- What legality tells of calls of procedures, and of operations through the names of their objects (RM 6.4, 9.5.1).
use Rattle.std.proofs.Common.{◌≡◌, ℕ, ◌+◌, [], ◌++◌, map, Bool, true, false, not, Some, None, Option, sym, ap, ◌∙◌, subst}
use Rattle.base.specs.declared.faults.TheConstants.{NAME_NOT_VISIBLE}
use Rattle.ada_tree.specs.declared.expression.Identifier.{Identifier}
use Rattle.ada_tree.specs.ExpressionTree.{ArgumentTrees, Arguments, Attribute, Component, MoreSelectors, NameTree, NoArguments, NoSelectors, SelectorTrees}
use Rattle.ada_tree.specs.StatementTree as statements
use Rattle.types.specs.declared.standing.Callee.TheVariants as callee
use Rattle.types.specs.declared.standing.Standing.{Standing}
use Rattle.types.specs.declared.standing.Standing.TheVariants as standing
use Rattle.types.specs.Entities.{Profile}
use Rattle.types.specs.Scopes.{is_visible, number_of, profile_of}
use Rattle.types.specs.Standings.{select_all, standing_of, stands_first, stands_for}
use Rattle.expr_soundness.specs.expr_rules.specs.ExpressionRules.{selectors_faults}
use Rattle.expr_soundness.specs.expr_rules.specs.Faults.{rule, Faults}
use Rattle.expr_soundness.specs.expr_rules.specs.NameRules.{call_rule}
use Rattle.expr_soundness.specs.expr_rules.proofs.TypedLaw.{back_empty, front_empty}
use Rattle.expr_soundness.specs.meaning.specs.Calls.{Callee, callee_by, callee_with, procedure_here, callee_through}
use Rattle.expr_soundness.specs.meaning.specs.Programs.{Program, Procedure, object_numbered}
use Rattle.part_code.specs.step_soundness.specs.Fitting as fitting
use Rattle.part_code.specs.step_soundness.specs.Fitting.{formal_of}
use Rattle.part_code.specs.step_soundness.proofs.Naming.{IsCall, called_with}
use Rattle.expr_code.specs.Seeing.{NamesProfile}
use Rattle.expr_code.specs.declared.visible.Visible.{Visible}
use Rattle.stmt_code.specs.Emitting.{IsLegalStatement}
use Rattle.part_code.specs.Passing.{actuals_behind, ExternalName, operation_behind}
use Rattle.part_code.proofs.WrittenActuals.{same_some as same_trees}

-- ---- the form

pub callee_is : (program : Program) (within : Option ℕ) (first : Identifier) (path : SelectorTrees) (x : ArgumentTrees) → actuals_behind path ≡ Some x
    → callee_by program within first path ≡ callee_with (procedure_here program within first.name) None x
callee_is program within first NoSelectors x h = ap (callee_with (procedure_here program within first.name) None) (same_trees NoArguments x h)
callee_is program within first (MoreSelectors (Arguments a) NoSelectors) x h = ap (callee_with (procedure_here program within first.name) None) (same_trees a x h)
callee_is program within first (MoreSelectors (Arguments a) (MoreSelectors y rest)) x h = cc
callee_is program within first (MoreSelectors (Component name) rest) x h = cc
callee_is program within first (MoreSelectors (Attribute name) rest) x h = cc

abbrev callee_through_if : Program → Option ℕ → Option ExternalName → Option Callee
callee_through_if program o (Some x) = callee_through program o x.operation.name x.arguments
callee_through_if program o None = None

pub external_is : (program : Program) (within : Option ℕ) (first : Identifier) (path : SelectorTrees) (x : ExternalName) → operation_behind path ≡ Some x
    → callee_by program within first path ≡ callee_through program (object_numbered program.scope first) x.operation.name x.arguments
external_is program within first (MoreSelectors (Component y) NoSelectors) x h =
    ap (λ o. callee_through_if program (object_numbered program.scope first) o) h
external_is program within first (MoreSelectors (Component y) (MoreSelectors (Arguments a) NoSelectors)) x h =
    ap (λ o. callee_through_if program (object_numbered program.scope first) o) h
external_is program within first NoSelectors x h = cc
external_is program within first (MoreSelectors (Arguments a) rest) x h = cc
external_is program within first (MoreSelectors (Attribute y) rest) x h = cc
external_is program within first (MoreSelectors (Component y) (MoreSelectors (Arguments a) (MoreSelectors z rest))) x h = cc
external_is program within first (MoreSelectors (Component y) (MoreSelectors (Component z) rest)) x h = cc
external_is program within first (MoreSelectors (Component y) (MoreSelectors (Attribute z) rest)) x h = cc

module _ (v : Visible) (name : NameTree) (legal : IsLegalStatement v.scope (statements.Call name)) (first : Standing)
    (stands : stands_first v.scope (number_of v.scope name.first.name) ≡ first) where
  abbrev faults_first : Faults
  faults_first = rule NAME_NOT_VISIBLE name.first.place (not (is_visible v.scope name.first.name))

  abbrev faults_behind : Faults
  faults_behind = selectors_faults v.scope name.first.place (stands_first v.scope (number_of v.scope name.first.name)) name.selectors

  -- the rules of what stands behind the first name, and that of calls
  pub selectors_legal : selectors_faults v.scope name.first.place first name.selectors ≡ []
  selectors_legal =
      ap (λ w. selectors_faults v.scope name.first.place w name.selectors) (sym stands)
      ∙ back_empty faults_first faults_behind
      (front_empty (faults_first ++ faults_behind) (call_rule name.first.place (standing_of v.scope name.first name.selectors)) legal.unbroken)

  pub whole_called : call_rule name.first.place (select_all v.scope first name.selectors) ≡ []
  whole_called =
      ap (λ w. call_rule name.first.place (select_all v.scope w name.selectors)) (sym stands)
      ∙ back_empty (faults_first ++ faults_behind) (call_rule name.first.place (standing_of v.scope name.first name.selectors)) legal.unbroken

-- ---- a procedure that is named

module _ (v : Visible) (name : NameTree) (profile : Profile) (names : NamesProfile v.scope name.first.name profile) (legal : IsLegalStatement v.scope (statements.Call name)) where
  stands_direct : stands_first v.scope (number_of v.scope name.first.name) ≡ standing.Callee (callee.Direct names.number)
  stands_direct = ap (stands_first v.scope) names.numbered ∙ ap (stands_for names.number) names.stands

  pub call : IsCall v.scope (callee.Direct names.number) profile name.selectors
  call =
      called_with v.scope name.first.place (callee.Direct names.number) profile name.selectors (ap profile_of names.stands)
      (selectors_legal v name legal (standing.Callee (callee.Direct names.number)) stands_direct)
      (whole_called v name legal (standing.Callee (callee.Direct names.number)) stands_direct)

-- ---- calls through the name of a protected object

-- what is found behind it is a procedure, or an entry
pub operation_found : (program : Program) (x : Option Procedure) (is_entry : Bool) (profile : Profile) → profile.result ≡ None
    → fitting.IsOperation program x is_entry profile
    → (q : Procedure) × (x ≡ Some q) × (map formal_of q.parameters ≡ profile.formals)
operation_found program x true profile without h = (h.procedure, h.is, h.formals)
operation_found program x false profile without h = let p = subst (fitting.IsCalled x profile) without h in (p.procedure, p.is, p.formals)
