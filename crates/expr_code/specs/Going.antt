-- When the selectors behind an object break no rule, and to which part of it they lead (RM 4.1.1, 4.1.3).
use Rattle.std.specs.Prelude.{◌≡◌, ℕ, Bool, true, false, ◌&&◌, []}
use Rattle.ada_tree.specs.ExpressionTree.{Attribute, MoreSelectors, NoSelectors, SelectorTree, SelectorTrees}
use Rattle.types.specs.declared.entity.Role.{Role}
use Rattle.types.specs.declared.entity.Subtype.{Subtype}
use Rattle.types.specs.declared.standing.Standing.TheVariants as standing
use Rattle.types.specs.Scopes.{Scope}
use Rattle.types.specs.Standings.{object_select, select_all}
use Rattle.expr_soundness.specs.expr_rules.specs.ExpressionRules.{selector_faults, selectors_faults}

-- it is a component, and no attribute
abbrev pub is_component : SelectorTree → Bool
is_component (Attribute name) = false
is_component x = true

abbrev pub are_components : SelectorTrees → Bool
are_components NoSelectors = true
are_components (MoreSelectors x rest) = is_component x && are_components rest

-- no rule is broken in the parts of a name behind an object or part of this subtype, which lead to a part of it; in one of them
pub record IsLegalPath (s : Scope) (t : Subtype) (all : SelectorTrees) : Type 0 where
  pub role : Role
  pub place : ℕ
  pub unbroken : selectors_faults s place (standing.Part role t) all ≡ []
  pub components : are_components all ≡ true

pub record IsLegalPart (s : Scope) (t : Subtype) (x : SelectorTree) : Type 0 where
  pub role : Role
  pub place : ℕ
  pub unbroken : selector_faults s place (standing.Part role t) x ≡ []
  pub component : is_component x ≡ true

-- with this part more it is an object of this subtype
abbrev pub Selects : Scope → Subtype → SelectorTree → Subtype → Type 0
Selects s t x last = (r : Role) → object_select s r t x ≡ standing.Part r last

-- with all these parts, and none behind them
abbrev pub EndsAt : Scope → Subtype → SelectorTrees → Subtype → Type 0
EndsAt s t all last = (r : Role) → select_all s (standing.Part r t) all ≡ standing.Part r last
