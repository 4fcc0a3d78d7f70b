-- What code promises that computes the actual parameters of a call, and the call (RM 6.4).
use Rattle.std.specs.Prelude.{◌≡◌, ℕ, List, [], ◌∷◌, Some, slice_get}
use Rattle.ada_tree.specs.declared.expression.Identifier.{Identifier}
use Rattle.ada_tree.specs.ExpressionTree.{Arguments, ArgumentTree, ArgumentTrees, ExprTree, MoreArguments, MoreSelectors, Named, NoArguments, NoSelectors, Value}
use Rattle.types.specs.declared.entity.FormalParameter.{FormalParameter}
use Rattle.types.specs.Scopes.{Scope}
use Rattle.expr_soundness.specs.expr_rules.specs.ExpressionRules.{argument_faults}
use Rattle.expr_soundness.specs.expr_rules.specs.NameRules.{formal_slot}

-- no rule is broken in the actual parameter for a formal
abbrev pub IsPassedLegally : Scope → FormalParameter → ArgumentTree → Type 0
IsPassedLegally s f a = argument_faults s (formal_slot f) a ≡ []

-- no rule is broken in the actual parameters for the first formals
abbrev pub ArePassedLegally : Scope → List FormalParameter → List ArgumentTree → Type 0
ArePassedLegally s formals all = (k : ℕ) (f : FormalParameter) (a : ArgumentTree) → slice_get formals k ≡ Some f → slice_get all k ≡ Some a
    → IsPassedLegally s f a

-- a name with one expression behind it, in parentheses
abbrev pub applied_to : Identifier → ExprTree → ExprTree
applied_to first e = Named first (MoreSelectors (Arguments (MoreArguments (Value e) NoArguments)) NoSelectors)

-- these arguments in front of others
abbrev pub arguments_in_front : List ArgumentTree → ArgumentTrees → ArgumentTrees
arguments_in_front [] rest = rest
arguments_in_front (a ∷ all) rest = MoreArguments a (arguments_in_front all rest)
