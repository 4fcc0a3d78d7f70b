-- The parts of an if expression: each a condition and the value where it holds.
use Rattle.std.specs.Prelude.{List, [], ◌∷◌, ⊤}
use Rattle.ada_tree.specs.declared.expression.ElsifValue.{ElsifValue}
use Rattle.ada_tree.specs.ExpressionTree.{expr_tree, ExprTree, ElsifValueTrees, MoreElsifValues}
use Rattle.types.specs.Scopes.{Scope}
use Rattle.expr_code.specs.Emitting.{IsLegalExpression}

-- a condition, and the value where it holds
pub record Branch : Type 0 where
  pub condition : ExprTree
  pub value : ExprTree

abbrev pub branch_of : ElsifValue → Branch
branch_of e = record { condition = expr_tree e.condition; value = expr_tree e.value }

abbrev pub AreLegalBranches : Scope → List Branch → Type 0
AreLegalBranches s [] = ⊤
AreLegalBranches s (b ∷ all) = IsLegalExpression s b.condition × IsLegalExpression s b.value × AreLegalBranches s all

-- these branches in front of others
abbrev pub in_front : List Branch → ElsifValueTrees → ElsifValueTrees
in_front [] rest = rest
in_front (b ∷ all) rest = MoreElsifValues b.condition b.value (in_front all rest)
