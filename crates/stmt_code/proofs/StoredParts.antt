-- What the name of a part stands for that is assigned to.
use Rattle.std.proofs.Common.{◌≡◌, ap, ◌∙◌}
use Rattle.ada_tree.specs.ExpressionTree.{ExprTree, NameTree}
use Rattle.types.specs.declared.entity.Role.{Role}
use Rattle.types.specs.declared.entity.Subtype.{Subtype}
use Rattle.types.specs.declared.standing.Standing.TheVariants as standing
use Rattle.types.specs.Scopes.{Scope, number_of}
use Rattle.types.specs.Standings.{select_all, standing_of, stands_first}
use Rattle.expr_code.specs.Going.{EndsAt}

module _ (s : Scope) (name : NameTree) (e : ExprTree) (r : Role) (t : Subtype) (stands : stands_first s (number_of s name.first.name) ≡ standing.Part r t) where
  pub part_stands : (last : Subtype) → EndsAt s t name.selectors last → standing_of s name.first name.selectors ≡ standing.Part r last
  part_stands last ends = ap (λ u. select_all s u name.selectors) stands ∙ ends r
