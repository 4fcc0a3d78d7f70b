-- Names of objects that take no words, or more than an image has: an object that is visible is unfit.
use Rattle.std.proofs.Common.{◌≡◌, ◌⊎◌, inl, inr, ℕ, true, Option, Some}
use Rattle.ada_tree.specs.declared.expression.Identifier.{Identifier}
use Rattle.ada_tree.specs.ExpressionTree.{SelectorTrees}
use Rattle.types.specs.declared.entity.Role.{Role}
use Rattle.types.specs.declared.entity.Subtype.{Subtype}
use Rattle.types.specs.declared.standing.Standing.{Standing}
use Rattle.types.specs.declared.standing.Standing.TheVariants as standing
use Rattle.types.specs.Scopes.{number_of}
use Rattle.types.specs.Standings.{stands_first}
use Rattle.expr_code.specs.Refusing.{HasUnfitObject, IsUnfit}
use Rattle.expr_code.specs.Seeing.{slot_of}
use Rattle.expr_code.specs.declared.visible.Slot.{Slot}
use Rattle.expr_code.specs.declared.visible.Visible.{Visible}
use Rattle.part_code.specs.Needs.{has_unfit}
use Rattle.part_code.proofs.Within.{unfit_there}

module _ (v : Visible) (depth : ℕ) (first : Identifier) (path : SelectorTrees) where
  abbrev begins : Standing
  begins = stands_first v.scope (number_of v.scope first.name)

  abbrev there : Option Slot
  there = slot_of v first.name

  module _ (slot : Slot) (r : Role) (whole : Subtype) (stands : begins ≡ standing.Part r whole) (is : there ≡ Some slot) where
    pub unfit_whole : HasUnfitObject v ⊎ IsUnfit v.scope whole → has_unfit v ≡ true
    unfit_whole (inl u) = unfit_there v u
    unfit_whole (inr u) = unfit_there v (record { name = first.name; slot = slot; role = r; subtype = whole; there = is; stands = stands; unfit = u })
