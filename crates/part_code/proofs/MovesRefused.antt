-- The variable from which an array or a record is moved.
use Rattle.std.proofs.Common.{◌≡◌, Option, Some, refl, subst}
use Rattle.ada_tree.specs.ExpressionTree.{NameTree}
use Rattle.types.specs.declared.entity.Role.{Role}
use Rattle.types.specs.declared.entity.Role.TheVariants as role
use Rattle.types.specs.declared.entity.Subtype.{Subtype}
use Rattle.types.specs.declared.standing.Standing.{Standing}
use Rattle.types.specs.declared.standing.Standing.TheVariants as standing
use Rattle.types.specs.Scopes.{number_of}
use Rattle.types.specs.Standings.{standing_of, stands_first}
use Rattle.expr_code.specs.Seeing.{slot_of}
use Rattle.expr_code.specs.declared.visible.Slot.{Slot}
use Rattle.expr_code.specs.declared.visible.Visible.{Visible}
use Rattle.part_code.specs.Layout.{IsVariable}
use Rattle.part_code.specs.Moving.{IsSource, source_at, source_by, variable_at}
use Rattle.part_code.specs.declared.moving.Source.{Source}

some_is : {A : Type 0} (x y : A) → Some x ≡ Some y → x ≡ y
some_is x y h = cc

-- what is told of a variable by what its name stands for, and its place
record IsHeldVariable (w : Standing) (o : Option Slot) (x : Source) : Type 0 where
  pub role : Role
  pub stands : w ≡ standing.Part role x.whole
  pub variable : IsVariable role
  pub there : o ≡ Some x.slot

held_by : (r : Role) (t : Subtype) (slot : Slot) (x : Source) → IsVariable r → Some (record { slot = slot; whole = t }) ≡ Some x
    → IsHeldVariable (standing.Part r t) (Some slot) x
held_by r t slot x variable is =
    subst (IsHeldVariable (standing.Part r t) (Some slot)) (some_is (record { slot = slot; whole = t }) x is)
    (record { role = r; stands = refl; variable = variable; there = refl })

variable_is : (w : Standing) (o : Option Slot) (x : Source) → variable_at w o ≡ Some x → IsHeldVariable w o x
variable_is (standing.Part role.LoopParameter t) o x h = cc
variable_is (standing.Part role.Variable t) (Some slot) x h = held_by role.Variable t slot x tt h
variable_is (standing.Part role.Constant t) (Some slot) x h = held_by role.Constant t slot x tt h
variable_is (standing.Part role.In t) (Some slot) x h = held_by role.In t slot x tt h
variable_is (standing.Part role.Out t) (Some slot) x h = held_by role.Out t slot x tt h
variable_is (standing.Part role.InOut t) (Some slot) x h = held_by role.InOut t slot x tt h
variable_is (standing.Part role.Component t) (Some slot) x h = held_by role.Component t slot x tt h
variable_is (standing.Part role.ReadOnlyComponent t) (Some slot) x h = held_by role.ReadOnlyComponent t slot x tt h
variable_is w o x h = cc

pub source_is : (v : Visible) (name : NameTree) (x : Source) → source_at v name ≡ Some x → IsSource v name x
source_is v name x h = by_standing (standing_of v.scope name.first name.selectors) refl h
  where
    by_standing : (w : Standing) → standing_of v.scope name.first name.selectors ≡ w
        → source_by w (variable_at (stands_first v.scope (number_of v.scope name.first.name)) (slot_of v name.first.name)) ≡ Some x
        → IsSource v name x
    by_standing (standing.Part r t) e k =
        let held = variable_is (stands_first v.scope (number_of v.scope name.first.name)) (slot_of v name.first.name) x k in
        record {
          role = held.role;
          stands = held.stands;
          variable = held.variable;
          there = held.there;
          part = r;
          last = t;
          names = e;
        }
    by_standing w e k = cc
