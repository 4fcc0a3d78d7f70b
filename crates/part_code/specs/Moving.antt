-- Arrays and records that are assigned from variables or parts of them, one of which an if expression may choose: what is moved, from where, and by which code
-- (RM 4.5.7, 5.2).
use Rattle.std.specs.Prelude.{◌≡◌, ◌≤◌, ℕ, suc, ◌+◌, ℤ, ◌+ℤ◌, pos, true, false, Bool, ◌&&◌, Option, None, Some, is_some, if◌then◌else◌}
use Rattle.image.specs.Sections.{Sections}
use Rattle.image.specs.declared.instruction.Operation.TheVariants as op
use Rattle.image.specs.declared.instruction.Region.{Region}
use Rattle.ada_tree.specs.declared.expression.Identifier.{Identifier}
use Rattle.ada_tree.specs.ExpressionTree.{Conditional, ElsifValueTrees, ExprTree, MoreElsifValues, Named, NameTree, NoElsifValues, Parenthesized, SelectorTrees}
use Rattle.types.specs.declared.entity.Role.{Role}
use Rattle.types.specs.declared.entity.Role.TheVariants as role
use Rattle.types.specs.declared.entity.Subtype.{Subtype}
use Rattle.types.specs.declared.standing.Standing.{Standing}
use Rattle.types.specs.declared.standing.Standing.TheVariants as standing
use Rattle.types.specs.Scopes.{Scope, form_at, number_of}
use Rattle.types.specs.Standings.{standing_of, stands_first}
use Rattle.types.specs.Shapes.{Shape, shape_of}
use Rattle.expr_code.specs.Computing.{Computes}
use Rattle.expr_code.specs.Emitting.{IsLegalExpression, is_composite}
use Rattle.expr_code.specs.Locating.{IsNear, IsPath}
use Rattle.expr_code.specs.Seeing.{library_of, Package, Sees, slot_of}
use Rattle.expr_code.specs.Views.{At}
use Rattle.expr_code.specs.declared.visible.Slot.{Slot}
use Rattle.expr_code.specs.declared.visible.Visible.{Visible}
use Rattle.part_code.specs.Layout.{IsVariable}
use Rattle.part_code.specs.declared.moving.Source.{Source}

-- an array or a record, or a part that is one
abbrev pub names_composite : Scope → Standing → Bool
names_composite s (standing.Part r t) = is_composite (form_at s t.type_number)
names_composite s w = false

-- the variable with this place; a loop parameter has no words
abbrev pub variable_at : Standing → Option Slot → Option Source
variable_at (standing.Part role.LoopParameter t) x = None
variable_at (standing.Part r t) (Some x) = Some (record { slot = x; whole = t })
variable_at w x = None

-- the source by which a part of an object is named
abbrev pub source_by : Standing → Option Source → Option Source
source_by (standing.Part r t) x = x
source_by w x = None

-- the variable that is named, or a part of which is
abbrev pub source_at : Visible → NameTree → Option Source
source_at v name =
    source_by (standing_of v.scope name.first name.selectors)
    (variable_at (stands_first v.scope (number_of v.scope name.first.name)) (slot_of v name.first.name))

-- what is told of it
pub record IsSource (v : Visible) (name : NameTree) (x : Source) : Type 0 where
  pub role : Role
  pub stands : stands_first v.scope (number_of v.scope name.first.name) ≡ standing.Part role x.whole
  pub variable : IsVariable role
  pub there : slot_of v name.first.name ≡ Some x.slot
  pub part : Role
  pub last : Subtype
  pub names : standing_of v.scope name.first name.selectors ≡ standing.Part part last

-- ---- what is moved

abbrev mutual
  -- each value that may be chosen is that of a variable, or of a part of one
  pub is_moved : Visible → ExprTree → Bool
  is_moved v (Named first selectors) = is_some (source_at v (record { first = first; selectors = selectors }))
  is_moved v (Parenthesized place e) = is_moved v e
  is_moved v (Conditional place condition value elsifs last) = is_moved v value && (are_moved v elsifs && is_moved v last)
  is_moved v e = false

  pub are_moved : Visible → ElsifValueTrees → Bool
  are_moved v NoElsifValues = true
  are_moved v (MoreElsifValues condition value rest) = is_moved v value && are_moved v rest

-- an array or a record is named, or a part that is one, and the value is moved to it
abbrev pub moves : Visible → NameTree → ExprTree → Bool
moves v name e =
    if names_composite v.scope (stands_first v.scope (number_of v.scope name.first.name))
    && (names_composite v.scope (standing_of v.scope name.first name.selectors) && is_some (slot_of v name.first.name))
    then is_moved v e else false

-- ---- code that moves

-- so many words are moved to the address on the operand stack, in this region
module _ (i : Sections) (g : Package) (v : Visible) (region : Region) (words : ℕ) where
  -- the address of what is named, and the instruction that moves its words
  pub record MovesNamed (from to : ℕ) (first : Identifier) (selectors : SelectorTrees) : Type 0 where
    pub source : Source
    pub is : IsSource v (record { first = first; selectors = selectors }) source
    pub legal : IsLegalExpression v.scope (Named first selectors)
    pub last : Subtype
    pub end : Shape
    pub mid : ℕ
    pub up : suc from ≤ mid
    pub next : to ≡ suc mid
    pub shift : ℤ
    pub near : IsNear shift
    pub push : At i from (op.Push (pos source.slot.offset +ℤ shift))
    pub path : IsPath i (library_of g) (Sees g v) (from + 1) mid shift source.whole (shape_of v.scope source.whole) selectors last end
    pub copies : At i mid (op.Copy region source.slot.region words)

  -- a condition, a jump behind what moves the value for it where it does not hold, and a jump to the end behind that
  abbrev pub IsMovedIf : (from to : ℕ) → ExprTree → (holds fails : (from to : ℕ) → Type 0) → Type 0
  IsMovedIf from to condition holds fails =
      (mid : ℕ) × (joint : ℕ) × (from ≤ mid) × (suc mid ≤ joint) × (suc joint ≤ to)
      × Computes i (library_of g) (Sees g v) from mid condition
      × At i mid (op.JumpIfZero (suc joint))
      × holds (suc mid) joint
      × At i joint (op.Jump to)
      × fails (suc joint) to

  abbrev mutual
    pub IsMoved : (from to : ℕ) → ExprTree → Type 0
    IsMoved from to (Named first selectors) = MovesNamed from to first selectors
    IsMoved from to (Parenthesized place e) = IsMoved from to e
    IsMoved from to (Conditional place condition value elsifs last) =
        IsMovedIf from to condition (λ a b. IsMoved a b value) (λ a b. IsMovedElse a b elsifs (λ x y. IsMoved x y last))
    IsMoved from to e = ⊥

    -- what is behind the first value
    pub IsMovedElse : (from to : ℕ) → ElsifValueTrees → (last : (from to : ℕ) → Type 0) → Type 0
    IsMovedElse from to NoElsifValues last = last from to
    IsMovedElse from to (MoreElsifValues condition value rest) last =
        IsMovedIf from to condition (λ a b. IsMoved a b value) (λ a b. IsMovedElse a b rest last)
