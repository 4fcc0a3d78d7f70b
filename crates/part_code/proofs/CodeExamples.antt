-- The code of parts of statements of a small program, worked by computation: in a package `type Row is array (1 .. 3) of Integer; A, B : Row; N : Integer;`,
-- in a body L, an Integer, and C, a Row (docs/CODEGEN.md). Each is what the compiler writes for the same text.
use Rattle.std.proofs.Common.{◌≡◌, ℕ, List, [], ◌∷◌, ◌++◌, Some, None, refl}
use Rattle.std.specs.Prelude.{Option, pos, negsuc, codes}
use Rattle.ada_tree.specs.declared.declaration.Mode.{Mode}
use Rattle.ada_tree.specs.declared.declaration.Mode.TheVariants as mode
use Rattle.ada_tree.specs.declared.expression.BinaryOperator.TheVariants as binary
use Rattle.ada_tree.specs.declared.expression.Identifier.{Identifier}
use Rattle.ada_tree.specs.ExpressionTree.{Arguments, Binary, Conditional, ExprTree, MoreArguments, MoreSelectors, Named, NoArguments, NoElsifValues, NoSelectors, Number, Value}
use Rattle.image.specs.declared.instruction.Instr.{Instr}
use Rattle.image.specs.declared.instruction.Operation.{Operation}
use Rattle.image.specs.declared.instruction.Operation.TheVariants as op
use Rattle.image.specs.declared.instruction.Region.TheVariants as regions
use Rattle.types.specs.declared.entity.FormalParameter.{FormalParameter}
use Rattle.types.specs.declared.entity.Role.TheVariants as role
use Rattle.types.specs.declared.entity.Subtype.{Subtype}
use Rattle.types.specs.Entities.{Arrays, Object, OfType}
use Rattle.types.specs.Scopes.{Scope, integer, standard}
use Rattle.expr_code.specs.Pieces.{narrow, nothing, one, ◌▸◌, over}
use Rattle.expr_code.specs.declared.visible.Slot.{Slot}
use Rattle.expr_code.specs.declared.visible.Visible.{Visible}
use Rattle.part_code.specs.PartCode.{actuals_code, copies_code, move_code}
use Rattle.part_code.specs.declared.call.Destination.{Destination}

abbrev row : Subtype
row = record { type_number = 10; first = pos 0; last = pos 0 }

abbrev small : Subtype
small = record { type_number = 0; first = pos 1; last = pos 9 }

abbrev scope : Scope
scope =
    standard
    ++ record { name = codes "ROW"; entity = OfType (Arrays (record { type_number = 0; first = pos 1; last = pos 3 }) 3 integer) row }
    ∷ record { name = codes "A"; entity = Object role.Variable row }
    ∷ record { name = codes "B"; entity = Object role.Variable row }
    ∷ record { name = codes "N"; entity = Object role.Variable integer }
    ∷ record { name = codes "L"; entity = Object role.Variable integer }
    ∷ record { name = codes "C"; entity = Object role.Variable row }
    ∷ []

abbrev slots : List (Option Slot)
slots =
    None ∷ None ∷ None ∷ None ∷ None ∷ None ∷ None ∷ None ∷ None ∷ None ∷ None
    ∷ Some (record { region = regions.Plain; offset = 0 })
    ∷ Some (record { region = regions.Plain; offset = 3 })
    ∷ Some (record { region = regions.Plain; offset = 6 })
    ∷ Some (record { region = regions.Locals; offset = 0 })
    ∷ Some (record { region = regions.Locals; offset = 1 })
    ∷ []

abbrev visible : Visible
visible = record { scope = scope; slots = slots; subprograms = []; operations = [] }

abbrev identifier : List ℕ → Identifier
identifier name = record { name = name; place = 0 }

abbrev named : List ℕ → ExprTree
named name = Named (identifier name) NoSelectors

abbrev number : ℕ → ExprTree
number n = Number (pos n) 0

abbrev formal : Mode → FormalParameter
formal m = record { mode = m; subtype = small }

infixr 20 ◌at◌
abbrev ◌at◌ : Operation → ℕ → Instr
operation at depth = record { depth = depth; operation = operation }

-- `A := (if L < 5 then B else C);`, after the address of A, from instruction 3 on
pub choice : move_code visible (record { region = regions.Plain; words = 3 })
    (Conditional 0 (Binary binary.Less (named (codes "L")) (number 5)) (named (codes "B")) NoElsifValues (named (codes "C"))) 3
    ≡ (op.LoadLocal 0 at 1) ∷ (op.Push (pos 5) at 2) ∷ (op.Less at 3) ∷ (op.JumpIfZero 10 at 2)
    ∷ (op.Push (pos 3) at 1) ∷ (op.Copy regions.Plain regions.Plain 3 at 2) ∷ (op.Jump 12 at 0)
    ∷ (op.Push (pos 1) at 1) ∷ (op.Copy regions.Plain regions.Locals 3 at 2) ∷ []
unfolding nothing one ◌▸◌ over narrow
choice = refl

-- the actual parameters of `P (N + 1, N, A (2));` for `X : Small; Y : in out Small; Z : out Small` with `subtype Small is Integer range 1 .. 9;`
pub passed : actuals_code visible 0 (formal mode.In ∷ formal mode.InOut ∷ formal mode.Out ∷ [])
    (MoreArguments (Value (Binary binary.Add (named (codes "N")) (number 1))) (MoreArguments (Value (named (codes "N")))
    (MoreArguments (Value (Named (identifier (codes "A")) (MoreSelectors (Arguments (MoreArguments (Value (number 2)) NoArguments)) NoSelectors))) NoArguments))) 0
    ≡ (op.LoadPlain 6 at 0) ∷ (op.Push (pos 1) at 1) ∷ (op.Add at 2) ∷ (op.Push (pos 1) at 1) ∷ (op.Push (pos 9) at 2) ∷ (op.CheckRange at 3)
    ∷ (op.Push (pos 6) at 1) ∷ (op.Duplicate at 2) ∷ (op.LoadIndexed regions.Plain at 3)
    ∷ (op.Push (pos 1) at 3) ∷ (op.Push (pos 9) at 4) ∷ (op.CheckRange at 5)
    ∷ (op.Push (negsuc 0) at 3) ∷ (op.Push (pos 2) at 4) ∷ (op.Add at 5) ∷ []
unfolding nothing one ◌▸◌ over narrow
passed = refl

-- what is copied back after it, to N, a Small, and to A (2), an Integer, whose check is that of all integers
abbrev destinations : List Destination
destinations = record { region = regions.Plain; subtype = small } ∷ record { region = regions.Plain; subtype = integer } ∷ []

pub copied : copies_code scope destinations 16
    ≡ (op.Push (pos 1) at 4) ∷ (op.Push (pos 9) at 5) ∷ (op.CheckRange at 6) ∷ (op.StoreIndexed regions.Plain at 4)
    ∷ (op.Push integer.first at 2) ∷ (op.Push integer.last at 3) ∷ (op.CheckRange at 4) ∷ (op.StoreIndexed regions.Plain at 2) ∷ []
unfolding nothing one ◌▸◌ over narrow
copied = refl
