-- The code of expressions of a small program, worked by computation: `type Row is array (1 .. 3) of Integer; A : Row; N : Integer;` in a package, and a local
-- object L (docs/CODEGEN.md). Each is what the compiler writes for the same text.
use Rattle.std.proofs.Common.{◌≡◌, ℕ, List, [], ◌∷◌, ◌++◌, Some, None, refl}
use Rattle.std.specs.Prelude.{Option, pos, negsuc, codes}
use Rattle.ada_tree.specs.declared.expression.BinaryOperator.TheVariants as binary
use Rattle.ada_tree.specs.declared.expression.Identifier.{Identifier}
use Rattle.ada_tree.specs.declared.expression.UnaryOperator.TheVariants as unary
use Rattle.ada_tree.specs.ExpressionTree.{Arguments, Binary, Conditional, ExprTree, MoreArguments, MoreElsifValues, MoreSelectors, Named, NoArguments, NoElsifValues, NoSelectors, Number, Unary, Value}
use Rattle.image.specs.declared.instruction.Instr.{Instr}
use Rattle.image.specs.declared.instruction.Operation.{Operation}
use Rattle.image.specs.declared.instruction.Operation.TheVariants as op
use Rattle.image.specs.declared.instruction.Region.TheVariants as regions
use Rattle.types.specs.declared.entity.Role.TheVariants as role
use Rattle.types.specs.declared.entity.Subtype.{Subtype}
use Rattle.types.specs.Entities.{Arrays, Object, OfType}
use Rattle.types.specs.Scopes.{Scope, integer, standard}
use Rattle.expr_code.specs.ExpressionCode.{expr_code}
use Rattle.expr_code.specs.Pieces.{narrow, nothing, one, ◌▸◌, over}
use Rattle.expr_code.specs.declared.visible.Slot.{Slot}
use Rattle.expr_code.specs.declared.visible.Visible.{Visible}

abbrev row : Subtype
row = record { type_number = 10; first = pos 0; last = pos 0 }

abbrev scope : Scope
scope =
    standard
    ++ record { name = codes "ROW"; entity = OfType (Arrays (record { type_number = 0; first = pos 1; last = pos 3 }) 3 integer) row }
    ∷ record { name = codes "A"; entity = Object role.Variable row }
    ∷ record { name = codes "N"; entity = Object role.Variable integer }
    ∷ record { name = codes "L"; entity = Object role.Variable integer }
    ∷ []

abbrev slots : List (Option Slot)
slots =
    None ∷ None ∷ None ∷ None ∷ None ∷ None ∷ None ∷ None ∷ None ∷ None ∷ None
    ∷ Some (record { region = regions.Plain; offset = 0 })
    ∷ Some (record { region = regions.Plain; offset = 3 })
    ∷ Some (record { region = regions.Locals; offset = 0 })
    ∷ []

abbrev visible : Visible
visible = record { scope = scope; slots = slots; subprograms = []; operations = [] }

abbrev identifier : List ℕ → Identifier
identifier name = record { name = name; place = 0 }

abbrev named : List ℕ → ExprTree
named name = Named (identifier name) NoSelectors

abbrev number : ℕ → ExprTree
number n = Number (pos n) 0

infixr 20 ◌at◌
abbrev ◌at◌ : Operation → ℕ → Instr
operation at depth = record { depth = depth; operation = operation }

-- `- N + 2 * L`, from instruction 2 on
pub sum : expr_code visible 0
    (Binary binary.Add (Unary unary.Minus 0 (named (codes "N"))) (Binary binary.Multiply (number 2) (named (codes "L")))) 2
    ≡ (op.LoadPlain 3 at 0) ∷ (op.Negate at 1) ∷ (op.Push (pos 2) at 1) ∷ (op.LoadLocal 0 at 2) ∷ (op.Multiply at 3) ∷ (op.Add at 2) ∷ []
unfolding nothing one ◌▸◌ over narrow
sum = refl

-- `(if N < 3 then 1 elsif N = 4 or else L > 5 then N else A (L))`, from instruction 9 on
choice : expr_code visible 0
    (Conditional 0 (Binary binary.Less (named (codes "N")) (number 3)) (number 1)
    (MoreElsifValues
    (Binary binary.OrElse (Binary binary.Equal (named (codes "N")) (number 4)) (Binary binary.Greater (named (codes "L")) (number 5)))
    (named (codes "N")) NoElsifValues)
    (Named (identifier (codes "A")) (MoreSelectors (Arguments (MoreArguments (Value (named (codes "L"))) NoArguments)) NoSelectors))) 9
    ≡ (op.LoadPlain 3 at 0) ∷ (op.Push (pos 3) at 1) ∷ (op.Less at 2) ∷ (op.JumpIfZero 15 at 1) ∷ (op.Push (pos 1) at 0) ∷ (op.Jump 34 at 1)
    ∷ (op.LoadPlain 3 at 0) ∷ (op.Push (pos 4) at 1) ∷ (op.Equal at 2) ∷ (op.Duplicate at 1) ∷ (op.JumpIfNotZero 24 at 2) ∷ (op.Drop at 1)
    ∷ (op.LoadLocal 0 at 0) ∷ (op.Push (pos 5) at 1) ∷ (op.Greater at 2) ∷ (op.JumpIfZero 27 at 1) ∷ (op.LoadPlain 3 at 0) ∷ (op.Jump 34 at 1)
    ∷ (op.Push (negsuc 0) at 0) ∷ (op.LoadLocal 0 at 1) ∷ (op.Push (pos 1) at 2) ∷ (op.Push (pos 3) at 3) ∷ (op.CheckRange at 4) ∷ (op.Add at 2)
    ∷ (op.LoadIndexed regions.Plain at 1) ∷ []
unfolding nothing one ◌▸◌ over narrow
choice = refl

-- `L > 1 and then N > 0`, from instruction 35 on
both : expr_code visible 0
    (Binary binary.AndThen (Binary binary.Greater (named (codes "L")) (number 1)) (Binary binary.Greater (named (codes "N")) (number 0))) 35
    ≡ (op.LoadLocal 0 at 0) ∷ (op.Push (pos 1) at 1) ∷ (op.Greater at 2) ∷ (op.Duplicate at 1) ∷ (op.JumpIfZero 44 at 2) ∷ (op.Drop at 1)
    ∷ (op.LoadPlain 3 at 0) ∷ (op.Push (pos 0) at 1) ∷ (op.Greater at 2) ∷ []
unfolding nothing one ◌▸◌ over narrow
both = refl
