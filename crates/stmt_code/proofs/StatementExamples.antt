-- The code of a body, worked by computation: what the compiler writes for the same text, with the rows of its handlers and of its places (docs/CODEGEN.md).
use Rattle.std.proofs.Common.{◌≡◌, ℕ, List, [], ◌∷◌, ◌++◌, Some, None, refl}
use Rattle.std.specs.Prelude.{Option, pos, codes, false}
use Rattle.ada_tree.specs.declared.expression.BinaryOperator.TheVariants as binary
use Rattle.ada_tree.specs.declared.expression.Identifier.{Identifier}
use Rattle.ada_tree.specs.declared.statement.ExceptionChoice.TheVariants as choice
use Rattle.ada_tree.specs.ExpressionTree.{Arguments, Binary, ExprTree, MoreArguments, MoreSelectors, Named, NoArguments, NoSelectors, Number, Text, Value}
use Rattle.ada_tree.specs.ProgramTree.{BodyTree}
use Rattle.ada_tree.specs.StatementTree.{Assignment, Block, Call, Case, DeclarationTree, Exit, For, Forever, If, LocalObject, Loop, MoreAlternatives, MoreElsifs, MoreHandlers, MoreStmts, NoAlternatives, NoElsifs, NoHandlers, NoStmts, OtherValues, Raise, Return, StmtTree, StmtTrees, Values}
use Rattle.image.specs.declared.instruction.Instr.{Instr}
use Rattle.image.specs.declared.instruction.Operation.{Operation}
use Rattle.image.specs.declared.instruction.Operation.TheVariants as op
use Rattle.image.specs.declared.instruction.Region.TheVariants as regions
use Rattle.types.specs.declared.entity.Role.TheVariants as role
use Rattle.types.specs.declared.entity.Subtype.{Subtype}
use Rattle.types.specs.Entities.{Arrays, Object, OfType}
use Rattle.types.specs.Scopes.{Scope, integer, standard}
use Rattle.expr_code.specs.Pieces as pieces
use Rattle.expr_code.specs.Pieces.{narrow, nothing, one, over}
use Rattle.expr_code.specs.declared.visible.Slot.{Slot}
use Rattle.stmt_code.specs.Drafting.{begun, coded, handles, labelled, marked, skipping, takes, ◌▹◌}
use Rattle.stmt_code.specs.SimpleCode.{choices_code}
use Rattle.stmt_code.specs.StatementCode.{Site, run_code}
use Rattle.stmt_code.specs.declared.tables.PlaceRow.{PlaceRow}

-- ---- what is visible: `type Row is array (1 .. 3) of Integer; A : Row; B : Row; N : Integer;`

abbrev row : Subtype
row = record { type_number = 10; first = pos 0; last = pos 0 }

abbrev scope : Scope
scope =
    standard
    ++ record { name = codes "ROW"; entity = OfType (Arrays (record { type_number = 0; first = pos 1; last = pos 3 }) 3 integer) row }
    ∷ record { name = codes "A"; entity = Object role.Variable row }
    ∷ record { name = codes "B"; entity = Object role.Variable row }
    ∷ record { name = codes "N"; entity = Object role.Variable integer }
    ∷ []

abbrev slots : List (Option Slot)
slots =
    None ∷ None ∷ None ∷ None ∷ None ∷ None ∷ None ∷ None ∷ None ∷ None ∷ None
    ∷ Some (record { region = regions.Plain; offset = 0 })
    ∷ Some (record { region = regions.Plain; offset = 3 })
    ∷ Some (record { region = regions.Plain; offset = 6 })
    ∷ []

abbrev site : Site
site = record {
  visible = record { scope = scope; slots = slots; subprograms = []; operations = [] };
  ways = record { exit = None; return = None; handled = None };
  taken = 0;
  exceptions = codes "CONSTRAINT_ERROR" ∷ codes "PROGRAM_ERROR" ∷ codes "STORAGE_ERROR" ∷ codes "TASKING_ERROR" ∷ [];
}

-- ---- trees

abbrev identifier : (place : ℕ) → List ℕ → Identifier
identifier place name = record { name = name; place = place }

abbrev named : List ℕ → ExprTree
named name = Named (identifier 0 name) NoSelectors

abbrev number : ℕ → ExprTree
number n = Number (pos n) 0

abbrev assign : (place : ℕ) → List ℕ → ExprTree → StmtTree
assign place name e = Assignment (record { first = identifier place name; selectors = NoSelectors }) e

abbrev put : (place : ℕ) → (label : List ℕ) → ExprTree → StmtTree
put place label e =
    Call (record {
      first = identifier place (codes "PUT");
      selectors = MoreSelectors (Arguments (MoreArguments (Text label 0) (MoreArguments (Value e) NoArguments))) NoSelectors;
    })

abbrev single : StmtTree → StmtTrees
single x = MoreStmts x NoStmts

abbrev local : (place : ℕ) → List ℕ → (subtype : List ℕ) → DeclarationTree
local place name subtype = LocalObject (record { name = identifier place name; constant = false; subtype = identifier 0 subtype; value = None })

-- `if N < 1 then Put ("low", N); elsif N < 5 then Put ("middle", L); else Put ("low", L); end if;`
abbrev branches : StmtTree
branches =
    If 10 (Binary binary.Less (named (codes "N")) (number 1)) (single (put 11 (codes "low") (named (codes "N"))))
    (MoreElsifs (Binary binary.Less (named (codes "N")) (number 5)) (single (put 12 (codes "middle") (named (codes "L")))) NoElsifs)
    (single (put 13 (codes "low") (named (codes "L"))))

-- `case N is when 1 | 2 => L := 1; when others => C := A; end case;`
abbrev selection : StmtTree
selection =
    Case 20 (named (codes "N"))
    (MoreAlternatives 0 (Values (number 1 ∷ number 2 ∷ [])) (single (assign 21 (codes "L") (number 1)))
    (MoreAlternatives 0 (OtherValues 0) (single (assign 22 (codes "C") (named (codes "A")))) NoAlternatives))

-- `loop N := N + 1; exit when N > 5; end loop;`
abbrev repetition : StmtTree
repetition =
    Loop 30 Forever
    (MoreStmts (assign 31 (codes "N") (Binary binary.Add (named (codes "N")) (number 1)))
    (single (Exit 32 (Some (Binary binary.Greater (named (codes "N")) (number 5))))))

-- `for I in 1 .. N loop L := I; end loop;`
abbrev counting : StmtTree
counting =
    Loop 40 (For (identifier 0 (codes "I")) false (record { first = number 1; last = named (codes "N") })) (single (assign 41 (codes "L") (named (codes "I"))))

-- `begin L := 1; exception when Constraint_Error => L := 2; when others => raise; end;`
abbrev handling : StmtTree
handling =
    Block 50 [] (single (assign 51 (codes "L") (number 1)))
    (MoreHandlers (choice.Exception (identifier 0 (codes "CONSTRAINT_ERROR")) ∷ []) (single (assign 52 (codes "L") (number 2)))
    (MoreHandlers (choice.Others 0 ∷ []) (single (Raise 53 None)) NoHandlers))

-- these one after another, after `L : Integer; C : Row;`, and `return;`
abbrev body : BodyTree
body = record {
  declarations = local 1 (codes "L") (codes "INTEGER") ∷ local 2 (codes "C") (codes "ROW") ∷ [];
  statements =
      MoreStmts branches (MoreStmts selection (MoreStmts repetition (MoreStmts counting (MoreStmts handling (single (Return 60 None))))));
  handlers = NoHandlers;
  end_name = identifier 0 (codes "RUN");
}

infixr 20 ◌at◌
abbrev ◌at◌ : Operation → ℕ → Instr
operation at depth = record { depth = depth; operation = operation }

abbrev instructions : List Instr
instructions =
    (op.Push integer.first at 0) ∷ (op.StoreLocal 0 at 1) ∷ (op.Push (pos 1) at 0) ∷ (op.Push integer.first at 1) ∷
    (op.Push integer.first at 2) ∷ (op.Push integer.first at 3) ∷ (op.StoreBlock regions.Locals 3 at 4) ∷ (op.Jump 9 at 0) ∷
    (op.Jump 87 at 0) ∷ (op.LoadPlain 6 at 0) ∷ (op.Push (pos 1) at 1) ∷ (op.Less at 2) ∷ (op.JumpIfZero 16 at 1) ∷
    (op.LoadPlain 6 at 0) ∷ (op.PutLine 0 at 1) ∷ (op.Jump 25 at 0) ∷ (op.LoadPlain 6 at 0) ∷ (op.Push (pos 5) at 1) ∷
    (op.Less at 2) ∷ (op.JumpIfZero 23 at 1) ∷ (op.LoadLocal 0 at 0) ∷ (op.PutLine 1 at 1) ∷ (op.Jump 25 at 0) ∷
    (op.LoadLocal 0 at 0) ∷ (op.PutLine 0 at 1) ∷ (op.LoadPlain 6 at 0) ∷ (op.Duplicate at 1) ∷ (op.Push (pos 1) at 2) ∷
    (op.Equal at 3) ∷ (op.JumpIfNotZero 35 at 2) ∷ (op.Duplicate at 1) ∷ (op.Push (pos 2) at 2) ∷ (op.Equal at 3) ∷
    (op.JumpIfNotZero 35 at 2) ∷ (op.Jump 39 at 1) ∷ (op.Drop at 1) ∷ (op.Push (pos 1) at 0) ∷ (op.StoreLocal 0 at 1) ∷
    (op.Jump 45 at 0) ∷ (op.Drop at 1) ∷ (op.Push (pos 1) at 0) ∷ (op.Push (pos 0) at 1) ∷
    (op.Copy regions.Locals regions.Plain 3 at 2) ∷ (op.Jump 45 at 0) ∷ (op.Drop at 1) ∷ (op.Jump 47 at 0) ∷
    (op.Jump 56 at 0) ∷ (op.LoadPlain 6 at 0) ∷ (op.Push (pos 1) at 1) ∷ (op.Add at 2) ∷ (op.StorePlain 6 at 1) ∷
    (op.LoadPlain 6 at 0) ∷ (op.Push (pos 5) at 1) ∷ (op.Greater at 2) ∷ (op.JumpIfNotZero 46 at 1) ∷ (op.Jump 47 at 0) ∷
    (op.Push (pos 1) at 0) ∷ (op.LoadPlain 6 at 1) ∷ (op.StoreLocal 5 at 2) ∷ (op.StoreLocal 4 at 1) ∷ (op.LoadLocal 5 at 0) ∷
    (op.LoadLocal 4 at 1) ∷ (op.Less at 2) ∷ (op.JumpIfNotZero 75 at 1) ∷ (op.LoadLocal 4 at 0) ∷ (op.StoreLocal 0 at 1) ∷
    (op.LoadLocal 4 at 0) ∷ (op.LoadLocal 5 at 1) ∷ (op.Equal at 2) ∷ (op.JumpIfNotZero 75 at 1) ∷ (op.LoadLocal 4 at 0) ∷
    (op.Push (pos 1) at 1) ∷ (op.Add at 2) ∷ (op.StoreLocal 4 at 1) ∷ (op.Jump 64 at 0) ∷ (op.Push (pos 1) at 0) ∷
    (op.StoreLocal 0 at 1) ∷ (op.Jump 86 at 0) ∷ (op.StoreLocal 4 at 1) ∷ (op.Push (pos 2) at 0) ∷ (op.StoreLocal 0 at 1) ∷
    (op.Jump 86 at 0) ∷ (op.StoreLocal 4 at 1) ∷ (op.LoadLocal 4 at 0) ∷ (op.Raise at 1) ∷ (op.Jump 86 at 0) ∷
    (op.Jump 8 at 0) ∷ []

abbrev stands : (first behind place : ℕ) → PlaceRow
stands first behind place = record { first = first; behind = behind; place = place }

pub whole : run_code site body (record { place = 0; labels = [] }) ≡ record {
  code = instructions;
  rows = record { start = 75; end_ = 78; exception = 1; target = 78 } ∷ record { start = 75; end_ = 78; exception = 0; target = 82 } ∷ [];
  places =
      stands 0 2 1 ∷ stands 2 7 2 ∷ stands 13 15 11 ∷ stands 20 22 12 ∷ stands 23 25 13 ∷ stands 9 25 10 ∷ stands 36 38 21 ∷ stands 40 43 22
      ∷ stands 25 45 20 ∷ stands 47 51 31 ∷ stands 51 55 32 ∷ stands 45 56 30 ∷ stands 64 66 41 ∷ stands 56 75 40 ∷ stands 75 77 51 ∷ stands 79 81 52
      ∷ stands 83 85 53 ∷ stands 75 86 50 ∷ stands 86 87 60 ∷ [];
  labels = codes "low" ∷ codes "middle" ∷ [];
  most = 6;
}
unfolding nothing one pieces.◌▸◌ over narrow coded handles takes labelled ◌▹◌ begun skipping marked choices_code
whole = refl
