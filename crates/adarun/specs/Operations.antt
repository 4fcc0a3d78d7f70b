-- The names of the operations and entries of protected objects that a program's instructions call.
use Rattle.std.specs.Prelude.{ℕ, List, [], ◌∷◌, ◌++◌, map, Option, Some, None, slice_get}
use Rattle.image.specs.ObjectTable.{ObjectRow}
use Rattle.image.specs.Sections.{Sections}
use Rattle.image.specs.declared.instruction.Instr.{Instr}
use Rattle.image.specs.declared.instruction.Operation.{Operation}
use Rattle.image.specs.declared.instruction.Operation.TheVariants as op
use Rattle.compiler.specs.ada_tree.specs.ProgramTree.{BodyItemTree, OfItem, ProgramTree, ProtectedBody, SubprogramBody, TaskBody}
use Rattle.compiler.specs.package_code.specs.Bodies.{bodies_of, own_name}

-- of the bodies that items are or have, in their order
abbrev pub body_names : List BodyItemTree → List (List ℕ)
body_names [] = []
body_names (OfItem d ∷ rest) = body_names rest
body_names (SubprogramBody d b ∷ rest) = d.name.name ∷ body_names rest
body_names (TaskBody name b ∷ rest) = name.name ∷ body_names rest
body_names (ProtectedBody name items end_name ∷ rest) = map own_name items ++ body_names rest

-- of the bodies of a program, each at the number of its subprogram
abbrev pub subprogram_names : ProgramTree → List (List ℕ)
subprogram_names t = map (λ c. c.head.name.name) (bodies_of t)

abbrev pub entry_of : Option ObjectRow → Option ℕ
entry_of (Some o) = o.entry
entry_of None = None

-- the number of the subprogram that is called through the name of an object
abbrev pub number_called : Sections → Operation → Option ℕ
number_called i (op.ProtectedCall number) = Some number
number_called i (op.EntryCall object) = entry_of (slice_get i.objects object)
number_called i operation = None

abbrev pub instruction_calls : Sections → Option Instr → Option ℕ
instruction_calls i (Some x) = number_called i x.operation
instruction_calls i None = None

abbrev pub name_of : (names : List (List ℕ)) → Option ℕ → Option (List ℕ)
name_of names (Some number) = slice_get names number
name_of names None = None

-- by the instruction at this address, where subprograms have these names
abbrev pub operation_in : Sections → (names : List (List ℕ)) → (address : ℕ) → Option (List ℕ)
operation_in i names address = name_of names (instruction_calls i (slice_get i.instructions address))
