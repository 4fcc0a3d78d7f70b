-- Limits that are just kept and just passed, worked by computation.
use Rattle.std.proofs.Common.{◌≡◌, ℕ, zero, suc, ◌+◌, List, [], ◌∷◌, ◌++◌, None, true, false, refl}
use Rattle.std.specs.Prelude.{codes}
use Rattle.ada_tree.specs.declared.declaration.Mode.TheVariants as mode
use Rattle.ada_tree.specs.declared.expression.Identifier.{Identifier}
use Rattle.ada_tree.specs.ExpressionTree.{selectors_of, Arguments, Value, Text, arguments_of}
use Rattle.ada_tree.specs.StatementTree.{DeclarationTree, LocalObject, StmtTrees, NoStmts, MoreStmts, Call, Block, NoHandlers}
use Rattle.ada_tree.specs.ProgramTree.{ItemTree, BodyItemTree, OfItem, SubprogramBody, TaskBody, Array, OfRange, OfType, OfObject, OfException}
use Rattle.ada_tree.specs.ProgramTree.{OfSubprogram, OfTask, OfProtected}
use Rattle.expr_rules.specs.Faults.{least}
use Rattle.size_rules.specs.declared.thing.Thing.TheVariants.{Label, Object}
use Rattle.size_rules.specs.Limits.{first_uses, over, words_faults}
use Rattle.size_rules.specs.ProgramSizes.{size_faults}
use Rattle.size_rules.proofs.Sample.{identifier, num, name_of, object_of, range_of, formal_of, subprogram_of, body_of, program_of, passed_at}

-- ---- the three forms of limits

all_within : least (over 3 (5 ∷ 8 ∷ 11 ∷ [])) ≡ None
all_within = refl

the_first_beyond : least (over 3 (5 ∷ 8 ∷ 11 ∷ 14 ∷ 17 ∷ [])) ≡ passed_at 14
the_first_beyond = refl

-- labels differ by each character, also by its case
labels_that_differ :
    first_uses [] (Label (codes "a") 1 ∷ Label (codes "A") 2 ∷ Label (codes "a") 3 ∷ Object 4 1 ∷ Label (codes "ab") 5 ∷ Label (codes "A") 6 ∷ [])
    ≡ 1 ∷ 2 ∷ 5 ∷ []
labels_that_differ = refl

words_within : least (words_faults 4 (Object 1 3 ∷ Object 2 1 ∷ Object 3 0 ∷ [])) ≡ None
words_within = refl

-- the object with which the words pass the limit, not one of no words behind it
words_beyond : least (words_faults 4 (Object 1 3 ∷ Object 2 2 ∷ Object 3 0 ∷ [])) ≡ passed_at 2
words_beyond = refl

-- ---- whole programs; the nth declaration stands at n, and its name is the one character n

abbrev named : ℕ → Identifier
named n = identifier n (n ∷ [])

abbrev exceptions : ℕ → List ItemTree
exceptions zero = []
exceptions (suc n) = exceptions n ++ OfException (named n) ∷ []

exceptions_within : least (size_faults (program_of (exceptions 32) [])) ≡ None
exceptions_within = refl

exceptions_beyond : least (size_faults (program_of (exceptions 33) [])) ≡ passed_at 32
exceptions_beyond = refl

abbrev tasks : ℕ → List ItemTree
tasks zero = []
tasks (suc n) = tasks n ++ OfTask (record { place = n; name = named n; aspect = None; definition = None }) ∷ []

tasks_within : least (size_faults (program_of (tasks 64) [])) ≡ None
tasks_within = refl

tasks_beyond : least (size_faults (program_of (tasks 65) [])) ≡ passed_at 64
tasks_beyond = refl

abbrev protected_objects : ℕ → List ItemTree
protected_objects zero = []
protected_objects (suc n) =
    protected_objects n
    ++ OfProtected (record { place = n; name = named n; aspect = None; operations = []; components = []; end_name = named n }) ∷ []

protected_objects_within : least (size_faults (program_of (protected_objects 64) [])) ≡ None
protected_objects_within = refl

protected_objects_beyond : least (size_faults (program_of (protected_objects 65) [])) ≡ passed_at 64
protected_objects_beyond = refl

abbrev procedures : ℕ → List ItemTree
procedures zero = []
procedures (suc n) = procedures n ++ OfSubprogram (subprogram_of n (named n) [] None) ∷ []

-- the body of the procedure that is declared at n
abbrev procedure_body : ℕ → BodyItemTree
procedure_body n =
    SubprogramBody (subprogram_of (500 + n) (identifier (500 + n) (n ∷ [])) [] None) (body_of [] NoStmts NoHandlers (named n))

-- a declaration and its body are one subprogram
procedures_within : least (size_faults (program_of (procedures 128) (procedure_body 0 ∷ procedure_body 127 ∷ []))) ≡ None
procedures_within = refl

procedures_beyond : least (size_faults (program_of (procedures 129) [])) ≡ passed_at 128
procedures_beyond = refl

-- a body without declaration counts
bodies_beyond : least (size_faults (program_of (procedures 128) (procedure_body 3 ∷ procedure_body 300 ∷ []))) ≡ passed_at 800
bodies_beyond = refl

-- ---- words: rows of 1,024 and of 256 words

abbrev row_type : List ℕ → (length : ℕ) → (component : List ℕ) → ItemTree
row_type name length component =
    OfType (record { name = identifier 0 name; definition = Array (OfRange (range_of (num 0 1) (num 0 length))) (identifier 0 component) })

abbrev rows : List ItemTree
rows = row_type (codes "LONG") 1024 (codes "INTEGER") ∷ row_type (codes "SHORT") 256 (codes "BOOLEAN") ∷ []

abbrev variable : ℕ → List ℕ → ItemTree
variable n subtype = OfObject (object_of (named n) false (identifier n subtype) None)

abbrev constant : ℕ → List ℕ → ItemTree
constant n subtype = OfObject (object_of (named n) true (identifier n subtype) None)

abbrev long_rows : ℕ → List ItemTree
long_rows zero = []
long_rows (suc n) = long_rows n ++ variable n (codes "LONG") ∷ []

abbrev specified : List ItemTree
specified = rows ++ long_rows 7 ++ constant 20 (codes "LONG") ∷ []

-- a constant takes no words, and 8,192 words are allowed
package_within : least (size_faults (program_of specified (OfItem (variable 30 (codes "LONG")) ∷ []))) ≡ None
package_within = refl

package_beyond :
    least (size_faults (program_of specified (OfItem (variable 30 (codes "LONG")) ∷ OfItem (variable 31 (codes "BOOLEAN")) ∷ [])))
    ≡ passed_at 31
package_beyond = refl

-- a type whose own words pass the limit
row_of_rows : least (size_faults (program_of (rows ++ row_type (codes "WIDE") 1024 (codes "LONG") ∷ variable 7 (codes "WIDE") ∷ []) [])) ≡ passed_at 7
row_of_rows = refl

abbrev local : ℕ → List ℕ → DeclarationTree
local n subtype = LocalObject (object_of (named n) false (identifier n subtype) None)

abbrev block : DeclarationTree → StmtTrees → StmtTrees
block d rest = MoreStmts (Block 0 (d ∷ []) NoStmts NoHandlers) rest

abbrev frame : StmtTrees → BodyItemTree
frame statements =
    SubprogramBody (subprogram_of 0 (identifier 0 (codes "RUN")) (formal_of (identifier 1 (codes "K")) mode.Out (identifier 1 (codes "SHORT")) ∷ []) None)
    (body_of (local 2 (codes "INTEGER") ∷ []) statements NoHandlers (identifier 9 (codes "RUN")))

abbrev other_frame : BodyItemTree
other_frame =
    TaskBody (identifier 0 (codes "CLERK"))
    (body_of (local 3 (codes "SHORT") ∷ local 4 (codes "SHORT") ∷ []) NoStmts NoHandlers (identifier 9 (codes "CLERK")))

-- each body has 512 words of its own
frames_within : least (size_faults (program_of rows (frame NoStmts ∷ other_frame ∷ []))) ≡ None
frames_within = refl

-- blocks beside each other are added
frame_beyond :
    least (size_faults (program_of rows (frame (block (local 3 (codes "BOOLEAN")) (block (local 4 (codes "SHORT")) NoStmts)) ∷ [])))
    ≡ passed_at 4
frame_beyond = refl

-- ---- labels in calls of two bodies

abbrev puts : ℕ → StmtTrees → StmtTrees
puts zero rest = rest
puts (suc n) rest =
    puts n
    (MoreStmts (Call (name_of (identifier 0 (codes "PUT"))
    (selectors_of (Arguments (arguments_of (Text (n ∷ []) n ∷ Value (num 0 1) ∷ [])) ∷ [])))) rest)

abbrev labelled : StmtTrees → BodyItemTree
labelled statements = TaskBody (identifier 0 (codes "CLERK")) (body_of [] statements NoHandlers (identifier 9 (codes "CLERK")))

labels_within : least (size_faults (program_of [] (labelled (puts 1024 NoStmts) ∷ labelled (puts 20 NoStmts) ∷ []))) ≡ None
labels_within = refl

labels_beyond : least (size_faults (program_of [] (labelled (puts 20 NoStmts) ∷ labelled (puts 1025 NoStmts) ∷ []))) ≡ passed_at 1024
labels_beyond = refl
