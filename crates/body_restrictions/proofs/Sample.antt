-- Trees for the worked rows.
use Rattle.std.proofs.Common.{ℕ, ◌+◌, List, [], ◌∷◌, Option, Some, None}
use Rattle.std.specs.Prelude.{pos, codes}
use Rattle.lexer.specs.declared.fault.Fault.{Fault}
use Rattle.ada_tree.specs.declared.expression.Identifier.{Identifier}
use Rattle.ada_tree.specs.declared.program.Pragma.{Pragma}
use Rattle.ada_tree.specs.ExpressionTree.{ExprTree, Number, Named, NoSelectors}
use Rattle.ada_tree.specs.StatementTree.{AspectTree, EntryTree, OperationTree, ProtectedTree, SubprogramTree, TaskTree}

abbrev pub fault : (number place : ℕ) → Fault
fault number place = record { number = number; place = place }

abbrev pub identifier : ℕ → List ℕ → Identifier
identifier place text = record { name = text; place = place }

abbrev pub number : ℕ → ℕ → ExprTree
number place n = Number (pos n) place

abbrev pub named : ℕ → List ℕ → ExprTree
named place text = Named (identifier place text) NoSelectors

abbrev pub entry : ℕ → List ℕ → EntryTree
entry place text = record { place = place; name = identifier (place + 6) text; formals = [] }

abbrev pub procedure : ℕ → List ℕ → SubprogramTree
procedure place text = record { place = place; name = identifier (place + 10) text; formals = []; result = None }

abbrev pub aspect : ℕ → List ℕ → ExprTree → AspectTree
aspect place text value = record { place = place; name = identifier (place + 5) text; value = value }

abbrev pub priority : ℕ → ExprTree → Option AspectTree
priority place value = Some (aspect place (codes "PRIORITY") value)

abbrev pub task : ℕ → List ℕ → Option AspectTree → TaskTree
task place text given = record { place = place; name = identifier (place + 5) text; aspect = given; definition = None }

abbrev pub object : ℕ → List ℕ → Option AspectTree → List OperationTree → ProtectedTree
object place text given operations = record {
  place = place;
  name = identifier (place + 10) text;
  aspect = given;
  operations = operations;
  components = record { name = identifier (place + 70) (codes "FULL"); subtype = identifier (place + 77) (codes "BOOLEAN"); value = None } ∷ [];
  end_name = identifier (place + 90) text;
}

abbrev pub pragma_of : ℕ → List ℕ → List ℕ → Pragma
pragma_of place text argument = record { place = place; name = identifier (place + 7) text; argument = identifier (place + 50) argument }
