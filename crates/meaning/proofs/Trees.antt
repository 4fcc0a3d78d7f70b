-- Trees without places, for programs worked by computation.
use Rattle.std.proofs.Common.{ℕ, List, [], ◌∷◌, Option, Some, None, false}
use Rattle.std.specs.Prelude.{pos, codes}
use Prim.Native.String.{String}
use Rattle.ada_tree.specs.declared.expression.Identifier.{Identifier}
use Rattle.ada_tree.specs.declared.declaration.Component.{Component as RecordPart}
use Rattle.ada_tree.specs.declared.declaration.Formal.{Formal}
use Rattle.ada_tree.specs.declared.declaration.Mode.{Mode}
use Rattle.ada_tree.specs.declared.program.MainStatement.TheVariants as main
use Rattle.ada_tree.specs.declared.program.UnitClause.{UnitClause}
use Rattle.ada_tree.specs.declared.program.UnitName.{UnitName}
use Rattle.ada_tree.specs.ExpressionTree.{ExprTree, Number, Named, SelectorTree, NoSelectors, selectors_of, Component, Arguments, Attribute, ArgumentTree, arguments_of, Value, Text}
use Rattle.ada_tree.specs.StatementTree.{AspectTree, ObjectTree, RangeTree, SubprogramTree, EntryTree, OperationTree, ProtectedComponentTree, ProtectedTree, TaskTree, DeclarationTree, StmtTree, StmtTrees, HandlerTrees, Assignment, Call}
use Rattle.ada_tree.specs.ProgramTree.{BodyTree, BodyItemTree, DefinitionTree, ItemTree, OfSubprogram, OfType, PackageTree, ProgramTree}

abbrev pub id : String → Identifier
id name = record { name = codes name; place = 0 }

-- ---- expressions

abbrev pub num : ℕ → ExprTree
num n = Number (pos n) 0

abbrev pub v : String → ExprTree
v name = Named (id name) NoSelectors

abbrev pub named : String → List SelectorTree → ExprTree
named name selectors = Named (id name) (selectors_of selectors)

abbrev pub dot : String → SelectorTree
dot name = Component (id name)

abbrev pub tick : String → SelectorTree
tick name = Attribute (id name)

abbrev pub args : List ArgumentTree → SelectorTree
args all = Arguments (arguments_of all)

abbrev pub range_of : ExprTree → ExprTree → RangeTree
range_of first last = record { first = first; last = last }

-- ---- statements

abbrev pub call : String → List SelectorTree → StmtTree
call name selectors = Call (record { first = id name; selectors = selectors_of selectors })

abbrev pub assign : String → List SelectorTree → ExprTree → StmtTree
assign name selectors value = Assignment (record { first = id name; selectors = selectors_of selectors }) value

-- `Put (label, value);`
abbrev pub put : String → ExprTree → StmtTree
put label value = call "PUT" (args (Text (codes label) 0 ∷ Value value ∷ []) ∷ [])

-- ---- declarations

abbrev pub object : String → String → Option ExprTree → ObjectTree
object name subtype value = record { name = id name; constant = false; subtype = id subtype; value = value }

abbrev pub formal : String → Mode → String → Formal
formal name mode subtype = record { name = id name; mode = mode; subtype = id subtype }

abbrev pub procedure : String → List Formal → SubprogramTree
procedure name formals = record { place = 0; name = id name; formals = formals; result = None }

abbrev pub function : String → List Formal → String → SubprogramTree
function name formals result = record { place = 0; name = id name; formals = formals; result = Some (id result) }

abbrev pub entry : String → List Formal → EntryTree
entry name formals = record { place = 0; name = id name; formals = formals }

abbrev pub field : String → String → RecordPart
field name subtype = record { name = id name; subtype = id subtype }

abbrev pub declares_type : String → DefinitionTree → ItemTree
declares_type name definition = OfType (record { name = id name; definition = definition })

-- `with Priority => ..`
abbrev pub with_priority : ExprTree → Option AspectTree
with_priority value = Some (record { place = 0; name = id "PRIORITY"; value = value })

abbrev pub task : String → ExprTree → TaskTree
task name priority = record { place = 0; name = id name; aspect = with_priority priority; definition = None }

abbrev pub component : String → String → Option ExprTree → ProtectedComponentTree
component name subtype value = record { name = id name; subtype = id subtype; value = value }

abbrev pub protected : String → ExprTree → List OperationTree → List ProtectedComponentTree → ProtectedTree
protected name priority operations components =
    record { place = 0; name = id name; aspect = with_priority priority; operations = operations; components = components; end_name = id name }

abbrev pub body : List DeclarationTree → StmtTrees → HandlerTrees → BodyTree
body declarations statements handlers = record { declarations = declarations; statements = statements; handlers = handlers; end_name = id "" }

-- ---- whole programs

abbrev unit : String → Option Identifier → UnitClause
unit first second = let name : UnitName = record { first = id first; second = second } in record { place = 0; unit = name; used = name }

abbrev package_of : List ItemTree → List BodyItemTree → PackageTree
package_of items bodies =
    record {
      clauses = unit "ADA" (Some (id "REAL_TIME")) ∷ unit "CONTROL_IO" None ∷ [];
      declaration = record { place = 0; name = id "APP"; items = OfSubprogram (procedure "RUN" []) ∷ items; end_name = id "APP" };
      body = record { place = 0; name = id "APP"; items = bodies; end_name = id "APP" };
      with_name = id "APP";
    }

-- with both units, a package App that declares Run and these items, its body, and `procedure Main is begin App.Run; end Main;`
abbrev pub app : List ItemTree → List BodyItemTree → ProgramTree
app items bodies =
    record {
      pragmas = [];
      package_ = Some (package_of items bodies);
      main = record { place = 0; name = id "MAIN"; aspect = None; statements = main.Call (id "APP") (id "RUN") ∷ []; end_name = id "MAIN" };
    }

-- `procedure Main is begin null; end Main;`
abbrev pub null_main : ProgramTree
null_main =
    record { pragmas = []; package_ = None; main = record { place = 0; name = id "MAIN"; aspect = None; statements = main.Null 0 ∷ []; end_name = id "MAIN" } }
