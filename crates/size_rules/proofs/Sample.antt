-- Trees for the worked rows.
use Rattle.std.proofs.Common.{ℕ, List, [], Bool, Option, None}
use Rattle.std.specs.Prelude.{pos, codes}
use Rattle.lexer.specs.declared.fault.Fault.{Fault}
use Rattle.std.specs.Prelude.{Some}
use Rattle.base.specs.declared.faults.TheConstants.{LIMIT_PASSED}
use Rattle.ada_tree.specs.declared.expression.Identifier.{Identifier}
use Rattle.ada_tree.specs.declared.expression.BinaryOperator.{BinaryOperator}
use Rattle.ada_tree.specs.declared.declaration.Formal.{Formal}
use Rattle.ada_tree.specs.declared.declaration.Mode.{Mode}
use Rattle.ada_tree.specs.ExpressionTree.{ExprTree, NameTree, Number, Binary, SelectorTrees}
use Rattle.ada_tree.specs.StatementTree.{ObjectTree, RangeTree, SubprogramTree, DeclarationTree, StmtTrees, HandlerTrees}
use Rattle.ada_tree.specs.ProgramTree.{ItemTree, BodyItemTree, BodyTree, PackageTree, ProgramTree}

abbrev pub identifier : ℕ → List ℕ → Identifier
identifier place text = record { name = text; place = place }

abbrev pub num : ℕ → ℕ → ExprTree
num place n = Number (pos n) place

abbrev pub two : BinaryOperator → ExprTree → ExprTree → ExprTree
two operator a b = Binary operator a b

abbrev pub name_of : Identifier → SelectorTrees → NameTree
name_of first selectors = record { first = first; selectors = selectors }

abbrev pub object_of : Identifier → Bool → Identifier → Option ExprTree → ObjectTree
object_of name constant subtype value = record { name = name; constant = constant; subtype = subtype; value = value }

abbrev pub range_of : ExprTree → ExprTree → RangeTree
range_of first last = record { first = first; last = last }

abbrev pub formal_of : Identifier → Mode → Identifier → Formal
formal_of name mode subtype = record { name = name; mode = mode; subtype = subtype }

abbrev pub subprogram_of : ℕ → Identifier → List Formal → Option Identifier → SubprogramTree
subprogram_of place name formals result = record { place = place; name = name; formals = formals; result = result }

abbrev pub body_of : List DeclarationTree → StmtTrees → HandlerTrees → Identifier → BodyTree
body_of declarations statements handlers end_name = record { declarations = declarations; statements = statements; handlers = handlers; end_name = end_name }

abbrev pub app : Identifier
app = identifier 0 (codes "APP")

-- the package App with this specification and body
abbrev pub package_of : List ItemTree → List BodyItemTree → PackageTree
package_of specified bodies =
    record {
      clauses = [];
      declaration = record { place = 0; name = app; items = specified; end_name = app };
      body = record { place = 0; name = app; items = bodies; end_name = app };
      with_name = app;
    }

-- with a main that does nothing
abbrev pub program_of : List ItemTree → List BodyItemTree → ProgramTree
program_of specified bodies =
    record {
      pragmas = [];
      package_ = Some (package_of specified bodies);
      main = record { place = 0; name = identifier 0 (codes "MAIN"); aspect = None; statements = []; end_name = identifier 0 (codes "MAIN") };
    }

abbrev pub passed_at : ℕ → Option Fault
passed_at place = Some (record { number = LIMIT_PASSED; place = place })
