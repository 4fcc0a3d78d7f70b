-- Whole programs with all that they break, worked by computation. Places are those in the text above each.
use Rattle.std.proofs.Common.{◌≡◌, ℕ, ◌+◌, List, [], ◌∷◌, Some, None, refl}
use Rattle.std.specs.Prelude.{codes}
use Rattle.lexer.specs.declared.fault.Fault.{Fault}
use Rattle.ada_tree.specs.declared.expression.Identifier.{Identifier}
use Rattle.ada_tree.specs.declared.program.MainStatement.{MainStatement}
use Rattle.ada_tree.specs.declared.program.MainStatement.TheVariants as main_statement
use Rattle.ada_tree.specs.StatementTree.{NoStmts, MoreStmts, Null, NoHandlers, SubprogramTree}
use Rattle.ada_tree.specs.ProgramTree.{MainTree, ProgramTree, SubprogramBody}
use Rattle.ada_tree.specs.ProgramTree.{OfSubprogram as OfDeclared}
use Rattle.expr_rules.specs.Faults.{least}
use Rattle.legality.specs.ProgramRules.{IsLegal, program_faults}

abbrev identifier : ℕ → List ℕ → Identifier
identifier place text = record { name = text; place = place }

abbrev fault : (number place : ℕ) → Fault
fault number place = record { number = number; place = place }

abbrev main : ℕ → MainStatement → Identifier → MainTree
main place statement end_name =
    record { place = place; name = identifier (place + 10) (codes "MAIN"); aspect = None; statements = statement ∷ []; end_name = end_name }

-- `procedure Main is begin null; end Main;`
main_alone : IsLegal (record { pragmas = []; package_ = None; main = main 0 (main_statement.Null 24) (identifier 34 (codes "MAIN")) })
main_alone = refl

-- `procedure Main is begin App.Run; end Mane;`
two_faults : program_faults (record {
  pragmas = [];
  package_ = None;
  main = main 0 (main_statement.Call (identifier 24 (codes "APP")) (identifier 28 (codes "RUN"))) (identifier 37 (codes "MANE"));
}) ≡ fault 10 24 ∷ fault 22 37 ∷ []
two_faults = refl

abbrev run : ℕ → ℕ → SubprogramTree
run place at = record { place = place; name = identifier at (codes "RUN"); formals = []; result = None }

-- the package with this name behind its end and main's call of this procedure
abbrev app : (package_end called : List ℕ) → ProgramTree
app package_end called =
    record {
      pragmas = [];
      package_ = Some (record {
        clauses = [];
        declaration = record { place = 0; name = identifier 8 (codes "APP"); items = OfDeclared (run 15 25) ∷ []; end_name = identifier 34 package_end };
        body = record {
          place = 39;
          name = identifier 52 (codes "APP");
          items = SubprogramBody (run 59 69) (record {
            declarations = [];
            statements = MoreStmts (Null 82) NoStmts;
            handlers = NoHandlers;
            end_name = identifier 92 (codes "RUN");
          }) ∷ [];
          end_name = identifier 101 (codes "APP");
        };
        with_name = identifier 111 (codes "APP");
      });
      main = main 116 (main_statement.Call (identifier 140 (codes "APP")) (identifier 144 called)) (identifier 153 (codes "MAIN"));
    }

-- `package App is procedure Run; end App; package body App is procedure Run is begin null; end Run; end App; with App;
-- procedure Main is begin App.Run; end Main;`
a_package : IsLegal (app (codes "APP") (codes "RUN"))
a_package = refl

-- the same with `end Apt` and `App.Ran`: what stands first is told
first_of_two : least (program_faults (app (codes "APT") (codes "RAN"))) ≡ Some (fault 22 34)
first_of_two = refl

wrong_call : program_faults (app (codes "APP") (codes "RAN")) ≡ fault 10 144 ∷ []
wrong_call = refl
