-- Trees for the worked bodies and clauses, and the object whose body is worked.
use Rattle.std.proofs.Common.{◌≡◌, ℕ, List, [], ◌∷◌, None, refl}
use Rattle.std.specs.Prelude.{pos, codes}
use Rattle.ada_tree.specs.declared.expression.Identifier.{Identifier}
use Rattle.ada_tree.specs.declared.expression.BinaryOperator.{BinaryOperator}
use Rattle.ada_tree.specs.declared.declaration.Formal.{Formal}
use Rattle.ada_tree.specs.declared.declaration.Mode.{Mode}
use Rattle.ada_tree.specs.declared.declaration.Mode.TheVariants as mode
use Rattle.ada_tree.specs.ExpressionTree.{ExprTree, NameTree, Number, Binary, SelectorTrees}
use Rattle.ada_tree.specs.StatementTree.{DeclarationTree, OfEntry, StmtTrees, HandlerTrees}
use Rattle.ada_tree.specs.ProgramTree.{ItemTree, BodyTree, OfProtected}
use Rattle.expr_rules.specs.Faults.{least}
use Rattle.types.specs.Scopes.{Scope, standard, with_real_time, with_control_io}
use Rattle.declaration_rules.specs.ItemRules.{items_faults, items_scope}

-- ---- trees

abbrev pub identifier : ℕ → List ℕ → Identifier
identifier place text = record { name = text; place = place }

abbrev pub num : ℕ → ℕ → ExprTree
num place n = Number (pos n) place

abbrev pub two : BinaryOperator → ExprTree → ExprTree → ExprTree
two operator a b = Binary operator a b

abbrev pub name_of : Identifier → SelectorTrees → NameTree
name_of first selectors = record { first = first; selectors = selectors }

abbrev pub formal_of : Identifier → Mode → Identifier → Formal
formal_of name mode subtype = record { name = name; mode = mode; subtype = subtype }

abbrev pub body_of : List DeclarationTree → StmtTrees → HandlerTrees → Identifier → BodyTree
body_of declarations statements handlers end_name = record { declarations = declarations; statements = statements; handlers = handlers; end_name = end_name }

-- ---- what is visible

-- protected P is entry Take (X : out Integer); private V : Integer; Full : Boolean; end P;
abbrev items : List ItemTree
items =
    OfProtected (record {
      place = 0;
      name = (identifier 10 (codes "P"));
      aspect = None;
      operations = OfEntry (record {
        place = 15;
        name = (identifier 21 (codes "TAKE"));
        formals = formal_of (identifier 27 (codes "X")) mode.Out (identifier 35 (codes "INTEGER")) ∷ [];
      }) ∷ [];
      components = record { name = (identifier 53 (codes "V")); subtype = (identifier 57 (codes "INTEGER")); value = None } ∷ record {
        name = (identifier 66 (codes "FULL"));
        subtype = (identifier 73 (codes "BOOLEAN"));
        value = None;
      } ∷ [];
      end_name = (identifier 86 (codes "P"));
    })
    ∷ []

abbrev pub visible : Scope
visible = items_scope (with_control_io (with_real_time standard)) items

items_are_legal : least (items_faults (with_control_io (with_real_time standard)) items) ≡ None
items_are_legal = refl
