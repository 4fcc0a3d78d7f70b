-- What the worked statements stand in: a few names, one of them doubtful, and the kinds of bodies.
use Rattle.std.proofs.Common.{◌≡◌, ℕ, List, [], ◌∷◌, Option, Some, None, false, Bool, refl}
use Rattle.std.specs.Prelude.{pos, codes}
use Rattle.lexer.specs.declared.fault.Fault.{Fault}
use Rattle.ada_tree.specs.declared.expression.Identifier.{Identifier}
use Rattle.ada_tree.specs.ExpressionTree.{ExprTree, NameTree, Number, SelectorTrees}
use Rattle.ada_tree.specs.StatementTree.{ObjectTree, RangeTree, StmtTrees}
use Rattle.ada_tree.specs.ProgramTree.{ItemTree, Integer, OfType as TypeItem, OfObject}
use Rattle.types.specs.Scopes.{Scope, standard, with_real_time, with_control_io, integer_type}
use Rattle.expr_rules.specs.Faults.{least}
use Rattle.declaration_rules.specs.ItemRules.{items_faults, items_scope}
use Rattle.stmt_rules.specs.declared.around.Around.{Around}
use Rattle.stmt_rules.specs.declared.around.BodyKind.TheVariants as kind
use Rattle.stmt_rules.specs.StatementRules.{in_body, stmts_faults}

-- ---- trees

abbrev pub identifier : ℕ → List ℕ → Identifier
identifier place text = record { name = text; place = place }

abbrev pub num : ℕ → ℕ → ExprTree
num place n = Number (pos n) place

abbrev pub name_of : Identifier → SelectorTrees → NameTree
name_of first selectors = record { first = first; selectors = selectors }

abbrev pub broken : ℕ → ℕ → Option Fault
broken number place = Some (record { number = number; place = place })

abbrev pub object_of : Identifier → Bool → Identifier → Option ExprTree → ObjectTree
object_of name constant subtype value = record { name = name; constant = constant; subtype = subtype; value = value }

abbrev pub range_of : ExprTree → ExprTree → RangeTree
range_of first last = record { first = first; last = last }

abbrev pub units : Scope
units = with_control_io (with_real_time standard)

-- ---- what is visible

-- type Small is range 0 .. 9; X : Integer; S : Small; Flag : Boolean;
abbrev pub items : List ItemTree
items =
    TypeItem (record { name = (identifier 5 (codes "SMALL")); definition = (Integer (range_of (num 20 0) (num 25 9))) })
    ∷ OfObject (object_of (identifier 28 (codes "X")) false (identifier 32 (codes "INTEGER")) None)
    ∷ OfObject (object_of (identifier 41 (codes "S")) false (identifier 45 (codes "SMALL")) None)
    ∷ OfObject (object_of (identifier 52 (codes "FLAG")) false (identifier 59 (codes "BOOLEAN")) None)
    ∷ []

items_are_legal : least (items_faults units items) ≡ None
items_are_legal = refl

-- W : Nobody;
abbrev pub broken_items : List ItemTree
broken_items = OfObject (object_of (identifier 0 (codes "W")) false (identifier 4 (codes "NOBODY")) None) ∷ []

abbrev pub visible : Scope
visible = items_scope (items_scope units items) broken_items

abbrev pub procedure : Around
procedure = in_body kind.Procedure

abbrev pub function : Around
function = in_body (kind.Function (Some integer_type))

abbrev pub doubtful_function : Around
doubtful_function = in_body (kind.Function None)

abbrev pub found : Around → StmtTrees → Option Fault
found a body = least (stmts_faults visible a body)
