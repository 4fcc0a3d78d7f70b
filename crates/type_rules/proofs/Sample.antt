-- Trees for the worked rows, and what these see.
use Rattle.std.proofs.Common.{◌≡◌, ℕ, List, [], ◌∷◌, Option, Some, None, true, false, Bool, refl}
use Rattle.std.specs.Prelude.{pos, codes}
use Rattle.lexer.specs.declared.fault.Fault.{Fault}
use Rattle.ada_tree.specs.declared.expression.Identifier.{Identifier}
use Rattle.ada_tree.specs.declared.expression.UnaryOperator.{UnaryOperator}
use Rattle.ada_tree.specs.declared.expression.BinaryOperator.{BinaryOperator}
use Rattle.ada_tree.specs.declared.declaration.Mode.TheVariants as mode
use Rattle.ada_tree.specs.ExpressionTree.{ExprTree, Number, Named, Unary, Binary, SelectorTree, selectors_of, Component, Arguments, ArgumentTree, Value, arguments_of}
use Rattle.ada_tree.specs.StatementTree.{ObjectTree, RangeTree}
use Rattle.ada_tree.specs.ProgramTree.{TypeTree}
use Rattle.types.specs.declared.entity.Subtype.{Subtype}
use Rattle.types.specs.declared.entity.Role.TheVariants as role
use Rattle.types.specs.declared.entity.Value.TheVariants as scalar
use Rattle.types.specs.Entities.{Operation, Profile, Integers, Arrays, Records, OfType, OfSubtype, Object, Constant, Subprogram, Protected, Task, Exception, LibraryUnit, Doubtful, Entity}
use Rattle.types.specs.Scopes.{Scope, Named as Declaration, standard, with_name, with_real_time, with_control_io, number_of, integer, boolean, base_range_of, entity_at}
use Rattle.type_rules.specs.TypeRules.{type_scope}

-- ---- trees

abbrev pub identifier : ℕ → List ℕ → Identifier
identifier place text = record { name = text; place = place }

abbrev pub num : ℕ → ℕ → ExprTree
num place n = Number (pos n) place

abbrev pub one : UnaryOperator → ℕ → ExprTree → ExprTree
one operator place e = Unary operator place e

abbrev pub two : BinaryOperator → ExprTree → ExprTree → ExprTree
two operator a b = Binary operator a b

abbrev pub name : ℕ → List ℕ → List SelectorTree → ExprTree
name place text selectors = Named (identifier place text) (selectors_of selectors)

abbrev pub of : ExprTree → ArgumentTree
of e = Value e

abbrev pub at : List ArgumentTree → SelectorTree
at arguments = Arguments (arguments_of arguments)

abbrev pub dot : ℕ → List ℕ → SelectorTree
dot place text = Component (identifier place text)

abbrev pub broken : ℕ → ℕ → Option Fault
broken number place = Some (record { number = number; place = place })

abbrev pub object_of : Identifier → Bool → Identifier → Option ExprTree → ObjectTree
object_of name constant subtype value = record { name = name; constant = constant; subtype = subtype; value = value }

abbrev pub range_of : ExprTree → ExprTree → RangeTree
range_of first last = record { first = first; last = last }

-- ---- scopes: the units; `type Small is range 0 .. 9; subtype Odd is Small range 1 .. 7; type Idx is range 1 .. 3; type Vec is array (Idx) of Integer;
-- type Pair is record A : Integer; B : Boolean; end record; type Pairs is array (1 .. 2) of Pair; Seven : constant Small := 7; V : Vec; Q : Pairs; R : Pair;
-- L : constant Vec .. ; function F (N : Integer) return Integer; function G return Boolean; procedure Proc (A : out Small; B : in out Integer);`
-- `protected P is function Get (S : Small) return Small; procedure Give (X : Integer); entry Take (X : out Integer); private Level : Small; end P;`
-- `task T; Bad : exception;` the package App; W, whose declaration breaks a rule; variables X : Integer, S : Small, B : Boolean, D : Time and E : Time_Span;
-- formals N : Integer and O : out Integer; a loop parameter J of Integer; a local constant M : Integer

abbrev pub units : Scope
units = with_control_io (with_real_time standard)

abbrev pub subtype_of : ℕ → ℕ → ℕ → Subtype
subtype_of type_number first last = record { type_number = type_number; first = pos first; last = pos last }

abbrev pub small : Subtype
small = subtype_of 17 0 9

abbrev pub idx : Subtype
idx = subtype_of 19 1 3

abbrev pub vec : Subtype
vec = subtype_of 20 0 0

abbrev pub pair : Subtype
pair = subtype_of 21 0 0

abbrev pub declared : Scope → List Declaration → Scope
declared s [] = s
declared s (n ∷ rest) = declared (with_name s n.name n.entity) rest

abbrev pub from_integer_to : Subtype → Profile
from_integer_to t = record { formals = record { mode = mode.In; subtype = integer } ∷ []; result = Some t }

abbrev pub small_to_small : Profile
small_to_small = record { formals = record { mode = mode.In; subtype = small } ∷ []; result = Some small }

abbrev pub operations : List Operation
operations =
    record { name = codes "GET"; is_entry = false; profile = small_to_small }
    ∷ record { name = codes "GIVE"; is_entry = false; profile = record { formals = record { mode = mode.In; subtype = integer } ∷ []; result = None } }
    ∷ record { name = codes "TAKE"; is_entry = true; profile = record { formals = record { mode = mode.Out; subtype = integer } ∷ []; result = None } }
    ∷ []

abbrev pub object : List Operation → Entity
object operations = Protected (record {
  number = 0;
  ceiling = 10;
  operations = operations;
  components = record {
    name = codes "LEVEL";
    subtype = small;
  } ∷ [];
  barrier = None;
})

abbrev pub with_object : List Operation → List Declaration
with_object operations =
    record { name = codes "SMALL"; entity = OfType Integers small }
    ∷ record { name = codes "ODD"; entity = OfSubtype (subtype_of 17 1 7) }
    ∷ record { name = codes "IDX"; entity = OfType Integers idx }
    ∷ record { name = codes "VEC"; entity = OfType (Arrays idx 3 integer) vec }
    ∷ record {
      name = codes "PAIR";
      entity = OfType (Records (record { name = codes "A"; subtype = integer } ∷ record {
        name = codes "B";
        subtype =
            boolean;
      } ∷ [])) pair;
    }
    ∷ record { name = codes "PAIRS"; entity = OfType (Arrays (subtype_of 0 1 2) 2 pair) (subtype_of 22 0 0) }
    ∷ record { name = codes "SEVEN"; entity = Constant small (Some (scalar.Number (pos 7))) }
    ∷ record { name = codes "V"; entity = Object role.Variable vec }
    ∷ record { name = codes "Q"; entity = Object role.Variable (subtype_of 22 0 0) }
    ∷ record { name = codes "R"; entity = Object role.Variable pair }
    ∷ record { name = codes "L"; entity = Constant vec None }
    ∷ record { name = codes "F"; entity = Subprogram (from_integer_to integer) }
    ∷ record { name = codes "G"; entity = Subprogram (record { formals = []; result = Some boolean }) }
    ∷ record {
      name = codes "PROC";
      entity = Subprogram (record {
        formals = record { mode = mode.Out; subtype = small } ∷ record {
          mode = mode.InOut;
          subtype = integer;
        } ∷ [];
        result = None;
      });
    }
    ∷ record { name = codes "P"; entity = object operations }
    ∷ record { name = codes "T"; entity = Task 15 }
    ∷ record { name = codes "BAD"; entity = Exception }
    ∷ record { name = codes "APP"; entity = LibraryUnit }
    ∷ record { name = codes "W"; entity = Doubtful }
    ∷ record { name = codes "X"; entity = Object role.Variable integer }
    ∷ record { name = codes "S"; entity = Object role.Variable small }
    ∷ record { name = codes "B"; entity = Object role.Variable boolean }
    ∷ record { name = codes "D"; entity = Object role.Variable (base_range_of 10) }
    ∷ record { name = codes "E"; entity = Object role.Variable (base_range_of 11) }
    ∷ record { name = codes "N"; entity = Object role.In integer }
    ∷ record { name = codes "O"; entity = Object role.Out integer }
    ∷ record { name = codes "J"; entity = Object role.LoopParameter integer }
    ∷ record { name = codes "M"; entity = Object role.Constant integer }
    ∷ []

abbrev pub package_scope : Scope
package_scope = declared units (with_object operations)

-- the next type has this number
abbrev pub next : ℕ
next = 45

next_is : number_of (with_name package_scope (codes "NEXT") Doubtful) (codes "NEXT") ≡ Some next
next_is = refl

abbrev pub declared_type : TypeTree → Option Entity
declared_type d = entity_at (type_scope package_scope d) next
