-- What declarations in order declare, and what bodies and loops see, worked by computation. Places are those in the text above each.
use Rattle.std.proofs.Common.{◌≡◌, [], ◌∷◌, Some, None, true, false, refl}
use Rattle.std.specs.Prelude.{codes, take, pos}
use Rattle.ada_tree.specs.declared.declaration.Mode.TheVariants as mode
use Rattle.ada_tree.specs.StatementTree.{OfSubprogram, LocalObject, LocalProtected}
use Rattle.ada_tree.specs.ProgramTree.{OfProtected}
use Rattle.types.specs.declared.entity.Role.TheVariants as role
use Rattle.types.specs.Entities.{Object, Subprogram, Entry, Protected, Doubtful}
use Rattle.types.specs.Scopes.{Scope, integer, base_range_of, entity_at, with_operations}
use Rattle.expr_rules.specs.Faults.{least}
use Rattle.type_rules.specs.SubtypeNames.{named_entity}
use Rattle.declaration_rules.specs.LocalRules.{fixed_locals_faults, locals_faults, locals_scope}
use Rattle.declaration_rules.specs.BodyNames.{components_scope, formals_scope, loop_scope, object_body_scope}
use Rattle.declaration_rules.specs.ItemRules.{items_scope}
use Rattle.type_rules.proofs.Sample.{identifier, num, name, dot, broken, object_of, range_of, small, vec, small_to_small, operations, object, package_scope, next}

-- ---- declarations in order

-- `Z : Integer := 1;` and then a second Z: the first keeps the name
first_keeps_the_name : named_entity (locals_scope package_scope (LocalObject (object_of (identifier 0 (codes "Z")) false (identifier 4 (codes
    "INTEGER")) (Some (num 15 1))) ∷ LocalObject (object_of (identifier 30 (codes "Z")) true (identifier 34 (codes "SMALL")) None) ∷ [])) (identifier
    60 (codes "Z")) ≡ Some (Object role.Variable integer)
first_keeps_the_name = refl

-- ---- declarations of a package, and of a body, in order; places are those in the declaration that is told

-- `protected Z is end Z; protected Y is end Y;`
objects_are_numbered : entity_at (items_scope package_scope (OfProtected (record {
  place = 0;
  name = (identifier 10 (codes "Z"));
  aspect = None;
  operations = [];
  components = [];
  end_name = (identifier 19 (codes "Z"));
}) ∷ OfProtected (record {
  place = 0;
  name = (identifier 10 (codes "Y"));
  aspect = None;
  operations = [];
  components = [];
  end_name = (identifier 19 (codes "Y"));
}) ∷ [])) 46 ≡ Some (Protected (record {
  number = 2;
  ceiling = 30;
  operations = [];
  components = [];
  barrier = None;
}))
objects_are_numbered = refl

-- `protected Z is function A1 return Integer; end Z;` and behind it `Y : Integer := Z.A1;` in a body, then in a task body
local_object_is_visible : least (locals_faults package_scope (LocalProtected (record {
  place = 0;
  name = (identifier 10 (codes "Z"));
  aspect = None;
  operations = OfSubprogram (record {
    place = 15;
    name = (identifier 24 (codes "A1"));
    formals = [];
    result = Some (identifier 34 (codes "INTEGER"));
  }) None ∷ [];
  components = [];
  end_name = (identifier 47 (codes "Z"));
}) ∷ LocalObject (object_of (identifier 0 (codes "Y")) false (identifier 4 (codes
    "INTEGER")) (Some (name 15 (codes "Z") (dot 17 (codes "A1") ∷ [])))) ∷ [])) ≡ None
local_object_is_visible = refl

local_object_is_not_static : least (fixed_locals_faults package_scope (LocalProtected (record {
  place = 0;
  name = (identifier 10 (codes "Z"));
  aspect
      = None;
  operations = OfSubprogram (record {
    place = 15;
    name = (identifier 24 (codes "A1"));
    formals = [];
    result = Some (identifier 34 (codes
        "INTEGER"));
  }) None ∷ [];
  components = [];
  end_name = (identifier 47 (codes "Z"));
}) ∷ LocalObject (object_of (identifier 0 (codes "Y")) false
    (identifier 4 (codes "INTEGER")) (Some (name 15 (codes "Z") (dot 17 (codes "A1") ∷ [])))) ∷ [])) ≡ broken 14 15
local_object_is_not_static = refl

-- ---- formals in their body

-- `procedure Z (A : Small; C : out Vec; H : in out Time; I : W; X : Small)`
abbrev inside_procedure : Scope
inside_procedure = formals_scope package_scope (record {
  name = (identifier 13 (codes "A"));
  mode = mode.In;
  subtype = (identifier 17 (codes "SMALL"));
} ∷ record { name = (identifier 24 (codes "C")); mode = mode.Out; subtype = (identifier 32 (codes "VEC")) } ∷ record {
  name = (identifier 37
      (codes "H"));
  mode = mode.InOut;
  subtype = (identifier 48 (codes "TIME"));
} ∷ record {
  name = (identifier 54 (codes "I"));
  mode = mode.In;
  subtype
      = (identifier 58 (codes "W"));
} ∷ record { name = (identifier 61 (codes "X")); mode = mode.In; subtype = (identifier 65 (codes "SMALL")) } ∷ [])

in_formal : named_entity inside_procedure (identifier 0 (codes "A")) ≡ Some (Object role.In small)
in_formal = refl

out_formal : named_entity inside_procedure (identifier 0 (codes "C")) ≡ Some (Object role.Out vec)
out_formal = refl

in_out_formal : named_entity inside_procedure (identifier 0 (codes "H")) ≡ Some (Object role.InOut (base_range_of 10))
in_out_formal = refl

formal_of_doubtful : named_entity inside_procedure (identifier 0 (codes "I")) ≡ Some Doubtful
formal_of_doubtful = refl

visible_name_is_kept : named_entity inside_procedure (identifier 0 (codes "X")) ≡ Some (Object role.Variable integer)
visible_name_is_kept = refl

-- ---- loop parameters

-- `for I in 1 .. 2`
parameter_of_integer : entity_at (loop_scope package_scope (identifier 4 (codes "I")) (range_of (num 9 1) (num 14 2))) next ≡ Some (Object
    role.LoopParameter (record integer { first = pos 1; last = pos 2 }))
parameter_of_integer = refl

-- `for I in S .. 9`
parameter_of_the_first_type : entity_at (loop_scope package_scope (identifier 4 (codes "I")) (range_of (name 9 (codes "S") []) (num 14 9))) next ≡
    Some (Object role.LoopParameter (record (base_range_of 17) { first = pos 0; last = pos 9 }))
parameter_of_the_first_type = refl

-- `for I in 1 .. S`
parameter_of_the_second_type : entity_at (loop_scope package_scope (identifier 4 (codes "I")) (range_of (num 9 1) (name 14 (codes "S") []))) next ≡
    Some (Object role.LoopParameter (record (base_range_of 17) { first = pos 1; last = pos 9 }))
parameter_of_the_second_type = refl

-- `for I in B .. B`
parameter_of_truth : entity_at (loop_scope package_scope (identifier 4 (codes "I")) (range_of (name 9 (codes "B") []) (name 14 (codes "B") []))) next
    ≡ Some Doubtful
parameter_of_truth = refl

-- `for I in 1 .. Nobody`
parameter_of_hidden : entity_at (loop_scope package_scope (identifier 4 (codes "I")) (range_of (num 9 1) (name 14 (codes "NOBODY") []))) next ≡ Some Doubtful
parameter_of_hidden = refl

-- ---- the body of P, which is the name with number 31

abbrev inside_object : Scope
inside_object = object_body_scope package_scope 31

function_inside : named_entity inside_object (identifier 0 (codes "GET")) ≡ Some (Subprogram small_to_small)
function_inside = refl

entry_inside : named_entity inside_object (identifier 0 (codes "TAKE")) ≡ Some (Entry (record {
  formals = record {
    mode = mode.Out;
    subtype = integer;
  } ∷ [];
  result = None;
}))
entry_inside = refl

object_inside : named_entity inside_object (identifier 0 (codes "P")) ≡ Some (object [])
object_inside = refl

-- its component in the body of a function, and of a procedure or entry
component_in_a_function : named_entity (components_scope inside_object true (record { name = codes "LEVEL"; subtype = small } ∷ [])) (identifier 0
    (codes "LEVEL")) ≡ Some (Object role.ReadOnlyComponent small)
component_in_a_function = refl

component_in_a_procedure : named_entity (components_scope inside_object false (record { name = codes "LEVEL"; subtype = small } ∷ [])) (identifier 0
    (codes "LEVEL")) ≡ Some (Object role.Component small)
component_in_a_procedure = refl

nothing_is_left : with_operations (take next inside_object) 31 operations ≡ package_scope
nothing_is_left = refl
