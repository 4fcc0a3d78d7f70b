-- What types, subtypes, procedures and functions declare, worked by computation. Places are those in the text above each.
use Rattle.std.proofs.Common.{◌≡◌, [], ◌∷◌, Option, Some, None, refl}
use Rattle.std.specs.Prelude.{pos, negsuc, codes}
use Rattle.ada_tree.specs.declared.expression.UnaryOperator.TheVariants as unary
use Rattle.ada_tree.specs.declared.declaration.Mode.TheVariants as mode
use Rattle.ada_tree.specs.StatementTree.{SubprogramTree}
use Rattle.ada_tree.specs.ProgramTree.{Integer, Array, Record, Subtype as SubtypeOf, OfRange, OfSubtype as OfName}
use Rattle.types.specs.Entities.{Integers, Arrays, Records, OfType, OfSubtype, Subprogram, Doubtful, Entity}
use Rattle.types.specs.Scopes.{base_range_of, entity_at}
use Rattle.type_rules.specs.ProfileRules.{subprogram_scope}
use Rattle.type_rules.proofs.Sample.{identifier, num, one, name, range_of, subtype_of, small, idx, vec, package_scope, next, declared_type}

-- ---- types

-- `type Z is range -5 .. 12;`
declares_an_integer_type : declared_type (record {
  name = (identifier 5 (codes "Z"));
  definition = Integer (range_of (one unary.Minus 16 (num 17 5))
      (num 22 12));
}) ≡ Some (OfType Integers (record { type_number = next; first = negsuc 4; last = pos 12 }))
declares_an_integer_type = refl

-- `type Z is array (Idx) of Small;`
declares_an_array : declared_type (record {
  name = (identifier 5 (codes "Z"));
  definition = Array (OfName (identifier 17 (codes "IDX"))) (identifier
      25 (codes "SMALL"));
}) ≡ Some (OfType (Arrays idx 3 small) (subtype_of next 0 0))
declares_an_array = refl

-- `type Z is array (2 .. 5) of Vec;`
declares_an_array_of_integer_index : declared_type (record {
  name = (identifier 5 (codes "Z"));
  definition = Array (OfRange (range_of (num 17 2) (num
      22 5))) (identifier 28 (codes "VEC"));
}) ≡ Some (OfType (Arrays (subtype_of 0 2 5) 4 vec) (subtype_of next 0 0))
declares_an_array_of_integer_index = refl

-- `type Z is record A : Small; end record;`
declares_a_record : declared_type (record {
  name = (identifier 5 (codes "Z"));
  definition = Record (record {
    name = (identifier 17 (codes "A"));
    subtype = (identifier 21 (codes "SMALL"));
  } ∷ []);
}) ≡ Some (OfType (Records (record { name = codes "A"; subtype = small } ∷ [])) (subtype_of next
    0 0))
declares_a_record = refl

-- `subtype Z is Small range 1 .. 3;`
declares_a_subtype : declared_type (record {
  name = (identifier 8 (codes "Z"));
  definition = SubtypeOf (identifier 13 (codes "SMALL")) (Some (range_of
      (num 25 1) (num 30 3)));
}) ≡ Some (OfSubtype (subtype_of 17 1 3))
declares_a_subtype = refl

-- `type Z is array (0 .. 1024) of Integer;`
a_long_array_is_doubtful : declared_type (record {
  name = (identifier 5 (codes "Z"));
  definition = Array (OfRange (range_of (num 17 0) (num 22 1024)))
      (identifier 31 (codes "INTEGER"));
}) ≡ Some Doubtful
a_long_array_is_doubtful = refl

-- `type Z is range 2 .. 1;`
a_null_range_is_doubtful : declared_type (record { name = (identifier 5 (codes "Z")); definition = Integer (range_of (num 16 2) (num 21 1)) }) ≡ Some Doubtful
a_null_range_is_doubtful = refl

-- ---- procedures and functions

abbrev declared_subprogram : SubprogramTree → Option Entity
declared_subprogram d = entity_at (subprogram_scope package_scope d) next

-- `function Z (A : Small) return Time;`
declares_a_function : declared_subprogram (record {
  place = 0;
  name = (identifier 9 (codes "Z"));
  formals = record {
    name = (identifier 12 (codes
        "A"));
    mode = mode.In;
    subtype = (identifier 16 (codes "SMALL"));
  } ∷ [];
  result = Some (identifier 30 (codes "TIME"));
}) ≡ Some (Subprogram
    (record { formals = record { mode = mode.In; subtype = small } ∷ []; result = Some (base_range_of 10) }))
declares_a_function = refl

-- `procedure Z (A : out Vec);`
declares_a_procedure : declared_subprogram (record {
  place = 0;
  name = (identifier 10 (codes "Z"));
  formals = record {
    name = (identifier 13 (codes
        "A"));
    mode = mode.Out;
    subtype = (identifier 21 (codes "VEC"));
  } ∷ [];
  result = None;
}) ≡ Some (Subprogram (record {
  formals = record {
    mode =
        mode.Out;
    subtype = vec;
  } ∷ [];
  result = None;
}))
declares_a_procedure = refl

-- `procedure Z (A : Nobody);`
doubtful_formal : declared_subprogram (record {
  place = 0;
  name = (identifier 10 (codes "Z"));
  formals = record {
    name = (identifier 13 (codes "A"));
    mode = mode.In;
    subtype = (identifier 17 (codes "NOBODY"));
  } ∷ [];
  result = None;
}) ≡ Some Doubtful
doubtful_formal = refl

-- `function Z return X;`
doubtful_result : declared_subprogram (record {
  place = 0;
  name = (identifier 9 (codes "Z"));
  formals = [];
  result = Some (identifier 18 (codes "X"));
}) ≡ Some Doubtful
doubtful_result = refl
