-- What protected objects declare, worked by computation. Places are those in the text above each.
use Rattle.std.proofs.Common.{◌≡◌, [], ◌∷◌, Option, Some, None, true, false, refl}
use Rattle.std.specs.Prelude.{codes}
use Rattle.ada_tree.specs.declared.expression.BinaryOperator.TheVariants as binary
use Rattle.ada_tree.specs.declared.declaration.Mode.TheVariants as mode
use Rattle.ada_tree.specs.StatementTree.{ProtectedTree, OfSubprogram, OfEntry}
use Rattle.types.specs.Entities.{Protected, Doubtful, Entity}
use Rattle.types.specs.Scopes.{entity_at}
use Rattle.declaration_rules.specs.ProtectedRules.{protected_scope}
use Rattle.type_rules.proofs.Sample.{identifier, num, two, name, small, vec, package_scope, next}

abbrev declared_object : ProtectedTree → Option Entity
declared_object d = entity_at (protected_scope package_scope d) next

-- `protected Z with Priority => 3 + 4 is procedure A1 (C : Small); function A2 return Small; entry A3 (C : out Vec); private A4 : Small := Seven; end Z;`
declares_an_object : declared_object (record {
  place = 0;
  name = (identifier 10 (codes "Z"));
  aspect = Some (record {
    place = 12;
    name = (identifier
        17 (codes "PRIORITY"));
    value = two binary.Add (num 29 3) (num 33 4);
  });
  operations = OfSubprogram (record {
    place = 38;
    name = (identifier 48
        (codes "A1"));
    formals = record { name = (identifier 52 (codes "C")); mode = mode.In; subtype = (identifier 56 (codes "SMALL")) } ∷ [];
    result =
        None;
  }) None ∷ OfSubprogram (record { place = 64; name = (identifier 73 (codes "A2")); formals = []; result = Some (identifier 83 (codes "SMALL")) }) None ∷
      OfEntry (record {
        place = 90;
        name = (identifier 96 (codes "A3"));
        formals = record {
          name = (identifier 100 (codes "C"));
          mode = mode.Out;
          subtype = (identifier 108 (codes "VEC"));
        } ∷ [];
      }) ∷ [];
  components = record {
    name = (identifier 122 (codes "A4"));
    subtype = (identifier 127
        (codes "SMALL"));
    value = Some (name 136 (codes "SEVEN") []);
  } ∷ [];
  end_name = (identifier 147 (codes "Z"));
}) ≡ Some (Protected (record {
  number
      = 1;
  ceiling = 7;
  operations = record {
    name = codes "A1";
    is_entry = false;
    profile = record {
      formals = record {
        mode = mode.In;
        subtype = small;
      } ∷ [];
      result = None;
    };
  } ∷ record { name = codes "A2"; is_entry = false; profile = record { formals = []; result = Some small } } ∷ record {
    name
        = codes "A3";
    is_entry = true;
    profile = record { formals = record { mode = mode.Out; subtype = vec } ∷ []; result = None };
  } ∷ [];
  components =
      record { name = codes "A4"; subtype = small } ∷ [];
  barrier = None;
}))
declares_an_object = refl

-- `protected Z is end Z;`
object_without_an_aspect : declared_object (record {
  place = 0;
  name = (identifier 10 (codes "Z"));
  aspect = None;
  operations = [];
  components = [];
  end_name = (identifier 19 (codes "Z"));
}) ≡ Some (Protected (record {
  number = 1;
  ceiling = 30;
  operations = [];
  components = [];
  barrier = None;
}))
object_without_an_aspect = refl

-- `protected Z with Priority => 31 is end Z;`
highest_ceiling : declared_object (record {
  place = 0;
  name = (identifier 10 (codes "Z"));
  aspect = Some (record {
    place = 12;
    name =
        (identifier 17 (codes "PRIORITY"));
    value = num 29 31;
  });
  operations = [];
  components = [];
  end_name = (identifier 39 (codes "Z"));
}) ≡ Some
    (Protected (record { number = 1; ceiling = 31; operations = []; components = []; barrier = None }))
highest_ceiling = refl

-- `protected Z with Priority => 32 is end Z;`
ceiling_above_the_highest : declared_object (record {
  place = 0;
  name = (identifier 10 (codes "Z"));
  aspect = Some (record {
    place = 12;
    name =
        (identifier 17 (codes "PRIORITY"));
    value = num 29 32;
  });
  operations = [];
  components = [];
  end_name = (identifier 39 (codes "Z"));
}) ≡ Some
    (Protected (record { number = 1; ceiling = 30; operations = []; components = []; barrier = None }))
ceiling_above_the_highest = refl

-- `protected Z with Priority => 0 is end Z;`
lowest_ceiling : declared_object (record {
  place = 0;
  name = (identifier 10 (codes "Z"));
  aspect = Some (record {
    place = 12;
    name = (identifier 17
        (codes "PRIORITY"));
    value = num 29 0;
  });
  operations = [];
  components = [];
  end_name = (identifier 38 (codes "Z"));
}) ≡ Some (Protected (record {
  number = 1;
  ceiling = 0;
  operations = [];
  components = [];
  barrier = None;
}))
lowest_ceiling = refl

-- `protected Z is entry A1 (C : Nobody); end Z;`
object_of_a_doubtful_operation : declared_object (record {
  place = 0;
  name = (identifier 10 (codes "Z"));
  aspect = None;
  operations = OfEntry (record {
    place = 15;
    name = (identifier 21 (codes "A1"));
    formals = record {
      name = (identifier 25 (codes "C"));
      mode = mode.In;
      subtype = (identifier 29
          (codes "NOBODY"));
    } ∷ [];
  }) ∷ [];
  components = [];
  end_name = (identifier 42 (codes "Z"));
}) ≡ Some Doubtful
object_of_a_doubtful_operation = refl

-- `protected Z is private A4 : Nobody; end Z;`
object_of_a_doubtful_component : declared_object (record {
  place = 0;
  name = (identifier 10 (codes "Z"));
  aspect = None;
  operations = [];
  components =
      record { name = (identifier 23 (codes "A4")); subtype = (identifier 28 (codes "NOBODY")); value = None } ∷ [];
  end_name = (identifier 40 (codes
      "Z"));
}) ≡ Some Doubtful
object_of_a_doubtful_component = refl
