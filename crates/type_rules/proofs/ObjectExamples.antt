-- What objects declare, and one of a doubtful subtype, worked by computation. Places are those in the text above each.
use Rattle.std.proofs.Common.{◌≡◌, [], ◌∷◌, Some, None, true, false, refl}
use Rattle.std.specs.Prelude.{pos, codes}
use Rattle.ada_tree.specs.declared.expression.BinaryOperator.TheVariants as binary
use Rattle.ada_tree.specs.ExpressionTree.{Number}
use Rattle.types.specs.declared.entity.Role.TheVariants as role
use Rattle.types.specs.declared.entity.Value.TheVariants as scalar
use Rattle.types.specs.Entities.{Object, Constant, Doubtful}
use Rattle.types.specs.Scopes.{base_range_of}
use Rattle.expr_rules.specs.Faults.{least}
use Rattle.type_rules.specs.ObjectRules.{local_object_faults, package_object_entity}
use Rattle.type_rules.proofs.Sample.{identifier, num, two, name, of, at, object_of, small, package_scope}

-- ---- objects of bodies and blocks

-- `Z : W := True;`
doubtful_subtype : least (local_object_faults package_scope (object_of (identifier 0 (codes "Z")) false (identifier 4 (codes "W")) (Some (name 9
    (codes "TRUE") [])))) ≡ None
doubtful_subtype = refl

-- ---- objects of the package and of task bodies: static initial values

-- `Z : constant Small := Seven + 2;` in the package
package_constant : package_object_entity package_scope (object_of (identifier 0 (codes "Z")) true (identifier 13 (codes "SMALL")) (Some (two
    binary.Add (name 22 (codes "SEVEN") []) (num 30 2)))) ≡ Constant small (Some (scalar.Number (pos 9)))
package_constant = refl

-- `Z : constant Time := Clock;` in the package
package_time_constant : package_object_entity package_scope (object_of (identifier 0 (codes "Z")) true (identifier 13 (codes "TIME")) (Some (name 21
    (codes "CLOCK") []))) ≡ Constant (base_range_of 10) (Some (scalar.Number (pos 0)))
package_time_constant = refl

-- `Z : constant Time_Span := Milliseconds (2);` in the package
package_span_constant : package_object_entity package_scope (object_of (identifier 0 (codes "Z")) true (identifier 13 (codes "TIME_SPAN")) (Some (name
    26 (codes "MILLISECONDS") (at (of (num 40 2) ∷ []) ∷ [])))) ≡ Constant (base_range_of 11) (Some (scalar.Number (pos 2000)))
package_span_constant = refl

-- `Z : Small := 3;` in the package
package_variable : package_object_entity package_scope (object_of (identifier 0 (codes "Z")) false (identifier 4 (codes "SMALL")) (Some (num 13 3))) ≡
    Object role.Variable small
package_variable = refl

-- `Z : constant Small := 10;` in the package
broken_constant_is_doubtful : package_object_entity package_scope (object_of (identifier 0 (codes "Z")) true (identifier 13 (codes "SMALL")) (Some
    (num 22 10))) ≡ Doubtful
broken_constant_is_doubtful = refl

-- `Z : Nobody;` in the package
broken_subtype_is_doubtful : package_object_entity package_scope (object_of (identifier 0 (codes "Z")) false (identifier 4 (codes "NOBODY")) None) ≡ Doubtful
broken_subtype_is_doubtful = refl
