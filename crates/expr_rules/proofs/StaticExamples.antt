-- Calls and targets that no text of checks/rules.txt can show, with doubtful names or components in a function of their object, and values of static expressions. Places are those in the text above each.
use Rattle.std.proofs.Common.{◌≡◌, [], ◌∷◌, Some, None, refl}
use Rattle.std.specs.Prelude.{pos, codes}
use Rattle.ada_tree.specs.declared.expression.BinaryOperator.TheVariants as binary
use Rattle.ada_tree.specs.ExpressionTree.{Number}
use Rattle.types.specs.Scopes.{integer_type}
use Rattle.types.specs.Values as value
use Rattle.expr_rules.specs.declared.own.Wanted.TheVariants.{OfType}
use Rattle.expr_rules.specs.Faults.{least}
use Rattle.expr_rules.specs.StaticRules.{static_faults, static_scalar}
use Rattle.expr_rules.proofs.Sample.{num, two, name, of, at, broken, call_of, target_of, small, package_scope, body_scope}

-- ---- calls that are statements; 13: actuals that must be variables

-- `W (1);`
doubtful_call : call_of package_scope (name 0 (codes "W") (at (of (num 3 1) ∷ []) ∷ [])) ≡ None
doubtful_call = refl

-- `Proc (Level, X);`
read_only_component_for_out : call_of body_scope (name 0 (codes "PROC") (at (of (name 6 (codes "LEVEL") []) ∷ of (name 13 (codes "X") []) ∷ []) ∷ []))
    ≡ broken 13 6
read_only_component_for_out = refl

-- ---- targets of assignments

-- `Level := ..`
target_read_only : target_of body_scope (name 0 (codes "LEVEL") []) ≡ broken 13 0
target_read_only = refl

-- ---- 14 and 15: expressions that must be static

-- `W + 1`
doubtful_static : least (static_faults package_scope (OfType integer_type) None (two binary.Add (name 0 (codes "W") []) (num 4 1))) ≡ None
doubtful_static = refl

-- `Seven + 1` has a value, `Seven + 3` none in its subtype, `W + 1` none
static_value_of_a_sum : static_scalar package_scope (OfType 17) (Some small) (two binary.Add (name 0 (codes "SEVEN") []) (num 8 1)) ≡ Some
    (value.Number (pos 8))
static_value_of_a_sum = refl

no_static_value : static_scalar package_scope (OfType 17) (Some small) (two binary.Add (name 0 (codes "SEVEN") []) (num 8 3)) ≡ None
no_static_value = refl

doubtful_has_no_static_value : static_scalar package_scope (OfType integer_type) None (two binary.Add (name 0 (codes "W") []) (num 4 1)) ≡ None
doubtful_has_no_static_value = refl
