-- What is visible in bodies and loops (RM 6.1, 5.5, 8.2, 9.5.1; docs/LANGUAGE.md, "Rules of declarations"): formal parameters, loop parameters, the operations
-- and components of
-- a protected object.
use Rattle.std.specs.Prelude.{ℕ, Bool, true, false, List, [], ◌∷◌, ◌++◌, Option, Some, None, option_map}
use Rattle.ada_tree.specs.declared.expression.Identifier.{Identifier}
use Rattle.ada_tree.specs.declared.declaration.Formal.{Formal}
use Rattle.ada_tree.specs.declared.declaration.Mode.{Mode}
use Rattle.ada_tree.specs.declared.declaration.Mode.TheVariants as mode
use Rattle.ada_tree.specs.StatementTree.{RangeTree}
use Rattle.types.specs.declared.entity.RecordComponent.{RecordComponent}
use Rattle.types.specs.declared.entity.Subtype.{Subtype}
use Rattle.types.specs.Bounds.{bounds_of}
use Rattle.types.specs.declared.entity.Role.{Role}
use Rattle.types.specs.declared.entity.Role.TheVariants as role
use Rattle.types.specs.Entities.{Operation, Entity, Object, Subprogram, Entry, Doubtful}
use Rattle.types.specs.Scopes.{Scope, form_at, integer_type, operations_or, protected_at, with_name, with_operations}
use Rattle.types.specs.Statics.{start_of}
use Rattle.expr_rules.specs.declared.own.Own.{Own}
use Rattle.expr_rules.specs.declared.own.Own.TheVariants.{Unknown, Universal, Typed}
use Rattle.expr_rules.specs.declared.own.Wanted.TheVariants as wanted
use Rattle.expr_rules.specs.Faults.{Faults}
use Rattle.expr_rules.specs.Typing.{is_integers, own_of}
use Rattle.expr_rules.specs.NameRules.{mismatch}
use Rattle.expr_rules.specs.ExpressionRules.{faults_of}
use Rattle.type_rules.specs.ObjectRules.{object_entity}
use Rattle.type_rules.specs.SubtypeNames.{declared_twice, subtype_of}

-- ---- formal parameters in their body; since none is a subtype, what one names is the same before the first of them and behind it

abbrev pub formal_role : Mode → Role
formal_role mode.In = role.In
formal_role mode.Out = role.Out
formal_role mode.InOut = role.InOut

abbrev pub formal_scope : Scope → Formal → Scope
formal_scope s f = with_name s f.name.name (object_entity (formal_role f.mode) (subtype_of s f.subtype))

abbrev pub formals_scope : Scope → List Formal → Scope
formals_scope s [] = s
formals_scope s (f ∷ fs) = formals_scope (formal_scope s f) fs

-- ---- loop parameters

-- the type of the bounds: that of the first one which has a type by itself; Integer where both fit each integer type
abbrev pub bounds_type : Own → Own → Option ℕ
bounds_type (Typed n) last = Some n
bounds_type Universal (Typed n) = Some n
bounds_type Universal Universal = Some integer_type
bounds_type Universal Unknown = None
bounds_type Unknown (Typed n) = Some n
bounds_type Unknown last = None

abbrev pub if_integers : Scope → Option ℕ → Option ℕ
if_integers s (Some n) = elim (is_integers (form_at s n)) [ true ↦ Some n | false ↦ None ]
if_integers s None = None

abbrev pub loop_type : Scope → RangeTree → Option ℕ
loop_type s r = if_integers s (bounds_type (own_of s r.first) (own_of s r.last))

-- 12, at the second bound: it is of another type than the first
abbrev pub last_rule : Scope → Option ℕ → Own → (place : ℕ) → Faults
last_rule s (Some n) own place = mismatch s (wanted.OfType n) own place
last_rule s None own place = []

-- the bounds need not be static, and the range may be null; the parameter is not visible in them
abbrev pub loop_faults : Scope → Identifier → RangeTree → Faults
loop_faults s parameter r =
    faults_of s wanted.AnyInteger r.first ++ faults_of s wanted.AnyInteger r.last ++ last_rule s (loop_type s r) (own_of s r.last) (start_of r.last)
    ++ declared_twice s parameter

-- the parameter's subtype: from the least number that the first bound may have to the greatest one that the last bound may have
abbrev pub turns_subtype : Scope → RangeTree → (type_number : ℕ) → Subtype
turns_subtype s r type_number = record { type_number = type_number; first = (bounds_of s r.first).0; last = (bounds_of s r.last).1 }

abbrev pub loop_subtype : Scope → RangeTree → Option Subtype
loop_subtype s r = option_map (turns_subtype s r) (loop_type s r)

abbrev pub parameter_entity : Option Subtype → Entity
parameter_entity (Some t) = Object role.LoopParameter t
parameter_entity None = Doubtful

abbrev pub loop_scope : Scope → Identifier → RangeTree → Scope
loop_scope s parameter r = with_name s parameter.name (parameter_entity (loop_subtype s r))

-- ---- the body of a protected object: its operations are visible, and none behind its own name; its components, in the bodies of functions as constants

abbrev pub operation_entity : Operation → Entity
operation_entity o = elim o.is_entry [ true ↦ Entry o.profile | false ↦ Subprogram o.profile ]

abbrev pub operations_scope : Scope → List Operation → Scope
operations_scope s [] = s
operations_scope s (o ∷ os) = operations_scope (with_name s o.name (operation_entity o)) os

abbrev pub object_body_scope : Scope → (number : ℕ) → Scope
object_body_scope s number = operations_scope (with_operations s number []) (operations_or (protected_at s number) [])

abbrev pub component_role : (is_function : Bool) → Role
component_role true = role.ReadOnlyComponent
component_role false = role.Component

-- the components in front of the body of an operation
abbrev pub components_scope : Scope → (is_function : Bool) → List RecordComponent → Scope
components_scope s is_function [] = s
components_scope s is_function (c ∷ cs) = components_scope (with_name s c.name (Object (component_role is_function) c.subtype)) is_function cs
