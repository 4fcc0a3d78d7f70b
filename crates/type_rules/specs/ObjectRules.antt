-- Objects (RM 3.3.1; docs/LANGUAGE.md, "Rules of declarations"): local ones, those of task bodies, those of the package.
use Rattle.std.specs.Prelude.{ℕ, ℤ, pos, Bool, true, false, [], ◌++◌, Option, Some, None}
use Rattle.base.specs.declared.faults.TheConstants.{NOT_STATIC, WRONG_STATIC_VALUE}
use Rattle.ada_tree.specs.declared.expression.Identifier.{Identifier}
use Rattle.ada_tree.specs.ExpressionTree.{ExprTree, Named, SelectorTrees, NoSelectors, MoreSelectors, Arguments, ArgumentTrees, MoreArguments, NoArguments, bare_name}
use Rattle.ada_tree.specs.ExpressionTree as tree
use Rattle.ada_tree.specs.StatementTree.{ObjectTree}
use Rattle.types.specs.declared.entity.Subtype.{Subtype}
use Rattle.types.specs.declared.entity.Value.{Value as Scalar}
use Rattle.types.specs.declared.entity.Value.TheVariants as scalar
use Rattle.types.specs.declared.entity.Role.{Role}
use Rattle.types.specs.declared.entity.Role.TheVariants as role
use Rattle.types.specs.declared.entity.PredefinedOperation.{PredefinedOperation}
use Rattle.types.specs.declared.entity.PredefinedOperation.TheVariants as predefined
use Rattle.types.specs.Entities.{Entity, Object, Constant, Predefined, Doubtful}
use Rattle.types.specs.Scopes.{Scope, integer_type, with_name}
use Rattle.types.specs.Values.{Value, Number, Truth}
use Rattle.types.specs.Evaluations.{Val, Gives, Raises, Meaningless, computed}
use Rattle.base.specs.Arithmetic.{Checked}
use Rattle.types.specs.Operators.{milliseconds_value, microseconds_value}
use Rattle.types.specs.Statics.{static_form, static_value, start_of}
use Rattle.expr_rules.specs.declared.own.Wanted.TheVariants as wanted
use Rattle.expr_rules.specs.Faults.{Faults, rule}
use Rattle.expr_rules.specs.ExpressionRules.{faults_of}
use Rattle.expr_rules.specs.StaticRules.{form_rule, if_unbroken, static_faults, static_scalar, value_rule}
use Rattle.type_rules.specs.SubtypeNames.{declared_twice, named_entity, subtype_of, subtype_faults, wanted_by}

-- ---- initial values that must be static

-- Beside static expressions these may be `Clock`, and `Milliseconds (N)` or `Microseconds (N)` with N static (RM D.8).
abbrev pub is_clock_entity : Option Entity → Bool
is_clock_entity (Some (Predefined predefined.Clock p)) = true
is_clock_entity e = false

abbrev pub is_clock_name : Scope → Option Identifier → Bool
is_clock_name s (Some name) = is_clock_entity (named_entity s name)
is_clock_name s None = false

abbrev pub is_clock : Scope → ExprTree → Bool
is_clock s e = is_clock_name s (bare_name e)

abbrev pub single_expression : ArgumentTrees → Option ExprTree
single_expression (MoreArguments (tree.Value e) NoArguments) = Some e
single_expression a = None

abbrev pub single_argument : SelectorTrees → Option ExprTree
single_argument (MoreSelectors (Arguments a) NoSelectors) = single_expression a
single_argument _ = None

abbrev pub span_by : Option Entity → Option ExprTree → Option (PredefinedOperation × ExprTree)
span_by (Some (Predefined predefined.Milliseconds p)) (Some e) = Some (predefined.Milliseconds, e)
span_by (Some (Predefined predefined.Microseconds p)) (Some e) = Some (predefined.Microseconds, e)
span_by d e = None

-- the operation and its argument
abbrev pub span_call : Scope → ExprTree → Option (PredefinedOperation × ExprTree)
span_call s (Named first selectors) = span_by (named_entity s first) (single_argument selectors)
span_call s e = None

-- the span of a static argument, which may overflow
abbrev pub span_of : PredefinedOperation → ℤ → Val Value
span_of predefined.Milliseconds z = milliseconds_value z
span_of operation z = microseconds_value z

abbrev pub span_of_scalar : PredefinedOperation → Option Value → Val Value
span_of_scalar operation (Some (Number z)) = span_of operation z
span_of_scalar operation v = Meaningless

abbrev pub span_value : Scope → PredefinedOperation → ExprTree → Val Value
span_value s operation e = span_of_scalar operation (static_scalar s (wanted.OfType integer_type) None e)

-- 15: a span that overflows
abbrev pub span_rule : (place : ℕ) → Val Value → Faults
span_rule place (Raises x) = rule WRONG_STATIC_VALUE place true
span_rule place v = []

-- 15: the evaluation of the argument raises
abbrev pub computed_faults : Scope → (place : ℕ) → PredefinedOperation → (argument : ExprTree) → Faults
computed_faults s place operation argument =
    value_rule place None (static_form s argument) (static_value s argument) ++ span_rule place (span_value s operation argument)

abbrev pub span_faults : Scope → Option Subtype → ExprTree → PredefinedOperation → (argument : ExprTree) → Faults
span_faults s t e operation argument =
    faults_of s (wanted_by t) e ++ form_rule (start_of e) (static_form s argument)
    ++ if_unbroken (faults_of s (wanted_by t) e) (computed_faults s (start_of e) operation argument)

abbrev pub called_faults : Scope → Option Subtype → ExprTree → Option (PredefinedOperation × ExprTree) → Faults
called_faults s t e (Some x) = span_faults s t e x.0 x.1
called_faults s t e None = static_faults s (wanted_by t) t e

-- what is broken in an initial value that must be static
abbrev pub fixed_faults : Scope → Option Subtype → ExprTree → Faults
fixed_faults s t e = elim (is_clock s e) [ true ↦ faults_of s (wanted_by t) e | false ↦ called_faults s t e (span_call s e) ]

-- a span as it is computed
abbrev pub counted : Option Checked → Val Value
counted (Some outcome) = computed outcome
counted None = Meaningless

abbrev pub scalar_of : Val Value → Option Scalar
scalar_of (Gives (Number z)) = Some (scalar.Number z)
scalar_of (Gives (Truth b)) = Some (scalar.Truth b)
scalar_of v = None

abbrev pub known_scalar : Option Value → Option Scalar
known_scalar (Some (Number z)) = Some (scalar.Number z)
known_scalar (Some (Truth b)) = Some (scalar.Truth b)
known_scalar v = None

abbrev pub called_scalar : Scope → Option Subtype → ExprTree → Option (PredefinedOperation × ExprTree) → Option Scalar
called_scalar s t e (Some x) = scalar_of (span_value s x.0 x.1)
called_scalar s t e None = known_scalar (static_scalar s (wanted_by t) t e)

abbrev pub fixed_value : Scope → Option Subtype → ExprTree → Option Scalar
fixed_value s t e = elim (is_clock s e) [ true ↦ Some (scalar.Number (pos 0)) | false ↦ called_scalar s t e (span_call s e) ]

abbrev pub scalar_if_unbroken : Faults → Option Scalar → Option Scalar
scalar_if_unbroken [] v = v
scalar_if_unbroken faults v = None

-- its value, where nothing is broken; the time at the start is 0
abbrev pub fixed_scalar : Scope → Option Subtype → ExprTree → Option Scalar
fixed_scalar s t e = scalar_if_unbroken (fixed_faults s t e) (fixed_value s t e)

-- 14, at the name: a constant without initial value
abbrev pub local_initial_faults : Scope → ObjectTree → Faults
local_initial_faults s d = elim d.value [ Some e ↦ faults_of s (wanted_by (subtype_of s d.subtype)) e | None ↦ rule NOT_STATIC d.name.place d.constant ]

abbrev pub fixed_initial_faults : Scope → ObjectTree → Faults
fixed_initial_faults s d = elim d.value [ Some e ↦ fixed_faults s (subtype_of s d.subtype) e | None ↦ rule NOT_STATIC d.name.place d.constant ]

-- ---- objects of subprograms, entries and blocks, which take any initial value of their type, and of task bodies, whose initial values are static

abbrev pub local_object_faults : Scope → ObjectTree → Faults
local_object_faults s d = subtype_faults s d.subtype ++ local_initial_faults s d ++ declared_twice s d.name

abbrev pub fixed_object_faults : Scope → ObjectTree → Faults
fixed_object_faults s d = subtype_faults s d.subtype ++ fixed_initial_faults s d ++ declared_twice s d.name

abbrev pub role_of : Bool → Role
role_of true = role.Constant
role_of false = role.Variable

abbrev pub object_entity : Role → Option Subtype → Entity
object_entity r (Some t) = Object r t
object_entity r None = Doubtful

-- the name is visible from the end of the declaration
abbrev pub local_object_scope : Scope → ObjectTree → Scope
local_object_scope s d = with_name s d.name.name (object_entity (role_of d.constant) (subtype_of s d.subtype))

-- ---- objects of the package, whose initial values are static; a constant has its value

abbrev pub constant_entity : Option Subtype → Option Scalar → Entity
constant_entity (Some t) (Some v) = Constant t (Some v)
constant_entity t v = Doubtful

abbrev pub initial_scalar : Scope → Option Subtype → Option ExprTree → Option Scalar
initial_scalar s t (Some e) = fixed_scalar s t e
initial_scalar s t None = None

abbrev pub package_object_entity : Scope → ObjectTree → Entity
package_object_entity s d =
    elim d.constant [
      | true ↦ constant_entity (subtype_of s d.subtype) (initial_scalar s (subtype_of s d.subtype) d.value)
      | false ↦ object_entity role.Variable (subtype_of s d.subtype)
    ]

abbrev pub package_object_scope : Scope → ObjectTree → Scope
package_object_scope s d = with_name s d.name.name (package_object_entity s d)
