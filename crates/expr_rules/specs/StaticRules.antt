-- Where an expression must be static (RM 4.9; docs/LANGUAGE.md, "Rules of expressions"): 14 and 15 beside the rules of every expression.
use Rattle.std.specs.Prelude.{ℕ, Bool, true, false, not, [], ◌++◌, Option, Some, None}
use Rattle.base.specs.declared.faults.TheConstants.{NOT_STATIC, WRONG_STATIC_VALUE}
use Rattle.ada_tree.specs.ExpressionTree.{ExprTree}
use Rattle.types.specs.declared.entity.Subtype.{Subtype}
use Rattle.types.specs.declared.statics.StaticForm.{StaticForm}
use Rattle.types.specs.declared.statics.StaticForm.TheVariants.{Static, NotStatic}
use Rattle.types.specs.Scopes.{Scope}
use Rattle.types.specs.Values.{Value, fits}
use Rattle.types.specs.Evaluations.{Val, Gives, Raises}
use Rattle.types.specs.Statics.{static_form, static_value, start_of}
use Rattle.expr_rules.specs.declared.own.Wanted.{Wanted}
use Rattle.expr_rules.specs.Faults.{Faults, rule}
use Rattle.expr_rules.specs.ExpressionRules.{faults_of}

-- 14: not static by its form; nothing is said where a name in it is doubtful
abbrev pub form_rule : (place : ℕ) → StaticForm → Faults
form_rule place NotStatic = rule NOT_STATIC place true
form_rule place form = []

abbrev pub is_outside : Option Subtype → Value → Bool
is_outside (Some t) v = not (fits t v)
is_outside None v = false

-- 15: its evaluation raises, or the value is outside the subtype in which it must lie
abbrev pub value_rule : (place : ℕ) → Option Subtype → StaticForm → Val Value → Faults
value_rule place within Static (Gives v) = rule WRONG_STATIC_VALUE place (is_outside within v)
value_rule place within Static (Raises x) = rule WRONG_STATIC_VALUE place true
value_rule place within form v = []

-- what is asked only where nothing is broken
abbrev pub if_unbroken : Faults → Faults → Faults
if_unbroken [] later = later
if_unbroken faults later = []

-- what is broken in an expression that must be static: 14 also beside other faults, 15 only where nothing else is broken in it
abbrev pub static_faults : Scope → Wanted → Option Subtype → ExprTree → Faults
static_faults s wanted within e =
    faults_of s wanted e ++ form_rule (start_of e) (static_form s e)
    ++ if_unbroken (faults_of s wanted e) (value_rule (start_of e) within (static_form s e) (static_value s e))

-- its value, where nothing is broken and it is known
abbrev pub scalar_if_known : StaticForm → Val Value → Option Value
scalar_if_known Static (Gives v) = Some v
scalar_if_known form v = None

abbrev pub static_result : Faults → StaticForm → Val Value → Option Value
static_result [] form v = scalar_if_known form v
static_result faults form v = None

abbrev pub static_scalar : Scope → Wanted → Option Subtype → ExprTree → Option Value
static_scalar s wanted within e = static_result (static_faults s wanted within e) (static_form s e) (static_value s e)
