-- The rules of simple statements (RM 5.1; docs/LANGUAGE.md, "Rules of statements"): assignments, calls, `exit`, `return`, `raise`, delays.
use Rattle.std.specs.Prelude.{ℕ, Bool, true, false, not, [], ◌++◌, Option, Some, None, codes}
use Rattle.base.specs.declared.faults.TheConstants.{NAME_NOT_VISIBLE, NO_MEANING, MISPLACED_STATEMENT}
use Rattle.ada_tree.specs.declared.expression.Identifier.{Identifier}
use Rattle.ada_tree.specs.ExpressionTree.{ExprTree, NameTree}
use Rattle.ada_tree.specs.StatementTree.{StmtTree, Assignment, Call, Exit, Return, Raise, Delay, DelayUntil}
use Rattle.types.specs.Entities.{Entity, Exception, Doubtful}
use Rattle.types.specs.Scopes.{Scope, integer_type, number_of}
use Rattle.types.specs.Standings.{standing_of}
use Rattle.types.specs.Statics.{start_of}
use Rattle.expr_rules.specs.declared.own.Own.{Own}
use Rattle.expr_rules.specs.declared.own.Own.TheVariants.{Unknown, Typed}
use Rattle.expr_rules.specs.declared.own.Wanted.{Wanted}
use Rattle.expr_rules.specs.declared.own.Wanted.TheVariants.{Anything, OfType}
use Rattle.expr_rules.specs.Faults.{Faults, rule}
use Rattle.expr_rules.specs.Typing.{boolean_wanted, is_time, own_of, own_of_standing, typed_wanted}
use Rattle.expr_rules.specs.ExpressionRules.{call_faults, faults_of, target_faults}
use Rattle.type_rules.specs.SubtypeNames.{named_entity}
use Rattle.stmt_rules.specs.declared.around.Around.{Around}
use Rattle.stmt_rules.specs.declared.around.BodyKind.{BodyKind}
use Rattle.stmt_rules.specs.declared.around.BodyKind.TheVariants as kind

-- ---- conditions are Boolean (RM 5.3, 5.5, 5.7)

abbrev pub condition_faults : Scope → ExprTree → Faults
condition_faults s e = faults_of s boolean_wanted e

abbrev pub optional_condition_faults : Scope → Option ExprTree → Faults
optional_condition_faults s (Some e) = condition_faults s e
optional_condition_faults s None = []

-- ---- assignments (RM 5.2): the target is a variable, and the value of its type

abbrev pub assigned_wanted : Scope → NameTree → Wanted
assigned_wanted s target = typed_wanted (own_of_standing (standing_of s target.first target.selectors))

abbrev pub assignment_faults : Scope → NameTree → ExprTree → Faults
assignment_faults s target value = target_faults s target.first target.selectors ++ faults_of s (assigned_wanted s target) value

-- ---- leaving loops and bodies

-- 19: an `exit` outside all loops of the body (RM 5.7)
abbrev pub exit_rule : Around → (place : ℕ) → Faults
exit_rule a place = rule MISPLACED_STATEMENT place (not a.in_loop)

-- `return;` ends procedures and the bodies of entries (RM 6.5)
abbrev pub has_plain_return : BodyKind → Bool
has_plain_return kind.Procedure = true
has_plain_return kind.Entry = true
has_plain_return k = false

-- `return` with a value ends functions
abbrev pub is_function : BodyKind → Bool
is_function (kind.Function result) = true
is_function k = false

-- the value is of the type of the result
abbrev pub result_wanted : BodyKind → Wanted
result_wanted (kind.Function (Some n)) = OfType n
result_wanted k = Anything

-- 19: `return;` in a function or a task, `return` with a value outside functions
abbrev pub return_faults : Scope → Around → (place : ℕ) → Option ExprTree → Faults
return_faults s a place None = rule MISPLACED_STATEMENT place (not (has_plain_return a.kind))
return_faults s a place (Some e) = rule MISPLACED_STATEMENT place (not (is_function a.kind)) ++ faults_of s (result_wanted a.kind) e

-- ---- raising (RM 11.3)

-- 10: not visible; 12: no exception; nothing is said of what is doubtful
abbrev pub raised_rule : (place : ℕ) → Option Entity → Faults
raised_rule place None = rule NAME_NOT_VISIBLE place true
raised_rule place (Some Exception) = []
raised_rule place (Some Doubtful) = []
raised_rule place (Some e) = rule NO_MEANING place true

-- 19: `raise;` outside all handlers of the body
abbrev pub raise_faults : Scope → Around → (place : ℕ) → Option Identifier → Faults
raise_faults s a place (Some name) = raised_rule name.place (named_entity s name)
raise_faults s a place None = rule MISPLACED_STATEMENT place (not a.in_handler)

-- ---- delays (RM 9.6)

-- Time, where Ada.Real_Time is visible (RM D.8)
abbrev pub time_at : Scope → Option ℕ → Wanted
time_at s (Some n) = elim (is_time s (Typed n)) [ true ↦ OfType n | false ↦ Anything ]
time_at s None = Anything

abbrev pub time_wanted : Scope → Wanted
time_wanted s = time_at s (number_of s (codes "TIME"))

-- 12: no Time; nothing is said of a type that is not known
abbrev pub time_rule : Scope → Own → (place : ℕ) → Faults
time_rule s Unknown place = []
time_rule s own place = rule NO_MEANING place (not (is_time s own))

abbrev pub delay_until_faults : Scope → ExprTree → Faults
delay_until_faults s e = faults_of s (time_wanted s) e ++ time_rule s (own_of s e) (start_of e)

-- a relative delay is refused for itself, behind all other rules; its expression is an Integer, since no other type of this language could be meant
abbrev pub delay_faults : Scope → ExprTree → Faults
delay_faults s e = faults_of s (OfType integer_type) e

-- ---- all of them; what stands in `abort`, `requeue`, `accept` and `select`, which are refused for themselves, is not looked up

abbrev pub simple_faults : Scope → Around → StmtTree → Faults
simple_faults s a (Assignment target value) = assignment_faults s target value
simple_faults s a (Call name) = call_faults s name.first name.selectors
simple_faults s a (Exit place condition) = exit_rule a place ++ optional_condition_faults s condition
simple_faults s a (Return place value) = return_faults s a place value
simple_faults s a (Raise place name) = raise_faults s a place name
simple_faults s a (Delay place e) = delay_faults s e
simple_faults s a (DelayUntil place e) = delay_until_faults s e
simple_faults s a other = []
