-- Expressions that must be static and are not, or whose value is wrong (RM 3.3.1, 3.5, 4.9; docs/LANGUAGE.md, "Rules of expressions").
use Rattle.std.specs.Prelude.{ℕ, ℤ, not, [], ◌∷◌, ◌++◌, Option, Some, None, int_le, if◌then◌else◌}
use Rattle.ada_tree.specs.ExpressionTree as tree
use Rattle.ada_tree.specs.ExpressionTree.{ExprTree, Named, Parenthesized, Conditional, Unary, Binary}
use Rattle.ada_tree.specs.StatementTree.{RangeTree}
use Rattle.types.specs.declared.entity.PredefinedOperation.{PredefinedOperation}
use Rattle.types.specs.declared.entity.Subtype.{Subtype}
use Rattle.types.specs.declared.statics.StaticForm.{StaticForm}
use Rattle.types.specs.declared.statics.StaticForm.TheVariants as form
use Rattle.types.specs.Scopes.{Scope}
use Rattle.types.specs.Standings.{standing_of}
use Rattle.types.specs.Statics.{name_form, start_of, static_form, static_value}
use Rattle.types.specs.Values.{Value, Number, is_within}
use Rattle.types.specs.Evaluations as evaluation
use Rattle.types.specs.Evaluations.{Val, Gives}
use Rattle.expr_rules.specs.declared.own.Wanted.{Wanted}
use Rattle.expr_rules.specs.Faults.{Faults}
use Rattle.expr_rules.specs.ExpressionRules.{faults_of}
use Rattle.type_rules.specs.ObjectRules.{is_clock, span_call}
use Rattle.type_rules.specs.SubtypeNames.{wanted_by}
use Rattle.type_rules.specs.TypeRules.{static_whole}
use Rattle.mismatches.specs.declared.conflict.Conflict.TheVariants.{NotStatic, NullRange, Outside, Raises}
use Rattle.mismatches.specs.declared.conflict.Obstacle.{Obstacle}
use Rattle.mismatches.specs.declared.conflict.Obstacle.TheVariants as obstacle
use Rattle.mismatches.specs.Conflicts.{Mismatches, conflict_if}
use Rattle.mismatches.specs.ExpressionMismatches.{mismatches_of}

-- ---- 14: the first part that keeps an expression from being static: a name, or an if expression

abbrev pub form_obstacle : StaticForm → Obstacle → Option Obstacle
form_obstacle form.NotStatic o = Some o
form_obstacle f o = None

abbrev pub or_obstacle : Option Obstacle → Option Obstacle → Option Obstacle
or_obstacle (Some o) other = Some o
or_obstacle None other = other

abbrev pub obstacle_in : Scope → ExprTree → Option Obstacle
obstacle_in s (tree.Number z place) = None
obstacle_in s (Named first selectors) = form_obstacle (name_form (standing_of s first selectors)) (obstacle.Name first.place)
obstacle_in s (Parenthesized place e) = obstacle_in s e
obstacle_in s (Unary operator place e) = obstacle_in s e
obstacle_in s (Binary operator a b) = or_obstacle (obstacle_in s a) (obstacle_in s b)
obstacle_in s (Conditional place condition value elsifs else_value) = Some (obstacle.IfExpression place)

abbrev pub obstacle_conflicts : (place : ℕ) → Option Obstacle → Mismatches
obstacle_conflicts place (Some o) = record { place = place; conflict = NotStatic o } ∷ []
obstacle_conflicts place None = []

-- ---- 15: the evaluation raises, or the value is outside the subtype in which it must lie

abbrev pub number_conflicts : (place : ℕ) → Option Subtype → ℤ → Mismatches
number_conflicts place (Some t) z = conflict_if place (Outside z t.first t.last) (not (is_within t.first t.last z))
number_conflicts place None z = []

abbrev pub value_conflicts : (place : ℕ) → Option Subtype → StaticForm → Val Value → Mismatches
value_conflicts place within form.Static (Gives (Number z)) = number_conflicts place within z
value_conflicts place within form.Static (evaluation.Raises x) = record { place = place; conflict = Raises } ∷ []
value_conflicts place within f v = []

-- which is judged only where nothing else is broken
abbrev pub where_unbroken : Faults → Mismatches → Mismatches
where_unbroken [] ms = ms
where_unbroken faults ms = []

-- ---- an expression that must be static, of which this is expected, and whose value must lie in the subtype, if there is one

abbrev pub static_mismatches : Scope → Wanted → Option Subtype → ExprTree → Mismatches
static_mismatches s wanted within e =
    mismatches_of s wanted e ++ obstacle_conflicts (start_of e) (obstacle_in s e)
    ++ where_unbroken (faults_of s wanted e) (value_conflicts (start_of e) within (static_form s e) (static_value s e))

-- ---- ranges that are declared: static bounds, and not null

-- 15, at the first bound
abbrev pub null_conflicts : (place : ℕ) → Option ℤ → Option ℤ → Mismatches
null_conflicts place (Some first) (Some last) = conflict_if place (NullRange first last) (not (int_le first last))
null_conflicts place first last = []

abbrev pub bounds_mismatches : Scope → Wanted → Option Subtype → RangeTree → Mismatches
bounds_mismatches s wanted within r =
    static_mismatches s wanted within r.first ++ static_mismatches s wanted within r.last
    ++ null_conflicts (start_of r.first) (static_whole s wanted within r.first) (static_whole s wanted within r.last)

-- ---- initial values that must be static, or `Clock`, or `Milliseconds (N)` or `Microseconds (N)` with N static (RM D.8)

abbrev pub called_mismatches : Scope → Option Subtype → ExprTree → Option (PredefinedOperation × ExprTree) → Mismatches
called_mismatches s t e (Some x) = mismatches_of s (wanted_by t) e ++ obstacle_conflicts (start_of e) (obstacle_in s x.1)
called_mismatches s t e None = static_mismatches s (wanted_by t) t e

abbrev pub fixed_mismatches : Scope → Option Subtype → ExprTree → Mismatches
fixed_mismatches s t e = if is_clock s e then mismatches_of s (wanted_by t) e else called_mismatches s t e (span_call s e)

abbrev pub fixed_initial_mismatches : Scope → Option Subtype → Option ExprTree → Mismatches
fixed_initial_mismatches s t (Some e) = fixed_mismatches s t e
fixed_initial_mismatches s t None = []
