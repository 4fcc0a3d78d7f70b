-- Static expressions (RM 4.9): literals, True, False, scalar constants of the package, attributes, and operators and parentheses over static expressions.
use Rattle.std.specs.Prelude.{◌≡◌, ℕ, [], pos, Option, Some, None}
use Rattle.base.specs.declared.faults.TheConstants.{NO_MEANING, NOT_STATIC, WRONG_STATIC_VALUE}
use Rattle.ada_tree.specs.declared.expression.Identifier.{Identifier}
use Rattle.ada_tree.specs.ExpressionTree as tree
use Rattle.ada_tree.specs.ExpressionTree.{ExprTree, Named, Parenthesized, Conditional, Unary, Binary, SelectorTrees}
use Rattle.types.specs.declared.entity.Value.{Value as Scalar}
use Rattle.types.specs.declared.standing.Standing.{Standing}
use Rattle.types.specs.declared.standing.Standing.TheVariants as standing
use Rattle.types.specs.declared.statics.StaticForm.{StaticForm}
use Rattle.types.specs.declared.statics.StaticForm.TheVariants.{Static, NotStatic, Doubtful}
use Rattle.types.specs.Scopes.{Scope}
use Rattle.types.specs.Standings.{standing_of}
use Rattle.types.specs.Values.{Value}
use Rattle.types.specs.Evaluations.{Val, Gives, Raises, Meaningless}
use Rattle.types.specs.Places.{Place}
use Rattle.types.specs.Evaluating.{Calls, fixed_value, fixed_name, value_with}

-- True and False, a scalar constant of the package, an attribute: the names with a value by types and constants alone
abbrev pub name_form : Standing → StaticForm
name_form (standing.Fixed t (Some v)) = Static
name_form (standing.Given t (Some v)) = Static
name_form (standing.Plain z) = Static
name_form standing.Doubtful = Doubtful
name_form w = NotStatic

abbrev pub both : StaticForm → StaticForm → StaticForm
both Static b = b
both NotStatic b = NotStatic
both Doubtful NotStatic = NotStatic
both Doubtful b = Doubtful

abbrev pub static_form : Scope → ExprTree → StaticForm
static_form s (tree.Number z place) = Static
static_form s (Named first selectors) = name_form (standing_of s first selectors)
static_form s (Parenthesized place e) = static_form s e
static_form s (Unary operator place e) = static_form s e
static_form s (Binary operator a b) = both (static_form s a) (static_form s b)
static_form s (Conditional place condition value elsifs else_value) = NotStatic

-- a place without objects, inputs and time, at which nothing can be called
abbrev pub static_place : Scope → Place
static_place s =
    record {
      scope = s;
      functions = [];
      schedule = [];
      now = pos 0;
      variables = [];
      components = λ object. [];
      locals = [];
      within = None;
      actions = [];
      priority = 0;
      frames_left = 0;
    }

abbrev pub no_calls : Calls
no_calls p f vs = Meaningless

-- the value of a static expression is its value at such a place
abbrev pub static_value : Scope → ExprTree → Val Value
static_value s e = value_with no_calls (static_place s) e

-- ---- refusals

-- the place of an expression: that of its first token
abbrev pub start_of : ExprTree → ℕ
start_of (tree.Number z place) = place
start_of (Named first parts) = first.place
start_of (Parenthesized place e) = place
start_of (Conditional place condition value elsifs else_value) = place
start_of (Unary operator place e) = place
start_of (Binary operator a b) = start_of a

-- why an expression has no static value; one that has no meaning is of no type (docs/LANGUAGE.md)
abbrev pub fault_of : StaticForm → Val Value → Option ℕ
fault_of Static (Gives v) = None
fault_of Static (Raises x) = Some WRONG_STATIC_VALUE
fault_of Static Meaningless = Some NO_MEANING
fault_of form v = Some NOT_STATIC

abbrev pub static_fault : Scope → ExprTree → Option ℕ
static_fault s e = fault_of (static_form s e) (static_value s e)

-- ---- the law

-- where nothing is hidden: each name with a fixed value in the scope has that value at the place
abbrev pub Keeps : Scope → Place → Type 0
Keeps s p = (first : Identifier) (selectors : SelectorTrees) (v : Scalar) → fixed_value (standing_of s first selectors) ≡ Some v
    → fixed_name p first selectors ≡ Some v

-- a static expression has its value whatever else there is
abbrev pub StaticIsValue : Type 0
StaticIsValue = (s : Scope) (p : Place) (calls : Calls) → Keeps s p → (e : ExprTree) → static_form s e ≡ Static → value_with calls p e ≡ static_value s e
