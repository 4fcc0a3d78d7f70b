-- The value of an expression at a place (RM 4, 6.4): by recursion on the expression, and on the frames that are left.
use Rattle.std.specs.Prelude.{ℕ, zero, suc, nat_le, ℤ, pos, ◌-ℤ◌, unsigned_abs, Bool, true, false, List, [], ◌∷◌, map, Option, Some, None, if◌then◌else◌}
use Rattle.base.specs.Schedule.{input}
use Rattle.base.specs.declared.limits.TheConstants.{CHANNELS}
use Rattle.base.specs.declared.exceptions.PredefinedException.TheVariants.{ConstraintError, ProgramError, StorageError}
use Rattle.ada_tree.specs.declared.expression.Identifier.{Identifier}
use Rattle.ada_tree.specs.ExpressionTree as tree
use Rattle.ada_tree.specs.ExpressionTree.{ExprTree, Named, Parenthesized, Conditional, Unary, Binary, ElsifValueTrees, NoElsifValues, MoreElsifValues, SelectorTrees, NoSelectors, MoreSelectors, SelectorTree, Component, Arguments, Attribute, ArgumentTrees, NoArguments, MoreArguments, ArgumentTree, Text}
use Rattle.types.specs.declared.entity.Subtype.{Subtype}
use Rattle.types.specs.declared.entity.Value.{Value as Scalar}
use Rattle.types.specs.declared.entity.Value.TheVariants as scalar
use Rattle.types.specs.declared.entity.PredefinedOperation.{PredefinedOperation}
use Rattle.types.specs.declared.entity.PredefinedOperation.TheVariants as predefined
use Rattle.types.specs.declared.standing.Standing.{Standing}
use Rattle.types.specs.declared.standing.Standing.TheVariants as standing
use Rattle.types.specs.Entities.{TypeForm, Integers, Arrays, Records, ProtectedObject}
use Rattle.types.specs.Scopes.{form_at, integer, integer_type}
use Rattle.types.specs.Standings.{select_all, component_of}
use Rattle.types.specs.Values.{Value, Number, Truth, Array, Record, fits, value_of, element_at, field_of}
use Rattle.types.specs.Evaluations.{Val, Gives, Meaningless, and_then, raise}
use Rattle.types.specs.Operators.{unary_value, binary_value, is_decided, milliseconds_value, microseconds_value}
use Rattle.types.specs.Places.{Object, Formal, Function, Place, is_among, active_priority, function_of, stands_here, Meaning, IsObject, IsFunction, IsPredefined, IsSubtype, IsProtected, IsValue, meaning_of}

-- what the call of a function with these values of its formals comes to, at the place of the call
abbrev pub Calls : Type 0
Calls = Place → Function → List Value → Val Value

-- a value that is passed, converted or returned must lie in the subtype (RM 4.6, 6.4.1, 6.5)
abbrev pub passed : Subtype → Value → Val Value
passed t v = if fits t v then Gives v else raise ConstraintError

-- ---- names without evaluation

-- the value that a name has by types and constants alone: True and False, constants of the package, attributes
abbrev pub fixed_value : Standing → Option Scalar
fixed_value (standing.Fixed t v) = v
fixed_value (standing.Given t v) = v
fixed_value (standing.Plain z) = Some (scalar.Number z)
fixed_value w = None

abbrev pub fixed_name : Place → Identifier → SelectorTrees → Option Scalar
fixed_name p first selectors = fixed_value (select_all p.scope (stands_here p first.name) selectors)

-- ---- parts of objects (RM 4.1.1, 4.1.3)

abbrev pub object_or_nothing : Option Subtype → Option Value → Val Meaning
object_or_nothing (Some t) (Some v) = Gives (IsObject t v)
object_or_nothing t v = Meaningless

abbrev pub element_meaning : Option TypeForm → Value → ℤ → Val Meaning
element_meaning (Some (Arrays index length element)) (Array vs) z = object_or_nothing (Some element) (element_at vs (unsigned_abs (z -ℤ index.first)))
element_meaning form v z = Meaningless

abbrev pub field_meaning : Option TypeForm → Value → List ℕ → Val Meaning
field_meaning (Some (Records components)) (Record fields) name = object_or_nothing (component_of components name) (field_of fields name)
field_meaning form v name = Meaningless

-- ---- calls

-- a call through the name of a protected object opens an action, unless it is refused: first where the task has an action of the same object open, then
-- where its active priority is above the ceiling (RM 9.5.1, D.3); the body sees the action as open
abbrev pub external_call : Calls → Place → Function → ProtectedObject → List Value → Val Value
external_call calls p f o vs =
    if is_among p.actions o.number then raise ProgramError
    else (if nat_le (active_priority p) o.ceiling then calls (record p { actions = o.number ∷ p.actions }) f vs else raise ProgramError)

abbrev pub called : Calls → Place → Function → Option ProtectedObject → List Value → Val Value
called calls p f None vs = calls p f vs
called calls p f (Some o) vs = external_call calls p f o vs

abbrev pub channels : Subtype
channels = record { type_number = integer_type; first = pos 1; last = pos CHANNELS }

-- Ada.Real_Time and Control_IO (RM D.8)
abbrev pub predefined_value : Place → PredefinedOperation → List Value → Val Value
predefined_value p predefined.Clock [] = Gives (Number p.now)
predefined_value p predefined.Milliseconds (Number z ∷ []) = milliseconds_value z
predefined_value p predefined.Microseconds (Number z ∷ []) = microseconds_value z
predefined_value p predefined.Read (Number z ∷ []) = Gives (Number (input p.schedule (unsigned_abs z) p.now))
predefined_value p o vs = Meaningless

abbrev pub formal_subtype : Formal → Subtype
formal_subtype f = f.subtype

abbrev pub wanted_by_operation : PredefinedOperation → List Subtype
wanted_by_operation predefined.Clock = []
wanted_by_operation predefined.Milliseconds = integer ∷ []
wanted_by_operation predefined.Microseconds = integer ∷ []
wanted_by_operation predefined.Read = channels ∷ []

abbrev pub wanted_by_index : Option TypeForm → Option (List Subtype)
wanted_by_index (Some (Arrays index length element)) = Some (index ∷ [])
wanted_by_index form = None

abbrev pub wanted_by_conversion : Subtype → Option TypeForm → Option (List Subtype)
wanted_by_conversion t (Some Integers) = Some (t ∷ [])
wanted_by_conversion t form = None

-- the subtypes in which what stands in the parentheses must lie: those of the formals, of the index, of the target of a conversion
abbrev pub wanted : Place → Meaning → Option (List Subtype)
wanted p (IsObject t v) = wanted_by_index (form_at p.scope t.type_number)
wanted p (IsFunction f through) = Some (map formal_subtype f.formals)
wanted p (IsPredefined o) = Some (wanted_by_operation o)
wanted p (IsSubtype t) = wanted_by_conversion t (form_at p.scope t.type_number)
wanted p m = None

abbrev pub as_value : Val Value → Val Meaning
as_value v = and_then v (λ x. Gives (IsValue x))

-- a component, call or conversion with these values in its parentheses
abbrev pub applied : Calls → Place → Meaning → List Value → Val Meaning
applied calls p (IsObject t v) (Number z ∷ []) = element_meaning (form_at p.scope t.type_number) v z
applied calls p (IsFunction f through) vs = as_value (called calls p f through vs)
applied calls p (IsPredefined o) vs = as_value (predefined_value p o vs)
applied calls p (IsSubtype t) (Number z ∷ []) = Gives (IsValue (Number z))
applied calls p m vs = Meaningless

abbrev pub function_through : ProtectedObject → Option Function → Val Meaning
function_through o (Some f) = Gives (IsFunction f (Some o))
function_through o None = Meaningless

-- a component of a record, or a function of a protected object
abbrev pub chosen : Place → Meaning → List ℕ → Val Meaning
chosen p (IsObject t v) name = field_meaning (form_at p.scope t.type_number) v name
chosen p (IsProtected o) name = function_through o (function_of p.functions (Some o.number) name)
chosen p m name = Meaningless

-- where a name ends: what is called alone has no parameters (RM 6.4)
abbrev pub ended : Calls → Place → Meaning → Val Value
ended calls p (IsObject t v) = Gives v
ended calls p (IsValue v) = Gives v
ended calls p (IsFunction f through) = called calls p f through []
ended calls p (IsPredefined o) = predefined_value p o []
ended calls p m = Meaningless

-- ---- expressions

abbrev pub truth_of : Value → Val Bool
truth_of (Truth b) = Gives b
truth_of v = Meaningless

abbrev mutual
  pub value_with : Calls → Place → ExprTree → Val Value
  value_with calls p (tree.Number z place) = Gives (Number z)
  value_with calls p (Named first selectors) = elim (fixed_name p first selectors) [
    | Some v ↦ Gives (value_of v)
    | None ↦ name_with calls p
        (meaning_of p first.name) selectors
  ]
  value_with calls p (Parenthesized place e) = value_with calls p e
  value_with calls p (Unary operator place e) = and_then (value_with calls p e) (unary_value operator)
  -- the left operand first; the right one of `and then` and `or else` only where it is needed (RM 4.5.1)
  value_with calls p (Binary operator a b) =
      and_then (value_with calls p a) (λ v. elim (is_decided operator v) [ true ↦ Gives v | false ↦ and_then (value_with calls p b) (binary_value operator v) ])
  -- the chosen part alone (RM 4.5.7)
  value_with calls p (Conditional place condition value elsifs else_value) =
      and_then (and_then (value_with calls p condition) truth_of) (λ holds. elim holds [
        | true ↦ value_with calls p value
        | false ↦ and_then (elsif_with calls p elsifs) (λ found. elim found [ Some v ↦ Gives v | None ↦ value_with calls p else_value ])
      ])

  -- the value for the first condition that holds, if there is one
  pub elsif_with : Calls → Place → ElsifValueTrees → Val (Option Value)
  elsif_with calls p NoElsifValues = Gives None
  elsif_with calls p (MoreElsifValues condition value rest) =
      and_then (and_then (value_with calls p condition) truth_of) (λ holds. elim holds [
        | true ↦ and_then (value_with calls p value) (λ v. Gives (Some v))
        | false ↦ elsif_with calls p rest
      ])

  -- a name, of which this much is known: its parts are evaluated from left to right (RM 4.1)
  pub name_with : Calls → Place → Meaning → SelectorTrees → Val Value
  name_with calls p m NoSelectors = ended calls p m
  name_with calls p m (MoreSelectors x rest) = and_then (part_with calls p m x) (λ n. name_with calls p n rest)

  pub part_with : Calls → Place → Meaning → SelectorTree → Val Meaning
  part_with calls p m (Component name) = chosen p m name.name
  part_with calls p m (Arguments a) = elim (wanted p m) [ Some ts ↦ and_then (actuals_with calls p a ts) (applied calls p m) | None ↦ Meaningless ]
  part_with calls p m (Attribute name) = Meaningless

  -- what stands in the parentheses: each value is checked before the next one is computed
  pub actuals_with : Calls → Place → ArgumentTrees → List Subtype → Val (List Value)
  actuals_with calls p NoArguments [] = Gives []
  actuals_with calls p (MoreArguments a rest) (t ∷ ts) = and_then (actual_with calls p t a)
      (λ v. and_then (actuals_with calls p rest ts) (λ vs. Gives (v ∷ vs)))
  actuals_with calls p a ts = Meaningless

  pub actual_with : Calls → Place → Subtype → ArgumentTree → Val Value
  actual_with calls p t (tree.Value e) = and_then (value_with calls p e) (passed t)
  actual_with calls p t (Text label place) = Meaningless

-- ---- calls of functions, by the frames that are left (RM 6.4)

-- the objects of a call: its formals with their values
abbrev pub bound : List Formal → List Value → List Object → List Object
bound (f ∷ fs) (v ∷ vs) locals = bound fs vs (record { name = f.name; subtype = f.subtype; value = v } ∷ locals)
bound fs vs locals = locals

-- where the body of a function is evaluated
abbrev pub entered : Place → Function → List Value → ℕ → Place
entered p f vs left = record p { locals = bound f.formals vs []; within = f.object; frames_left = left }

-- a call takes a frame, and gives the value that the body returns, if that lies in the subtype of the result
abbrev pub call : ℕ → Calls
call zero p f vs = raise StorageError
call (suc left) p f vs = and_then (value_with (call left) (entered p f vs left) f.value) (passed f.result)

-- the value of an expression at a place, or the exception that its evaluation raises; nothing is changed by it, and it always ends
abbrev pub val : Place → ExprTree → Val Value
val p e = value_with (call p.frames_left) p e
