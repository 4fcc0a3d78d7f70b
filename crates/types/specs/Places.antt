-- The place of evaluation: all that the value of an expression depends on beside the expression.
use Rattle.std.specs.Prelude.{ℕ, max, ℤ, List, [], ◌∷◌, Bool, true, false, ◌||◌, Option, Some, None, nat_eq, bytes_eq, if◌then◌else◌}
use Rattle.base.specs.declared.schedule.ScheduleLine.{ScheduleLine}
use Rattle.ada_tree.specs.ExpressionTree.{ExprTree}
use Rattle.types.specs.declared.entity.Subtype.{Subtype}
use Rattle.types.specs.declared.entity.Role.TheVariants as role
use Rattle.types.specs.declared.entity.PredefinedOperation.{PredefinedOperation}
use Rattle.types.specs.declared.standing.Standing.{Standing}
use Rattle.types.specs.declared.standing.Standing.TheVariants as standing
use Rattle.types.specs.Entities.{ProtectedObject, Entity, OfType, OfSubtype, Predefined, Protected}
use Rattle.types.specs.Scopes.{Scope, number_of, entity_at}
use Rattle.types.specs.Standings.{stands_first}
use Rattle.types.specs.Values.{Value}

-- an object: a variable or constant, a formal parameter, a loop parameter, a component of a protected object
pub record Object : Type 0 where
  pub name : List ℕ
  pub subtype : Subtype
  pub value : Value

-- a formal parameter of a function; its mode is `in`
pub record Formal : Type 0 where
  pub name : List ℕ
  pub subtype : Subtype

-- a function, whose body returns the value of one expression: of the package, or of the protected object with this number
pub record Function : Type 0 where
  pub object : Option ℕ
  pub name : List ℕ
  pub formals : List Formal
  pub result : Subtype
  pub value : ExprTree

pub record Place : Type 0 where
  -- the names of the package, its functions, and those of its protected objects
  pub scope : Scope
  pub functions : List Function
  -- the inputs, and the time in microseconds since the start
  pub schedule : List ScheduleLine
  pub now : ℤ
  -- the variables of the package, and the components of the protected object with a number
  pub variables : List Object
  pub components : ℕ → List Object
  -- the objects of the running activation, the newest first, and the protected object, if any, to whose operation it belongs
  pub locals : List Object
  pub within : Option ℕ
  -- the protected objects whose actions the task has open, and its base priority (RM D.1)
  pub actions : List ℕ
  pub priority : ℕ
  -- the frames that the task may still take
  pub frames_left : ℕ

-- the newest object of this name
abbrev pub object_of : List Object → List ℕ → Option Object
object_of [] name = None
object_of (x ∷ rest) name = if bytes_eq x.name name then Some x else object_of rest name

abbrev pub is_of : Option ℕ → Option ℕ → Bool
is_of None None = true
is_of (Some m) (Some n) = nat_eq m n
is_of a b = false

abbrev pub function_of : List Function → Option ℕ → List ℕ → Option Function
function_of [] owner name = None
function_of (f ∷ rest) owner name = if is_of f.object owner then
    (if bytes_eq f.name name then Some f else function_of rest owner name) else function_of rest owner name

abbrev pub or_else : {A : Type 0} → Option A → Option A → Option A
or_else (Some a) b = Some a
or_else None b = b

-- the components that the running body sees by their own names
abbrev pub own_components : Place → Option ℕ → List Object
own_components p (Some object) = p.components object
own_components p None = []

-- What the running body sees as its own: its objects, and the components and functions of its protected object. They go before what the package declares,
-- since the package may declare one of the same name behind the body; else nothing hides another one.
abbrev pub own_object : Place → List ℕ → Option Object
own_object p name = or_else (object_of p.locals name) (object_of (own_components p p.within) name)

abbrev pub own_function : Place → List ℕ → Option Function
own_function p name = function_of p.functions p.within name

abbrev pub package_object : Place → List ℕ → Option Object
package_object p name = object_of p.variables name

abbrev pub package_function : Place → List ℕ → Option Function
package_function p name = function_of p.functions None name

-- ---- priorities (RM D.1, D.3)

abbrev pub ceiling_or : ℕ → Entity → ℕ → ℕ
ceiling_or object (Protected p) other = if nat_eq p.number object then p.ceiling else other
ceiling_or object e other = other

-- the ceiling of the protected object with this number
abbrev pub ceiling_of : Scope → ℕ → ℕ
ceiling_of [] object = 0
ceiling_of (n ∷ rest) object = ceiling_or object n.entity (ceiling_of rest object)

abbrev pub raised : Scope → ℕ → List ℕ → ℕ
raised s base [] = base
raised s base (object ∷ rest) = max (ceiling_of s object) (raised s base rest)

-- the greatest of the task's base priority and the ceilings of its open actions
abbrev pub active_priority : Place → ℕ
active_priority p = raised p.scope p.priority p.actions

abbrev pub is_among : List ℕ → ℕ → Bool
is_among [] object = false
is_among (n ∷ rest) object = nat_eq n object || is_among rest object

-- ---- what a name stands for here, by types and constants alone

abbrev pub object_stands : Option Object → Standing → Standing
object_stands (Some x) w = standing.Part role.Variable x.subtype
object_stands None w = w

abbrev pub function_stands : Option Function → Standing → Standing
function_stands (Some f) w = standing.Given f.result None
function_stands None w = w

abbrev pub stands_here : Place → List ℕ → Standing
stands_here p name =
    object_stands
    (own_object p name)
    (function_stands (own_function p name) (object_stands (package_object p name)
    (function_stands (package_function p name) (stands_first p.scope (number_of p.scope name)))))

-- ---- what a name means here

pub data Meaning : Type 0 where
  -- an object or a part of one, by its subtype and value
  IsObject : Subtype → Value → Meaning
  -- a function before its parameters, and the protected object through whose name it is called
  IsFunction : Function → (through : Option ProtectedObject) → Meaning
  IsPredefined : PredefinedOperation → Meaning
  -- a type or subtype
  IsSubtype : Subtype → Meaning
  IsProtected : ProtectedObject → Meaning
  -- the value of a call or conversion
  IsValue : Value → Meaning
  IsNothing : Meaning

abbrev pub meaning_of_entity : Option Entity → Meaning
meaning_of_entity (Some (OfType form t)) = IsSubtype t
meaning_of_entity (Some (OfSubtype t)) = IsSubtype t
meaning_of_entity (Some (Predefined o p)) = IsPredefined o
meaning_of_entity (Some (Protected p)) = IsProtected p
meaning_of_entity e = IsNothing

abbrev pub meaning_in_scope : Scope → Option ℕ → Meaning
meaning_in_scope s (Some n) = meaning_of_entity (entity_at s n)
meaning_in_scope s None = IsNothing

abbrev pub object_meaning : Option Object → Option Meaning
object_meaning (Some x) = Some (IsObject x.subtype x.value)
object_meaning None = None

abbrev pub function_meaning : Option Function → Option Meaning
function_meaning (Some f) = Some (IsFunction f None)
function_meaning None = None

abbrev pub meaning_or : Option Meaning → Meaning → Meaning
meaning_or (Some m) other = m
meaning_or None other = other

abbrev pub meaning_of : Place → List ℕ → Meaning
meaning_of p name =
    meaning_or
    (or_else (object_meaning (own_object p name)) (function_meaning (own_function p name)))
    (meaning_or (or_else (object_meaning (package_object p name)) (function_meaning (package_function p name)))
    (meaning_in_scope p.scope (number_of p.scope name)))
