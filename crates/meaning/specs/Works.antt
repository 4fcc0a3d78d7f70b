-- What a task still has to do, as a list of items, and what it holds meanwhile.
use Rattle.std.specs.Prelude.{ℕ, suc, ◌-◌, ℤ, Bool, true, false, List, [], ◌∷◌, Option}
use Rattle.base.specs.declared.limits.TheConstants.{FRAMES}
use Rattle.ada_tree.specs.declared.program.MainStatement.{MainStatement}
use Rattle.ada_tree.specs.ExpressionTree.{ExprTree}
use Rattle.ada_tree.specs.StatementTree.{StmtTree, StmtTrees, HandlerTrees, DeclarationTree}
use Rattle.types.specs.declared.entity.Subtype.{Subtype}
use Rattle.types.specs.Scopes.{integer_type}
use Rattle.types.specs.Values as values
use Rattle.types.specs.Places.{Object}
use Rattle.meaning.specs.Programs.{Parameter, Procedure}

-- ---- targets: variables and parts of them, whose names are evaluated (RM 4.1, 5.2, 6.4.1)

-- a component of an array by its position, or of a record by its name
pub data Part : Type 0 where
  Element : (position : ℕ) → Part
  Field : (name : List ℕ) → Part

-- where the object stands: in the running activation, in a protected object, in the package
pub data Home : Type 0 where
  InActivation InPackage : Home
  InObject : (object : ℕ) → Home

-- the object, the part of it from the outermost on, and the subtype of that part
pub record Target : Type 0 where
  pub home : Home
  pub name : List ℕ
  pub parts : List Part
  pub subtype : Subtype

-- ---- items

-- the subtype of a loop's parameter in a turn: it is a constant, of which only the value matters, and has that value alone (RM 5.5)
abbrev pub turn_subtype : ℤ → Subtype
turn_subtype now = record { type_number = integer_type; first = now; last = now }

-- how a call has ended that opened an action: with results that are to be copied back, or with an exception that is pending (RM 9.5.1, 11.4)
pub data Completion : Type 0 where
  Completed : List values.Value → List Target → Completion
  Pending : (exception : ℕ) → Completion

pub data Item : Type 0 where
  -- a declaration (RM 3.3.1); an `out` parameter, which begins as an object without initial value (RM 6.4.1)
  Declares : DeclarationTree → Item
  DeclaresParameter : Parameter → Item
  -- a sequence of statements that has not begun, with its handlers (RM 11.2)
  Sequence : StmtTrees → HandlerTrees → Item
  -- a statement (RM 5.1), or one of main
  Does : StmtTree → Item
  DoesMain : MainStatement → Item
  -- the next turn of a loop: without end, or while a condition holds (RM 5.5)
  Repeats : StmtTrees → Item
  RepeatsWhile : (condition : ExprTree) → StmtTrees → Item
  -- of a loop over a range: its parameter, whether it goes down, the values of this turn and of the last one
  RepeatsFor : (parameter : List ℕ) → (reversed : Bool) → (now last : ℤ) → StmtTrees → Item
  -- the handlers of a sequence, present only while its statements are worked (RM 11.2)
  Handles : HandlerTrees → Item
  -- the end of a handler, with the exception that it handles (RM 11.4.1)
  EndsHandler : (exception : ℕ) → Item
  -- the end of a call: the parameters that are copied back, the protected object whose action the call opened, and where they are copied to (RM 6.4, 6.4.1)
  EndsCall : (results : List (List ℕ)) (opened : Option ℕ) (targets : List Target) → Item
  -- the end of a protected action, and what comes then (RM 9.5.1, 9.5.3)
  EndsAction : (object : ℕ) → Completion → Item
  -- the end of an entry body that is run for a queued caller, within an action of the object, and what comes then (RM 9.5.3)
  EndsServed : (object : ℕ) (results : List (List ℕ)) → Completion → Item
  -- a queued entry call with the values of its parameters, and where its results are copied to (RM 9.5.3)
  Queued : Procedure → (parameters : List values.Value) → (targets : List Target) → Item

-- A task goes on with its items; or results of a call are still to be copied back, and then it goes on (RM 6.4.1); or an exception is raised and looks for a
-- handler (RM 11.4).
pub data Work : Type 0 where
  Goes : List Item → Work
  Copies : List values.Value → List Target → List Item → Work
  Raising : (exception : ℕ) → List Item → Work

-- the execution of a body: the protected object to which it belongs, and its local objects, the newest first
pub record Activation : Type 0 where
  pub within : Option ℕ
  pub locals : List Object

-- what a task holds: its work, the running activation, and those that wait for the end of a call, the innermost first
pub record TaskWork : Type 0 where
  pub work : Work
  pub own : Activation
  pub callers : List Activation

-- the variables of the package (RM 7), and the components of each protected object (RM 9.4); of two of one name the first holds
pub record Store : Type 0 where
  pub variables : List Object
  pub components : ℕ → List Object

-- what a served caller is given: the values of its results, or an exception
pub data GivenToCaller : Type 0 where
  Results : List values.Value → GivenToCaller
  Raised : (exception : ℕ) → GivenToCaller

-- ---- frames: the task's body takes one, each open call, and each body that is run for a caller

abbrev pub ends_of_calls : List Item → ℕ
ends_of_calls [] = 0
ends_of_calls (EndsCall results opened targets ∷ items) = suc (ends_of_calls items)
ends_of_calls (EndsServed object results completion ∷ items) = suc (ends_of_calls items)
ends_of_calls (i ∷ items) = ends_of_calls items

-- the frames in use: a handler has no body below its procedure's
abbrev pub frames_in_use : (is_task : Bool) → List Item → ℕ
frames_in_use true items = suc (ends_of_calls items)
frames_in_use false items = ends_of_calls items

-- the frames that the task or handler may still open
abbrev pub frames_left : (is_task : Bool) → List Item → ℕ
frames_left is_task items = FRAMES - frames_in_use is_task items
