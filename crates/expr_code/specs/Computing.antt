-- What it is that code computes an expression, and the expressions in parentheses behind a name, wherever a part of a program sees enough of what they name.
use Rattle.std.specs.Prelude.{◌≡◌, ℕ, suc, ◌-◌, ◌+◌, ◌≤◌, ℤ, Bool, true, List, [], ◌∷◌, ◌++◌, length, map, Option, Some, None, ⊤}
use Rattle.base.specs.declared.schedule.ScheduleLine.{ScheduleLine}
use Rattle.kernel.specs.State.{Kernel}
use Rattle.kernel.specs.Calm.{Calm}
use Rattle.expr_soundness.specs.handlers.specs.Innermost.{handler_of}
use Rattle.ada_tree.specs.declared.expression.Identifier.{Identifier}
use Rattle.ada_tree.specs.ExpressionTree.{ExprTree, ArgumentTrees, Named, SelectorTrees, ElsifValueTrees, NoElsifValues, MoreElsifValues}
use Rattle.image.specs.Sections.{Sections, first_place, object_of}
use Rattle.image.specs.Operations.{called as subprogram_called}
use Rattle.image.specs.Frames.{Words, Frame, object_words}
use Rattle.image.specs.declared.instruction.Operation.{Operation}
use Rattle.image.specs.declared.instruction.Operation.TheVariants as op
use Rattle.image.specs.declared.instruction.Region.TheVariants as regions
use Rattle.image.specs.declared.subprograms.Kind.{Kind}
use Rattle.image.specs.declared.subprograms.Kind.TheVariants.{Plain, ProtectedFunction}
use Rattle.image.specs.declared.subprograms.Subprogram.{Subprogram}
use Rattle.types.specs.Entities.{ProtectedObject}
use Rattle.types.specs.declared.entity.Subtype.{Subtype}
use Rattle.types.specs.Values.{Value, Number, Truth}
use Rattle.types.specs.Shapes.{Shape, has_shape, value_words}
use Rattle.types.specs.Evaluations.{Val, Gives, and_then}
use Rattle.types.specs.Places.{Function, IsFunction, Place, ceiling_of}
use Rattle.types.specs.Evaluating.{Calls, actuals_with, called, entered, formal_subtype, name_with, passed, value_with}
use Rattle.expr_soundness.specs.Lying.{are_between}
use Rattle.expr_code.specs.Views.{At, IsSameTask, placed, frames_above, Sight, View, view_of}
use Rattle.expr_code.specs.Coming.{all_on, all_words, Comes, on}

-- each value has the shape that is told
abbrev pub ArePassed : List Shape → List Value → Type 0
ArePassed [] [] = Unit {0}
ArePassed (x ∷ xs) (v ∷ vs) = (has_shape x v ≡ true) × ArePassed xs vs
ArePassed xs vs = ⊥

-- ---- how a function is called: within its object, or from anywhere where it has none; or through the name of its object, which opens an action (RM 9.5.1)

abbrev pub call_operation : Option ProtectedObject → ℕ → Operation
call_operation None number = op.Call number
call_operation (Some o) number = op.ProtectedCall number

-- the kind of the subprogram of a function
abbrev pub function_kind : Option ℕ → Kind
function_kind None = Plain
function_kind (Some o) = ProtectedFunction o

-- the object through which a function is called is its own, with the ceiling that the package gives it
abbrev pub IsCalledThrough : Place → Function → Option ProtectedObject → Type 0
IsCalledThrough p f None = ⊤
IsCalledThrough p f (Some o) = (f.object ≡ Some o.number) × (ceiling_of p.scope o.number ≡ o.ceiling)

-- the functions that code may call
pub record Library : Type 1 where
  -- what all bodies of the program see
  pub shared : Sight
  -- the function has the subprogram with this number; and its parameters have these shapes
  pub coded : Function → ℕ → Type 0
  pub shapes : Function → List Shape
  -- what is known of the values of calls: that they are of the types of the results, and between the bounds of their subtypes
  pub sound : Calls → Type 0

-- values that are passed to the function: of the shapes of its formals, and between the bounds of their subtypes
abbrev pub ArePassedTo : Library → Function → List Value → Type 0
ArePassedTo library function args = ArePassed (library.shapes function) args × (are_between (map formal_subtype function.formals) args ≡ true)

module _ (i : Sections) (library : Library) where
  -- The code of the functions that are called gives their values, with so many frames left: where the actual parameters stand on the operand stack at the call,
  -- the frame comes behind it with the value in their place, or the call raises, as one through an object does where it is refused. The kernel is as before.
  pub record Answers (calls : Calls) (left : ℕ) : Type 0 where
    pub sound : library.sound calls
    pub answers :
        (schedule : List ScheduleLine) (k : Kernel) (t : ℕ) (m : Words) (f : Frame) (fs : List Frame) (p : Place) (place : ℕ) (base : List ℤ)
        (function : Function) (through : Option ProtectedObject) (number : ℕ) (args : List Value)
        → Calm k t
        → library.shared p (view_of i schedule k t m f fs)
        → library.coded function number
        → IsCalledThrough p function through
        → At i place (call_operation through number)
        → ArePassedTo library function args
        → left ≡ frames_above k t fs
        → Comes i schedule k t m (placed f place (all_on base args)) fs 1 (suc place) (on base) (called calls p function through args)

  -- from each state of a frame that sees what is visible
  abbrev pub Everywhere : {A : Type 0} → Sight → (from to : ℕ) → (List ℤ → A → List ℤ) → (Calls → Place → Val A) → Type 0
  Everywhere sight from to stack value =
      (calls : Calls) (left : ℕ)
      → Answers calls left
      → (schedule : List ScheduleLine) (k : Kernel) (t : ℕ) (m : Words) (f : Frame) (fs : List Frame) (p : Place) (base : List ℤ)
      → Calm k t
      → sight p (view_of i schedule k t m f fs)
      → left ≡ frames_above k t fs
      → Comes i schedule k t m (placed f from base) fs (to - from) to (stack base) (value calls p)

  -- the code between two places computes the expression: it leaves its value on the operand stack
  abbrev pub Computes : Sight → (from to : ℕ) → ExprTree → Type 0
  Computes sight from to e = Everywhere sight from to on (λ calls p. value_with calls p e)

  -- the code between two places computes the values in parentheses, each checked against its subtype before the next one is computed
  abbrev pub ComputesAll : Sight → (from to : ℕ) → List Subtype → ArgumentTrees → Type 0
  ComputesAll sight from to ts arguments = Everywhere sight from to all_on (λ calls p. actuals_with calls p arguments ts)

  -- a truth value, wherever the expression has a value
  abbrev pub IsTruth : Sight → ExprTree → Type 0
  IsTruth sight e = (calls : Calls) (p : Place) (view : View) (v : Value) → library.sound calls → sight p view → value_with calls p e ≡ Gives v → (b : Bool)
      × (v ≡ Truth b)

  -- a check against a subtype
  abbrev pub Checks : ℕ → Subtype → Type 0
  Checks from t = At i from (op.Push t.first) × At i (from + 1) (op.Push t.last) × At i (from + 2) op.CheckRange

  -- the parts of an if expression behind its first value (RM 4.5.7): each condition, a jump behind its value where it does not hold, the value, a jump to the
  -- end; and in the end the value for `else`
  abbrev pub ComputesElse : Sight → (from to : ℕ) → ElsifValueTrees → ExprTree → Type 0
  ComputesElse sight from to NoElsifValues e = (from ≤ to) × Computes sight from to e
  ComputesElse sight from to (MoreElsifValues condition value rest) e =
      (mid stop next : ℕ)
      × (from ≤ mid)
      × (suc mid ≤ stop)
      × (suc stop ≤ next)
      × (next ≤ to)
      × Computes sight from mid condition
      × At i mid (op.JumpIfZero next)
      × Computes sight (mid + 1) stop value
      × At i stop (op.Jump to)
      × ComputesElse sight next to rest e

  -- the code computes an expression and checks its value against a subtype
  abbrev pub ComputesChecked : Sight → (from to : ℕ) → Subtype → ExprTree → Type 0
  ComputesChecked sight from to t e = Everywhere sight from to on (λ calls p. and_then (value_with calls p e) (passed t))

  -- wherever the expression has a value, it is a number; or it lies in the subtype, and no check is needed
  abbrev pub ComesToNumber : Sight → ExprTree → Type 0
  ComesToNumber sight e = (calls : Calls) (p : Place) (view : View) (v : Value) → library.sound calls → sight p view → value_with calls p e ≡ Gives v
      → (z : ℤ) × (v ≡ Number z)

  abbrev pub AlwaysPasses : Sight → Subtype → ExprTree → Type 0
  AlwaysPasses sight t e = (calls : Calls) (p : Place) (view : View) (v : Value) → library.sound calls → sight p view → value_with calls p e ≡ Gives v
      → passed t v ≡ Gives v

  -- The name stands for a call of a function by this operation, which has these subtypes of its formals; so much stands behind the function's own name.
  pub record NamesFunction (first : Identifier) (selectors behind : SelectorTrees) (operation : Operation) (ts : List Subtype) (p : Place)
      (view : View) : Type 0 where
    pub function : Function
    pub through : Option ProtectedObject
    pub number : ℕ
    pub coded : library.coded function number
    pub allowed : IsCalledThrough p function through
    pub way : call_operation through number ≡ operation
    pub shared : library.shared p view
    pub means : (calls : Calls) → value_with calls p (Named first selectors) ≡ name_with calls p (IsFunction function through) behind
    pub formals : map formal_subtype function.formals ≡ ts

  abbrev pub AlwaysNames : Sight → Identifier → (selectors behind : SelectorTrees) → Operation → List Subtype → Type 0
  AlwaysNames sight first selectors behind operation ts = (p : Place) (view : View) → sight p view → NamesFunction first selectors behind operation ts p view

  -- the actual parameters may be passed to each function that has these subtypes of formals
  abbrev pub ArePassedWell : Sight → List Subtype → ArgumentTrees → Type 0
  ArePassedWell sight ts arguments =
      (calls : Calls) (p : Place) (view : View) (function : Function) (vs : List Value)
      → library.sound calls
      → sight p view
      → map formal_subtype function.formals ≡ ts
      → actuals_with calls p arguments ts ≡ Gives vs
      → ArePassedTo library function vs

  -- the code of a function: its value, checked, and a return. It handles nothing, and sees what all bodies see and its formals
  pub record IsFunctionCode (function : Function) (number : ℕ) : Type 1 where
    pub s : Subprogram
    pub there : subprogram_called i number ≡ Some s
    pub kind : s.kind ≡ function_kind function.object
    pub parameters : (args : List Value) → ArePassed (library.shapes function) args → length (all_words args) ≡ s.parameters
    pub sight : Sight
    pub mid : ℕ
    pub behind : first_place i number ≤ mid
    pub body : ComputesChecked sight (first_place i number) mid function.result function.value
    pub return : At i mid op.Return
    pub within : suc mid ≤ s.end_
    pub bare : (place x : ℕ) → first_place i number ≤ place → place ≤ mid → handler_of i.rows place x ≡ None
    -- its result has the words that are returned
    pub sized : (calls : Calls) (p : Place) (view : View) (v : Value) → library.sound calls → sight p view
        → and_then (value_with calls p function.value) (passed function.result) ≡ Gives v → length (value_words v) ≡ s.results
    -- what it sees when it is entered
    pub enters : (p : Place) (view inner : View) (args : List Value) (left : ℕ) (locals : List ℤ)
        → library.shared p view
        → ArePassedTo library function args
        → inner.schedule ≡ view.schedule
        → inner.now ≡ view.now
        → IsSameTask p inner
        → inner.memory ≡ view.memory
        → inner.words regions.Locals ≡ all_words args ++ locals
        → length locals ≡ s.locals - s.parameters
        → inner.words regions.Plain ≡ view.words regions.Plain
        → inner.words regions.Object ≡ object_words (object_of s.kind) view.memory
        → inner.left ≡ left
        → sight (entered p function args left) inner
