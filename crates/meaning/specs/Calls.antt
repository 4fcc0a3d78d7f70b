-- Calls of procedures and entries: what is called, the actual parameters, the activation of the body, barriers (RM 6.4, 6.4.1, 9.5.1, 9.5.2, 9.5.3).
use Rattle.std.specs.Prelude.{ℕ, List, [], ◌∷◌, ◌++◌, drop, map, Bool, true, false, ◌&&◌, Option, Some, None, bytes_eq, is_some, if◌then◌else◌}
use Rattle.ada_tree.specs.declared.declaration.Mode.{Mode}
use Rattle.ada_tree.specs.declared.declaration.Mode.TheVariants as mode
use Rattle.ada_tree.specs.ExpressionTree.{ExprTree, NameTree, SelectorTrees, NoSelectors, MoreSelectors, Component, Arguments, ArgumentTrees, NoArguments, MoreArguments, ArgumentTree}
use Rattle.ada_tree.specs.ExpressionTree as tree
use Rattle.ada_tree.specs.declared.expression.Identifier.{Identifier}
use Rattle.types.specs.Values.{Value, Truth}
use Rattle.types.specs.Evaluations.{Val, Gives, Meaningless, and_then}
use Rattle.types.specs.Places.{Object, Place, is_of, object_of, or_else}
use Rattle.types.specs.Statics.{static_place}
use Rattle.types.specs.Evaluating.{passed, val}
use Rattle.meaning.specs.Programs.{Parameter, Procedure, Program, object_numbered}
use Rattle.meaning.specs.Works.{Target, Item, Declares, DeclaresParameter, Sequence, Activation, Store}
use Rattle.meaning.specs.Targets.{named_target, target_value}

-- ---- what is called: a procedure or entry, and the protected object through whose name

pub record Callee : Type 0 where
  pub procedure : Procedure
  pub through : Option ℕ
  pub arguments : ArgumentTrees

abbrev pub procedure_among : List Procedure → Option ℕ → List ℕ → Option Procedure
procedure_among [] owner name = None
procedure_among (q ∷ rest) owner name = if is_of q.object owner && bytes_eq q.name name then Some q else procedure_among rest owner name

-- one of the running body's protected object, or of the package
abbrev pub procedure_here : Program → Option ℕ → List ℕ → Option Procedure
procedure_here p within name = or_else (procedure_among p.procedures within name) (procedure_among p.procedures None name)

abbrev pub callee_with : Option Procedure → Option ℕ → ArgumentTrees → Option Callee
callee_with (Some q) through a = Some (record { procedure = q; through = through; arguments = a })
callee_with None through a = None

abbrev pub callee_through : Program → Option ℕ → List ℕ → ArgumentTrees → Option Callee
callee_through p (Some o) name a = callee_with (procedure_among p.procedures (Some o) name) (Some o) a
callee_through p None name a = None

-- `P`, `P (..)`, `Object.P`, `Object.P (..)`
abbrev pub callee_by : Program → (within : Option ℕ) → Identifier → SelectorTrees → Option Callee
callee_by p within first NoSelectors = callee_with (procedure_here p within first.name) None NoArguments
callee_by p within first (MoreSelectors (Arguments a) NoSelectors) = callee_with (procedure_here p within first.name) None a
callee_by p within first (MoreSelectors (Component name) NoSelectors) = callee_through p (object_numbered p.scope first) name.name NoArguments
callee_by p within first (MoreSelectors (Component name) (MoreSelectors (Arguments a) NoSelectors)) = callee_through p
    (object_numbered p.scope first) name.name a
callee_by p within first other = None

-- ---- actual parameters, from left to right (RM 6.4.1): what is copied in is checked before the next one is evaluated; of what is copied out the name is

pub record Actuals : Type 0 where
  pub values : List Value
  pub targets : List Target

abbrev pub copied_in : Value → Val Actuals
copied_in v = Gives (record { values = v ∷ []; targets = [] })

abbrev pub copied_out : Target → Val Actuals
copied_out x = Gives (record { values = []; targets = x ∷ [] })

abbrev pub copied_both : Target → Value → Val Actuals
copied_both x v = Gives (record { values = v ∷ []; targets = x ∷ [] })

abbrev pub value_or_nothing : Option Value → Val Value
value_or_nothing (Some v) = Gives v
value_or_nothing None = Meaningless

abbrev pub actual_expression : Place → Store → Activation → Parameter → ExprTree → Val Actuals
actual_expression place m a f e = elim f.mode [
  | mode.In ↦ and_then (and_then (val place e) (passed f.subtype)) copied_in
  | mode.Out ↦ and_then (named_target place e) copied_out
  | mode.InOut ↦ and_then (named_target place e) (λ x. and_then (and_then (value_or_nothing (target_value x m a)) (passed f.subtype)) (copied_both x))
]

abbrev pub actual : Place → Store → Activation → Parameter → ArgumentTree → Val Actuals
actual place m a f (tree.Value e) = actual_expression place m a f e
actual place m a f (tree.Text label at) = Meaningless

abbrev pub with_actuals : Actuals → Actuals → Val Actuals
with_actuals x rest = Gives (record { values = x.values ++ rest.values; targets = x.targets ++ rest.targets })

abbrev pub actuals : Place → Store → Activation → List Parameter → ArgumentTrees → Val Actuals
actuals place m a [] NoArguments = Gives (record { values = []; targets = [] })
actuals place m a (f ∷ fs) (MoreArguments x rest) = and_then (actual place m a f x) (λ one. and_then (actuals place m a fs rest) (with_actuals one))
actuals place m a fs xs = Meaningless

-- ---- the body of a call: its activation, and its work up to this end

abbrev pub is_out : Mode → Bool
is_out mode.Out = true
is_out mode.In = false
is_out mode.InOut = false

abbrev pub is_in : Mode → Bool
is_in mode.In = true
is_in mode.Out = false
is_in mode.InOut = false

abbrev pub with_first : Parameter → List Value → List Object → List Object
with_first f [] rest = rest
with_first f (v ∷ vs) rest = record { name = f.name; subtype = f.subtype; value = v } ∷ rest

-- the parameters that are copied in, with their values
abbrev pub bound : List Parameter → List Value → List Object
bound [] vs = []
bound (f ∷ fs) vs = if is_out f.mode then bound fs vs else with_first f vs (bound fs (drop 1 vs))

-- the names of those that are copied back
abbrev pub results : List Parameter → List (List ℕ)
results [] = []
results (f ∷ fs) = if is_in f.mode then results fs else f.name ∷ results fs

-- `out` parameters begin as objects without initial value
abbrev pub declares_parameters : List Parameter → List Item → List Item
declares_parameters [] items = items
declares_parameters (f ∷ fs) items = if is_out f.mode then DeclaresParameter f ∷ declares_parameters fs items else declares_parameters fs items

abbrev pub body_items : Procedure → (end : Item) → List Item → List Item
body_items q end items = declares_parameters q.parameters (map Declares q.body.declarations ++ Sequence q.body.statements q.body.handlers ∷ end ∷ items)

abbrev pub activation_of : Procedure → List Value → Activation
activation_of q vs = record { within = q.object; locals = bound q.parameters vs }

abbrev pub with_value_of : Option Object → List Value → List Value
with_value_of (Some x) vs = x.value ∷ vs
with_value_of None vs = vs

-- the values of these local objects
abbrev pub results_in : List Object → List (List ℕ) → List Value
results_in objects [] = []
results_in objects (name ∷ rest) = with_value_of (object_of objects name) (results_in objects rest)

-- ---- barriers (RM 9.5.2): the value of a component of the object, True or False

abbrev pub is_true : Val Value → Bool
is_true (Gives (Truth b)) = b
is_true e = false

abbrev pub barrier_place : Program → Store → ℕ → Place
barrier_place p m o = record (static_place p.scope) { components = m.components; within = Some o }

-- the barrier of the object's entry, if it has one
abbrev pub barrier_of : List Procedure → ℕ → Option ExprTree
barrier_of [] o = None
barrier_of (q ∷ rest) o = if is_of q.object (Some o) && is_some q.barrier then q.barrier else barrier_of rest o

abbrev pub holds_at : Place → Option ExprTree → Bool
holds_at place (Some e) = is_true (val place e)
holds_at place None = false

-- an object without entry serves nobody
abbrev pub is_open : Program → Store → ℕ → Bool
is_open p m o = holds_at (barrier_place p m o) (barrier_of p.procedures o)
