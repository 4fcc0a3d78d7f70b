-- The laws of values and types, as statements; each is the contract of a public function.
use Rattle.std.specs.Prelude.{◌≡◌, ◌≢◌, ℕ, ℤ, true, false, List, [], ◌∷◌, codes, length, Some}
use Rattle.meaning.specs.base.specs.declared.schedule.ScheduleLine.{ScheduleLine}
use Rattle.meaning.specs.ada_tree.specs.declared.expression.Identifier.{Identifier}
use Rattle.meaning.specs.ada_tree.specs.ExpressionTree.{ExprTree}
use Rattle.meaning.specs.types.specs.declared.entity.Subtype.{Subtype}
use Rattle.meaning.specs.types.specs.declared.entity.Role.{Role}
use Rattle.meaning.specs.types.specs.declared.entity.Role.TheVariants as role
use Rattle.meaning.specs.types.specs.Entities as entity
use Rattle.meaning.specs.types.specs.Entities.{Entity}
use Rattle.meaning.specs.types.specs.Scopes.{Scope, form_at, form_of, is_visible, standard, with_control_io, with_name, with_operations, with_real_time}
use Rattle.meaning.specs.types.specs.Values.{Value, Number}
use Rattle.meaning.specs.types.specs.Shapes.{has_shape, shape_of}
use Rattle.meaning.specs.types.specs.Places.{Object, Place, object_of}
use Rattle.meaning.specs.types.specs.Evaluating.{Calls, call, val, value_with}
use Rattle.meaning.specs.expr_rules.specs.declared.own.Own.TheVariants.{Typed}
use Rattle.meaning.specs.expr_rules.specs.declared.own.Wanted.{Wanted}
use Rattle.meaning.specs.expr_rules.specs.declared.own.Wanted.TheVariants.{OfType}
use Rattle.meaning.specs.expr_rules.specs.Typing.{is_integers, is_times, own_of}
use Rattle.meaning.specs.expr_rules.specs.ExpressionRules.{faults_in, faults_of}
use Rattle.meaning.specs.expr_rules.specs.Laws.{IsTyped, suits}
use Rattle.meaning.specs.type_rules.specs.SubtypeNames.{subtype_of}
use Rattle.meaning.specs.declaration_rules.specs.Laws.{StandsFirst}
use Rattle.meaning.specs.Works.{turn_subtype}
use Rattle.expr_soundness.specs.SoundScopes.{IsKnown, IsSoundEntity, IsSoundObject, SoundScope}
use Rattle.expr_soundness.specs.Agreeing.{Agrees}
use Rattle.expr_soundness.specs.Answers.{CallsAnswer, FunctionsAreSound}

-- ---- expressions

-- At a place that agrees with the visible names a legal expression comes to a value of its type, or raises an exception: never to what has no meaning.
pub record ExpressionsAreTyped : Type 0 where
  pub own : (s : Scope) (p : Place) (calls : Calls) → Agrees s p → CallsAnswer calls p → (e : ExprTree) (w : Wanted) → faults_in s w e ≡ []
      → IsTyped s (own_of s e) (value_with calls p e)
  -- of an expression where one of this type is expected
  pub wanted : (s : Scope) (p : Place) (calls : Calls) → Agrees s p → CallsAnswer calls p → (e : ExprTree) (n : ℕ) → faults_of s (OfType n) e ≡ []
      → suits s (Typed n) (value_with calls p e) ≡ true

-- where all functions are sound calls are answered, and expressions typed, with any number of frames left
pub record CallsAreTyped : Type 0 where
  pub answered : (p : Place) → FunctionsAreSound p → (left : ℕ) → CallsAnswer (call left) p
  pub typed : (s : Scope) (p : Place) → Agrees s p → FunctionsAreSound p → (e : ExprTree) (w : Wanted) → faults_in s w e ≡ [] → IsTyped s (own_of s e) (val p e)
  pub wanted : (s : Scope) (p : Place) → Agrees s p → FunctionsAreSound p → (e : ExprTree) (n : ℕ) → faults_of s (OfType n) e ≡ []
      → suits s (Typed n) (val p e) ≡ true

-- ---- scopes

pub record ScopesAreSound : Type 0 where
  -- the names that are always visible
  pub begun : SoundScope standard
  -- with one more name; Time comes with Time_Span behind it
  pub widened : (s : Scope) (name : List ℕ) (e : Entity) → SoundScope s → is_visible s name ≡ false → IsSoundEntity (with_name s name e) (length s) e
      → is_times (form_of (Some e)) ≡ false
      → SoundScope (with_name s name e)
  -- the units of the language (RM D.8, and Control_IO)
  pub real_time : (s : Scope) → SoundScope s → is_visible s (codes "TIME") ≡ false → is_visible s (codes "TIME_SPAN") ≡ false
      → is_visible s (codes "CLOCK") ≡ false
      → is_visible s (codes "MILLISECONDS") ≡ false
      → is_visible s (codes "MICROSECONDS") ≡ false
      → SoundScope (with_real_time s)
  pub control_io : (s : Scope) → SoundScope s → is_visible s (codes "PUT") ≡ false → is_visible s (codes "READ") ≡ false → SoundScope (with_control_io s)
  -- what a name of a subtype stands for is of a declared type
  pub subtype : (s : Scope) (name : Identifier) (t : Subtype) → SoundScope s → subtype_of s name ≡ Some t → IsKnown s t

-- ---- agreement

-- an object with this name and subtype stands there already, and this is one with a value of its shape
pub record Replaces (p : Place) (x : Object) (objects : List Object) : Type 0 where
  pub old : Object
  pub found : object_of objects x.name ≡ Some old
  pub same : x.subtype ≡ old.subtype
  pub suited : has_shape (shape_of p.scope x.subtype) x.value ≡ true

-- the components of the protected object with this number with one more object in front
pub record HasComponent (before after : ℕ → List Object) (object : ℕ) (x : Object) : Type 0 where
  pub added : after object ≡ x ∷ before object
  pub others : (n : ℕ) → n ≢ object → after n ≡ before n

pub record AgreementIsKept : Type 0 where
  -- where bodies and blocks end
  pub narrowed : (s t : Scope) (p : Place) → StandsFirst s t → SoundScope s → Agrees t p → Agrees s p
  -- in its own body a protected object has no operations behind its name
  pub hidden : (s : Scope) (p : Place) (number : ℕ) → Agrees s p → Agrees (with_operations s number []) p
  -- a new object
  pub declared : (s : Scope) (p : Place) (name : List ℕ) (r : Role) (t : Subtype) (v : Value) → Agrees s p → is_visible s name ≡ false
      → IsSoundObject s r t → has_shape (shape_of s t) v ≡ true
      → Agrees (with_name s name (entity.Object r t)) (record p { locals = (let x : Object = record { name = name; subtype = t; value = v } in x) ∷ p.locals })
  -- in a run a loop parameter is an object of type Integer, whatever the type of its range: it is a constant, of which only the value matters (RM 5.5)
  pub parameter : (s : Scope) (p : Place) (name : List ℕ) (t : Subtype) (z : ℤ) → Agrees s p → is_visible s name ≡ false
      → is_integers (form_at s t.type_number) ≡ true
      → Agrees (with_name s name (entity.Object role.LoopParameter t))
      (record p { locals = (let x : Object = record { name = name; subtype = turn_subtype z; value = Number z } in x) ∷ p.locals })
  -- a new value
  pub local : (s : Scope) (p : Place) (x : Object) → Agrees s p → Replaces p x p.locals → Agrees s (record p { locals = x ∷ p.locals })
  pub variable : (s : Scope) (p : Place) (x : Object) → Agrees s p → Replaces p x p.variables → Agrees s (record p { variables = x ∷ p.variables })
  pub component : (s : Scope) (p : Place) (object : ℕ) (x : Object) (after : ℕ → List Object) → Agrees s p → Replaces p x (p.components object)
      → HasComponent p.components after object x
      → Agrees s (record p { components = after })
  -- what does not matter
  pub circumstances : (s : Scope) (p : Place) (schedule : List ScheduleLine) (now : ℤ) (actions : List ℕ) (priority frames_left : ℕ) → Agrees s p
      → Agrees s (record p { schedule = schedule; now = now; actions = actions; priority = priority; frames_left = frames_left })
