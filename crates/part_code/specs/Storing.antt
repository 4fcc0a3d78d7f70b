-- What it is that code stores a value: an assignment, or a declaration of an object (RM 3.3.1, 5.2).
use Rattle.std.specs.Prelude.{◌≡◌, ◌≤◌, ◌-◌, ℕ, suc, ℤ, List, [], ◌∷◌, length, Option, Some, None, ⊤}
use Rattle.base.specs.declared.schedule.ScheduleLine.{ScheduleLine}
use Rattle.kernel.specs.State.{Kernel}
use Rattle.kernel.specs.Calm.{Calm}
use Rattle.kernel.specs.Counting.{Spends}
use Rattle.kernel.specs.Effects.{Quiet}
use Rattle.image.specs.Sections.{Sections}
use Rattle.image.specs.Frames.{Words, Frame, own_object}
use Rattle.image.specs.Steps.{act, behaviour, does}
use Rattle.image.specs.declared.instruction.Operation.TheVariants as op
use Rattle.ada_tree.specs.ExpressionTree.{ExprTree, NameTree}
use Rattle.ada_tree.specs.StatementTree.{ObjectTree}
use Rattle.types.specs.Scopes.{Scope}
use Rattle.types.specs.Shapes.{initial}
use Rattle.types.specs.Values.{Value}
use Rattle.types.specs.Evaluations.{Val, Gives, Meaningless, Raises, and_then}
use Rattle.types.specs.Places.{Object, Place}
use Rattle.types.specs.Evaluating.{Calls, call, passed, value_with}
use Rattle.expr_soundness.specs.meaning.specs.Programs.{Program, subtype_named}
use Rattle.expr_soundness.specs.meaning.specs.SameMeaning.{frames_of}
use Rattle.expr_soundness.specs.meaning.specs.Works.{Activation, Store, Target}
use Rattle.expr_soundness.specs.meaning.specs.Targets.{all_selected, object_named, target_or_nothing}
use Rattle.expr_code.specs.Views.{At, frames_above, in_frame, placed, view_of}
use Rattle.expr_code.specs.Coming.{Comes, most_steps}
use Rattle.expr_code.specs.Computing.{Answers, Everywhere}
use Rattle.expr_code.specs.Seeing.{library_of, Package, Sees}
use Rattle.part_code.specs.Jumping.{Jumps}
use Rattle.part_code.specs.Resting.{AreKept, Framed, IsAt, Knows, Rests, StandsFor}

-- ---- what is stored

-- a value, and the variable or the part of one to which it goes
pub record Assigned : Type 0 where
  pub target : Target
  pub value : Value

abbrev pub assigned_to : Calls → Place → ExprTree → Target → Val Assigned
assigned_to calls p e x = and_then (and_then (value_with calls p e) (passed x.subtype)) (λ v. Gives (record { target = x; value = v }))

-- the name of the target, then the value and its check
abbrev pub assigned : NameTree → ExprTree → Calls → Place → Val Assigned
assigned name e calls p = and_then (and_then (target_or_nothing (object_named p name.first.name)) (all_selected calls p name.selectors)) (assigned_to calls p e)

-- the initial value of an object, checked
abbrev pub declared_from : Scope → ObjectTree → Option ExprTree → Calls → Place → Val Value
declared_from s d (Some e) calls p = and_then (value_with calls p e) (passed (subtype_named s d.subtype))
declared_from s d None calls p = Gives (initial s (subtype_named s d.subtype))

abbrev pub declared : Scope → ObjectTree → Calls → Place → Val Value
declared s d calls p = declared_from s d d.value calls p

abbrev pub object_declared : Scope → ObjectTree → Value → Object
object_declared s d v = record { name = d.name.name; subtype = subtype_named s d.subtype; value = v }

-- ---- code that stores

-- these words are put on the operand stack, one by one
abbrev pub ArePushed : Sections → ℕ → List ℤ → Type 0
ArePushed i from [] = ⊤
ArePushed i from (w ∷ ws) = At i from (op.Push w) × ArePushed i (suc from) ws

module _ (i : Sections) (program : Program) (g : Package) where
  -- The instruction at a place takes words off this operand stack, leaves the others on it, and stores them: the words stand for this store then, and the
  -- locals for this activation.
  pub record Puts (schedule : List ScheduleLine) (k : Kernel) (t : ℕ) (m : Words) (f : Frame) (fs : List Frame) (place : ℕ) (stack left : List ℤ)
      (later : Framed) (store : Store) (a : Activation) : Type 0 where
    pub words : Words
    pub locals : List ℤ
    pub acts : act i schedule k t (in_frame m (placed f place stack) fs) ≡ does Quiet words (record f { place = suc place; locals = locals; stack = left }) fs
        None None
    pub shared : StandsFor program g store words
    pub rests : Rests g later a locals
    pub keeps : AreKept later.reserved f.locals locals

  -- The code between two places computes what is to be stored, and its last instruction stores it.
  pub record Stores {A : Type 0} (v later : Framed) (from to : ℕ) (value : Calls → Place → Val A) (store_after : A → Store → Store)
      (own_after : A → Activation → Activation) : Type 0 where
    pub mid : ℕ
    pub up : from ≤ mid
    pub end : to ≡ suc mid
    pub same : later.reserved ≡ v.reserved
    pub stack : List ℤ → A → List ℤ
    pub computes : Everywhere i (library_of g) (Sees g v.names) from mid stack value
    pub puts : (schedule : List ScheduleLine) (k : Kernel) (t : ℕ) (m : Words) (f : Frame) (fs : List Frame) (store : Store) (a : Activation) (p : Place)
        (x : A)
        → IsAt program store p
        → p.locals ≡ a.locals
        → p.within ≡ a.within
        → StandsFor program g store m
        → Rests g v a f.locals
        → own_object i f ≡ a.within
        → Knows g v p (view_of i schedule k t m f fs)
        → value (call p.frames_left) p ≡ Gives x
        → Puts schedule k t m f fs mid (stack [] x) [] later (store_after x store) (own_after x a)

  -- From its place the frame comes to the instruction that stores the value, with whatever that one stores it by on the operand stack, and behind which forward
  -- jumps lead to the end of the code; or it raises.
  abbrev pub Arrives : {A : Type 0} → (schedule : List ScheduleLine) → Kernel → ℕ → Words → Frame → List Frame → (from to : ℕ) → (later : Framed)
      → (store_after : A → Store) → (own_after : A → Activation) → Val A → Type 0
  Arrives schedule k t m f fs from to later store_after own_after (Gives x) =
      (mid : ℕ) × (stack : List ℤ)
      × (from ≤ mid)
      × (suc mid ≤ to)
      × Jumps i (suc mid) to
      × Spends (behaviour i schedule) t frames_of (most_steps i) (suc (length fs)) (mid - from) k (in_frame m (placed f from []) fs) k
      (in_frame m (placed f mid stack) fs)
      × Puts schedule k t m f fs mid stack [] later (store_after x) (own_after x)
  Arrives schedule k t m f fs from to later store_after own_after (Raises e) =
      Comes i schedule k t m (placed f from []) fs (to - from) to (λ (stack : List ℤ). stack) (Raises e)
  Arrives schedule k t m f fs from to later store_after own_after Meaningless = ⊤

  -- The code between two places stores what is computed, wherever a frame stands for the place of evaluation; nothing but jumps is behind the instruction that
  -- stores it.
  pub record Assigns {A : Type 0} (v later : Framed) (from to : ℕ) (value : Calls → Place → Val A) (store_after : A → Store → Store)
      (own_after : A → Activation → Activation) : Type 0 where
    pub same : later.reserved ≡ v.reserved
    pub arrives : (schedule : List ScheduleLine) (k : Kernel) (t : ℕ) (m : Words) (f : Frame) (fs : List Frame) (store : Store) (a : Activation) (p : Place)
        → ((left : ℕ) → Answers i (library_of g) (call left) left)
        → Calm k t
        → IsAt program store p
        → p.locals ≡ a.locals
        → p.within ≡ a.within
        → StandsFor program g store m
        → Rests g v a f.locals
        → own_object i f ≡ a.within
        → Knows g v p (view_of i schedule k t m f fs)
        → p.frames_left ≡ frames_above k t fs
        → Arrives schedule k t m f fs from to later (λ x. store_after x store) (λ x. own_after x a) (value (call p.frames_left) p)
