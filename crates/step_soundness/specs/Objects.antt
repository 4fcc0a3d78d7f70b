-- Values of types, objects with values of their types, and targets: objects and parts of them that are there (RM 3.2, 4.1, 5.2).
use Rattle.std.specs.Prelude.{◌≡◌, ◌<◌, ◌≤◌, ◌⊎◌, ℕ, true, List, [], ◌∷◌, length, option_map, Option, Some, ⊤}
use Rattle.expr_soundness.specs.types.specs.declared.entity.Subtype.{Subtype}
use Rattle.expr_soundness.specs.types.specs.declared.entity.RecordComponent.{RecordComponent}
use Rattle.expr_soundness.specs.types.specs.Entities.{Arrays, Records}
use Rattle.expr_soundness.specs.types.specs.Scopes.{Scope, form_at}
use Rattle.expr_soundness.specs.types.specs.Shapes.{has_shape}
use Rattle.expr_soundness.specs.types.specs.Standings.{component_of}
use Rattle.expr_soundness.specs.types.specs.Values.{Value}
use Rattle.expr_soundness.specs.types.specs.Evaluations.{Val, Gives, Raises, Meaningless}
use Rattle.expr_soundness.specs.types.specs.Places.{Object, object_of}
use Rattle.expr_soundness.specs.expr_rules.specs.Laws.{type_shape}
use Rattle.expr_soundness.specs.meaning.specs.Programs.{Program}
use Rattle.expr_soundness.specs.meaning.specs.Works.{Part, Element, Field, Home, InActivation, InPackage, InObject, Target, Activation, Store}
use Rattle.expr_soundness.specs.meaning.specs.Targets.{objects_of}

-- ---- evaluations that come to something

-- the number of a predefined exception (RM 11.1)
abbrev pub IsPredefinedException : ℕ → Type 0
IsPredefinedException x = (0 < x) × (x ≤ 4)

-- the number of an exception: of a predefined one, or of one that the program declares
abbrev pub IsException : Program → ℕ → Type 0
IsException program x = (0 < x) × ((x ≤ 4) ⊎ (x ≤ length program.exceptions))

-- it gives what has this property, or raises a predefined exception; never what has no meaning
abbrev pub GivesOrRaises : {A : Type 0} → (A → Type 0) → Val A → Type 0
GivesOrRaises P (Gives a) = P a
GivesOrRaises P (Raises x) = IsPredefinedException x
GivesOrRaises P Meaningless = ⊥

-- ---- values

-- the value is of the type with this number
abbrev pub IsOf : Scope → ℕ → Value → Type 0
IsOf s n v = has_shape (type_shape s n) v ≡ true

-- as many values as types, each of its type
abbrev pub AreOf : Scope → List ℕ → List Value → Type 0
AreOf s [] [] = ⊤
AreOf s (n ∷ ns) (v ∷ vs) = (IsOf s n v) × (AreOf s ns vs)
AreOf s ns vs = ⊥

-- ---- objects

abbrev pub AreSoundObjects : Scope → List Object → Type 0
AreSoundObjects s [] = ⊤
AreSoundObjects s (x ∷ xs) = (IsOf s x.subtype.type_number x.value) × (AreSoundObjects s xs)

abbrev pub object_subtype : Object → Subtype
object_subtype x = x.subtype

-- the subtype of the newest object of this name
abbrev pub subtype_in : List Object → List ℕ → Option Subtype
subtype_in objects name = option_map object_subtype (object_of objects name)

-- ---- targets

-- the parts lead from the subtype of the whole to that of the part
abbrev pub PartOf : Scope → Subtype → List Part → Subtype → Type 0
PartOf s t [] u = t ≡ u
PartOf s t (Element n ∷ parts) u =
    (index : Subtype) × (length : ℕ) × (element : Subtype) × (form_at s t.type_number ≡ Some (Arrays index length element)) × (n < length)
    × PartOf s element parts u
PartOf s t (Field name ∷ parts) u =
    (components : List RecordComponent) × (component : Subtype) × (form_at s t.type_number ≡ Some (Records components))
    × (component_of components name ≡ Some component)
    × PartOf s component parts u

-- the components of a protected object are targets in its own bodies alone (RM 9.5.1)
abbrev pub IsReached : Option ℕ → Home → Type 0
IsReached within InActivation = ⊤
IsReached within InPackage = ⊤
IsReached within (InObject o) = within ≡ Some o

-- an object of this name stands there, and has such a part
pub record IsPartIn (s : Scope) (objects : List Object) (x : Target) : Type 0 where
  pub whole : Subtype
  pub found : subtype_in objects x.name ≡ Some whole
  pub part : PartOf s whole x.parts x.subtype

-- what the program declares at the start; stores have objects of the same names and subtypes at every time
abbrev pub first_store : Program → Store
first_store program = record { variables = program.variables; components = program.components }

-- a target of a body with this activation
pub record IsTarget (program : Program) (a : Activation) (x : Target) : Type 0 where
  pub part : IsPartIn program.scope (objects_of x (first_store program) a) x
  pub reached : IsReached a.within x.home

-- as many targets as types, each of its type
abbrev pub AreTargets : Program → Activation → List ℕ → List Target → Type 0
AreTargets program a [] [] = ⊤
AreTargets program a (n ∷ ns) (x ∷ xs) = (x.subtype.type_number ≡ n) × (IsTarget program a x) × (AreTargets program a ns xs)
AreTargets program a ns xs = ⊥
