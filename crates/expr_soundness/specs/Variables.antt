-- Variables and parts of them as targets: what a legal name of a variable names, the value there, and what stays where one is stored (RM 4.1, 5.2, 6.4.1).
use Rattle.std.specs.Prelude.{◌≡◌, true, List, [], ◌∷◌, Option, Some, None, nat_lt, ⊤, if◌then◌else◌}
use Rattle.meaning.specs.ada_tree.specs.declared.expression.Identifier.{Identifier}
use Rattle.meaning.specs.ada_tree.specs.ExpressionTree.{SelectorTrees}
use Rattle.meaning.specs.types.specs.declared.entity.Subtype.{Subtype}
use Rattle.meaning.specs.types.specs.declared.entity.Role.{Role}
use Rattle.meaning.specs.types.specs.declared.standing.Standing.{Standing}
use Rattle.meaning.specs.types.specs.declared.standing.Standing.TheVariants as standing
use Rattle.meaning.specs.types.specs.Entities.{TypeForm, Arrays, Records}
use Rattle.meaning.specs.types.specs.Scopes.{Scope, form_at}
use Rattle.meaning.specs.types.specs.Standings.{component_of, standing_of}
use Rattle.meaning.specs.types.specs.Values.{Value}
use Rattle.meaning.specs.types.specs.Shapes.{has_shape, shape_of}
use Rattle.meaning.specs.types.specs.Evaluations.{Val, Gives, Raises, Meaningless}
use Rattle.meaning.specs.types.specs.Places.{Object, Place, object_of}
use Rattle.meaning.specs.expr_rules.specs.ExpressionRules.{target_faults}
use Rattle.meaning.specs.Works.{Part, Element, Field, Target, Store, Activation}
use Rattle.meaning.specs.Targets.{activation_with, objects_of, part_value, store_with, target, target_value, with_part}
use Rattle.expr_soundness.specs.SoundScopes.{IsKnown, SoundScope}
use Rattle.expr_soundness.specs.Agreeing.{Agrees}
use Rattle.expr_soundness.specs.Answers.{FunctionsAreSound}

-- the subtype of one part of what has this form, if it has such a part
abbrev pub part_in : Option TypeForm → Part → Option Subtype
part_in (Some (Arrays index length element)) (Element n) = if nat_lt n length then Some element else None
part_in (Some (Records components)) (Field name) = component_of components name
part_in form part = None

-- the subtype of a part of an object of this subtype
abbrev pub part_subtype : Scope → Subtype → List Part → Option Subtype
part_subtype s t [] = Some t
part_subtype s t (part ∷ parts) = elim (part_in (form_at s t.type_number) part) [ Some u ↦ part_subtype s u parts | None ↦ None ]

-- the place with the objects that an activation sees
abbrev pub seen_by : Place → Store → Activation → Place
seen_by p m a = record p { variables = m.variables; components = m.components; locals = a.locals; within = a.within }

-- a part of a value: there, and of the shape of its subtype
pub record HasPart (s : Scope) (u : Subtype) (parts : List Part) (v : Value) : Type 0 where
  pub value : Value
  pub is : part_value parts v ≡ Some value
  pub suited : has_shape (shape_of s u) value ≡ true

-- the target is a part of an object that is there, with a value of its shape
pub record IsTargetThere (s : Scope) (x : Target) (m : Store) (a : Activation) : Type 0 where
  pub object : Object
  pub there : object_of (objects_of x m a) x.name ≡ Some object
  pub known : IsKnown s object.subtype
  pub suited : has_shape (shape_of s object.subtype) object.value ≡ true
  pub part : part_subtype s object.subtype x.parts ≡ Some x.subtype

-- it is the target for a name that stands for a variable
pub record IsTargetOf (s : Scope) (w : Standing) (x : Target) (m : Store) (a : Activation) : Type 0 where
  pub target : IsTargetThere s x m a
  pub known : IsKnown s x.subtype
  pub role : Role
  pub stands : w ≡ standing.Part role x.subtype

abbrev pub NamesTarget : Scope → Standing → Store → Activation → Val Target → Type 0
NamesTarget s w m a (Gives x) = IsTargetOf s w x m a
NamesTarget s w m a (Raises x) = ⊤
NamesTarget s w m a Meaningless = ⊥

pub record HasTargetValue (s : Scope) (x : Target) (m : Store) (a : Activation) : Type 0 where
  pub value : Value
  pub is : target_value x m a ≡ Some value
  pub suited : has_shape (shape_of s x.subtype) value ≡ true

-- a value of its shape can be stored in the target of a place that agrees
pub record CanBeStored (s : Scope) (p : Place) (x : Target) (v : Value) (m : Store) (a : Activation) : Type 0 where
  pub agrees : Agrees s (seen_by p m a)
  pub target : IsTargetThere s x m a
  pub suited : has_shape (shape_of s x.subtype) v ≡ true

pub record TargetsAreVariables : Type 0 where
  -- the name of a variable, or of a part of one, names a target, or its evaluation raises an exception
  pub named : (s : Scope) (p : Place) (m : Store) (a : Activation) → Agrees s (seen_by p m a) → FunctionsAreSound (seen_by p m a)
      → (first : Identifier) (selectors : SelectorTrees)
      → target_faults s first selectors ≡ [] → NamesTarget s (standing_of s first selectors) m a (target (seen_by p m a) first.name selectors)
  -- parts of values have the shapes of their subtypes, and so have values with a part changed
  pub value : (s : Scope) (t u : Subtype) (parts : List Part) (v : Value) → SoundScope s → part_subtype s t parts ≡ Some u → has_shape (shape_of s t) v ≡ true
      → HasPart s u parts v
  pub changed : (s : Scope) (t u : Subtype) (parts : List Part) (v new : Value) → SoundScope s → part_subtype s t parts ≡ Some u
      → has_shape (shape_of s t) v ≡ true
      → has_shape (shape_of s u) new ≡ true → has_shape (shape_of s t) (with_part parts new v) ≡ true
  -- the value of a target
  pub valued : (s : Scope) (x : Target) (m : Store) (a : Activation) → SoundScope s → IsTargetThere s x m a → HasTargetValue s x m a
  -- a value is stored: the activation that stores it agrees as before, and so does each other one; targets stay targets
  pub stored : (s : Scope) (p : Place) (x : Target) (v : Value) (m : Store) (a : Activation) → CanBeStored s p x v m a
      → Agrees s (seen_by p (store_with x v m) (activation_with x v a))
  pub elsewhere : (s t : Scope) (p : Place) (x : Target) (v : Value) (m : Store) (a c : Activation) → CanBeStored s p x v m a → Agrees t (seen_by p m c)
      → Agrees t (seen_by p (store_with x v m) c)
  pub kept : (s : Scope) (p : Place) (x y : Target) (v : Value) (m : Store) (a : Activation) → CanBeStored s p x v m a → IsTargetThere s y m a
      → IsTargetThere s y (store_with x v m) (activation_with x v a)
  pub kept_elsewhere : (s t : Scope) (p : Place) (x y : Target) (v : Value) (m : Store) (a c : Activation) → CanBeStored s p x v m a → Agrees t (seen_by p m c)
      → IsTargetThere t y m c → IsTargetThere t y (store_with x v m) c
