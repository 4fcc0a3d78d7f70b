-- Variables and their parts as targets: their names, their values, and how values are stored (RM 4.1, 5.2, 6.4.1).
use Rattle.std.specs.Prelude.{ℕ, zero, suc, ◌-ℤ◌, unsigned_abs, List, [], ◌∷◌, ◌++◌, Option, Some, None, bytes_eq, if◌then◌else◌}
use Rattle.kernel.specs.State.{put}
use Rattle.ada_tree.specs.ExpressionTree.{ExprTree, Named, SelectorTrees, NoSelectors, MoreSelectors, SelectorTree, Component, Arguments}
use Rattle.types.specs.declared.entity.Subtype.{Subtype}
use Rattle.types.specs.Entities.{TypeForm, Arrays, Records}
use Rattle.types.specs.Scopes.{form_at}
use Rattle.types.specs.Standings.{component_of}
use Rattle.types.specs.Values.{Value, Number, Array, Record, Values, NoValues, MoreValues, Fields, NoFields, MoreFields, element_at, field_of}
use Rattle.types.specs.Evaluations.{Val, Gives, Meaningless, and_then}
use Rattle.types.specs.Places.{Object, Place, object_of}
use Rattle.types.specs.Evaluating.{Calls, actuals_with, call}
use Rattle.meaning.specs.Works.{Part, Element, Field, Home, InActivation, InPackage, InObject, Target, Activation, Store}

-- ---- names of targets: indexes are evaluated and checked from left to right

abbrev pub whole : Home → Option Object → Option Target
whole home (Some x) = Some (record { home = home; name = x.name; parts = []; subtype = x.subtype })
whole home None = None

abbrev pub first_of : Option Target → Option Target → Option Target
first_of (Some x) other = Some x
first_of None other = other

abbrev pub own_component : Place → Option ℕ → List ℕ → Option Target
own_component p (Some o) name = whole (InObject o) (object_of (p.components o) name)
own_component p None name = None

-- the object of this name: local, of the running body's protected object, or of the package
abbrev pub object_named : Place → List ℕ → Option Target
object_named p name = first_of (whole InActivation (object_of p.locals name))
    (first_of (own_component p p.within name) (whole InPackage (object_of p.variables name)))

abbrev pub part_of : Target → Part → Option Subtype → Val Target
part_of x part (Some t) = Gives (record x { parts = x.parts ++ part ∷ []; subtype = t })
part_of x part None = Meaningless

abbrev pub element_of : Target → (index element : Subtype) → List Value → Val Target
element_of x index element (Number z ∷ []) = part_of x (Element (unsigned_abs (z -ℤ index.first))) (Some element)
element_of x index element vs = Meaningless

abbrev pub selected : Calls → Place → Target → Option TypeForm → SelectorTree → Val Target
selected calls p x (Some (Records components)) (Component name) = part_of x (Field name.name) (component_of components name.name)
selected calls p x (Some (Arrays index length element)) (Arguments a) = and_then (actuals_with calls p a (index ∷ [])) (element_of x index element)
selected calls p x form s = Meaningless

abbrev pub all_selected : Calls → Place → SelectorTrees → Target → Val Target
all_selected calls p NoSelectors x = Gives x
all_selected calls p (MoreSelectors s rest) x = and_then (selected calls p x (form_at p.scope x.subtype.type_number) s) (all_selected calls p rest)

abbrev pub target_or_nothing : Option Target → Val Target
target_or_nothing (Some x) = Gives x
target_or_nothing None = Meaningless

-- what a name of a variable or of a part of one names at a place
abbrev pub target : Place → List ℕ → SelectorTrees → Val Target
target p name selectors = and_then (target_or_nothing (object_named p name)) (all_selected (call p.frames_left) p selectors)

abbrev pub named_target : Place → ExprTree → Val Target
named_target p (Named first selectors) = target p first.name selectors
named_target p e = Meaningless

-- ---- the value of a part, and a value with a part of it changed

abbrev pub component_at : Part → Value → Option Value
component_at (Element n) (Array vs) = element_at vs n
component_at (Field name) (Record fs) = field_of fs name
component_at part v = None

abbrev pub part_value : List Part → Value → Option Value
part_value [] v = Some v
part_value (part ∷ parts) v = elim (component_at part v) [ Some w ↦ part_value parts w | None ↦ None ]

abbrev pub changed_element : ℕ → (Value → Value) → Values → Values
changed_element n change NoValues = NoValues
changed_element zero change (MoreValues v rest) = MoreValues (change v) rest
changed_element (suc n) change (MoreValues v rest) = MoreValues v (changed_element n change rest)

abbrev pub changed_field : List ℕ → (Value → Value) → Fields → Fields
changed_field name change NoFields = NoFields
changed_field name change (MoreFields own v rest) = if bytes_eq own name then MoreFields own (change v) rest else MoreFields own v
    (changed_field name change rest)

abbrev pub changed_part : Part → (Value → Value) → Value → Value
changed_part (Element n) change (Array vs) = Array (changed_element n change vs)
changed_part (Field name) change (Record fs) = Record (changed_field name change fs)
changed_part part change v = v

abbrev pub with_part : List Part → Value → Value → Value
with_part [] new v = new
with_part (part ∷ parts) new v = changed_part part (with_part parts new) v

-- ---- objects: what is stored stands in front of what was there

abbrev pub stored_to : Option Object → List Part → Value → List Object → List Object
stored_to (Some x) parts v objects = record x { value = with_part parts v x.value } ∷ objects
stored_to None parts v objects = objects

abbrev pub stored_in : List Object → Target → Value → List Object
stored_in objects x v = stored_to (object_of objects x.name) x.parts v objects

-- the store and the running activation once a value is stored
abbrev pub store_with : Target → Value → Store → Store
store_with x v m = elim x.home [
  | InActivation ↦ m
  | InPackage ↦ record m { variables = stored_in m.variables x v }
  | InObject o ↦ record m { components = put o (stored_in (m.components o) x v) m.components }
]

abbrev pub activation_with : Target → Value → Activation → Activation
activation_with x v a = elim x.home [ InActivation ↦ record a { locals = stored_in a.locals x v } | InPackage ↦ a | InObject o ↦ a ]

-- the objects among which a target stands
abbrev pub objects_of : Target → Store → Activation → List Object
objects_of x m a = elim x.home [ InActivation ↦ a.locals | InPackage ↦ m.variables | InObject o ↦ m.components o ]

abbrev pub value_in : Option Object → List Part → Option Value
value_in (Some x) parts = part_value parts x.value
value_in None parts = None

-- its value now
abbrev pub target_value : Target → Store → Activation → Option Value
target_value x m a = value_in (object_of (objects_of x m a) x.name) x.parts
