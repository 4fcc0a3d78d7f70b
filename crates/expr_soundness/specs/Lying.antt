-- When values lie in their subtypes, part by part, and when all do that an expression can see at a place (RM 3.2).
use Rattle.std.specs.Prelude.{◌≡◌, ℕ, ℤ, Bool, true, false, List, [], ◌∷◌, Option, Some, bytes_eq, ◌&&◌, ⊤}
use Rattle.meaning.specs.base.specs.Arithmetic.{is_in_base_range}
use Rattle.meaning.specs.base.specs.Schedule.{are_lines}
use Rattle.meaning.specs.types.specs.declared.entity.Subtype.{Subtype}
use Rattle.meaning.specs.types.specs.declared.entity.RecordComponent.{RecordComponent}
use Rattle.meaning.specs.types.specs.declared.entity.Role.{Role}
use Rattle.meaning.specs.types.specs.declared.entity.Role.TheVariants as role
use Rattle.meaning.specs.types.specs.declared.entity.PredefinedOperation.{PredefinedOperation}
use Rattle.meaning.specs.types.specs.Entities.{TypeForm, Arrays, Records, Profile, Object, Predefined}
use Rattle.meaning.specs.types.specs.Evaluating.{Calls, predefined_value, wanted_by_operation}
use Rattle.meaning.specs.types.specs.Evaluations.{Val, Gives, Raises, Meaningless}
use Rattle.meaning.specs.types.specs.Places as places
use Rattle.meaning.specs.types.specs.Places.{Function, Place, IsObject, function_of, meaning_of}
use Rattle.meaning.specs.types.specs.Scopes.{Scope, entity_at, form_at, number_of}
use Rattle.meaning.specs.types.specs.Values.{Value, Number, Truth, Array, Record, Values, NoValues, MoreValues, Fields, NoFields, MoreFields, is_within}
use Rattle.meaning.specs.types.specs.Bounds.{subtype_bounds}

-- ---- values between bounds

-- of what is no number nothing is said
abbrev pub is_between : ℤ × ℤ → Value → Bool
is_between bounds (Number z) = is_within bounds.0 bounds.1 z
is_between bounds v = true

-- a value between the bounds, or none
abbrev pub comes_between : ℤ × ℤ → Val Value → Bool
comes_between bounds (Gives v) = is_between bounds v
comes_between bounds v = true

-- each value between the bounds of its subtype, as far as there are both
abbrev pub are_between : List Subtype → List Value → Bool
are_between (t ∷ ts) (v ∷ vs) = is_between (subtype_bounds t) v && are_between ts vs
are_between ts vs = true

-- ---- part by part

abbrev pub components_of : Option TypeForm → List RecordComponent
components_of (Some (Records components)) = components
components_of form = []

abbrev mutual
  -- a number lies in the subtype, each component of a composite value in its own; the types are those of this scope
  pub lies : Scope → Subtype → Value → Bool
  lies s t (Number z) = is_within t.first t.last z
  lies s t (Truth b) = true
  lies s t (Array vs) = elements_lie s (form_at s t.type_number) vs
  lies s t (Record fs) = fields_lie s (components_of (form_at s t.type_number)) fs

  pub elements_lie : Scope → Option TypeForm → Values → Bool
  elements_lie s form NoValues = true
  elements_lie s (Some (Arrays index length element)) (MoreValues v rest) = lies s element v && elements_lie s (Some (Arrays index length element)) rest
  elements_lie s form (MoreValues v rest) = false

  pub fields_lie : Scope → List RecordComponent → Fields → Bool
  fields_lie s components NoFields = true
  fields_lie s (c ∷ components) (MoreFields name v rest) = bytes_eq name c.name && (lies s c.subtype v && fields_lie s components rest)
  fields_lie s [] (MoreFields name v rest) = false

-- The parts of a composite value lie in their subtypes, as the type with this number has them. Of a number nothing is asked: it has a subtype only where it
-- stands.
abbrev pub lies_inside : Scope → ℕ → Value → Bool
lies_inside s n (Number z) = true
lies_inside s n (Truth b) = true
lies_inside s n (Array vs) = elements_lie s (form_at s n) vs
lies_inside s n (Record fs) = fields_lie s (components_of (form_at s n)) fs

-- ---- objects

abbrev pub EachObject : (places.Object → Type 0) → List places.Object → Type 0
EachObject P [] = ⊤
EachObject P (x ∷ xs) = P x × EachObject P xs

-- the value of the object lies in its subtype, and each part of it in its own
abbrev pub ObjectLies : Scope → places.Object → Type 0
ObjectLies s x = lies s x.subtype x.value ≡ true

abbrev pub ObjectsLie : Scope → List places.Object → Type 0
ObjectsLie s xs = EachObject (ObjectLies s) xs

-- ---- at a place

-- All that a place has lies in its own subtype, part by part, whatever is seen of it; and the time and the inputs are numbers of 64 bits.
pub record PlaceLies (p : Place) : Type 0 where
  pub variables : ObjectsLie p.scope p.variables
  pub components : (o : ℕ) → ObjectsLie p.scope (p.components o)
  pub locals : ObjectsLie p.scope p.locals
  pub time : is_in_base_range p.now ≡ true
  pub inputs : are_lines p.schedule ≡ true

-- Each loop parameter that a scope knows has a number of the subtype that it knows of it, whose bounds are those of its range (RM 5.5): its object in a run has
-- the subtype of its turn.
abbrev pub LoopsLie : Scope → Place → Type 0
LoopsLie s p = (name : List ℕ) (number : ℕ) (t u : Subtype) (z : ℤ) → number_of s name ≡ Some number
    → entity_at s number ≡ Some (Object role.LoopParameter t)
    → meaning_of p name ≡ IsObject u (Number z) → is_within t.first t.last z ≡ true

-- What each function returns lies in the subtype of its result, wherever it is called and with whatever actuals: it is checked (RM 6.5).
abbrev pub ReturnWithin : Calls → Type 0
ReturnWithin calls = (p : Place) (f : Function) (vs : List Value) → comes_between (subtype_bounds f.result) (calls p f vs) ≡ true

-- of what gives a value this is known; of what raises an exception, or has no meaning, nothing is asked
abbrev pub OnGives : {A : Type 0} → (A → Type 0) → Val A → Type 0
OnGives knows (Gives a) = knows a
OnGives knows (Raises x) = ⊤
OnGives knows Meaningless = ⊤

-- each visible object lies in the subtype that a scope knows of it
abbrev pub ObjectsLieHere : Scope → Place → Type 0
ObjectsLieHere s p = (name : List ℕ) (number : ℕ) (r : Role) (t u : Subtype) (v : Value) → number_of s name ≡ Some number
    → entity_at s number ≡ Some (Object r t)
    → meaning_of p name ≡ IsObject u v → lies p.scope t v ≡ true

-- What is visible has values in the subtypes that a scope knows of it.
pub record VisibleLies (s : Scope) (p : Place) : Type 0 where
  pub objects : ObjectsLieHere s p
  -- what Ada.Real_Time and Control_IO give for actuals that lie in their subtypes: the time, spans of it, and the inputs
  pub given : (number : ℕ) (o : PredefinedOperation) (profile : Profile) (t : Subtype) (vs : List Value) → entity_at s number ≡ Some (Predefined o profile)
      → profile.result ≡ Some t → are_between (wanted_by_operation o) vs ≡ true
      → comes_between (subtype_bounds t) (predefined_value p o vs) ≡ true

-- All that has a value at a place lies in the subtype that a scope knows of it.
pub record ValuesLie (s : Scope) (p : Place) (calls : Calls) : Type 0 where
  pub visible : VisibleLies s p
  -- what each function returns, with whatever actuals, and whatever actions are open
  pub results : (actions : List ℕ) (owner : Option ℕ) (name : List ℕ) (f : Function) (vs : List Value) → function_of p.functions owner name ≡ Some f
      → comes_between (subtype_bounds f.result) (calls (record p { actions = actions }) f vs) ≡ true
