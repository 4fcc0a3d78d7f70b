-- Scopes whose names are all known: what the legal declarations in front of a point of the text make visible there (RM 3, 6, 9).
use Rattle.std.specs.Prelude.{◌≡◌, ◌<◌, ℕ, suc, Bool, true, false, List, [], ◌∷◌, Option, Some, None, is_some, ⊤}
use Rattle.meaning.specs.ada_tree.specs.declared.declaration.Mode.TheVariants as mode
use Rattle.meaning.specs.types.specs.declared.entity.Subtype.{Subtype}
use Rattle.meaning.specs.types.specs.declared.entity.Role.{Role}
use Rattle.meaning.specs.types.specs.declared.entity.Role.TheVariants as role
use Rattle.meaning.specs.types.specs.declared.entity.Value.{Value as Scalar}
use Rattle.meaning.specs.types.specs.declared.entity.RecordComponent.{RecordComponent}
use Rattle.meaning.specs.types.specs.declared.entity.FormalParameter.{FormalParameter}
use Rattle.meaning.specs.types.specs.declared.entity.PredefinedOperation.{PredefinedOperation}
use Rattle.meaning.specs.types.specs.declared.entity.PredefinedOperation.TheVariants as predefined
use Rattle.meaning.specs.types.specs.Entities.{TypeForm, Integers, Booleans, Arrays, Records, Profile, Operation, Entity, OfType, OfSubtype, Object, Constant, Subprogram, Entry, Predefined, Protected, Doubtful}
use Rattle.meaning.specs.types.specs.Bounds.{base_bounds, subtype_bounds}
use Rattle.meaning.specs.types.specs.Scopes.{Scope, entity_at, form_at, boolean_type, integer_type, integer}
use Rattle.meaning.specs.types.specs.Shapes.{has_shape, shape_of}
use Rattle.meaning.specs.types.specs.Values.{value_of}
use Rattle.meaning.specs.expr_rules.specs.Typing.{is_integers, is_spans, is_times}
use Rattle.meaning.specs.type_rules.specs.TypeRules.{length_of}

-- ---- types

-- the type of the subtype is declared
abbrev pub IsKnown : Scope → Subtype → Type 0
IsKnown s t = is_some (form_at s t.type_number) ≡ true

-- what the type with this number is made of is of a type declared before it
pub record IsEarlier (s : Scope) (number : ℕ) (t : Subtype) : Type 0 where
  pub known : IsKnown s t
  pub before : t.type_number < number

-- an array is indexed by integers, and has a component for each value of its index (RM 3.6)
pub record IsSoundArray (s : Scope) (number : ℕ) (index : Subtype) (length : ℕ) (element : Subtype) : Type 0 where
  pub integers : is_integers (form_at s index.type_number) ≡ true
  pub counted : length ≡ length_of index
  pub earlier : IsEarlier s number element

abbrev pub AreEarlier : Scope → ℕ → List RecordComponent → Type 0
AreEarlier s number [] = ⊤
AreEarlier s number (c ∷ cs) = (IsEarlier s number c.subtype) × (AreEarlier s number cs)

abbrev pub IsSoundForm : Scope → ℕ → TypeForm → Type 0
IsSoundForm s number (Arrays index length element) = IsSoundArray s number index length element
IsSoundForm s number (Records components) = AreEarlier s number components
IsSoundForm s number form = ⊤

-- a type's number is that of its name
pub record IsSoundType (s : Scope) (number : ℕ) (form : TypeForm) (t : Subtype) : Type 0 where
  pub numbered : t.type_number ≡ number
  pub parts : IsSoundForm s number form

-- ---- constants of the package: the value is known, and of the type

pub record IsSoundConstant (s : Scope) (t : Subtype) (v : Option Scalar) : Type 0 where
  pub known : IsKnown s t
  pub value : Scalar
  pub given : v ≡ Some value
  pub suited : has_shape (shape_of s t) (value_of value) ≡ true

-- ---- what is called

abbrev pub AreKnown : Scope → List FormalParameter → Type 0
AreKnown s [] = ⊤
AreKnown s (f ∷ fs) = (IsKnown s f.subtype) × (AreKnown s fs)

abbrev pub AreIn : List FormalParameter → Type 0
AreIn [] = ⊤
AreIn (f ∷ fs) = (f.mode ≡ mode.In) × (AreIn fs)

-- a function's formals are all of mode `in` (RM 6.1; docs/LANGUAGE.md)
abbrev pub IsSoundResult : Scope → List FormalParameter → Option Subtype → Type 0
IsSoundResult s formals (Some t) = (IsKnown s t) × (AreIn formals)
IsSoundResult s formals None = ⊤

pub record IsSoundProfile (s : Scope) (p : Profile) : Type 0 where
  pub known : AreKnown s p.formals
  pub result : IsSoundResult s p.formals p.result

-- an entry gives no result (RM 9.5.2)
pub record IsSoundEntry (s : Scope) (p : Profile) : Type 0 where
  pub known : AreKnown s p.formals
  pub none : p.result ≡ None

abbrev pub IsSoundOperation : Scope → (is_entry : Bool) → Profile → Type 0
IsSoundOperation s true p = IsSoundEntry s p
IsSoundOperation s false p = IsSoundProfile s p

abbrev pub AreSoundOperations : Scope → List Operation → Type 0
AreSoundOperations s [] = ⊤
AreSoundOperations s (o ∷ os) = (IsSoundOperation s o.is_entry o.profile) × (AreSoundOperations s os)

-- the components of a protected object
abbrev pub AreKnownParts : Scope → List RecordComponent → Type 0
AreKnownParts s [] = ⊤
AreKnownParts s (c ∷ cs) = (IsKnown s c.subtype) × (AreKnownParts s cs)

-- ---- the operations of the language (RM D.8, and Control_IO)

abbrev pub integer_formal : FormalParameter
integer_formal = record { mode = mode.In; subtype = integer }

pub record HasOperation (s : Scope) (formals : List FormalParameter) (is_result : Option TypeForm → Bool) (p : Profile) : Type 0 where
  pub subtype : Subtype
  pub result : p.result ≡ Some subtype
  -- whose values are all that 64 bits hold
  pub base : subtype_bounds subtype ≡ base_bounds
  pub form : is_result (form_at s subtype.type_number) ≡ true
  pub takes : p.formals ≡ formals

abbrev pub IsSoundPredefined : Scope → PredefinedOperation → Profile → Type 0
IsSoundPredefined s predefined.Clock p = HasOperation s [] is_times p
IsSoundPredefined s predefined.Milliseconds p = HasOperation s (integer_formal ∷ []) is_spans p
IsSoundPredefined s predefined.Microseconds p = HasOperation s (integer_formal ∷ []) is_spans p
IsSoundPredefined s predefined.Read p = HasOperation s (integer_formal ∷ []) is_integers p

-- ---- objects

-- the type of an object is declared, and that of a loop parameter is an integer type (RM 5.5)
abbrev pub IsSoundObject : Scope → Role → Subtype → Type 0
IsSoundObject s role.LoopParameter t = is_integers (form_at s t.type_number) ≡ true
IsSoundObject s r t = IsKnown s t

-- ---- scopes

-- what the name with this number stands for
abbrev pub IsSoundEntity : Scope → ℕ → Entity → Type 0
IsSoundEntity s number (OfType form t) = IsSoundType s number form t
IsSoundEntity s number (OfSubtype t) = IsKnown s t
IsSoundEntity s number (Object r t) = IsSoundObject s r t
IsSoundEntity s number (Constant t v) = IsSoundConstant s t v
IsSoundEntity s number (Subprogram p) = IsSoundProfile s p
IsSoundEntity s number (Entry p) = IsSoundEntry s p
IsSoundEntity s number (Predefined o p) = IsSoundPredefined s o p
IsSoundEntity s number (Protected o) = (AreSoundOperations s o.operations) × (AreKnownParts s o.components)
IsSoundEntity s number Doubtful = ⊥
IsSoundEntity s number e = ⊤

-- each name is known, Integer and Boolean are the types with their numbers, and Time_Span stands behind Time
pub record SoundScope (s : Scope) : Type 0 where
  pub integer : form_at s integer_type ≡ Some Integers
  pub boolean : form_at s boolean_type ≡ Some Booleans
  pub span : (n : ℕ) → is_times (form_at s n) ≡ true → is_spans (form_at s (suc n)) ≡ true
  pub each : (number : ℕ) (e : Entity) → entity_at s number ≡ Some e → IsSoundEntity s number e
