-- When a place of evaluation agrees with the names visible at a point of the text: each means there what it stands for.
use Rattle.std.specs.Prelude.{◌≡◌, ℕ, ℤ, true, List, map, Option, Some, None, bytes_eq, position, slice_get, ⊤}
use Rattle.meaning.specs.types.specs.declared.entity.Subtype.{Subtype}
use Rattle.meaning.specs.types.specs.declared.entity.Value.TheVariants as scalar
use Rattle.meaning.specs.types.specs.declared.entity.FormalParameter.{FormalParameter}
use Rattle.meaning.specs.types.specs.declared.entity.Role.{Role}
use Rattle.meaning.specs.types.specs.declared.entity.Role.TheVariants as role
use Rattle.meaning.specs.types.specs.declared.standing.Standing.TheVariants as standing
use Rattle.meaning.specs.types.specs.Entities.{TypeForm, Profile, Operation, ProtectedObject, Entity, OfType, OfSubtype, Object, Constant, Literal, Subprogram, Predefined, Protected}
use Rattle.meaning.specs.types.specs.Scopes.{Scope, boolean, entity_at, form_at, number_of}
use Rattle.meaning.specs.types.specs.Values.{Value, Number}
use Rattle.meaning.specs.types.specs.Shapes.{has_shape, shape_of}
use Rattle.meaning.specs.types.specs.Places.{Function, Place, Meaning, IsObject, IsFunction, IsPredefined, IsProtected, IsSubtype, function_of, meaning_of, stands_here}
use Rattle.meaning.specs.types.specs.Evaluating.{formal_subtype}
use Rattle.meaning.specs.expr_rules.specs.Typing.{is_integers}
use Rattle.meaning.specs.expr_rules.specs.Laws.{type_shape}
use Rattle.expr_soundness.specs.SoundScopes.{SoundScope}

-- ---- what is called

abbrev pub parameter_subtype : FormalParameter → Subtype
parameter_subtype f = f.subtype

-- the function has the formals and the result of this profile
pub record HasProfile (f : Function) (p : Profile) : Type 0 where
  pub formals : map formal_subtype f.formals ≡ map parameter_subtype p.formals
  pub result : p.result ≡ Some f.result

-- a name with a profile means a function with that profile; of procedures nothing is said, since no expression calls them
abbrev pub MeansFunction : Place → Meaning → Profile → Option Subtype → Type 0
MeansFunction p m profile (Some t) = (f : Function) × (m ≡ IsFunction f None) × (HasProfile f profile)
MeansFunction p m profile None = ⊤

-- the protected object with this number has a function of this name and profile
abbrev pub OffersFunction : Place → (object : ℕ) → (name : List ℕ) → Profile → Option Subtype → Type 0
OffersFunction p object name profile (Some t) = (f : Function) × (function_of p.functions (Some object) name ≡ Some f) × (HasProfile f profile)
OffersFunction p object name profile None = ⊤

-- the functions among the operations behind the name of a protected object
abbrev pub OffersFunctions : Place → (object : ℕ) → List Operation → Type 0
OffersFunctions p object operations = (name : List ℕ) (k : ℕ) (o : Operation)
    → position (λ x. bytes_eq x.name name) operations ≡ Some k → slice_get operations k ≡ Some o → OffersFunction p object name o.profile o.profile.result

-- an object here of this subtype, with a value of its shape
pub record MeansObject (s : Scope) (m : Meaning) (t : Subtype) : Type 0 where
  pub value : Value
  pub is : m ≡ IsObject t value
  pub suited : has_shape (shape_of s t) value ≡ true

pub record MeansProtected (p : Place) (m : Meaning) (o : ProtectedObject) : Type 0 where
  pub object : ProtectedObject
  pub is : m ≡ IsProtected object
  pub offers : OffersFunctions p object.number o.operations

-- a number, of whatever integer type: in a run a loop parameter is an object of subtype Integer
pub record MeansNumber (here : Scope) (m : Meaning) : Type 0 where
  pub subtype : Subtype
  pub value : ℤ
  pub is : m ≡ IsObject subtype (Number value)
  pub integers : is_integers (form_at here subtype.type_number) ≡ true

-- what an object of this role and subtype means, at a place with the names `here`
abbrev pub MeansOne : Scope → (here : Scope) → Meaning → Role → Subtype → Type 0
MeansOne s here m role.LoopParameter t = MeansNumber here m
MeansOne s here m r t = MeansObject s m t

-- ---- names

-- The name means here what it stands for: the same subtype, an object of its subtype with a value of its shape, the same fixed value, a function of its
-- profile. Of procedures, entries, exceptions, tasks and units nothing is said: no expression evaluates them.
abbrev pub Means : Scope → Place → (name : List ℕ) → Entity → Type 0
Means s p name (OfType form t) = meaning_of p name ≡ IsSubtype t
Means s p name (OfSubtype t) = meaning_of p name ≡ IsSubtype t
Means s p name (Object r t) = MeansOne s p.scope (meaning_of p name) r t
Means s p name (Constant t v) = stands_here p name ≡ standing.Fixed t v
Means s p name (Literal b) = stands_here p name ≡ standing.Given boolean (Some (scalar.Truth b))
Means s p name (Subprogram profile) = MeansFunction p (meaning_of p name) profile profile.result
Means s p name (Predefined o profile) = meaning_of p name ≡ IsPredefined o
Means s p name (Protected o) = MeansProtected p (meaning_of p name) o
Means s p name e = ⊤

-- A place agrees with a scope. The place knows the names of the whole package, and the scope those in front of a point of a body and the body's own, so they
-- have their types in common, at the same numbers, and names otherwise by what they mean.
pub record Agrees (s : Scope) (p : Place) : Type 0 where
  pub sound : SoundScope s
  pub forms : (number : ℕ) (form : TypeForm) → form_at s number ≡ Some form → form_at p.scope number ≡ Some form
  pub shapes : (number : ℕ) (form : TypeForm) → form_at s number ≡ Some form → type_shape p.scope number ≡ type_shape s number
  pub names : (name : List ℕ) (number : ℕ) (e : Entity) → number_of s name ≡ Some number → entity_at s number ≡ Some e → Means s p name e
