-- Which names are visible, and the numbers by which types and other names are known (RM 8.3, A.1).
use Rattle.std.specs.Prelude.{ℕ, zero, suc, ◌+◌, ◌-◌, ◌^◌, ℤ, pos, negsuc, Bool, true, false, List, [], ◌∷◌, ◌++◌, length, Option, Some, None, position, slice_get, bytes_eq, codes, if◌then◌else◌, is_some}
use Rattle.ada_tree.specs.declared.declaration.Mode.TheVariants as mode
use Rattle.types.specs.declared.entity.Barrier.{Barrier}
use Rattle.types.specs.declared.entity.Subtype.{Subtype}
use Rattle.types.specs.declared.entity.PredefinedOperation.{PredefinedOperation}
use Rattle.types.specs.declared.entity.PredefinedOperation.TheVariants as predefined
use Rattle.types.specs.declared.scope.Declared.{Declared}
use Rattle.types.specs.Entities.{entity_value, TypeForm, Integers, Booleans, Times, Spans, Profile, Operation, ProtectedObject, Entity, OfType, OfSubtype, Literal, Exception, Subprogram, Entry, Predefined, Put, Protected}

pub record Named : Type 0 where
  pub name : List ℕ
  pub entity : Entity

-- The visible names in the order of their declarations. A name's number is its position, and a type's number is the number of its name.
-- No name hides another one, so each stands once.
abbrev pub Scope : Type 0
Scope = List Named

abbrev pub number_of : Scope → List ℕ → Option ℕ
number_of s name = position (λ n. bytes_eq name n.name) s

abbrev pub entity_of : Option Named → Option Entity
entity_of (Some n) = Some n.entity
entity_of None = None

abbrev pub entity_at : Scope → ℕ → Option Entity
entity_at s n = entity_of (slice_get s n)

abbrev pub is_visible : Scope → List ℕ → Bool
is_visible s name = is_some (number_of s name)

-- a name is visible after its declaration, unless one like it is visible already: the first keeps the name
abbrev pub with_name : Scope → List ℕ → Entity → Scope
with_name s name e = if is_visible s name then s else s ++ record { name = name; entity = e } ∷ []

-- the scope with what the name with this number stands for changed
abbrev pub changed_at : Scope → ℕ → (Entity → Entity) → Scope
changed_at [] number change = []
changed_at (n ∷ rest) zero change = record { name = n.name; entity = change n.entity } ∷ rest
changed_at (n ∷ rest) (suc number) change = n ∷ changed_at rest number change

-- a protected object whose entry has this barrier; nothing else has one (RM 9.5.2)
abbrev pub barred : Barrier → Entity → Entity
barred barrier (Protected p) = Protected (record p { barrier = Some barrier })
barred barrier e = e

-- the scope once the body of an entry, and so its barrier, is known
abbrev pub with_barrier : Scope → ℕ → Barrier → Scope
with_barrier s number barrier = changed_at s number (barred barrier)

-- a protected object with these operations behind its name; nothing else has any (RM 9.4)
abbrev pub offering : List Operation → Entity → Entity
offering operations (Protected p) = Protected (record p { operations = operations })
offering operations e = e

-- in its own body a protected object has no operations behind its name
abbrev pub with_operations : Scope → ℕ → List Operation → Scope
with_operations s number operations = changed_at s number (offering operations)

-- the form of the type with this number, if it is one
abbrev pub form_of : Option Entity → Option TypeForm
form_of (Some (OfType form s)) = Some form
form_of e = None

abbrev pub form_at : Scope → ℕ → Option TypeForm
form_at s n = form_of (entity_at s n)

-- the profile of the subprogram or entry with this number, if it is one
abbrev pub profile_of : Option Entity → Option Profile
profile_of (Some (Subprogram p)) = Some p
profile_of (Some (Entry p)) = Some p
profile_of (Some (Predefined o p)) = Some p
profile_of e = None

abbrev pub profile_at : Scope → ℕ → Option Profile
profile_at s n = profile_of (entity_at s n)

-- the protected object with this number, if it is one
abbrev pub protected_of : Option Entity → Option ProtectedObject
protected_of (Some (Protected p)) = Some p
protected_of e = None

abbrev pub protected_at : Scope → ℕ → Option ProtectedObject
protected_at s n = protected_of (entity_at s n)

-- protected objects are numbered in the order of their declarations
abbrev pub one_if_protected : Entity → ℕ
one_if_protected (Protected p) = 1
one_if_protected e = 0

abbrev pub protected_count : Scope → ℕ
protected_count [] = 0
protected_count (n ∷ rest) = one_if_protected n.entity + protected_count rest

-- the operations of this protected object; of anything else the others
abbrev pub operations_or : Option ProtectedObject → List Operation → List Operation
operations_or (Some p) others = p.operations
operations_or None others = others

-- ---- what is visible before any declaration

abbrev pub least_number : ℤ
least_number = negsuc (2 ^ 63 - 1)

abbrev pub greatest_number : ℤ
greatest_number = pos (2 ^ 63 - 1)

-- the subtype of the whole base range of a type
abbrev pub base_range_of : ℕ → Subtype
base_range_of type_number = record { type_number = type_number; first = least_number; last = greatest_number }

abbrev pub integer_type : ℕ
integer_type = 0

abbrev pub boolean_type : ℕ
boolean_type = 3

-- Integer has the bounds of its base range
abbrev pub integer : Subtype
integer = base_range_of integer_type

abbrev pub boolean : Subtype
boolean = record { type_number = boolean_type; first = pos 0; last = pos 1 }

abbrev pub integers_from : ℕ → Subtype
integers_from first = record { type_number = integer_type; first = pos first; last = greatest_number }

-- the names that are always visible (RM A.1)
abbrev pub standard : Scope
standard =
    record { name = codes "INTEGER"; entity = OfType Integers integer }
    ∷ record { name = codes "NATURAL"; entity = OfSubtype (integers_from 0) }
    ∷ record { name = codes "POSITIVE"; entity = OfSubtype (integers_from 1) }
    ∷ record { name = codes "BOOLEAN"; entity = OfType Booleans boolean }
    ∷ record { name = codes "TRUE"; entity = Literal true }
    ∷ record { name = codes "FALSE"; entity = Literal false }
    ∷ record { name = codes "CONSTRAINT_ERROR"; entity = Exception }
    ∷ record { name = codes "PROGRAM_ERROR"; entity = Exception }
    ∷ record { name = codes "STORAGE_ERROR"; entity = Exception }
    ∷ record { name = codes "TASKING_ERROR"; entity = Exception }
    ∷ []

-- a function of the language, from integers to this subtype
abbrev pub from_nothing : PredefinedOperation → Subtype → Entity
from_nothing operation result = Predefined operation (record { formals = []; result = Some result })

abbrev pub from_integer : PredefinedOperation → Subtype → Entity
from_integer operation result = Predefined operation (record { formals = record { mode = mode.In; subtype = integer } ∷ []; result = Some result })

-- what Ada.Real_Time makes visible (RM D.8), where Time and Time_Span have these numbers
abbrev pub with_times : Scope → ℕ → ℕ → Scope
with_times s time span =
    with_name
    (with_name
    (with_name (with_name (with_name s (codes "TIME") (OfType Times (base_range_of time))) (codes "TIME_SPAN") (OfType Spans (base_range_of span)))
    (codes "CLOCK") (from_nothing predefined.Clock (base_range_of time)))
    (codes "MILLISECONDS")
    (from_integer predefined.Milliseconds (base_range_of span)))
    (codes "MICROSECONDS")
    (from_integer predefined.Microseconds (base_range_of span))

abbrev pub with_real_time : Scope → Scope
with_real_time s = with_times s (length s) (suc (length s))

-- what Control_IO makes visible
abbrev pub with_control_io : Scope → Scope
with_control_io s = with_name (with_name s (codes "PUT") Put) (codes "READ") (from_integer predefined.Read integer)

-- ---- what the entries in memory are

abbrev pub entry_value : List ℕ × Declared → Named
entry_value e = record { name = e.0; entity = entity_value e.1.entity }
