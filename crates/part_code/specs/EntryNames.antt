-- Names of entries (RM 9.5.2): behind the name of their protected object, and alone, in a body of it.
use Rattle.std.specs.Prelude.{ℕ, Bool, true, false, ◌&&◌, nat_lt, List, Option, Some, None, if◌then◌else◌, slice_get}
use Rattle.types.specs.Entities.{Entity, Entry, Operation, ProtectedObject}
use Rattle.types.specs.Scopes.{Scope}
use Rattle.expr_code.specs.Seeing.{object_named, operation_place}

abbrev pub is_entry_operation : Option Operation → Bool
is_entry_operation (Some x) = x.is_entry
is_entry_operation None = false

abbrev pub is_entry_at : ProtectedObject → (place : Option ℕ) → Bool
is_entry_at o (Some k) = is_entry_operation (slice_get o.operations k)
is_entry_at o None = false

-- the number of the object, where the operation is its entry, as far as an instruction can name it
abbrev pub entry_among : Option ProtectedObject → (operation : List ℕ) → Option ℕ
entry_among (Some o) operation = if is_entry_at o (operation_place (Some o) operation) && nat_lt o.number 65536 then Some o.number else None
entry_among None operation = None

-- the number of the protected object with this name, where its entry is named behind it
abbrev pub entry_behind : Scope → (object operation : List ℕ) → Option ℕ
entry_behind s object operation = entry_among (object_named s object) operation

-- alone an entry's name stands for it within its object
abbrev pub is_own_entry : Option Entity → Bool
is_own_entry (Some (Entry p)) = true
is_own_entry e = false
