-- What a table says of an entity.
use Rattle.std.specs.Prelude.{ℕ, zero, suc, Bool, true, false, ◌&&◌, List, [], ◌∷◌, bytes_eq, cond, length, nat_eq, option_map, position, slice_get, Option, None, Some}
use Rattle.ada2012_names.specs.declared.entity.EntityId.{EntityId}
use Rattle.ada2012_names.specs.declared.entity.Entity.{Entity}
use Rattle.ada2012_names.specs.declared.entity.EntityKind.{EntityKind}
use Rattle.ada2012_names.specs.declared.entity.EntityKind.TheVariants as kinds
use Rattle.ada2012_names.specs.declared.entity.TypeForm.{TypeForm}

-- what an entity has of this, if there is such an entity and it has it
abbrev pub told_by : {A : Type 0} → (Entity → Option A) → Option Entity → Option A
told_by field None = None
told_by field (Some entity) = field entity

-- formal parameters, discriminants, components and indexes
abbrev pub is_part : EntityKind → Bool
is_part (kinds.Formal mode) = true
is_part kinds.Discriminant = true
is_part kinds.Component = true
is_part kinds.Index = true
is_part _ = false

-- a link leads to this entity
abbrev pub leads_to : EntityId → Option EntityId → Bool
leads_to id None = false
leads_to id (Some link) = nat_eq link.number id.number

abbrev pub is_part_of : EntityId → Entity → Bool
is_part_of owner entity = leads_to owner entity.within && is_part entity.kind

abbrev pub has_name : List ℕ → Option (List ℕ) → Bool
has_name name None = false
has_name name (Some own) = bytes_eq own name

-- the first part of an entity with this name
abbrev pub part_named : EntityId → List ℕ → List Entity → Option EntityId
part_named owner name entities = option_map (λ n. record { number = n }) (position (λ e. is_part_of owner e && has_name name e.name) entities)

-- the places of the parts of an entity among the entities from a place on
abbrev pub parts_from : EntityId → (number : ℕ) → List Entity → List ℕ
parts_from owner number [] = []
parts_from owner number (entity ∷ entities) =
    cond (is_part_of owner entity) (number ∷ parts_from owner (suc number) entities) (parts_from owner (suc number) entities)

-- the part of an entity that has this place among its parts
abbrev pub part_at : EntityId → (place : ℕ) → List Entity → Option EntityId
part_at owner place entities = option_map (λ n. record { number = n }) (slice_get (parts_from owner 0 entities) place)

-- what a subtype is a subtype of
abbrev pub parent : EntityKind → Option EntityId → Option EntityId
parent kinds.Subtype subtype = subtype
parent _ subtype = None

abbrev pub parent_of : List Entity → EntityId → Option EntityId
parent_of entities id = told_by (λ e. parent e.kind e.subtype) (slice_get entities id.number)

-- that of which a subtype is one, or else the type itself
abbrev pub or_self : EntityId → Option EntityId → EntityId
or_self id None = id
or_self id (Some next) = next

-- what so many steps from a subtype to that of which it is one lead to
abbrev pub ancestor : (steps : ℕ) → List Entity → EntityId → EntityId
ancestor zero entities id = id
ancestor (suc steps) entities id = ancestor steps entities (or_self id (parent_of entities id))

-- the type of a subtype
abbrev pub type_of : List Entity → EntityId → EntityId
type_of entities id = ancestor (length entities) entities id

abbrev pub form : EntityKind → Option TypeForm
form (kinds.Type f) = Some f
form _ = None

-- the definition of the type of a subtype
abbrev pub form_of : List Entity → EntityId → Option TypeForm
form_of entities id = told_by (λ e. form e.kind) (slice_get entities (type_of entities id).number)
