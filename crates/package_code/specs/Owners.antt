-- What is told of names by the protected object to which they belong, if any: of the package's names, and of those of an object's components and operations.
use Rattle.std.specs.Prelude.{ℕ, List, [], ◌∷◌, ◌++◌, if◌then◌else◌, is_some, map, Option, Some, None}
use Rattle.image.specs.declared.instruction.Region.TheVariants as regions
use Rattle.types.specs.declared.entity.RecordComponent.{RecordComponent}
use Rattle.types.specs.Entities.{Entity, Operation, Protected, ProtectedObject}
use Rattle.types.specs.Places.{or_else}
use Rattle.types.specs.Scopes.{Scope, protected_at}
use Rattle.expr_code.specs.declared.visible.Slot.{Slot}

-- a place among the words of the object to which the running body belongs
abbrev pub in_object : Slot → Slot
in_object slot = record slot { region = regions.Object }

-- what is told of a name in the body of this object's operation, or in one that belongs to no object: what is told of the object's own names, or else of those
-- of the package
abbrev pub told_inside : {X : Type 0} → ((owner : Option ℕ) → (name : List ℕ) → Option X) → (owner : Option ℕ) → (name : List ℕ) → Option X
told_inside tell None name = tell None name
told_inside tell (Some o) name = or_else (tell (Some o) name) (tell None name)

-- where the words of a name stand there: the object's own operations have none, whatever the package declares by their names behind its body
abbrev pub told_slot : (slots : (owner : Option ℕ) → (name : List ℕ) → Option Slot) → (numbers : (owner : Option ℕ) → (name : List ℕ) → Option ℕ)
    → (owner : Option ℕ) → (name : List ℕ) → Option Slot
told_slot slots numbers None name = slots None name
told_slot slots numbers (Some o) name = if is_some (numbers (Some o) name) then None else told_inside slots (Some o) name

abbrev pub one_protected : Entity → List ProtectedObject
one_protected (Protected o) = o ∷ []
one_protected e = []

-- the protected objects among visible names, each at its number
abbrev pub protected_objects : Scope → List ProtectedObject
protected_objects [] = []
protected_objects (n ∷ rest) = one_protected n.entity ++ protected_objects rest

-- the one with this number among the names, if it is one
abbrev pub objects_at : Scope → (number : ℕ) → List ProtectedObject
objects_at s number = elim (protected_at s number) [ Some o ↦ o ∷ [] | None ↦ [] ]

-- the names of what an object offers, and of what it has
abbrev pub offered_names : List Operation → List (List ℕ)
offered_names os = map (λ (o : Operation). o.name) os

abbrev pub component_names : List RecordComponent → List (List ℕ)
component_names cs = map (λ (c : RecordComponent). c.name) cs

-- what is told of an operation by its name; of an entry, which is called by the number of its object, nothing
abbrev pub told_operation : {X : Type 0} → ((name : List ℕ) → Option X) → Operation → Option X
told_operation tell o = if o.is_entry then None else tell o.name

-- what is known of the operations of each of these objects by their names, in the order of its declaration
abbrev pub told_behind_objects : {X : Type 0} → ((owner : Option ℕ) → (name : List ℕ) → Option X) → List ProtectedObject → List (List (Option X))
told_behind_objects tell objects = map (λ (o : ProtectedObject). map (told_operation (tell (Some o.number))) o.operations) objects
