-- What bodies see of the package: the places of its variables and of the components of its protected objects, and the subprograms of its bodies, each by the
-- name.
use Rattle.std.specs.Prelude.{◌≡◌, ◌<◌, ◌⊎◌, ◌&&◌, ◌+◌, ℕ, suc, Bool, true, false, List, [], ◌∷◌, ◌++◌, bytes_eq, if◌then◌else◌, length, nat_eq, Option, Some, None, replicate, slice_get, slice_set, ⊤}
use Rattle.ada_tree.specs.ProgramTree.{BodyItemTree, ProgramTree, ProtectedBody, ProtectedItemTree, SubprogramBody, TaskBody}
use Rattle.types.specs.Scopes.{Scope, number_of}
use Rattle.expr_soundness.specs.meaning.specs.Programs.{program_of}
use Rattle.expr_code.specs.Seeing.{slot_of, subprogram_of, told_of}
use Rattle.expr_code.specs.declared.refusal.ImageLimit.TheVariants as limits
use Rattle.expr_code.specs.declared.refusal.Refusal.{Refusal}
use Rattle.expr_code.specs.declared.refusal.Refusal.TheVariants as refusal
use Rattle.expr_code.specs.declared.visible.Slot.{Slot}
use Rattle.expr_code.specs.declared.visible.Visible.{Visible}
use Rattle.step_simulation.specs.part_code.specs.Emitting.{HasEntries}
use Rattle.package_code.specs.Bodies.{bodies_among, names_among, number_from, number_in, object_number, own_name}
use Rattle.package_code.specs.Owners.{protected_objects, told_behind_objects, told_inside, told_slot}
use Rattle.package_code.specs.Refusing.{slot_in}
use Rattle.package_code.specs.declared.components.ComponentSlot.{ComponentSlot}
use Rattle.package_code.specs.declared.directory.Directory.{Directory}
use Rattle.package_code.specs.declared.operations.OperationNumber.{OperationNumber}

-- these names are visible, nothing is told of any, and of operations these numbers
pub record IsUnseen (s : Scope) (numbers : List (List (Option ℕ))) (v : Visible) : Type 0 where
  pub scope : v.scope ≡ s
  pub slots : v.slots ≡ replicate (length s) None
  pub subprograms : v.subprograms ≡ replicate (length s) None
  pub operations : v.operations ≡ numbers

-- the number that is told of the operation or entry of this object with this name, by the first entry of both
abbrev pub operation_told : List OperationNumber → (object : ℕ) → (name : List ℕ) → Option ℕ
operation_told [] o name = None
operation_told (x ∷ rest) o name = if nat_eq x.object o && bytes_eq x.name name then Some x.number else operation_told rest o name

-- What the directory tells of the body with this name, of a subprogram or task, or of an operation of this object. Names of the package are told by their
-- numbers in `whole`.
abbrev pub number_told : (whole : Scope) → Directory → (owner : Option ℕ) → (name : List ℕ) → Option ℕ
number_told whole d None name = told_of whole d.numbers.items name
number_told whole d (Some o) name = operation_told d.operations.items o name

-- where the component of this object with this name stands, by the first entry of both
abbrev pub component_told : List ComponentSlot → (object : ℕ) → (name : List ℕ) → Option Slot
component_told [] o name = None
component_told (x ∷ rest) o name = if nat_eq x.object o && bytes_eq x.name name then Some x.slot else component_told rest o name

-- What the directory tells of the place of the variable with this name, or of the component of this object.
abbrev pub slot_told : (whole : Scope) → Directory → (owner : Option ℕ) → (name : List ℕ) → Option Slot
slot_told whole d None name = told_of whole d.slots.items name
slot_told whole d (Some o) name = component_told d.components.items o name

-- of the operations of each protected object of the package
abbrev pub operations_told : (whole : Scope) → Directory → List (List (Option ℕ))
operations_told whole d = told_behind_objects (number_told whole d) (protected_objects whole)

-- What is told of visible names is what the directory tells of them, in the body of this object's operation or in one that belongs to no object: names of the
-- package by their numbers in `whole`, in which all of it is visible.
pub record AreTold (whole : Scope) (d : Directory) (owner : Option ℕ) (v : Visible) : Type 0 where
  pub slots : (name : List ℕ) (slot : Slot) → slot_of v name ≡ Some slot
      → told_slot (slot_told whole d) (number_told whole d) owner name ≡ Some slot
  pub calls : (name : List ℕ) (number : ℕ) → subprogram_of v name ≡ Some number → told_inside (number_told whole d) owner name ≡ Some number
  pub operations : v.operations ≡ operations_told whole d
  pub entries : HasEntries v

-- an entry more was added: what the directory tells of this name
pub record TellsMore (whole : Scope) (d : Directory) (old : Visible) (name : List ℕ) (new : Visible) : Type 0 where
  pub slots : new.slots ≡ old.slots ++ told_of whole d.slots.items name ∷ []
  pub subprograms : new.subprograms ≡ old.subprograms ++ told_of whole d.numbers.items name ∷ []

-- behind a declaration of this name: where it made the name visible, an entry was added for it
pub record TellsNext (whole : Scope) (d : Directory) (old : Visible) (name : List ℕ) (new : Visible) : Type 0 where
  pub tells : (new ≡ old) ⊎ TellsMore whole d old name new
  pub scope : new.scope ≡ old.scope
  pub operations : new.operations ≡ old.operations
  pub entries : HasEntries new

-- ---- what is told in the body of a protected object, where names become visible one after another

-- the name with this number is the next one, behind so many
abbrev pub is_next : Option ℕ → (many : ℕ) → Bool
is_next (Some n) many = nat_eq n many
is_next None many = false

abbrev pub entry_if : {X : Type 0} → Bool → Option X → List (Option X) → List (Option X)
entry_if true told all = all ++ told ∷ []
entry_if false told all = all

-- these names have become visible, in this order: an entry was added for each of them that is a new one
abbrev pub told_each : {X : Type 0} → (tell : List ℕ → Option X) → Scope → List (Option X) → (names : List (List ℕ)) → List (Option X)
told_each tell s all [] = all
told_each tell s all (n ∷ ns) = told_each tell s (entry_if (is_next (number_of s n) (length all)) (tell n) all) ns

-- what is visible where these have become so in the body of this object
abbrev pub seen_inside : (whole : Scope) → Directory → (o : ℕ) → Visible → (names : List (List ℕ)) → Visible
seen_inside whole d o v names =
    record v {
      slots = told_each (told_slot (slot_told whole d) (number_told whole d) (Some o)) v.scope v.slots names;
      subprograms = told_each (told_inside (number_told whole d) (Some o)) v.scope v.subprograms names;
    }

-- There are entries for all names, or for all but the last one.
abbrev pub HasEntriesSoFar : Visible → Type 0
HasEntriesSoFar v =
    ((length v.slots ≡ length v.scope) × (length v.subprograms ≡ length v.scope))
    ⊎ ((suc (length v.slots) ≡ length v.scope) × (suc (length v.subprograms) ≡ length v.scope))

-- ---- numbers

-- the first that was told
abbrev pub first_told : Option ℕ → (one : ℕ) → Option ℕ
first_told (Some first) one = Some first
first_told None one = Some one

-- the name with this number has this one, where it had none
abbrev pub numbered_once : List (Option ℕ) → (number : ℕ) → (one : ℕ) → Option (Option ℕ) → List (Option ℕ)
numbered_once all number one (Some o) = slice_set all number (first_told o one)
numbered_once all number one None = all

abbrev pub numbered_with : List (Option ℕ) → Option ℕ → (one : ℕ) → List (Option ℕ)
numbered_with all None one = all
numbered_with all (Some number) one = numbered_once all number one (slice_get all number)

-- a body has the next number; those of protected objects have none of the package's names
abbrev pub numbered_item : Scope → List (Option ℕ) → (one : ℕ) → BodyItemTree → List (Option ℕ)
numbered_item s all one (SubprogramBody d b) = numbered_with all (number_of s d.name.name) one
numbered_item s all one (TaskBody name b) = numbered_with all (number_of s name.name) one
numbered_item s all one item = all

-- of each visible name is told which of these bodies has it
pub record HaveBodyNumbers (s : Scope) (items : List BodyItemTree) (numbers : List (Option ℕ)) : Type 0 where
  pub many : length numbers ≡ length s
  pub told : (name : List ℕ) (n : ℕ) → number_of s name ≡ Some n → told_of s numbers name ≡ number_from 0 (names_among s items) None name

-- the entries of the bodies of this object, the first of which has this number
abbrev pub entries_of : (object first : ℕ) → List ProtectedItemTree → List OperationNumber
entries_of o first [] = []
entries_of o first (i ∷ is) = record { object = o; name = own_name i; number = first } ∷ entries_of o (suc first) is

-- the entries of the bodies of protected objects among items
abbrev pub entries_in : Scope → (first : ℕ) → BodyItemTree → List OperationNumber
entries_in s first (ProtectedBody name items end_name) = entries_of (object_number s name) first items
entries_in s first item = []

abbrev pub entries_among : Scope → (first : ℕ) → List BodyItemTree → List OperationNumber
entries_among s first [] = []
entries_among s first (x ∷ rest) = entries_in s first x ++ entries_among s (first + bodies_among (x ∷ [])) rest

-- so many have no numbers, for want of memory or because these are fewer
abbrev pub HasNoNumbers : (many : ℕ) → Refusal → Type 0
HasNoNumbers many refusal.Memory = ⊤
HasNoNumbers many (refusal.Limit limits.Subprograms) = 65535 < many
HasNoNumbers many why = ⊥

-- the bodies among these items have no numbers, for want of memory or because there are more than numbers
abbrev pub HasManyBodies : List BodyItemTree → Refusal → Type 0
HasManyBodies items why = HasNoNumbers (bodies_among items) why

-- ---- what is told of the names of a program

pub record IsDirectory (t : ProgramTree) (d : Directory) : Type 0 where
  pub slots : (name : List ℕ) → told_of (program_of t).scope d.slots.items name ≡ slot_in t None name
  pub numbers : (name : List ℕ) (n : ℕ) → number_of (program_of t).scope name ≡ Some n
      → told_of (program_of t).scope d.numbers.items name ≡ number_in t None name
  pub operations : (o : ℕ) (name : List ℕ) → operation_told d.operations.items o name ≡ number_in t (Some o) name
  pub components : (o : ℕ) (name : List ℕ) → component_told d.components.items o name ≡ slot_in t (Some o) name
