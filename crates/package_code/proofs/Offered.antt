-- What is told of operations behind the names of protected objects is the number that each has in the package, where the object is the package's own (RM 9.4).
use Rattle.std.proofs.Common.{◌≡◌, ◌⊎◌, ℕ, inl, inr, List, [], ◌∷◌, map, cond, Bool, true, false, ◌&&◌, Option, Some, None, refl, sym, ap, ◌∙◌}
use Rattle.std.specs.Prelude.{bytes_eq, if◌then◌else◌, nat_lt, position, slice_get}
use Rattle.ada_tree.specs.ProgramTree.{BodyItemTree}
use Rattle.type_rules.specs.SubtypeNames.{entity_at_or_none}
use Rattle.types.specs.Entities.{Entity, Operation, Protected, ProtectedObject}
use Rattle.types.specs.Places.{Function, ceiling_of, function_of, is_of}
use Rattle.types.specs.Scopes.{Scope, entity_at, number_of, protected_at, protected_of}
use Rattle.expr_soundness.proofs.Positions.{found_at, place_is}
use Rattle.expr_soundness.specs.meaning.specs.Calls.{procedure_among}
use Rattle.expr_soundness.specs.meaning.specs.Programs.{Procedure, Program}
use Rattle.program_soundness.proofs.Callables.{at_map}
use Rattle.program_soundness.proofs.Listing.{same_some}
use Rattle.program_soundness.proofs.Whole.{IsPackage}
use Rattle.program_soundness.proofs.WiderScopes.{same_bytes, stands}
use Rattle.expr_code.specs.Entries.{entry_at}
use Rattle.expr_code.specs.Seeing.{IsOffered, Package, external_of, number_behind, object_named, operation_entry, operation_place}
use Rattle.expr_code.specs.declared.visible.Visible.{Visible}
use Rattle.step_simulation.specs.part_code.specs.EntryNames.{entry_among, is_entry_at, is_entry_operation}
use Rattle.package_code.specs.Owners.{protected_objects, told_behind_objects, told_operation}
use Rattle.package_code.proofs.Numbered.{same_owner}
use Rattle.package_code.proofs.ObjectNumbers.{at_number, ceiling_is}

-- a protected object that is visible by a name
pub object_entity : (s : Scope) (name : List ℕ) (o : ProtectedObject) → object_named s name ≡ Some o → stands s name ≡ Some (Protected o)
object_entity s name o h = by_number (number_of s name) h
  where
    by_entity : (e : Option Entity) → protected_of e ≡ Some o → e ≡ Some (Protected o)
    by_entity (Some (Protected q)) k = ap (λ z. Some (Protected z)) (same_some q o k)
    by_entity e k = cc

    by_number : (n : Option ℕ) → elim n [ None ↦ None | Some k ↦ protected_at s k ] ≡ Some o → entity_at_or_none s n ≡ Some (Protected o)
    by_number (Some n) k = by_entity (entity_at s n) k
    by_number None k = cc

pub function_named : (fs : List Function) (owner : Option ℕ) (name : List ℕ) (f : Function) → function_of fs owner name ≡ Some f
    → (f.object ≡ owner) × (f.name ≡ name)
function_named [] owner name f h = cc
function_named (g ∷ fs) owner name f h = by_tests (is_of g.object owner) (bytes_eq g.name name) refl refl h (function_named fs owner name f)
  where
    by_tests : (a b : Bool) → is_of g.object owner ≡ a → bytes_eq g.name name ≡ b
        → (if a then (if b then Some g else function_of fs owner name) else function_of fs owner name) ≡ Some f
        → (function_of fs owner name ≡ Some f → (f.object ≡ owner) × (f.name ≡ name))
        → (f.object ≡ owner) × (f.name ≡ name)
    by_tests true true owned named k later =
        let same = same_some g f k in (
          ap (λ y. y.object) (sym same) ∙ same_owner g.object owner owned,
          ap (λ y. y.name) (sym same) ∙ same_bytes g.name name named,
        )
    by_tests true false owned named k later = later k
    by_tests false b owned named k later = later k

pub procedure_named : (qs : List Procedure) (owner : Option ℕ) (name : List ℕ) (q : Procedure) → procedure_among qs owner name ≡ Some q
    → (q.object ≡ owner) × (q.name ≡ name)
procedure_named [] owner name q h = cc
procedure_named (p ∷ qs) owner name q h = by_tests (is_of p.object owner) (bytes_eq p.name name) refl refl h (procedure_named qs owner name q)
  where
    by_tests : (a b : Bool) → is_of p.object owner ≡ a → bytes_eq p.name name ≡ b → cond (a && b) (Some p) (procedure_among qs owner name) ≡ Some q
        → (procedure_among qs owner name ≡ Some q → (q.object ≡ owner) × (q.name ≡ name))
        → (q.object ≡ owner) × (q.name ≡ name)
    by_tests true true owned named k later =
        let same = same_some p q k in (
          ap (λ y. y.object) (sym same) ∙ same_owner p.object owner owned,
          ap (λ y. y.name) (sym same) ∙ same_bytes p.name name named,
        )
    by_tests true false owned named k later = later k
    by_tests false b owned named k later = later k

-- Of the first operation of the object with this name, which is no entry, this number is told.
pub record IsToldOperation (o : ProtectedObject) (tell : List ℕ → Option ℕ) (operation : List ℕ) (number : ℕ) : Type 0 where
  pub place : ℕ
  pub operation_ : Operation
  pub placed : position (λ x. bytes_eq x.name operation) o.operations ≡ Some place
  pub there : slice_get o.operations place ≡ Some operation_
  pub no_entry : operation_.is_entry ≡ false
  pub numbered : tell operation ≡ Some number

-- what is told of an operation at its place is told of its name
told_at : (o : ProtectedObject) (tell : List ℕ → Option ℕ) (operation : List ℕ) (k number : ℕ)
    → position (λ x. bytes_eq x.name operation) o.operations ≡ Some k → entry_at (map (told_operation tell) o.operations) k ≡ Some number
    → IsToldOperation o tell operation number
told_at o tell operation k number placed told =
    let x = found_at (λ y. bytes_eq y.name operation) o.operations k (sym (place_is (λ y. bytes_eq y.name operation) o.operations) ∙ placed) in
    let there = at_map (told_operation tell) o.operations k x.0 x.1 in
    let own = by_entry x.0.is_entry (tell x.0.name) (sym (ap (λ z. elim z [ None ↦ None | Some y ↦ y ]) there) ∙ told) in
    record {
      place = k;
      operation_ = x.0;
      placed = placed;
      there = x.1;
      no_entry = own.0;
      numbered = ap tell (sym (same_bytes x.0.name operation x.2)) ∙ own.1;
    }
  where
    by_entry : (b : Bool) (n : Option ℕ) → (if b then None else n) ≡ Some number → (b ≡ false) × (n ≡ Some number)
    by_entry true n h = cc
    by_entry false n h = (refl, h)

-- the number by which an entry is called is that of its object, where the object that is visible is this one, or offers nothing
pub entry_number : (there : Option ProtectedObject) (o : ProtectedObject) (operation : List ℕ) (number : ℕ)
    → ((q : ProtectedObject) → there ≡ Some q → (q ≡ o) ⊎ (q.operations ≡ []))
    → entry_among there operation ≡ Some number → o.number ≡ number
entry_number None o operation number alike h = cc
entry_number (Some q) o operation number alike h = by_case (alike q refl)
  where
    place : Option ℕ
    place = operation_place (Some q) operation

    by_test : (b : Bool) → (if b then Some q.number else None) ≡ Some number → q.number ≡ number
    by_test true k = same_some q.number number k
    by_test false k = cc

    none_there : (k : Option ℕ) → q.operations ≡ [] → is_entry_at q k ≡ false
    none_there (Some k) none = ap (λ l. is_entry_operation (slice_get l k)) none
    none_there None none = refl

    by_case : (q ≡ o) ⊎ (q.operations ≡ []) → o.number ≡ number
    by_case (inl e) = ap (λ (z : ProtectedObject). z.number) (sym e) ∙ by_test (is_entry_at q place && nat_lt q.number 65536) h
    by_case (inr none) =
        absurd (let bad = sym (ap (λ b. if b && nat_lt q.number 65536 then Some q.number else None) (none_there place none)) ∙ h in cc)

module _ (program : Program) (s : Scope) (all : List BodyItemTree) (w : IsPackage program s all) (g : Package) (scope : g.scope ≡ program.scope)
    (v : Visible) (operations : v.operations ≡ told_behind_objects g.subprograms (protected_objects g.scope)) where
  abbrev numbers_of : ProtectedObject → List (Option ℕ)
  numbers_of q = map (told_operation (g.subprograms (Some q.number))) q.operations

  -- of an operation of a protected object of the package
  pub told_number : (o : ProtectedObject) (name operation : List ℕ) (number : ℕ) → stands program.scope name ≡ Some (Protected o)
      → number_behind v.operations (Some o) operation ≡ Some number
      → IsToldOperation o (g.subprograms (Some o.number)) operation number
  told_number o name operation number is h = by_place (position (λ x. bytes_eq x.name operation) o.operations) refl h
    where
      told_here : slice_get (told_behind_objects g.subprograms (protected_objects g.scope)) o.number ≡ Some (numbers_of o)
      told_here =
          at_map numbers_of (protected_objects g.scope) o.number o
          (ap (λ u. slice_get (protected_objects u) o.number) scope ∙ at_number program s all w name o is)

      numbers : slice_get v.operations o.number ≡ Some (numbers_of o)
      numbers = ap (λ l. slice_get l o.number) operations ∙ told_here

      by_place : (k : Option ℕ) → position (λ x. bytes_eq x.name operation) o.operations ≡ k
          → elim k [ None ↦ None | Some j ↦ operation_entry v.operations o.number j ] ≡ Some number
          → IsToldOperation o (g.subprograms (Some o.number)) operation number
      by_place (Some k) placed told =
          told_at o (g.subprograms (Some o.number)) operation k number placed
          (sym (ap (λ z. elim z [ None ↦ None | Some l ↦ entry_at l k ]) numbers) ∙ told)
      by_place None placed told = cc

  -- the object that is visible there by this name is that of the package, or none of its operations is visible
  abbrev IsAlike : (there : Option ProtectedObject) → ProtectedObject → Type 0
  IsAlike there o = (q : ProtectedObject) → there ≡ Some q → (q ≡ o) ⊎ (q.operations ≡ [])

  -- what is told of an operation behind the object's name is its number in the package
  pub offered_number : (name operation : List ℕ) (number : ℕ) (o : ProtectedObject) → external_of v name operation ≡ Some number
      → IsAlike (object_named v.scope name) o → stands program.scope name ≡ Some (Protected o)
      → IsToldOperation o (g.subprograms (Some o.number)) operation number
  offered_number name operation number o told alike is = by_object (object_named v.scope name) alike told
    where
      by_object : (there : Option ProtectedObject) → IsAlike there o → number_behind v.operations there operation ≡ Some number
          → IsToldOperation o (g.subprograms (Some o.number)) operation number
      by_object None same h = cc
      by_object (Some q) same h = by_case (same q refl)
        where
          by_case : (q ≡ o) ⊎ (q.operations ≡ []) → IsToldOperation o (g.subprograms (Some o.number)) operation number
          by_case (inl e) = told_number o name operation number is (ap (λ z. number_behind v.operations (Some z) operation) (sym e) ∙ h)
          by_case (inr none) =
              let nothing : number_behind v.operations (Some q) operation ≡ None =
              ap (λ l. elim (position (λ x. bytes_eq x.name operation) l) [ None ↦ None | Some k ↦ operation_entry v.operations q.number k ]) none
              ∙ ap (λ k. elim k [ None ↦ None | Some j ↦ operation_entry v.operations q.number j ]) (place_is (λ (x : Operation). bytes_eq x.name operation) []) in
              let bad = sym nothing ∙ h in
              cc

  pub offered : (name operation : List ℕ) (number : ℕ) (o : ProtectedObject) (f : Function) → external_of v name operation ≡ Some number
      → IsAlike (object_named v.scope name) o → stands program.scope name ≡ Some (Protected o)
      → function_of g.functions (Some o.number) operation ≡ Some f
      → IsOffered g o f number
  offered name operation number o f told alike is found = record {
    coded = record {
      found = (λ j. function_of g.functions (named.0 j) (named.1 j)) ∙ found;
      numbered = (λ j. g.subprograms (named.0 j) (named.1 j)) ∙ (offered_number name operation number o told alike is).numbered;
    };
    owned = named.0;
    ceiling = ap (λ u. ceiling_of u o.number) scope ∙ ceiling_is program s all w name o is;
  }
    where
      named : (f.object ≡ Some o.number) × (f.name ≡ operation)
      named = function_named g.functions (Some o.number) operation f found
