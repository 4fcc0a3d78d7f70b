-- A procedure that is called through the name of its object by the number that is told of it is no entry: of entries nothing is told (RM 9.5.1).
use Rattle.std.proofs.Common.{◌≡◌, ◌⊎◌, ℕ, inl, inr, List, true, false, Option, Some, None, refl, sym, ap, ◌∙◌, subst}
use Rattle.std.specs.Prelude.{bytes_eq, position, slice_get}
use Rattle.ada_tree.specs.declared.expression.Identifier.{Identifier}
use Rattle.ada_tree.specs.ProgramTree.{BodyItemTree, EntryBody, OperationBody, ProgramTree, ProtectedBody, ProtectedItemTree}
use Rattle.types.specs.Entities.{Entry, Profile, Protected, ProtectedObject, Subprogram}
use Rattle.types.specs.Scopes.{Scope}
use Rattle.program_soundness.specs.legality.specs.ProgramRules.{IsLegal}
use Rattle.ravenscar.specs.ProgramRules.{IsRestricted}
use Rattle.expr_soundness.specs.meaning.specs.Calls.{procedure_among}
use Rattle.expr_soundness.specs.meaning.specs.Programs.{Procedure, Program, program_of}
use Rattle.program_soundness.specs.Fronts.{declared_in, start_in}
use Rattle.program_soundness.proofs.Callables.{Bodied, FoundProcedure, InObject, InPackage, bodies_among, body_place, found_procedure, operation_body, procedure_by, procedures_are, subprogram_body}
use Rattle.program_soundness.proofs.Listing.{same_some}
use Rattle.program_soundness.proofs.ObjectBodies as bodies
use Rattle.program_soundness.proofs.Offering.{stands_for_it}
use Rattle.program_soundness.proofs.Whole.{IsPackage, kept}
use Rattle.program_soundness.proofs.WiderScopes.{stands}
use Rattle.package_code.specs.Owners.{protected_objects}
use Rattle.package_code.proofs.InFront.{LawsOfNames, whole}
use Rattle.package_code.proofs.Numbered.{same_owner}
use Rattle.package_code.proofs.ObjectNumbers.{at_number}
use Rattle.package_code.proofs.Offered.{IsToldOperation}
use Rattle.package_code.proofs.OperationsAdded as added

module _ (laws : LawsOfNames) (t : ProgramTree) (legal : IsLegal t) (restricted : IsRestricted t) where
  abbrev program : Program
  program = program_of t

  abbrev start : Scope
  start = start_in t.package_

  abbrev all : List BodyItemTree
  all = declared_in t.package_

  abbrev w : IsPackage program start all
  w = whole laws t legal restricted

  -- an entry with a body in an object is one by its declaration
  module _ (place : ℕ) (name : Identifier) (items : List ProtectedItemTree) (end_name : Identifier)
      (at : slice_get all place ≡ Some (ProtectedBody name items end_name)) where
    abbrev object : ProtectedObject
    object = (bodies.there program start all w place name items end_name at).object

    owned : (j : ℕ) (i : ProtectedItemTree) → slice_get items j ≡ Some i → bodies.HasOwn program start all w place name items end_name at i
    owned j i h = added.owned laws.scopes laws.names laws.premises t legal restricted place name items end_name at j i h

    same_object : (o : ProtectedObject) (other : List ℕ) → stands program.scope other ≡ Some (Protected o) → o.number ≡ object.number → o ≡ object
    same_object o other is same =
        let seen = kept program start all w place name.name (Protected object) (bodies.there program start all w place name items end_name at).stands_ in
        let mine = at_number program start all w name.name object seen in
        let its = at_number program start all w other o is in
        same_some o object (sym its ∙ ap (slice_get (protected_objects program.scope)) same ∙ mine)

    entry_told : (o : ProtectedObject) (other : List ℕ) → stands program.scope other ≡ Some (Protected o) → o.number ≡ object.number
        → (j : ℕ) (i : ProtectedItemTree) → slice_get items j ≡ Some i → ((profile : Profile) → bodies.unit_entity i profile ≡ Entry profile)
        → (tell : List ℕ → Option ℕ) (number : ℕ) → IsToldOperation o tell (bodies.unit_name i) number → ⊥
    entry_told o other is same j i there entry tell number told =
        (let mine = same_object o other is same in
        let own = owned j i there in
        let here : stands (bodies.ended program start all w place name items end_name at) (bodies.unit_name i) ≡ Some (Subprogram told.operation_.profile) =
        stands_for_it program start all w place name items end_name at owned (bodies.unit_name i) told.place told.operation_
        (ap (λ (x : ProtectedObject). position (λ y. bytes_eq y.name (bodies.unit_name i)) x.operations) (sym mine) ∙ told.placed)
        (ap (λ (x : ProtectedObject). slice_get x.operations told.place) (sym mine) ∙ told.there)
        ∙ ap (λ b. Some (elim b [ true ↦ Entry told.operation_.profile | false ↦ Subprogram told.operation_.profile ])) told.no_entry in
        let bad = sym here ∙ own.stands_ ∙ ap Some (entry own.profile) in
        cc)

  -- the procedure of a told operation has no barrier
  pub bare_operation : (o : ProtectedObject) (name operation : List ℕ) (tell : List ℕ → Option ℕ) (number : ℕ) (q : Procedure)
      → stands program.scope name ≡ Some (Protected o)
      → IsToldOperation o tell operation number → procedure_among program.procedures (Some o.number) operation ≡ Some q → q.barrier ≡ None
  bare_operation o name operation tell number q is told found = by_place (body_place program.scope all x.unit_ x.has)
    where
      x : FoundProcedure program.scope (bodies_among program.scope all) (Some o.number) operation q
      x =
          found_procedure program.scope (bodies_among program.scope all) (Some o.number) operation q
          (ap (λ l. procedure_among l (Some o.number) operation) (sym (w.procedures ∙ procedures_are program.scope all)) ∙ found)

      barrier_is : (u : Bodied) → x.unit_ ≡ u → q.barrier ≡ u.barrier
      barrier_is u same = ap (λ z. z.barrier) (x.is ∙ ap (procedure_by program.scope) same)

      by_item : (p : InObject program.scope all x.unit_) (i : ProtectedItemTree) → slice_get p.items p.index ≡ Some i
          → x.unit_ ≡ operation_body (Some (object p.place p.name p.items p.end_name p.at).number) i → q.barrier ≡ None
      by_item p (OperationBody d b) there same =
          barrier_is (operation_body (Some (object p.place p.name p.items p.end_name p.at).number) (OperationBody d b)) same
      by_item p (EntryBody d barrier b) there same =
          let owners = same_owner x.unit_.owner (Some o.number) x.owned in
          let number_is : o.number ≡ (object p.place p.name p.items p.end_name p.at).number =
          ap (λ z. elim z [ Some n ↦ n | None ↦ 0 ]) (sym owners ∙ ap (λ u. u.owner) same) in
          let named : d.name.name ≡ operation = ap (λ u. u.name) (sym same) ∙ x.named in
          absurd (entry_told p.place p.name p.items p.end_name p.at o name is number_is p.index (EntryBody d barrier b) there (λ profile. refl) tell number
          (subst (λ z. IsToldOperation o tell z number) (sym named) told))

      by_place : InPackage all x.unit_ ⊎ InObject program.scope all x.unit_ → q.barrier ≡ None
      by_place (inl p) = barrier_is (subprogram_body None p.subprogram p.body) p.is
      by_place (inr p) =
          by_item p p.item p.there
          (p.is ∙ ap (λ o. operation_body o p.item) (bodies.there program start all w p.place p.name p.items p.end_name p.at).numbered)
