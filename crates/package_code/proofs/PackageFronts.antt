-- What is visible in front of the parameters of a subprogram of the package.
use Rattle.std.proofs.Common.{◌≡◌, ℕ, suc, List, inl, inr, Some, None, sym, ◌∙◌, subst}
use Rattle.std.specs.Prelude.{slice_get}
use Rattle.ada_tree.specs.StatementTree.{SubprogramTree}
use Rattle.ada_tree.specs.ProgramTree.{BodyTree, ProgramTree, SubprogramBody}
use Rattle.image.specs.Sections.{Sections}
use Rattle.types.specs.Entities.{Protected, ProtectedObject}
use Rattle.program_soundness.specs.legality.specs.ProgramRules.{IsLegal}
use Rattle.ravenscar.specs.ProgramRules.{IsRestricted}
use Rattle.expr_soundness.specs.meaning.specs.Calls.{procedure_among, procedure_here}
use Rattle.expr_soundness.specs.meaning.specs.Programs.{Procedure, Program, program_of}
use Rattle.program_soundness.specs.Fronts.{declared_in, front, start_in}
use Rattle.program_soundness.proofs.Listing.{or_else_some}
use Rattle.program_soundness.proofs.WiderScopes.{stands}
use Rattle.expr_code.specs.Seeing.{Package, external_of, object_named}
use Rattle.step_simulation.specs.part_code.specs.EntryNames.{entry_behind}
use Rattle.step_simulation.specs.part_code.specs.Resting.{Framed}
use Rattle.stmt_code.proofs.Entering.{rests_package}
use Rattle.package_code.specs.Package.{IsInFront, IsPackageOf}
use Rattle.package_code.proofs.BareOperations.{bare_operation}
use Rattle.package_code.proofs.BodyFronts.{IsBodyFront, IsEntrance, package_front}
use Rattle.package_code.proofs.InFront.{LawsOfNames, alike, front_ends, front_laid, front_of_package, known, whole}
use Rattle.package_code.proofs.Offered.{entry_number, offered_number, procedure_named}

-- a procedure that is called by its own name outside of protected objects is one of the package
pub here_named : (program : Program) (name : List ℕ) (q : Procedure) → procedure_here program None name ≡ Some q → (q.object ≡ None) × (q.name ≡ name)
here_named program name q found =
    let there : procedure_among program.procedures None name ≡ Some q =
    elim (or_else_some (procedure_among program.procedures None name) (procedure_among program.procedures None name) q found) [ inl k ↦ k | inr k ↦ k.1 ] in
    procedure_named program.procedures None name q there

-- what is told behind the name of a protected object, in front of a body that belongs to none, is the number of the procedure in the package
pub front_externals : (laws : LawsOfNames) (t : ProgramTree) (legal : IsLegal t) (restricted : IsRestricted t) (i : Sections) (g : Package)
    → IsPackageOf t i g
    → (v : Framed) (place : ℕ) → IsInFront (front t place) g None v → (name operation : List ℕ) (q : Procedure) (o : ProtectedObject) (number : ℕ)
    → external_of v.names name operation ≡ Some number
    → stands (program_of t).scope name ≡ Some (Protected o)
    → procedure_among (program_of t).procedures (Some o.number) operation ≡ Some q
    → (g.subprograms q.object q.name ≡ Some number) × (q.barrier ≡ None)
front_externals laws t legal restricted i g of_program v place before name operation q o number told is found =
    let x = procedure_named (program_of t).procedures (Some o.number) operation q found in
    let offer =
    offered_number (program_of t) (start_in t.package_) (declared_in t.package_) (whole laws t legal restricted) g of_program.scope v.names before.operations
    name operation number o told (alike laws t legal restricted i g of_program v place before name o is) is in (
      (λ j. g.subprograms (x.0 j) (x.1 j)) ∙ offer.numbered,
      bare_operation laws t legal restricted o name operation (g.subprograms (Some o.number)) number q is offer found,
    )

-- ... and so is the number by which an entry is called
pub front_entries : (laws : LawsOfNames) (t : ProgramTree) (legal : IsLegal t) (restricted : IsRestricted t) (i : Sections) (g : Package)
    → IsPackageOf t i g
    → (v : Framed) (place : ℕ) → IsInFront (front t place) g None v → (name operation : List ℕ) (o : ProtectedObject) (number : ℕ)
    → entry_behind v.names.scope name operation ≡ Some number
    → stands (program_of t).scope name ≡ Some (Protected o)
    → o.number ≡ number
front_entries laws t legal restricted i g of_program v place before name operation o number told is =
    entry_number (object_named v.names.scope name) o operation number (alike laws t legal restricted i g of_program v place before name o is) told

pub package_entrance : (laws : LawsOfNames) (t : ProgramTree) (legal : IsLegal t) (restricted : IsRestricted t) (i : Sections) (g : Package)
    → IsPackageOf t i g
    → (place : ℕ) (d : SubprogramTree) (b : BodyTree) → slice_get (declared_in t.package_) place ≡ Some (SubprogramBody d b)
    → (v : Framed) → IsInFront (front t (suc place)) g None v → IsEntrance t g None v d b
package_entrance laws t legal restricted i g of_program place d b at v before = record {
  front = subst (λ s. IsBodyFront t None s d b) (sym before.scope)
      (package_front laws.names laws.premises laws.fronts t legal restricted place d b at);
  within = before.within;
  procedures = λ name q number profile found told named none.
      let x = here_named (program_of t) name q found in (λ j. g.subprograms (x.0 j) (x.1 j)) ∙ before.calls name number told;
  externals = front_externals laws t legal restricted i g of_program v (suc place) before;
  entries = front_entries laws t legal restricted i g of_program v (suc place) before;
  laid = front_laid laws t legal restricted i g of_program v (suc place) before;
  ends = front_ends laws t legal restricted i g of_program v (suc place) before;
  begins = rests_package (known laws t legal restricted).kept g v (front_of_package laws t legal restricted i g of_program v (suc place) before);
}
