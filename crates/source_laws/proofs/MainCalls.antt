-- Main of an accepted program calls procedures of the package without parameters (RM 10.2).
use Rattle.std.proofs.Common.{◌≡◌, ℕ, List, [], ◌∷◌, map, Some, None, sym, ap, ◌∙◌, subst}
use Rattle.std.specs.Prelude.{slice_get, ⊤}
use Rattle.std.proofs.lemmas.List.Elements.{All-cons, All-nil}
use Rattle.ada_tree.specs.declared.program.MainStatement.{MainStatement}
use Rattle.ada_tree.specs.declared.program.MainStatement.TheVariants as main
use Rattle.ada_tree.specs.ProgramTree.{BodyItemTree, ItemTree, OfItem, PackageTree, ProgramTree}
use Rattle.types.specs.Entities.{LibraryUnit, Protected, ProtectedObject, Subprogram}
use Rattle.types.specs.Scopes.{Scope, with_name}
use Rattle.meaning.specs.expr_rules.proofs.TypedLaw.{back_empty, front_empty}
use Rattle.meaning.specs.type_rules.specs.ProfileRules.{formal_parameters, profile_with}
use Rattle.meaning.specs.type_rules.specs.SubtypeNames.{end_rule}
use Rattle.program_soundness.specs.unit_rules.specs.MainRules.{main_scope, main_statements_faults}
use Rattle.legality.specs.ProgramRules.{IsLegal}
use Rattle.ravenscar.specs.ProgramRules.{IsRestricted}
use Rattle.meaning.specs.Calls.{procedure_among, procedure_here}
use Rattle.meaning.specs.Programs.{Procedure, Program, program_of}
use Rattle.program_soundness.specs.step_soundness.specs.Fitting.{formal_of}
use Rattle.program_soundness.specs.step_soundness.specs.Judged.{IsMainStatement}
use Rattle.program_soundness.specs.step_soundness.specs.Objects.{first_store}
use Rattle.program_soundness.specs.Fronts.{declared_in, start_in}
use Rattle.program_soundness.proofs.Agreed.{OffersAll, same_twice}
use Rattle.program_soundness.proofs.Assembled as assembled
use Rattle.program_soundness.proofs.Callables.{at_map, bodies_among, found_procedure, procedures_are}
use Rattle.program_soundness.proofs.Called.{body_entity}
use Rattle.program_soundness.proofs.WiderScopes.{number_stands, stands}
use Rattle.program_soundness.proofs.Listing.{front_at}
use Rattle.program_soundness.proofs.PackageBodies.{AllMain, statements_legal}
use Rattle.program_soundness.proofs.BodyProfiles.{parameters_are, profile_formals, profile_none}
use Rattle.program_soundness.proofs.Trees.{main_legal}
use Rattle.program_soundness.proofs.Whole.{IsPackage}
use Rattle.stmt_code.specs.Subprograms.{CallsProcedures, NamesBare, NamesIfCalled}
use Rattle.package_code.proofs.CodedPackage.{procedure_stands}
use Rattle.package_code.proofs.InFront.{LawsOfNames, known, last_is, memory, names, whole}
use Rattle.package_code.specs.Laws.{MainMayBeAdded}

-- each statement is null, or a call of a procedure of the program without parameters
abbrev pub AreFound : Program → List MainStatement → Type 0
AreFound program [] = ⊤
AreFound program (x ∷ xs) = IsMainStatement program x × AreFound program xs

module _ (laws : LawsOfNames) (t : ProgramTree) (legal : IsLegal t) (restricted : IsRestricted t) where
  abbrev program : Program
  program = program_of t

  abbrev start : Scope
  start = start_in t.package_

  abbrev all : List BodyItemTree
  all = declared_in t.package_

  abbrev w : IsPackage program start all
  w = whole laws t legal restricted

  -- in which main's statements are judged
  abbrev inside_main : Scope
  inside_main = with_name (main_scope t.package_) t.main.name.name LibraryUnit

  main_judged : main_statements_faults inside_main t.package_ t.main.statements ≡ []
  main_judged =
      back_empty _ (main_statements_faults inside_main t.package_ t.main.statements) (front_empty _ (end_rule t.main.name t.main.end_name) (main_legal t legal))

  specified : (p : PackageTree) (k : ℕ) (d : ItemTree) → t.package_ ≡ Some p → slice_get p.declaration.items k ≡ Some d
      → slice_get all k ≡ Some (OfItem d)
  specified p k d is h =
      ap (λ o. slice_get (declared_in o) k) is ∙ front_at (map OfItem p.declaration.items) p.body.items k (OfItem d) (at_map OfItem p.declaration.items k d h)

  abbrev offers : (name : List ℕ) (o : ProtectedObject) → stands program.scope name ≡ Some (Protected o) → OffersAll program o
  offers =
      assembled.offers laws.scopes t (first_store program) legal restricted (names laws t legal restricted) (known laws t legal restricted)
      (memory laws t legal restricted)

  abbrev AreLegal : List MainStatement → Type 0
  AreLegal xs =
      AllMain program start all w (known laws t legal restricted) laws.scopes (first_store program) (memory laws t legal restricted) offers
      (names laws t legal restricted).fronts xs

  all_legal : AreLegal t.main.statements
  all_legal =
      statements_legal program start all w (known laws t legal restricted) laws.scopes (first_store program) (memory laws t legal restricted) offers
      (names laws t legal restricted).fronts t.package_ specified inside_main t.main.statements main_judged

  all_found : (xs : List MainStatement) → AreLegal xs → AreFound program xs
  all_found [] h = tt
  all_found (x ∷ xs) h = (h.0, all_found xs h.1)

  pub main_found : AreFound program t.main.statements
  main_found = all_found t.main.statements all_legal

  -- ---- their names

  names_bare : (name : List ℕ) (q : Procedure) → procedure_here program None name ≡ Some q → q.parameters ≡ [] → NamesBare program.scope name
  names_bare name q found empty =
      let among : procedure_among program.procedures None name ≡ Some q = sym (same_twice (procedure_among program.procedures None name)) ∙ found in
      let x = procedure_stands laws t legal restricted name q among in
      let u =
      found_procedure program.scope (bodies_among program.scope all) None name q
      (ap (λ l. procedure_among l None name) (sym (w.procedures ∙ procedures_are program.scope all)) ∙ among) in
      let named : x.d.name.name ≡ name = ap (λ y. y.name) (sym x.is ∙ u.is) ∙ u.named in
      let e = body_entity program start all w x.place x.d x.b x.at in
      let n = number_stands program.scope name (Subprogram e.profile) (ap (stands program.scope) (sym named) ∙ e.stands_) in
      let formals = formal_parameters program.scope x.d.formals in
      record {
        profile = e.profile;
        names = record { number = n.0; numbered = n.1; stands = n.2 };
        formals = sym (parameters_are program.scope x.d.formals e.profile.formals (profile_formals program.scope formals x.d.result e.profile e.own))
            ∙ ap (map formal_of) (sym (ap (λ y. y.parameters) x.is) ∙ empty);
        result = profile_none program.scope formals e.profile (ap (profile_with program.scope formals) (sym x.none) ∙ e.own);
      }

  one_named : (x : MainStatement) → IsMainStatement program x → NamesIfCalled program.scope x
  one_named (main.Null place) h = tt
  one_named (main.Call package_ procedure) h = names_bare procedure.name h.0 h.1 h.2

  all_named : (xs : List MainStatement) → AreFound program xs → CallsProcedures program.scope xs
  all_named [] h = All-nil (NamesIfCalled program.scope)
  all_named (x ∷ xs) h = All-cons (NamesIfCalled program.scope) x xs (one_named x h.0) (all_named xs h.1)

  pub calls_procedures : CallsProcedures program.scope t.main.statements
  calls_procedures = all_named t.main.statements main_found

pub main_added : LawsOfNames → MainMayBeAdded
main_added laws t legal restricted =
    subst (λ s. CallsProcedures s t.main.statements) (sym (last_is laws t legal restricted)) (calls_procedures laws t legal restricted)
