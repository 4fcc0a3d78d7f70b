-- What can be called in front of each body with code has a body of its own, with these formals: a subprogram or an operation by its name, an operation or entry
-- behind its object.
use Rattle.std.proofs.Common.{◌≡◌, ℕ, suc, ◌⊎◌, inl, inr, List, [], Some, refl, sym, ap, ◌∙◌}
use Rattle.std.specs.Prelude.{slice_get}
use Rattle.ada_tree.specs.declared.expression.Identifier.{Identifier}
use Rattle.ada_tree.specs.ProgramTree.{BodyItemTree, OperationBody, ProgramTree, ProtectedBody, ProtectedItemTree, SubprogramBody}
use Rattle.types.specs.Entities.{Profile, Protected, ProtectedObject, Subprogram}
use Rattle.types.specs.Scopes.{Scope}
use Rattle.expr_soundness.specs.type_rules.specs.ProfileRules.{formal_parameters}
use Rattle.legality.specs.ProgramRules.{IsLegal}
use Rattle.program_soundness.specs.ravenscar.specs.ProgramRules.{IsRestricted}
use Rattle.expr_soundness.specs.Laws.{ScopesAreSound}
use Rattle.expr_soundness.specs.meaning.specs.Programs.{program_of}
use Rattle.program_soundness.specs.BodyLaws.{NamesAreKnown, PremisesHold}
use Rattle.program_soundness.specs.Fronts.{declared_in, front, start_in}
use Rattle.program_soundness.proofs.BodyProfiles.{profile_formals}
use Rattle.program_soundness.proofs.Called.{subprogram_there}
use Rattle.program_soundness.proofs.Whole.{IsPackage, kept}
use Rattle.program_soundness.proofs.WiderScopes.{stands, stands_number}
use Rattle.expr_code.specs.Seeing.{external_profile}
use Rattle.expr_code.proofs.Externals.{IsBehind, is_behind}
use Rattle.package_code.specs.Bodies.{Coded, of_subprogram, own_head, IsBodyOf}
use Rattle.package_code.proofs.OperationsAdded as added
use Rattle.source_laws.proofs.InsideEntities.{fronts_by}
use Rattle.source_laws.proofs.InsideNames.{protected_named, subprogram_named}
use Rattle.source_laws.proofs.ObjectCallees.{unit_behind, unit_body, unit_code}

module _ (scopes : ScopesAreSound) (known : NamesAreKnown) (premises : PremisesHold) (t : ProgramTree) (legal : IsLegal t) (restricted : IsRestricted t) where
  abbrev all : List BodyItemTree
  all = declared_in t.package_

  abbrev start : Scope
  start = start_in t.package_

  abbrev whole : Scope
  whole = (program_of t).scope

  abbrev w : IsPackage (program_of t) start all
  w = added.w scopes known premises t legal restricted

  pub record HasCode (p : Profile) : Type 0 where
    pub code : Coded
    pub body : IsBodyOf t code
    pub formals : formal_parameters whole code.head.formals ≡ Some p.formals

  -- what is called where these names are visible
  pub record HaveCode (s : Scope) : Type 0 where
    pub called : (name : List ℕ) (p : Profile) → stands s name ≡ Some (Subprogram p) → HasCode p
    pub behind : (object operation : List ℕ) (p : Profile) → external_profile s object operation ≡ Some p → HasCode p

  -- ---- a subprogram of the package, or an operation or entry in the body of an object

  subprogram_code : (name : List ℕ) (p : Profile) → stands whole name ≡ Some (Subprogram p) → HasCode p
  subprogram_code name p h =
      let x = subprogram_there (program_of t) start all w name p h in
      record {
        code = of_subprogram (front t (suc x.place)) x.subprogram x.body;
        body = record { place = x.place; item = SubprogramBody x.subprogram x.body; index = 0; at = x.at; coded = refl };
        formals = profile_formals whole (formal_parameters whole x.subprogram.formals) x.subprogram.result p x.own;
      }

  operation_code : (place : ℕ) (name : Identifier) (items : List ProtectedItemTree) (end_name : Identifier)
      → (at : slice_get all place ≡ Some (ProtectedBody name items end_name)) → (index : ℕ) (item : ProtectedItemTree) → slice_get items index ≡ Some item
      → (p : Profile) → formal_parameters whole (own_head item).formals ≡ Some p.formals
      → HasCode p
  operation_code place name items end_name at index item there p is =
      record {
        code = unit_code scopes known premises t legal restricted place name items end_name at index item there;
        body = unit_body scopes known premises t legal restricted place name items end_name at index item there;
        formals = is;
      }

  -- ---- by its name

  abbrev ByName : Scope → Type 0
  ByName s = (name : List ℕ) (p : Profile) → stands s name ≡ Some (Subprogram p) → HasCode p

  front_code : (place : ℕ) → ByName (front t place)
  front_code place name p h = subprogram_code name p (kept (program_of t) start all w place name (Subprogram p) h)

  inside_code : (place k : ℕ) (c : Coded) → added.IsInObject scopes known premises t legal restricted place k c → ByName c.front
  inside_code place k c x name p h =
      elim (subprogram_named scopes known premises t legal restricted place k c x name p h) [
        | inl i ↦ front_code place name p i
        | inr y ↦ operation_code place x.name x.items x.end_name x.at y.index (OperationBody y.subprogram y.body) y.there p
            (profile_formals whole (formal_parameters whole y.subprogram.formals) y.subprogram.result p y.own)
      ]

  -- ---- behind its object

  abbrev Offers : Scope → Type 0
  Offers s = (name : List ℕ) (q : ProtectedObject) → stands s name ≡ Some (Protected q) → (stands whole name ≡ Some (Protected q)) ⊎ (q.operations ≡ [])

  front_offers : (place : ℕ) → Offers (front t place)
  front_offers place name q h = inl (kept (program_of t) start all w place name (Protected q) h)

  inside_offers : (place k : ℕ) (c : Coded) → added.IsInObject scopes known premises t legal restricted place k c → Offers c.front
  inside_offers place k c x name q h =
      elim (protected_named scopes known premises t legal restricted place k c x name q h) [ inl i ↦ front_offers place name q i | inr i ↦ inr i ]

  behind_by : (s : Scope) → Offers s → (object operation : List ℕ) (p : Profile) → external_profile s object operation ≡ Some p → HasCode p
  behind_by s offers object operation p h = by_case (offers object x.protected visible)
    where
      x : IsBehind s object operation p
      x = is_behind s object operation p h

      visible : stands s object ≡ Some (Protected x.protected)
      visible = stands_number s object x.number (Protected x.protected) x.numbered x.stands

      by_case : (stands whole object ≡ Some (Protected x.protected)) ⊎ (x.protected.operations ≡ []) → HasCode p
      by_case (inr none) = absurd (let bad : slice_get [] x.place ≡ Some x.entry = ap (λ l. slice_get l x.place) (sym none) ∙ x.found in cc)
      by_case (inl there) =
          let y = unit_behind scopes known premises t legal restricted s object operation p x there in
          operation_code y.place y.name y.items y.end_name y.at y.index y.item y.there p y.formals

  -- ---- in front of the declarations and bodies of the package, and of each body with code

  pub front_have : (place : ℕ) → HaveCode (front t place)
  front_have place = record { called = front_code place; behind = behind_by (front t place) (front_offers place) }

  pub have_code : (c : Coded) → IsBodyOf t c → HaveCode c.front
  have_code =
      fronts_by scopes known premises t legal restricted HaveCode front_have
      (λ place k c x. record { called = inside_code place k c x; behind = behind_by c.front (inside_offers place k c x) })
