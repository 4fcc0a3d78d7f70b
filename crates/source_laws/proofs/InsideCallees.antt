-- What can be called in front of the parameters of each body with code has few formals, and those of functions are scalar.
use Rattle.std.proofs.Common.{◌≡◌, ℕ, zero, suc, List, [], ◌∷◌, Bool, true, false, Some, sym, subst}
use Rattle.std.specs.Prelude.{is_some, slice_get}
use Rattle.ada_tree.specs.StatementTree.{SubprogramTree}
use Rattle.ada_tree.specs.ProgramTree.{BodyTree, OperationBody, ProgramTree}
use Rattle.types.specs.Entities.{Entity, Entry, Operation, Profile, Protected, ProtectedObject, Subprogram}
use Rattle.types.specs.Scopes.{Scope, offering}
use Rattle.program_soundness.specs.declaration_rules.specs.BodyNames.{operation_entity}
use Rattle.legality.specs.ProgramRules.{IsLegal}
use Rattle.program_soundness.specs.ravenscar.specs.ProgramRules.{IsRestricted}
use Rattle.expr_soundness.specs.Laws.{ScopesAreSound}
use Rattle.program_soundness.specs.BodyLaws.{NamesAreKnown, PremisesHold}
use Rattle.program_soundness.specs.Fronts.{declared_in, front, start_in}
use Rattle.expr_soundness.specs.meaning.specs.Programs.{program_of}
use Rattle.program_soundness.proofs.Listing.{same_some}
use Rattle.program_soundness.proofs.ObjectBodies as bodies
use Rattle.program_soundness.proofs.Same.{SameTypes}
use Rattle.program_soundness.proofs.Walked.{own_profile}
use Rattle.package_code.specs.Bodies.{Coded}
use Rattle.package_code.proofs.OperationsAdded as added
use Rattle.expr_code.specs.Providing.{FewFormals, HasFewFormals}
use Rattle.source_laws.specs.Visible.{BodiesCallFew, CalleesHaveFew}
use Rattle.source_laws.proofs.FewCallees.{Calls, FewIn, FewOperations, entity_same, few_at, few_called, fronts_call, profile_same, start_calls, subprogram_few}
use Rattle.source_laws.proofs.InsideEntities.{AllOf, all_there, fronts_by, profile_legal, seen_sound}
use Rattle.source_laws.proofs.InsideNames.{object, seen_at, types_seen, types_there}

-- ---- an object without operations, and its operations as names

few_without : (s : Scope) (e : Entity) → FewIn s e → FewIn s (offering [] e)
few_without s (Protected o) h = tt
few_without s e h = h

few_operation : (s : Scope) (os : List Operation) (j : ℕ) (o : Operation) → FewOperations s os → slice_get os j ≡ Some o → FewIn s (operation_entity o)
few_operation s [] j o h at = cc
few_operation s (y ∷ os) zero o h at = by_entry o.is_entry
  where
    few : HasFewFormals s o.profile
    few = subst (λ z. HasFewFormals s z.profile) (same_some y o at) h.0

    by_entry : (b : Bool) → FewIn s (elim b [ true ↦ Entry o.profile | false ↦ Subprogram o.profile ])
    by_entry true = few
    by_entry false = few
few_operation s (y ∷ os) (suc j) o h at = few_operation s os j o h.1 at

-- ---- in front of a body

module _ (scopes : ScopesAreSound) (known : NamesAreKnown) (premises : PremisesHold) (t : ProgramTree) (legal : IsLegal t) (restricted : IsRestricted t) where
  front_calls : (place : ℕ) → Calls (front t place)
  front_calls place =
      fronts_call scopes (start_in t.package_) (declared_in t.package_) place (known t legal restricted).fronts (start_calls t.package_)
      (added.w scopes known premises t legal restricted).list.legal

  front_few : (place : ℕ) → AllOf (FewIn (front t place)) (front t place)
  front_few place n e at = few_at (front t place) (front t place) n e (front_calls place).all at

  inside_few : (place k : ℕ) (c : Coded) → added.IsInObject scopes known premises t legal restricted place k c → FewFormals c.front
  inside_few place k c x =
      few_called c.front (λ n e at. entity_same s c.front types.forms e
      (all_there scopes known premises t legal restricted place k c x (FewIn s) (front_few place) (few_without s)
      (λ j y there. few_operation s o.operations j y own there) tt subprogram (λ j y is_read there. tt) n e at))
    where
      s : Scope
      s = front t place

      types : SameTypes s c.front
      types = types_there scopes known premises t legal restricted place k c x

      o : ProtectedObject
      o = object scopes known premises t legal restricted place k c x

      own : FewOperations s o.operations
      own =
          let n = bodies.named_n (program_of t) (start_in t.package_) (declared_in t.package_) (added.w scopes known premises t legal restricted) place x.name
          x.items x.end_name x.at in
          front_few place n.0 (Protected o) n.2

      subprogram : (j : ℕ) (d : SubprogramTree) (b : BodyTree) → slice_get x.items j ≡ Some (OperationBody d b) → (p : Profile)
          → own_profile (seen_at scopes known premises t legal restricted place k c x j (is_some d.result)) d ≡ Some p → HasFewFormals s p
      subprogram j d b there p is =
          let seen = seen_at scopes known premises t legal restricted place k c x j (is_some d.result) in
          let same = types_seen scopes known premises t legal restricted place k c x j (is_some d.result) in
          profile_same seen s (λ n. sym (same.forms n)) p
          (subprogram_few scopes seen (seen_sound scopes known premises t legal restricted place k c x j (OperationBody d b) there (is_some d.result)) d
          (profile_legal scopes known premises t legal restricted place k c x j d b there) (Some p) is)

pub callees_have_few : ScopesAreSound → NamesAreKnown → PremisesHold → CalleesHaveFew
callees_have_few scopes known premises t legal restricted place =
    few_called (front t place) (front_few scopes known premises t legal restricted place)

pub bodies_call_few : ScopesAreSound → NamesAreKnown → PremisesHold → CalleesHaveFew → BodiesCallFew
bodies_call_few scopes known premises callees t legal restricted =
    fronts_by scopes known premises t legal restricted FewFormals (callees t legal restricted) (inside_few scopes known premises t legal restricted)
