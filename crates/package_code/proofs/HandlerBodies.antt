-- The procedures of handlers: where the body of each stands, and its number (RM C.3.1).
use Rattle.std.proofs.Common.{◌≡◌, ℕ, ◌+◌, List, [], ◌∷◌, map, Some, None, inl, inr, refl, sym, ap, ◌∙◌}
use Rattle.std.specs.Prelude.{is_some, slice_get}
use Rattle.ada_tree.specs.declared.declaration.Formal.{Formal}
use Rattle.ada_tree.specs.declared.expression.Identifier.{Identifier}
use Rattle.ada_tree.specs.StatementTree.{SubprogramTree}
use Rattle.ada_tree.specs.ProgramTree.{BodyTree, OperationBody, ProgramTree, ProtectedBody, ProtectedItemTree}
use Rattle.types.specs.Places.{is_of}
use Rattle.types.specs.Scopes.{Scope}
use Rattle.program_soundness.specs.legality.specs.ProgramRules.{IsLegal}
use Rattle.ravenscar.specs.ProgramRules.{IsRestricted}
use Rattle.expr_soundness.specs.meaning.specs.Programs.{Attached, Procedure, Program, parameter, program_of}
use Rattle.expr_soundness.specs.meaning.specs.Calls.{procedure_among}
use Rattle.program_soundness.specs.Fronts.{declared_in}
use Rattle.program_soundness.specs.step_soundness.specs.Starting.{IsSoundHandler}
use Rattle.program_soundness.proofs.Callables.{FoundProcedure, bodies_among, found_procedure, procedures_are}
use Rattle.package_code.specs.Bodies.{bodies_before, number_in}
use Rattle.package_code.proofs.CodedPackage.{IsOne, StandsAt, unit_stands}
use Rattle.package_code.proofs.EntryRows.{owner_numbered}
use Rattle.package_code.proofs.InFront.{LawsOfNames, whole}
use Rattle.package_code.proofs.OperationBodies.{has_number, object}

no_formals : (s : Scope) (fs : List Formal) → map (parameter s) fs ≡ [] → fs ≡ []
no_formals s [] h = refl
no_formals s (f ∷ fs) h = cc

module _ (laws : LawsOfNames) (t : ProgramTree) (legal : IsLegal t) (restricted : IsRestricted t) (a : Attached) (h : IsSoundHandler (program_of t) a) where
  abbrev program : Program
  program = program_of t

  abbrev q : Procedure
  q = h.procedure

  pub record IsHandlerBody : Type 0 where
    pub place : ℕ
    pub name : Identifier
    pub items : List ProtectedItemTree
    pub end_name : Identifier
    pub at : slice_get (declared_in t.package_) place ≡ Some (ProtectedBody name items end_name)
    pub k : ℕ
    pub d : SubprogramTree
    pub b : BodyTree
    pub there : slice_get items k ≡ Some (OperationBody d b)
    pub number : (object laws.scopes laws.names laws.premises t legal restricted place name items end_name at).number ≡ a.object
    pub none : d.result ≡ None
    pub formals : d.formals ≡ []
    pub named : d.name.name ≡ a.name

  pub handler_body : IsHandlerBody
  handler_body = by_unit (unit_stands laws t legal restricted x.unit_ x.has)
    where
      x : FoundProcedure program.scope (bodies_among program.scope (declared_in t.package_)) (Some a.object) a.name q
      x =
          found_procedure program.scope (bodies_among program.scope (declared_in t.package_)) (Some a.object) a.name q
          (ap (λ l. procedure_among l (Some a.object) a.name) (sym ((whole laws t legal restricted).procedures ∙ procedures_are program.scope (declared_in t.package_))) ∙ h.is)

      by_unit : IsOne laws t legal restricted x.unit_ → IsHandlerBody
      by_unit (inr e) = absurd (let bad = ap (λ u. is_some u.barrier) (sym e.is) ∙ (ap (λ z. is_some z.barrier) (sym x.is) ∙ ap is_some h.closed) in cc)
      by_unit (inl (d, b, y)) = by_stands y.stands
        where
          by_stands : StandsAt laws t legal restricted y.owner d b → IsHandlerBody
          by_stands (inl p) = absurd (let bad = ap (λ z. is_of z (Some a.object)) (sym (ap (λ u. u.owner) y.is ∙ p.0)) ∙ x.owned in cc)
          by_stands (inr o) =
              let own = object laws.scopes laws.names laws.premises t legal restricted o.place o.name o.items o.end_name o.at in
              let owner = ap (λ u. u.owner) y.is ∙ o.owned in
              record {
                place = o.place;
                name = o.name;
                items = o.items;
                end_name = o.end_name;
                at = o.at;
                k = o.k;
                d = d;
                b = b;
                there = o.there;
                number = owner_numbered x.unit_.owner own.number a.object owner x.owned;
                none = ap (λ u. u.result) (sym y.is) ∙ x.none;
                formals = no_formals program.scope d.formals
                    (ap (λ u. map (parameter program.scope) u.formals) (sym y.is) ∙ (ap (λ z. z.parameters) (sym x.is) ∙ h.plain));
                named = ap (λ u. u.name) (sym y.is) ∙ x.named;
              }

  abbrev at_body : IsHandlerBody
  at_body = handler_body

  -- its number
  abbrev pub handler_number : ℕ
  handler_number = bodies_before t at_body.place + at_body.k

  pub number_of_body : number_in t (Some a.object) a.name ≡ Some handler_number
  number_of_body =
      (λ j. number_in t (Some (sym at_body.number j)) (sym at_body.named j))
      ∙ has_number laws.scopes laws.names laws.premises t legal restricted at_body.place at_body.name at_body.items at_body.end_name at_body.at at_body.k
      (OperationBody at_body.d at_body.b) at_body.there
