-- The subprogram of a handler's procedure: a procedure of its object, which takes no words and gives none (RM C.3.1).
use Rattle.std.proofs.Common.{◌≡◌, ℕ, [], Some, ap, ◌∙◌}
use Rattle.ada_tree.specs.ProgramTree.{OperationBody, ProgramTree, ProtectedBody}
use Rattle.image.specs.Operations.{called}
use Rattle.image.specs.Sections.{Sections}
use Rattle.image.specs.declared.subprograms.Kind.TheVariants as kinds
use Rattle.image.specs.declared.subprograms.Subprogram.{Subprogram}
use Rattle.type_rules.specs.ProfileRules.{formal_parameters}
use Rattle.program_soundness.specs.legality.specs.ProgramRules.{IsLegal}
use Rattle.ravenscar.specs.ProgramRules.{IsRestricted}
use Rattle.expr_soundness.specs.meaning.specs.Programs.{Attached, program_of, subtype_named}
use Rattle.program_soundness.specs.step_soundness.specs.Starting.{IsSoundHandler}
use Rattle.expr_code.specs.Code.{here}
use Rattle.stmt_code.specs.Subprograms.{IsCalledFunction, IsCalledProcedure}
use Rattle.package_code.specs.Bodies.{Coded, operation_kind}
use Rattle.package_code.specs.Directory.{number_told}
use Rattle.package_code.specs.Program.{HasProgram}
use Rattle.package_code.specs.Walking.{HasBody, row_of}
use Rattle.package_code.proofs.Coded.{body_at}
use Rattle.package_code.proofs.HandlerBodies.{IsHandlerBody, handler_body, handler_number, number_of_body}
use Rattle.package_code.proofs.InFront.{LawsOfNames}
use Rattle.package_code.proofs.Linking.{body_there, called_front, without}
use Rattle.package_code.proofs.OperationBodies.{code_of, coded, object}

module _ (laws : LawsOfNames) (t : ProgramTree) (legal : IsLegal t) (restricted : IsRestricted t) (a : Attached) (h : IsSoundHandler (program_of t) a)
    (i : Sections) (has : HasProgram t i) where
  abbrev y : IsHandlerBody laws t legal restricted a h
  y = handler_body laws t legal restricted a h

  abbrev n : ℕ
  n = handler_number laws t legal restricted a h

  -- its number is told
  pub handler_numbered : number_told (program_of t).scope has.directory (Some a.object) a.name ≡ Some n
  handler_numbered = has.told.operations a.object a.name ∙ number_of_body laws t legal restricted a h

  abbrev code : Coded
  code = code_of laws.scopes laws.names laws.premises t legal restricted y.place y.name y.items y.end_name y.at y.k (OperationBody y.d y.b)

  body : HasBody t has.directory n code has.walk
  body =
      body_there t i has n code
      (body_at t y.place y.k (ProtectedBody y.name y.items y.end_name) code y.at
      (coded laws.scopes laws.names laws.premises t legal restricted y.place y.name y.items y.end_name y.at y.k (OperationBody y.d y.b) y.there))

  pub record IsHandlerCode : Type 0 where
    pub s : Subprogram
    pub there : called i n ≡ Some s
    pub kind : s.kind ≡ kinds.ProtectedProcedure a.object
    pub parameters : s.parameters ≡ 0
    pub results : s.results ≡ 0

  pub handler_code : IsHandlerCode
  handler_code =
      let words = body.words in
      let s = row_of code.kind words (here body.new.code) in
      let own = object laws.scopes laws.names laws.premises t legal restricted y.place y.name y.items y.end_name y.at in
      let called_so : IsCalledProcedure body.seen.scope y.d.formals words =
      without (IsCalledProcedure body.seen.scope y.d.formals words)
      (λ r. IsCalledFunction body.seen.scope y.d.formals (subtype_named (program_of t).scope r) words) y.d.result body.called y.none in
      record {
        s = s;
        there = called_front t i has n s body.there;
        kind = ap (operation_kind own.number) y.none ∙ ap kinds.ProtectedProcedure y.number;
        parameters = called_so.passed [] (ap (formal_parameters body.seen.scope) y.formals);
        results = called_so.results [] (ap (formal_parameters body.seen.scope) y.formals);
      }
