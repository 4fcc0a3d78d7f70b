-- What the code of a call does where it stands in an image, and that it keeps the rules of images there: of a procedure, of an entry, and of a line (RM 6.4, 9.5).
use Rattle.std.proofs.Common.{◌≡◌, ℕ, zero, suc, ◌+◌, ◌-◌, ◌≤◌, List, [], ◌∷◌, ◌++◌, length, Bool, true, false, ◌||◌, Option, None, Some, refl, sym, ap, ◌∙◌, subst, arith}
use Rattle.std.specs.Prelude.{is_some, map, option_map, slice_get}
use Rattle.ada_tree.specs.ExpressionTree.{ArgumentTree, ArgumentTrees, MoreArguments, NameTree, NoArguments}
use Rattle.ada_tree.specs.Size.{total}
use Rattle.ada_tree.specs.StatementTree.{Call}
use Rattle.image.specs.Sections.{Sections}
use Rattle.image.specs.Operations.{called, entry_called, parameters_of, results_of}
use Rattle.image.specs.Rules.{calls_inside, is_external, is_plain, some_and}
use Rattle.image.specs.declared.instruction.Operation.{Operation}
use Rattle.image.specs.declared.instruction.Operation.TheVariants as op
use Rattle.image.specs.declared.subprograms.Subprogram as code
use Rattle.image.specs.declared.subprograms.Subprogram.{Subprogram}
use Rattle.types.specs.declared.entity.FormalParameter.{FormalParameter}
use Rattle.types.specs.declared.standing.Callee as standings
use Rattle.types.specs.declared.standing.Callee.TheVariants as callee
use Rattle.types.specs.declared.standing.Standing.TheVariants as standing
use Rattle.types.specs.Entities as entity
use Rattle.types.specs.Entities.{Profile}
use Rattle.types.specs.Scopes.{Scope, profile_of, protected_of}
use Rattle.types.specs.Standings.{callee_profile, count, operation_profile, profile_among}
use Rattle.type_rules.specs.SubtypeNames.{entity_at_or_none}
use Rattle.expr_soundness.specs.SoundScopes.{AreKnown}
use Rattle.expr_soundness.specs.expr_rules.specs.ExpressionRules.{argument_faults, arguments_faults}
use Rattle.expr_soundness.specs.expr_rules.specs.NameRules.{call_slot, formal_slot, formal_slot_or, slot_at}
use Rattle.expr_soundness.specs.expr_rules.proofs.TypedLaw.{back_empty, front_empty}
use Rattle.expr_soundness.specs.meaning.specs.Calls.{callee_by, callee_through, callee_with, procedure_among, procedure_here}
use Rattle.expr_soundness.specs.meaning.specs.Programs.{Procedure, Program}
use Rattle.expr_soundness.proofs.Positions.{same_some}
use Rattle.expr_code.specs.Actuals.{ArePassedLegally, IsPassedLegally, arguments_in_front}
use Rattle.expr_code.specs.Pieces.{Piece, one, ◌▸◌}
use Rattle.expr_code.specs.Seeing.{NamesProfile, Package, Sees, external_of, external_profile, library_of, profile_named, subprogram_of}
use Rattle.expr_code.specs.declared.visible.Visible.{Visible}
use Rattle.expr_code.proofs.Actuals.{nothing_behind}
use Rattle.expr_code.proofs.CalledWorks.{profile_names}
use Rattle.expr_code.proofs.Flowing.{Changes}
use Rattle.expr_code.proofs.StandingPieces.{Between, Leads, both_stand, leads_one, leads_then, one_stands}
use Rattle.part_code.specs.Copying.{AreCopies}
use Rattle.part_code.specs.EntryNames.{entry_among, entry_behind, is_own_entry}
use Rattle.part_code.specs.Layout.{IsLaidOut}
use Rattle.part_code.specs.Lines.{LabelledValue, line_of}
use Rattle.part_code.specs.PartCode.{actuals_code, actuals_height, actuals_targets, copies_code, given_words}
use Rattle.part_code.specs.Passing.{ArePassedAndPlaced, ComputesActuals, ExternalName, actuals_behind, operation_behind}
use Rattle.part_code.specs.Resting.{Framed}
use Rattle.part_code.specs.Statements.{IsCalleeCode, IsInvoked, Numbers, OfEntry, OfOwnEntry, OfProcedure}
use Rattle.part_code.specs.Suiting.{SuitsStatements, passed_width, returned_width}
use Rattle.part_code.specs.declared.call.Destination.{Destination}
use Rattle.part_code.specs.step_soundness.specs.Fitting as fitting
use Rattle.part_code.specs.step_soundness.specs.Fitting.{entity_named, formal_of}
use Rattle.part_code.specs.step_soundness.proofs.Calling.{among_owner}
use Rattle.part_code.specs.step_soundness.proofs.Naming.{IsCall, IsOperationCall}
use Rattle.part_code.proofs.Actuals.{computes_none}
use Rattle.part_code.proofs.ActualsWork.{ActualsWork, actuals_work}
use Rattle.part_code.proofs.CopiesWork.{CopiesWork, copies_work}
use Rattle.part_code.proofs.OperationNames.{protected_named}
use Rattle.part_code.proofs.PassingWell.{passes_none}
use Rattle.stmt_code.specs.Drafting.{coded}
use Rattle.stmt_code.specs.Emitting.{IsLegalStatement, Serves}
use Rattle.stmt_code.specs.SimpleCode.{bare_form, behind_form, call_form, invoked_code, procedure_code, profiled_form, through_code}
use Rattle.stmt_code.specs.StatementCode.{Site, called_code, line_code}
use Rattle.stmt_code.proofs.AssignmentsDo.{suits_leads}
use Rattle.stmt_code.proofs.BranchesDo.{IsOne}
use Rattle.stmt_code.proofs.CallForms.{CallsThrough, actuals_there, line_there, named_through, put_there, through_there}
use Rattle.stmt_code.proofs.CallsAdded as procedures
use Rattle.stmt_code.proofs.CallsAdded.{callee_is, external_is, operation_found}
use Rattle.stmt_code.proofs.CodeOfCalls.{is_invoked}
use Rattle.stmt_code.proofs.EntryCalls as entries
use Rattle.stmt_code.proofs.EntryCalls.{NamesEntry, called_alone, names_entry, test_changes, told_entry}
use Rattle.stmt_code.proofs.LinesDo.{does_line}
use Rattle.stmt_code.proofs.CoveredScopes.{IsFull}
use Rattle.stmt_code.proofs.PartsDo.{Does, StatementLaws, does_coded}
use Rattle.stmt_code.proofs.PartsStand.{coded_goes, coded_has}
use Rattle.stmt_code.proofs.Putting.{put_is}
use Rattle.stmt_code.proofs.Suiting.{profile_sound}
use Rattle.stmt_code.proofs.TurnsDo.{one_before}

-- ---- actual parameters, one by one

abbrev pub tree_list : ArgumentTrees → List ArgumentTree
tree_list NoArguments = []
tree_list (MoreArguments x rest) = x ∷ tree_list rest

pub list_is : (a : ArgumentTrees) → arguments_in_front (tree_list a) NoArguments ≡ a
list_is NoArguments = refl
list_is (MoreArguments x rest) = ap (MoreArguments x) (list_is rest)

list_long : (a : ArgumentTrees) → length (tree_list a) ≡ count a
list_long NoArguments = refl
list_long (MoreArguments x rest) = ap suc (list_long rest)

module _ (s : Scope) (f : standings.Callee) (profile : Profile) (profiled : callee_profile s f ≡ Some profile) where
  -- those from a number on
  passed_legally : (k : ℕ) (a : ArgumentTrees) → arguments_faults s (standing.Callee f) k a ≡ []
      → (n : ℕ) (x : FormalParameter) (y : ArgumentTree) → slice_get profile.formals (k + n) ≡ Some x → slice_get (tree_list a) n ≡ Some y
      → IsPassedLegally s x y
  passed_legally k NoArguments h n x y at_formal at_argument = cc
  passed_legally k (MoreArguments z rest) h zero x y at_formal at_argument =
      let same : z ≡ y = cc in
      let more : k + 0 ≡ k = omega arith in
      let slot : slot_at s (standing.Callee f) k ≡ formal_slot x =
      ap (λ o. call_slot o k) profiled ∙ ap formal_slot_or (ap (slice_get profile.formals) (sym more) ∙ at_formal) in
      (λ j. argument_faults s (sym slot j) (sym same j))
      ∙ front_empty (argument_faults s (slot_at s (standing.Callee f) k) z) (arguments_faults s (standing.Callee f) (suc k) rest) h
  passed_legally k (MoreArguments z rest) h (suc n) x y at_formal at_argument =
      let more : k + suc n ≡ suc k + n = omega arith in
      passed_legally (suc k) rest
      (back_empty (argument_faults s (slot_at s (standing.Callee f) k) z) (arguments_faults s (standing.Callee f) (suc k) rest) h) n x y
      (ap (slice_get profile.formals) (sym more) ∙ at_formal) at_argument

  all_legal : (a : ArgumentTrees) → arguments_faults s (standing.Callee f) 0 a ≡ [] → ArePassedLegally s profile.formals (tree_list a)
  all_legal a h k x y at_formal at_argument =
      let none : 0 + k ≡ k = omega arith in passed_legally 0 a h k x y (ap (slice_get profile.formals) none ∙ at_formal) at_argument

-- ---- the actual parameters, the call, and what is copied back

module _ (laws : StatementLaws) (v : Visible) (fs : List FormalParameter) (a : ArgumentTrees)
    (w : ActualsWork v 0 0 fs (tree_list a) (actuals_targets v fs a) (actuals_height v 0 fs a) (actuals_code v 0 fs a)) (call : Operation) where
  abbrev S : Sections → Subprogram → Type 0
  S = SuitsStatements v

  abbrev ds : List Destination
  ds = actuals_targets v fs a

  abbrev height : ℕ
  height = actuals_height v 0 fs a

  abbrev actuals : Piece
  actuals = actuals_code v 0 fs a

  abbrev copies : Piece
  copies = copies_code v.scope ds

  copied : CopiesWork v ds copies
  copied = copies_work v laws.kept laws.expressions.words laws.expressions.quiet ds w.fits

  -- it finds the words that are passed, and leaves those that come back
  abbrev CallsBy : Type 0
  CallsBy = (out : ℕ) → height ≡ total (passed_width v.scope) fs → total (returned_width v.scope) fs ≡ out → Changes S call height out

  invoked_leads : CallsBy → Leads S 0 0 (invoked_code v fs a call)
  invoked_leads changes = record {
    leads = λ i u from to h suits deep high ends.
        let front = both_stand i from to actuals (one height call ▸ copies) h in
        let back = both_stand i front.mid to (one height call) copies front.second in
        let tall = w.high i from front.mid front.first in
        let out = copied.words i back.mid to back.second in
        let given = w.back in
        let whole = leads_then S 0 height 0 actuals (one height call ▸ copies) (suits_leads v 0 height actuals w.keeps.leads)
        (leads_then S height (total (given_words v.scope) ds) 0 (one height call) copies
        (leads_one S height (total (given_words v.scope) ds) call
        (λ e. changes (total (given_words v.scope) ds) (omega (arith, tall)) (given ∙ out))) copied.keeps.leads) in
        whole.leads i u from to h suits deep high ends;
  }

  module _ (i : Sections) (program : Program) (g : Package) (numbers : Numbers) (f : Framed) (seen : f.names ≡ v) (scope : program.scope ≡ g.scope)
      (laid : IsLaidOut g f) (q : Procedure) (through : Option ℕ) (formals : map formal_of q.parameters ≡ fs) (from to : ℕ)
      (h : Between i from to (invoked_code v fs a call)) where
    invoked : IsInvoked i program g numbers f from to (record { procedure = q; through = through; arguments = a }) call
    invoked =
        let front = both_stand i from to actuals (one height call ▸ copies) h in
        let back = both_stand i front.mid to (one height call) copies front.second in
        let it = one_stands i front.mid back.mid height call back.first in
        let mid = front.mid in
        let passed = w.stands i from mid front.first program g f seen scope q.parameters formals in
        let computes = subst (λ l. ComputesActuals i program g f from mid l a) (nothing_behind q.parameters)
        (subst (λ x. ComputesActuals i program g f from mid (q.parameters ++ []) x) (list_is a)
        (passed.computes mid [] NoArguments (omega arith) (computes_none laws.expressions.quiet i (library_of g) (Sees g f.names) f.names mid))) in
        let passes = subst (λ l. ArePassedAndPlaced i program g f l a ds) (nothing_behind q.parameters)
        (subst (λ x. ArePassedAndPlaced i program g f (q.parameters ++ []) x ds) (list_is a)
        (subst (λ l. ArePassedAndPlaced i program g f (q.parameters ++ []) (arguments_in_front (tree_list a) NoArguments) l) (nothing_behind ds)
        (passed.passes [] NoArguments [] (passes_none program g scope f)))) in
        let rest = copied.copies i back.mid to back.second program g f seen laid in
        is_invoked laws.expressions.quiet i program g scope numbers f (record { procedure = q; through = through; arguments = a }) call from mid to front.up
        computes (height, it.there) ds passed.many (subst (λ n. AreCopies i program g f n to ds) it.ends rest) passes

-- a subprogram takes what is passed by the profile, and gives what comes back
module _ (v : Visible) (fs : List FormalParameter) (height out : ℕ) (tall : height ≡ total (passed_width v.scope) fs)
    (back : total (returned_width v.scope) fs ≡ out) (found : Option code.Subprogram) (x : code.Subprogram) (is : found ≡ Some x)
    (parameters : x.parameters ≡ total (passed_width v.scope) fs) (results : x.results ≡ total (returned_width v.scope) fs) where
  call_takes : parameters_of found ≤ height
  call_takes = let many : parameters_of found ≡ x.parameters = ap parameters_of is in omega (arith, many, parameters, tall)

  call_leaves : height - parameters_of found + results_of found ≡ out
  call_leaves =
      let many : parameters_of found ≡ x.parameters = ap parameters_of is in
      let some : results_of found ≡ x.results = ap results_of is in
      omega (arith, many, some, parameters, results, tall, back)

module _ (laws : StatementLaws) (c : Site) (name : NameTree) (full : IsFull c) (legal : IsLegalStatement c.visible.scope (Call name)) where
  abbrev v : Visible
  v = c.visible

  abbrev Suiting : Sections → Subprogram → Type 0
  Suiting = SuitsStatements v

  abbrev IsIt : Piece → Type 0
  IsIt a =
      (i : Sections) (program : Program) (g : Package) (numbers : Numbers) (f : Framed) → f.names ≡ v → Serves program g numbers f c.taken → (from to : ℕ)
      → Between i from to a
      → IsCalleeCode i program g numbers f from to name (callee_by program f.within name.first name.selectors)

  calls : (a : Piece) → Leads Suiting 0 0 a → IsIt a → Does (IsOne c (Call name)) c [] (coded a)
  calls a leads it =
      does_coded (IsOne c (Call name)) c a leads
      (λ i program g numbers f r s to served k. (
        it i program g numbers f served.names served.serves s.place to (coded_has i f.room s to a k.part),
        coded_goes i r f.room s to a k,
      ))

  -- the code of what is passed
  passing : (f : standings.Callee) (profile : Profile) (profiled : callee_profile v.scope f ≡ Some profile) → AreKnown v.scope profile.formals
      → (a : ArgumentTrees) → count a ≡ length profile.formals → arguments_faults v.scope (standing.Callee f) 0 a ≡ []
      → ActualsWork v 0 0 profile.formals (tree_list a) (actuals_targets v profile.formals a) (actuals_height v 0 profile.formals a)
      (actuals_code v 0 profile.formals a)
  passing f profile profiled known a counted unbroken =
      subst
      (λ t. ActualsWork v 0 0 profile.formals (tree_list a) (actuals_targets v profile.formals t) (actuals_height v 0 profile.formals t)
      (actuals_code v 0 profile.formals t)) (list_is a)
      (actuals_work laws.expressions v full.sound full.has.expressions 0 0 (omega arith) profile.formals (tree_list a) (list_long a ∙ counted) known
      (all_legal v.scope f profile profiled a unbroken))

  -- ---- a procedure that is named

  module _ (profile : Profile) (profiled : profile_named v.scope name.first.name ≡ Some profile) where
    abbrev pub names : NamesProfile v.scope name.first.name profile
    names = profile_names v.scope name.first.name profile profiled

    abbrev pub called_as : IsCall v.scope (callee.Direct names.number) profile name.selectors
    called_as = procedures.call v name profile names legal

    abbrev pub given : ArgumentTrees
    given = called_as.arguments

    pub written : actuals_behind name.selectors ≡ Some given
    written = actuals_there name.selectors given called_as.written

    pub passed : ActualsWork v 0 0 profile.formals (tree_list given) (actuals_targets v profile.formals given) (actuals_height v 0 profile.formals given)
        (actuals_code v 0 profile.formals given)
    passed =
        let known = full.sound.each names.number (entity.Subprogram profile) names.stands in
        passing (callee.Direct names.number) profile (ap profile_of names.stands) known.known given called_as.counted called_as.legal

    module _ (number : ℕ) (numbered : subprogram_of v name.first.name ≡ Some number) where
      abbrev call : Operation
      call = op.Call number

      procedure_changes : CallsBy laws v profile.formals given passed call
      procedure_changes out tall back = record {
        operands = refl;
        names = λ i u suits.
            let it = suits.procedures name.first.name number profile numbered names called_as.none in
            ap (λ o. some_and o (λ x. is_plain x.kind || calls_inside u.kind x.kind)) it.is ∙ it.kind;
        takes = λ i u suits.
            let it = suits.procedures name.first.name number profile numbered names called_as.none in
            call_takes v profile.formals (actuals_height v 0 profile.formals given) out tall back (called i number) it.code it.is it.parameters it.results;
        leaves = λ i u suits.
            let it = suits.procedures name.first.name number profile numbered names called_as.none in
            call_leaves v profile.formals (actuals_height v 0 profile.formals given) out tall back (called i number) it.code it.is it.parameters it.results;
        stays = refl;
        is_none = refl;
      }

      procedure_is : IsIt (invoked_code v profile.formals given call)
      procedure_is i program g numbers f seen serves from to h =
          let known : entity_named f.names.scope name.first.name ≡ Some (entity.Subprogram profile) =
          ap (λ x. entity_named x.scope name.first.name) seen ∙ ap (entity_at_or_none v.scope) names.numbered ∙ names.stands in
          let found = subst (fitting.IsCalled (procedure_here program f.within name.first.name) profile) called_as.none
          (serves.finds name.first.name (entity.Subprogram profile) known) in
          subst (IsCalleeCode i program g numbers f from to name)
          (sym (callee_is program f.within name.first name.selectors given written ∙ ap (λ o. callee_with o None given) found.is))
          (OfProcedure (record {
            number = number;
            numbered =
                serves.numbered name.first.name found.procedure number profile found.is (ap (λ x. subprogram_of x name.first.name) seen ∙ numbered)
                (subst (λ x. NamesProfile x.scope name.first.name profile) (sym seen) names) called_as.none;
            plain = found.barrier;
            invoked =
                invoked laws v profile.formals given passed call i program g numbers f seen serves.scope serves.laid found.procedure None found.formals from
                to h;
          }))

      does_procedure : Does (IsOne c (Call name)) c [] (coded (invoked_code v profile.formals given call))
      does_procedure =
          calls (invoked_code v profile.formals given call) (invoked_leads laws v profile.formals given passed call procedure_changes) procedure_is

    does_profiled : Does (IsOne c (Call name)) c [] (coded (procedure_code v profile (actuals_behind name.selectors) (subprogram_of v name.first.name)))
    does_profiled =
        subst (λ o. Does (IsOne c (Call name)) c [] (coded (procedure_code v profile o (subprogram_of v name.first.name)))) (sym written)
        (by_number (subprogram_of v name.first.name) refl (full.has.expressions.numbered name.first.name profile profiled))
      where
        by_number : (o : Option ℕ) → subprogram_of v name.first.name ≡ o → is_some o ≡ true
            → Does (IsOne c (Call name)) c [] (coded (procedure_code v profile (Some given) o))
        by_number (Some number) is some = does_procedure number is
        by_number None is some = cc

  -- ---- an operation that is named after its protected object

  module _ (t : CallsThrough v.scope name) where
    abbrev pub it_calls : IsOperationCall v.scope t.number t.protected name.selectors
    it_calls = t.called

    abbrev operation_name : List ℕ
    operation_name = it_calls.name.name

    abbrev pub through_profile : Profile
    through_profile = it_calls.operation.profile

    abbrev pub through_given : ArgumentTrees
    through_given = it_calls.call.arguments

    abbrev pub behind : ExternalName
    behind = record { operation = it_calls.name; arguments = through_given }

    pub behind_is : operation_behind name.selectors ≡ Some behind
    behind_is = named_through name.selectors it_calls.rest it_calls.name through_given it_calls.written it_calls.call.written

    through_callee : callee_profile v.scope (callee.Operation t.number it_calls.place) ≡ Some through_profile
    through_callee = ap (λ o. profile_among o it_calls.place) (ap protected_of t.stands) ∙ ap operation_profile it_calls.there

    pub through_passed : ActualsWork v 0 0 through_profile.formals (tree_list through_given) (actuals_targets v through_profile.formals through_given)
        (actuals_height v 0 through_profile.formals through_given) (actuals_code v 0 through_profile.formals through_given)
    through_passed =
        let known = profile_sound v.scope full.sound name.first.name operation_name through_profile t.profiled in
        passing (callee.Operation t.number it_calls.place) through_profile through_callee known.known through_given it_calls.call.counted it_calls.call.legal

    -- what is called is the operation of this object of the program
    record IsOf (program : Program) (f : Framed) (object : fitting.IsProtectedObject program name.first.name t.protected) : Type 0 where
      is_named : fitting.IsOperation program (procedure_among program.procedures (Some object.object.number) operation_name) it_calls.operation.is_entry
          through_profile
      callee : (q : Procedure) → procedure_among program.procedures (Some object.object.number) operation_name ≡ Some q
          → callee_by program f.within name.first name.selectors
          ≡ Some (record { procedure = q; through = Some object.object.number; arguments = through_given })

    object_there : (program : Program) (g : Package) (numbers : Numbers) (f : Framed) → f.names ≡ v → Serves program g numbers f c.taken
        → fitting.IsProtectedObject program name.first.name t.protected
    object_there program g numbers f seen serves =
        serves.finds name.first.name (entity.Protected t.protected)
        (ap (λ x. entity_named x.scope name.first.name) seen ∙ ap (entity_at_or_none v.scope) t.numbered ∙ t.stands)

    is_of : (program : Program) (f : Framed) (object : fitting.IsProtectedObject program name.first.name t.protected) → IsOf program f object
    is_of program f object = record {
      is_named = object.operations operation_name it_calls.place it_calls.operation it_calls.found it_calls.there;
      callee = λ q found.
          external_is program f.within name.first name.selectors behind behind_is
          ∙ ap (λ e. callee_through program (option_map (λ x. x.number) (protected_of e)) operation_name through_given) object.is
          ∙ ap (λ o. callee_with o (Some object.object.number) through_given) found;
    }

    module _ (number : ℕ) (numbered : external_of v name.first.name operation_name ≡ Some number) where
      abbrev through_call : Operation
      through_call = op.ProtectedCall number

      through_changes : CallsBy laws v through_profile.formals through_given through_passed through_call
      through_changes out tall back = record {
        operands = refl;
        names = λ i u suits.
            let it = suits.externals name.first.name operation_name number through_profile numbered t.profiled it_calls.call.none in
            ap (λ o. some_and o (λ x. is_external x.kind)) it.is ∙ it.kind;
        takes = λ i u suits.
            let it = suits.externals name.first.name operation_name number through_profile numbered t.profiled it_calls.call.none in
            call_takes v through_profile.formals (actuals_height v 0 through_profile.formals through_given) out tall back (called i number) it.code it.is
            it.parameters it.results;
        leaves = λ i u suits.
            let it = suits.externals name.first.name operation_name number through_profile numbered t.profiled it_calls.call.none in
            call_leaves v through_profile.formals (actuals_height v 0 through_profile.formals through_given) out tall back (called i number) it.code it.is
            it.parameters it.results;
        stays = refl;
        is_none = refl;
      }

      through_is : IsIt (invoked_code v through_profile.formals through_given through_call)
      through_is i program g numbers f seen serves from to h =
          let o = object_there program g numbers f seen serves in
          let of = is_of program f o in
          let found = operation_found program (procedure_among program.procedures (Some o.object.number) operation_name) it_calls.operation.is_entry
          through_profile it_calls.call.none of.is_named in
          let serving = serves.externals name.first.name operation_name number o.object found.0
          (ap (λ x. external_of x name.first.name operation_name) seen ∙ numbered) o.is found.1 in
          subst (IsCalleeCode i program g numbers f from to name) (sym (of.callee found.0 found.1))
          (OfProcedure (record {
            number = number;
            numbered = serving.0;
            plain = serving.1;
            invoked =
                invoked laws v through_profile.formals through_given through_passed through_call i program g numbers f seen serves.scope serves.laid found.0
                (Some o.object.number) found.2 from to h;
          }))

      does_through : Does (IsOne c (Call name)) c [] (coded (invoked_code v through_profile.formals through_given through_call))
      does_through =
          calls (invoked_code v through_profile.formals through_given through_call)
          (invoked_leads laws v through_profile.formals through_given through_passed through_call through_changes) through_is

    -- its entry, after a test that no action is open
    module _ (number : ℕ) (entered : entry_behind v.scope name.first.name operation_name ≡ Some number) where
      abbrev entry_call : Operation
      entry_call = op.EntryCall number

      abbrev entry_code : Piece
      entry_code = one 0 op.CheckBlocking ▸ invoked_code v through_profile.formals through_given entry_call

      entry_changes : CallsBy laws v through_profile.formals through_given through_passed entry_call
      entry_changes out tall back = record {
        operands = refl;
        names = λ i u suits.
            ap (λ o. some_and o (λ x. true)) (suits.entries name.first.name operation_name number through_profile entered t.profiled).is;
        takes = λ i u suits.
            let it = suits.entries name.first.name operation_name number through_profile entered t.profiled in
            call_takes v through_profile.formals (actuals_height v 0 through_profile.formals through_given) out tall back (entry_called i number) it.code
            it.is it.parameters it.results;
        leaves = λ i u suits.
            let it = suits.entries name.first.name operation_name number through_profile entered t.profiled in
            call_leaves v through_profile.formals (actuals_height v 0 through_profile.formals through_given) out tall back (entry_called i number) it.code
            it.is it.parameters it.results;
        stays = refl;
        is_none = refl;
      }

      is_entry : it_calls.operation.is_entry ≡ true
      is_entry =
          told_entry t.protected operation_name it_calls.place it_calls.operation number it_calls.found it_calls.there
          (ap (λ o. entry_among o operation_name)
          (sym (protected_named name.first.name t.protected v.scope (record { number = t.number; numbered = t.numbered; stands = t.stands }))) ∙ entered)

      entry_is : IsIt entry_code
      entry_is i program g numbers f seen serves from to h =
          let o = object_there program g numbers f seen serves in
          let owner = o.object.number in
          let of = is_of program f o in
          let found = subst (λ e. fitting.IsOperation program (procedure_among program.procedures (Some owner) operation_name) e through_profile) is_entry
          of.is_named in
          let owned = among_owner program.procedures (Some owner) operation_name found.procedure found.is in
          let same : owner ≡ number = serves.entries name.first.name operation_name number o.object
          (ap (λ x. entry_behind x.scope name.first.name operation_name) seen ∙ entered) o.is in
          let test = one_before i from to 0 op.CheckBlocking (invoked_code v through_profile.formals through_given entry_call) h in
          let made = invoked laws v through_profile.formals through_given through_passed entry_call i program g numbers f seen serves.scope serves.laid
          found.procedure (Some owner) found.formals (suc from) to test.rest_ in
          subst (IsCalleeCode i program g numbers f from to name) (sym (of.callee found.procedure found.is))
          (OfEntry (record {
            object = owner;
            through = refl;
            entry = record {
              barrier = found.condition;
              condition = found.barrier;
              owner = owned;
              only =
                  subst (λ n. fitting.entry_of program.procedures n ≡ Some found.procedure) (same_some found.object owner (sym found.owner ∙ owned)) found.only;
            };
            test = test.there;
            invoked = subst (λ n. IsInvoked i program g numbers f (suc from) to
                (record { procedure = found.procedure; through = Some owner; arguments = through_given }) (op.EntryCall n)) (sym same) made;
          }))

      does_entry : Does (IsOne c (Call name)) c [] (coded entry_code)
      does_entry =
          calls entry_code
          (leads_then Suiting 0 0 0 (one 0 op.CheckBlocking) (invoked_code v through_profile.formals through_given entry_call)
          (leads_one Suiting 0 0 op.CheckBlocking (λ e. test_changes v))
          (invoked_leads laws v through_profile.formals through_given through_passed entry_call entry_changes)) entry_is

    does_behind : Does (IsOne c (Call name)) c [] (coded (through_code v through_given (external_profile v.scope name.first.name operation_name)
        (entry_behind v.scope name.first.name operation_name) (external_of v name.first.name operation_name)))
    does_behind =
        subst
        (λ o. Does (IsOne c (Call name)) c [] (coded (through_code v through_given o (entry_behind v.scope name.first.name operation_name)
        (external_of v name.first.name operation_name)))) (sym t.profiled)
        (by_entry (entry_behind v.scope name.first.name operation_name) refl
        (full.has.offered name.first.name operation_name through_profile t.profiled))
      where
        by_number : (o : Option ℕ) → external_of v name.first.name operation_name ≡ o → is_some o ≡ true
            → Does (IsOne c (Call name)) c [] (coded (through_code v through_given (Some through_profile) None o))
        by_number (Some number) is some = does_through number is
        by_number None is some = cc

        by_entry : (o : Option ℕ) → entry_behind v.scope name.first.name operation_name ≡ o
            → (is_some o || is_some (external_of v name.first.name operation_name)) ≡ true
            → Does (IsOne c (Call name)) c [] (coded (through_code v through_given (Some through_profile) o (external_of v name.first.name operation_name)))
        by_entry (Some number) is some = does_entry number is
        by_entry None is some = by_number (external_of v name.first.name operation_name) refl some

  -- ---- an entry of the body's own object

  module _ (own : is_own_entry (entity_named v.scope name.first.name) ≡ true) where
    abbrev pub own_entry : NamesEntry v.scope name.first.name
    own_entry = names_entry v.scope name.first.name own

    abbrev pub own_call : IsCall v.scope (callee.Direct own_entry.number) own_entry.profile name.selectors
    own_call = entries.call v name own legal

    own_is : IsIt (one 0 op.CheckBlocking)
    own_is i program g numbers f seen serves from to h =
        let it = one_stands i from to 0 op.CheckBlocking h in
        let found = serves.finds name.first.name (entity.Entry own_entry.profile)
        (ap (λ x. entity_named x.scope name.first.name) seen ∙ ap (entity_at_or_none v.scope) own_entry.numbered ∙ own_entry.stands) in
        subst (IsCalleeCode i program g numbers f from to name)
        (sym (called_alone program f.within name.first name.selectors own_call.arguments own_call.written ∙ ap (λ o. callee_with o None own_call.arguments) found.is))
        (OfOwnEntry (record {
          object = found.object;
          inside = refl;
          entry = record { barrier = found.condition; condition = found.barrier; owner = found.owner; only = found.only };
          test = (0, it.there);
          end = it.ends;
        }))

    does_own : Does (IsOne c (Call name)) c [] (coded (one 0 op.CheckBlocking))
    does_own = calls (one 0 op.CheckBlocking) (leads_one Suiting 0 0 op.CheckBlocking (λ e. test_changes v)) own_is

  -- ---- whatever is called

  abbrev IsDone : Option Profile → Type 0
  IsDone o = Does (IsOne c (Call name)) c [] (called_code v name (profiled_form v name o))

  bare_done : profile_named v.scope name.first.name ≡ None → operation_behind name.selectors ≡ None
      → Does (IsOne c (Call name)) c [] (called_code v name (behind_form v name None))
  bare_done none alone = by_own (is_own_entry (entity_named v.scope name.first.name)) refl
    where
      by_line : entity_named v.scope name.first.name ≡ Some entity.Put → (o : Option LabelledValue) → line_of name ≡ o
          → Does (IsOne c (Call name)) c [] (line_code v o)
      by_line put (Some line) is = does_line laws c name line.label line.value full legal put is
      by_line put None is = absurd (line_there v.scope full.sound name legal.unbroken put is)

      by_own : (b : Bool) → is_own_entry (entity_named v.scope name.first.name) ≡ b → Does (IsOne c (Call name)) c [] (called_code v name (bare_form b))
      by_own true is = does_own is
      by_own false is =
          by_line (put_is (entity_named v.scope name.first.name) (put_there v.scope full.sound name legal.unbroken none alone is)) (line_of name) refl

  behind_done : profile_named v.scope name.first.name ≡ None → (o : Option ExternalName) → operation_behind name.selectors ≡ o
      → Does (IsOne c (Call name)) c [] (called_code v name (behind_form v name o))
  behind_done none None is = bare_done none is
  behind_done none (Some x) is =
      let t = through_there v.scope full.sound name legal.unbroken x is in
      subst (λ y. Does (IsOne c (Call name)) c [] (called_code v name (behind_form v name (Some y)))) (sym (same_some x (behind t) (sym is ∙ behind_is t)))
      (does_behind t)

  pub does_call : Does (IsOne c (Call name)) c [] (called_code v name (call_form v name))
  does_call = by_profile (profile_named v.scope name.first.name) refl
    where
      by_profile : (o : Option Profile) → profile_named v.scope name.first.name ≡ o → IsDone o
      by_profile (Some profile) is = does_profiled profile is
      by_profile None is = behind_done is (operation_behind name.selectors) refl
