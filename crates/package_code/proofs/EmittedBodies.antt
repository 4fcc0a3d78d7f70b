-- Bodies whose code methods have added are those of a program's procedures and functions, in each image that holds the code.
use Rattle.std.proofs.Common.{◌≡◌, ℕ, ℤ, ◌≤◌, List, [], ◌∷◌, map, Option, Some, refl, sym, ap, ◌∙◌, subst, arith}
use Rattle.image_laws.specs.kernel.specs.Laws.{QuietStays}
use Rattle.ada_tree.specs.ExpressionTree.{ExprTree}
use Rattle.ada_tree.specs.StatementTree.{SubprogramTree}
use Rattle.ada_tree.specs.ProgramTree.{BodyTree, ProgramTree}
use Rattle.image.specs.Operations.{called, results_of}
use Rattle.image.specs.Rules.{IsWellFormed}
use Rattle.image.specs.Sections.{Sections, first_place}
use Rattle.image.specs.declared.subprograms.Subprogram.{Subprogram}
use Rattle.types.specs.declared.entity.Subtype.{Subtype}
use Rattle.types.specs.Laws.{InitialValuesHaveShape}
use Rattle.types.specs.Layouts.{words_of}
use Rattle.types.specs.Scopes.{Scope, form_at}
use Rattle.types.specs.Shapes.{initial, initial_of, shape_of, value_words}
use Rattle.program_soundness.specs.legality.specs.ProgramRules.{IsLegal}
use Rattle.ravenscar.specs.ProgramRules.{IsRestricted}
use Rattle.expr_soundness.specs.SoundScopes.{IsKnown}
use Rattle.expr_soundness.specs.meaning.specs.Calls.{procedure_here, results}
use Rattle.expr_soundness.specs.meaning.specs.Programs.{Procedure, Program, parameter, program_of}
use Rattle.program_soundness.specs.step_soundness.specs.Fitting.{IsFound}
use Rattle.program_soundness.proofs.Callables.{procedure_by, subprogram_body}
use Rattle.program_soundness.proofs.Formals.{AreNew}
use Rattle.expr_code.specs.Code.{Extends, Holds, here}
use Rattle.expr_code.specs.Seeing.{Package}
use Rattle.expr_code.specs.declared.visible.Visible.{Visible}
use Rattle.expr_code.proofs.Growing.{holds_before, holds_later}
use Rattle.step_simulation.specs.part_code.specs.Copying.{GivesBack, left_out}
use Rattle.stmt_code.specs.Emitting.{HasLabels, IsHandled, Serves, TellPlaces}
use Rattle.stmt_code.specs.Placing.{body_within}
use Rattle.step_simulation.specs.part_code.specs.Emitting.{first_word}
use Rattle.step_simulation.specs.part_code.specs.Layout.{EndsBelow}
use Rattle.step_simulation.specs.part_code.specs.Formals.{AddsEach, AreReturned, Placed, outs_end, passed_end, words_returned}
use Rattle.step_simulation.specs.part_code.specs.Resting.{Framed}
use Rattle.step_simulation.specs.part_code.specs.Handling.{unhandled}
use Rattle.step_simulation.specs.part_code.specs.Statements.{AreParametersDeclared, IsProcedureCode, Numbers, procedure_kind}
use Rattle.stmt_code.specs.Subprograms.{AddsProcedure, fresh}
use Rattle.stmt_code.specs.declared.draft.Draft.{Draft}
use Rattle.step_simulation.specs.part_code.specs.declared.formals.PlacedFormal.{PlacedFormal}
use Rattle.stmt_code.specs.declared.subprogram.SubprogramWords.{SubprogramWords}
use Rattle.stmt_code.proofs.GivingBack.{AreGiven, gives_back}
use Rattle.step_simulation.specs.part_code.proofs.Initials.{shape_there}
use Rattle.package_code.specs.Package.{IsPackageOf}
use Rattle.package_code.proofs.BodyFronts.{IsEntrance}
use Rattle.package_code.proofs.BodyFrames.{HasWidths}
use Rattle.package_code.proofs.CodedBodies.{DoesBody, procedure_coded}
use Rattle.package_code.proofs.EmittedFormals.{AreTold}
use Rattle.package_code.proofs.EmittedParts.{AreShown, back_words, given_placed, ready_placed, subtypes_back}
use Rattle.package_code.proofs.InFront.{LawsOfNames, known}
use Rattle.package_code.proofs.EmittedFrames.{IsPlaced, agreed, behind, ends_at, entries, finds_behind, fresh_names, in_front_of, middle, names_are, outs_at, parameters, reserved, reserved_below, shown, texts, told, turn, word_is}
use Rattle.package_code.proofs.MadeFrames.{HasFrames, procedure_frames, widths_behind}
use Rattle.package_code.proofs.Reordered.{entries_back, externals_back, numbers_back, profile_back, room_stays, reserved_stays, within_stays}

-- ---- procedures

module _ (laws : LawsOfNames) (quiet : QuietStays) (shaped : InitialValuesHaveShape) (t : ProgramTree) (legal : IsLegal t) (restricted : IsRestricted t) (i : Sections)
    (well_formed : IsWellFormed i) (g : Package) (of_program : IsPackageOf t i g) (numbers : Numbers) (owner : Option ℕ) (d : SubprogramTree) (b : BodyTree)
    (seen : Visible) (old new : Draft) (sizes : SubprogramWords)
    (adds : AddsProcedure seen old d.formals b sizes new)
    (number : ℕ) (s : Subprogram) (there : called i number ≡ Some s) (first_is : first_place i number ≡ here old.code) (end_is : s.end_ ≡ here new.code)
    (parameters_are : s.parameters ≡ sizes.passed) (results_are : results_of (called i number) ≡ sizes.results) (locals_are : s.locals ≡ sizes.locals)
    (barrier : Option ExprTree) (kind_is : s.kind ≡ procedure_kind owner barrier) (holds : Holds i (here old.code) new.code) (labels : HasLabels i new.labels)
    (handled : IsHandled i (program_of t) (record old { code = adds.initial; words = adds.framed }) adds.run adds.runs.rows unhandled)
    (numbered : (q : Procedure) (n : ℕ) → g.subprograms q.object q.name ≡ Some n → numbers q ≡ Some n) where
  abbrev program : Program
  program = program_of t

  abbrev x : IsPlaced owner d
  x = record { seen = seen; later = adds.later; framed = adds.framed; placed = adds.placed; places = adds.places; room = s.locals }

  abbrev v : Framed
  v = in_front_of x

  abbrev items : List PlacedFormal
  items = adds.placed.formals.items

  module _ (before : IsEntrance t g owner v d b) where
    abbrev base : Scope
    base = seen.scope

    abbrev top : ℕ
    top = adds.framed.taken

    abbrev passed : ℕ
    passed = adds.placed.passed

    abbrev xs : List Placed
    xs = parameters laws shaped t legal restricted g owner d b x before

    abbrev last : Framed
    last = middle laws shaped t legal restricted g owner d b x before

    added : AddsEach v xs last
    added = (behind laws shaped t legal restricted g owner d b x before).1

    ending : passed_end base 0 xs ≡ passed
    ending = ends_at laws shaped t legal restricted g owner d b x before

    names_same : last.names ≡ adds.later
    names_same = names_are laws shaped t legal restricted g owner d b x before

    telling : AreTold base program.scope d.formals
    telling = told laws shaped t legal restricted g owner d b x before

    fits : outs_end base passed xs ≤ v.room
    fits =
        let a = outs_at laws shaped t legal restricted g owner d b x before in
        let m = adds.places.most in
        let n = adds.runs.most in
        let l = adds.locals in
        omega (arith, a, m, n, l, locals_are)

    frames : HasFrames g v last (map (parameter program.scope) d.formals) xs passed
    frames =
        procedure_frames laws t legal restricted g owner d b v last before xs (texts laws shaped t legal restricted g owner d b x before) added passed
        (turn laws shaped t legal restricted g owner d b x before) (reserved laws shaped t legal restricted g owner d b x before)
        (let e = ending in omega (arith, e)) fits

    serves : Serves program g numbers last top
    serves =
        let a = agreed laws shaped t legal restricted g owner d b x before in
        record {
          finds = λ name e stands.
              subst (λ o. IsFound program o name e) (sym (within_stays xs v last added))
              ((finds_behind laws shaped t legal restricted g owner d b x before).finds name e stands);
          numbered = λ name q n profile found told_number named none.
              numbered q n
              (before.procedures name q n profile (subst (λ o. procedure_here program o name ≡ Some q) (within_stays xs v last added) found)
              (numbers_back xs v last added (entries laws shaped t legal restricted g owner d b x before)
              (fresh_names laws shaped t legal restricted g owner d b x before) name n told_number)
              (profile_back xs v last added (entries laws shaped t legal restricted g owner d b x before)
              (fresh_names laws shaped t legal restricted g owner d b x before) name profile named)
              none);
          externals = λ name operation n o q told is found.
              let y =
              before.externals name operation q o n
              (externals_back xs v last added (entries laws shaped t legal restricted g owner d b x before)
              (fresh_names laws shaped t legal restricted g owner d b x before) name operation n told)
              is found in
              (numbered q n y.0, y.1);
          entries = λ name operation n o told is.
              before.entries name operation o n
              (entries_back xs v last added (entries laws shaped t legal restricted g owner d b x before)
              (fresh_names laws shaped t legal restricted g owner d b x before) name operation n told)
              is;
          scope = sym of_program.scope;
          place = a.place;
          here = a.here;
          agrees = a.agrees;
          laid = frames.laid;
          ends = subst (EndsBelow last) (outs_at laws shaped t legal restricted g owner d b x before) frames.ends;
          below = reserved_below laws shaped t legal restricted g owner d b x before;
        }

    -- ---- what the instructions do

    grows_initial : Extends (fresh old.code) adds.initial
    grows_initial = adds.initialises.extends

    grows_run : Extends adds.initial adds.run.code
    grows_run = adds.runs.extends

    grows_new : Extends adds.run.code new.code
    grows_new = adds.returns.extends

    at_run : Holds i (here old.code) adds.run.code
    at_run = holds_before i (here old.code) adds.run.code new.code grows_new holds

    at_initial : Holds i (here old.code) adds.initial
    at_initial = holds_before i (here old.code) adds.initial adds.run.code grows_run at_run

    scope_is : last.names.scope ≡ adds.later.scope
    scope_is = ap (λ y. y.scope) names_same

    -- widths in front of the parameters are those behind them
    words_are : (u : Subtype) (word : ℤ) → first_word (form_at adds.later.scope u.type_number) u ≡ Some word
        → (value_words (initial program.scope u) ≡ word ∷ []) × (words_of adds.later.scope u ≡ 1)
    words_are = word_is laws shaped t legal restricted g owner d b x before

    behind_widths : HasWidths laws.stay base last
    behind_widths = widths_behind laws.stay base xs v last added (record { known = λ y c. c; same = λ y c. refl })

    -- first values are those of the program
    starts : (u : Subtype) → IsKnown base u → value_words (initial program.scope u) ≡ value_words (initial adds.later.scope u)
    starts u k =
        let a = agreed laws shaped t legal restricted g owner d b x before in
        ap (λ y. value_words (initial_of y))
        (ap (λ z. shape_of z u) (sym a.here) ∙ shape_there last.names.scope a.place a.agrees u (behind_widths.known u k) ∙ ap (λ z. shape_of z u) scope_is)

    new_names : AreNew base (map (parameter program.scope) d.formals)
    new_names =
        subst (AreNew base) (texts laws shaped t legal restricted g owner d b x before) (fresh_names laws shaped t legal restricted g owner d b x before)

    widths : (u : Subtype) → IsKnown base u → words_of adds.later.scope u ≡ words_of base u
    widths u k =
        ap (λ z. words_of z u) (sym scope_is) ∙ behind_widths.same u k

    showing : AreShown base program.scope last d.formals items
    showing = shown laws shaped t legal restricted g owner d b x before

    at_back : Holds i (here adds.run.code) new.code
    at_back =
        holds_later i (here old.code) (here adds.run.code) new.code
        (let a = grows_initial.longer in let c = grows_run.longer in omega (arith, a, c)) holds

    giving : (gives : GivesBack i program g last (results (map (parameter program.scope) d.formals)) number (here adds.run.code))
        × (gives.back ≡ adds.returns.back)
    giving =
        gives_back i last laws.sized quiet program g (results (map (parameter program.scope) d.formals)) (subtypes_back base program.scope items) number
        (here adds.run.code) adds.returns.back
        (subst (λ l. AreGiven i last (here adds.run.code) adds.returns.back (results (map (parameter program.scope) d.formals)) l
        (subtypes_back base program.scope items)) (sym (reserved_stays xs v last added))
        (given_placed base program.scope i last d.formals items 0 passed passed top (here adds.run.code) adds.returns.back adds.places.stand showing
        (subst (λ z. AreReturned i z (here adds.run.code) adds.returns.back items) (sym scope_is)
        (adds.returns.stands i at_back))))
        (adds.returns.returns i at_back)
        (results_are ∙ adds.returns.high ∙ ap (λ z. words_returned z items) (sym scope_is) ∙ back_words base program.scope last.names.scope items)

    room_enough : adds.run.words.most ≤ last.room
    room_enough =
        let r = room_stays xs v last added in
        let l = adds.locals in
        omega (arith, r, l, locals_are)

    does : DoesBody laws t legal restricted i well_formed g of_program numbers owner d b v before number s there refl last xs passed frames
        (parameters_are ∙ adds.passed ∙ sym ending)
    does = record {
      first = here adds.initial;
      stop = here adds.run.code;
      down = (let e = grows_initial.longer in omega (arith, first_is, e));
      ready =
          subst (λ n. AreParametersDeclared i program g numbers frames.begins n (here adds.initial) frames.begun
          (left_out (map (parameter program.scope) d.formals))) (sym first_is)
          (subst (AreParametersDeclared i program g numbers frames.begins (here old.code) (here adds.initial) frames.begun) (sym frames.left)
          (ready_placed base (known laws t legal restricted).kept laws.sized quiet shaped i program g numbers adds.later.scope words_are starts widths d.formals items 0 passed
          passed top (here old.code) (here adds.initial) frames.begins frames.begun telling new_names adds.places.stand frames.outs
          (adds.initialises.stands i at_initial)));
      runs = adds.runs.stands i (holds_later i (here old.code) (here adds.initial) adds.run.code grows_initial.longer at_run)
          (subst (HasLabels i) adds.labels labels) program g numbers last names_same serves room_enough unhandled handled refl;
      gives = giving.0;
      within = (let e = adds.returns.end in let b = giving.1 in omega (arith, e, b, end_is));
    }

    pub procedure_emitted : IsProcedureCode i program g numbers (record (procedure_by program.scope (subprogram_body owner d b)) { barrier = barrier }) number
    procedure_emitted =
        procedure_coded laws t legal restricted i well_formed g of_program numbers owner d b v before number s there refl last xs passed frames
        (parameters_are ∙ adds.passed ∙ sym ending) barrier kind_is does

    -- the rows of places of its declarations and statements tell of them
    pub procedure_tells : TellPlaces i program g numbers adds.runs.rows.placed (body_within b.declarations b.statements b.handlers)
    procedure_tells =
        adds.runs.tells i (holds_later i (here old.code) (here adds.initial) adds.run.code grows_initial.longer at_run)
        (subst (HasLabels i) adds.labels labels) program g numbers last names_same serves room_enough unhandled handled
