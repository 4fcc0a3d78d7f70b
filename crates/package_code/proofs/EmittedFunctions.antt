-- Functions whose code methods have added are those of a program, in each image that holds the code.
use Rattle.std.proofs.Common.{◌≡◌, ℕ, List, [], map, length, Option, Some, refl, sym, ◌∙◌, subst, arith}
use Rattle.ada_tree.specs.declared.expression.Identifier.{Identifier}
use Rattle.ada_tree.specs.ExpressionTree.{ExprTree}
use Rattle.ada_tree.specs.StatementTree.{SubprogramTree}
use Rattle.ada_tree.specs.ProgramTree.{BodyTree, ProgramTree}
use Rattle.image.specs.Operations.{called}
use Rattle.image.specs.Rules.{IsWellFormed}
use Rattle.image.specs.Sections.{Sections, first_place}
use Rattle.image.specs.declared.instruction.Operation.TheVariants as op
use Rattle.image.specs.declared.subprograms.Subprogram.{Subprogram}
use Rattle.types.specs.declared.entity.Subtype.{Subtype}
use Rattle.types.specs.Evaluating.{Calls, passed, value_with}
use Rattle.types.specs.Evaluations.{Gives, and_then}
use Rattle.types.specs.Laws.{InitialValuesHaveShape}
use Rattle.types.specs.Places.{Function, Place}
use Rattle.types.specs.Shapes.{shape_of, value_words}
use Rattle.types.specs.Values.{Value}
use Rattle.program_soundness.specs.legality.specs.ProgramRules.{IsLegal}
use Rattle.ravenscar.specs.ProgramRules.{IsRestricted}
use Rattle.expr_soundness.specs.Agreeing.{Agrees}
use Rattle.expr_soundness.specs.meaning.specs.Programs.{Program, parameter, program_of, subtype_named}
use Rattle.program_soundness.proofs.Callables.{function_by, subprogram_body}
use Rattle.expr_code.specs.Code.{Extends, Holds, here}
use Rattle.expr_code.specs.Computing.{ComputesChecked, IsFunctionCode, function_kind}
use Rattle.expr_code.specs.Seeing.{Package, Sees, library_of}
use Rattle.expr_code.specs.Views.{View}
use Rattle.expr_code.specs.declared.visible.Visible.{Visible}
use Rattle.expr_code.proofs.Growing.{added_at, added_extends, added_here, holds_before}
use Rattle.step_simulation.specs.part_code.specs.Formals.{AddsEach, Placed, passed_end}
use Rattle.step_simulation.specs.part_code.specs.Handling.{GoesBy, unhandled}
use Rattle.step_simulation.specs.part_code.specs.Resting.{Framed}
use Rattle.step_simulation.specs.part_code.specs.Statements.{Numbers}
use Rattle.stmt_code.specs.Subprograms.{AddsFunction}
use Rattle.stmt_code.specs.declared.draft.Draft.{Draft}
use Rattle.stmt_code.specs.declared.subprogram.SubprogramWords.{SubprogramWords}
use Rattle.step_simulation.specs.part_code.proofs.StoringCode.{passed_same}
use Rattle.package_code.specs.Package.{HoldsAll, IsPackageOf}
use Rattle.package_code.proofs.BodyFronts.{IsEntrance, formals_in}
use Rattle.package_code.proofs.CodedBodies.{DoesFunction, function_coded}
use Rattle.package_code.proofs.EmittedFrames.{IsPlaced, behind, ends_at, in_front_of, middle, names_are, parameters, reserved, texts, turn}
use Rattle.package_code.proofs.InFront.{LawsOfNames}
use Rattle.package_code.proofs.MadeFrames.{function_holds, no_addresses}

module _ (laws : LawsOfNames) (shaped : InitialValuesHaveShape) (t : ProgramTree) (legal : IsLegal t) (restricted : IsRestricted t) (i : Sections)
    (well_formed : IsWellFormed i) (g : Package) (of_program : IsPackageOf t i g) (numbers : Numbers) (owner : Option ℕ) (d : SubprogramTree) (b : BodyTree)
    (r : Identifier) (some : d.result ≡ Some r) (value : ExprTree) (result : Subtype)
    (result_is : result ≡ subtype_named (program_of t).scope r)
    (seen : Visible) (old new : Draft) (sizes : SubprogramWords) (adds : AddsFunction seen old d.formals result value sizes new)
    (number : ℕ) (s : Subprogram) (there : called i number ≡ Some s) (first_is : first_place i number ≡ here old.code) (end_is : s.end_ ≡ here new.code)
    (parameters_are : s.parameters ≡ sizes.passed) (results_are : s.results ≡ sizes.results) (kind : s.kind ≡ function_kind owner)
    (holds : Holds i (here old.code) new.code) (uncovered : GoesBy i unhandled (here old.code) (here new.code)) where
  abbrev program : Program
  program = program_of t

  abbrev x : IsPlaced owner d
  x = record { seen = seen; later = adds.later; framed = adds.framed; placed = adds.placed; places = adds.places; room = s.locals }

  abbrev v : Framed
  v = in_front_of x

  module _ (before : IsEntrance t g owner v d b) where
    abbrev xs : List Placed
    xs = parameters laws shaped t legal restricted g owner d b x before

    abbrev last : Framed
    last = middle laws shaped t legal restricted g owner d b x before

    added : AddsEach v xs last
    added = (behind laws shaped t legal restricted g owner d b x before).1

    ending : passed_end seen.scope 0 xs ≡ adds.placed.passed
    ending = ends_at laws shaped t legal restricted g owner d b x before

    -- none of them is copied back
    none : v.reserved ≡ []
    none =
        reserved laws shaped t legal restricted g owner d b x before
        ∙ no_addresses seen.scope program.scope 0 xs d.formals (texts laws shaped t legal restricted g owner d b x before)
        (formals_in laws.scopes t owner seen.scope d b before.front r some)

    held : HoldsAll v 0 v.reserved (map (parameter program.scope) d.formals) last (passed_end seen.scope 0 xs)
    held =
        function_holds laws t legal restricted g owner d b r some v last before xs (texts laws shaped t legal restricted g owner d b x before) added
        adds.placed.passed (turn laws shaped t legal restricted g owner d b x before) none

    takes : s.parameters ≡ passed_end seen.scope 0 xs
    takes = parameters_are ∙ adds.passed ∙ sym ending

    abbrev function : Function
    function = function_by program.scope (subprogram_body owner d b) r value

    same : last.names ≡ adds.later
    same = names_are laws shaped t legal restricted g owner d b x before

    grows : Extends adds.valued new.code
    grows = added_extends adds.valued new.code 1 op.Return adds.returns

    computes : ComputesChecked i (library_of g) (Sees g adds.later) (here old.code) (here adds.valued) result value
    computes = adds.emits.computes i (holds_before i (here old.code) adds.valued new.code grows holds) g

    one_word : (calls : Calls) (p : Place) (view : View) (u : Value) → (library_of g).sound calls → Sees g last.names p view
        → and_then (value_with calls p value) (passed function.result) ≡ Gives u
        → length (value_words u) ≡ s.results
    one_word calls p view u sound sees gives =
        let agrees = subst (λ y. Agrees y.scope p) same sees.names.agrees in
        let valued = passed_same function.result (value_with calls p value) u gives in
        let suited = adds.emits.typed calls p agrees (sound.0 p sees.unit.sound) u valued in
        (laws.sized (shape_of adds.later.scope result) u suited).sized ∙ adds.emits.single ∙ sym (results_are ∙ adds.results)

    does : DoesFunction laws t legal restricted i well_formed g of_program numbers owner d b v before number s there refl r some value last
        (passed_end seen.scope 0 xs) held takes kind
    does = record {
      mid = here adds.valued;
      behind = (let e = adds.emits.extends.longer in omega (arith, first_is, e));
      body =
          subst (λ n. ComputesChecked i (library_of g) (Sees g last.names) n (here adds.valued) function.result value) (sym first_is)
          (subst (λ y. ComputesChecked i (library_of g) (Sees g y) (here old.code) (here adds.valued) function.result value) (sym same)
          (subst (λ y. ComputesChecked i (library_of g) (Sees g adds.later) (here old.code) (here adds.valued) y value) result_is computes));
      return = added_at adds.valued new.code 1 op.Return adds.returns i (here old.code) adds.emits.extends.longer holds;
      within = (let e = added_here adds.valued new.code 1 op.Return adds.returns in omega (arith, e, end_is));
      bare = λ at_ y low high.
          uncovered at_ y (omega (arith, first_is, low)) (let e = added_here adds.valued new.code 1 op.Return adds.returns in omega (arith, e, high));
      sized = one_word;
    }

    pub function_emitted : IsFunctionCode i (library_of g) function number
    function_emitted =
        function_coded laws t legal restricted i well_formed g of_program numbers owner d b v before number s there refl r some value last
        (passed_end seen.scope 0 xs) held takes kind does
