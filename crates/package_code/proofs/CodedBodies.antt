-- Bodies of the package whose code is there: what is left to show of procedures and functions, once their frames are known, is what their instructions do.
use Rattle.std.proofs.Common.{◌≡◌, ℕ, suc, ◌≤◌, List, map, length, Option, Some, None, refl, sym, ap, ◌∙◌, subst}
use Rattle.ada_tree.specs.declared.expression.Identifier.{Identifier}
use Rattle.ada_tree.specs.ExpressionTree.{ExprTree}
use Rattle.ada_tree.specs.StatementTree.{SubprogramTree}
use Rattle.ada_tree.specs.ProgramTree.{BodyTree, ProgramTree}
use Rattle.image_laws.specs.handlers.specs.Innermost.{handler_of}
use Rattle.image.specs.Operations.{called}
use Rattle.image.specs.Rules.{IsWellFormed}
use Rattle.image.specs.Sections.{Sections, first_place}
use Rattle.image.specs.Sections.{object_of as kind_object}
use Rattle.image.specs.declared.instruction.Operation.TheVariants as op
use Rattle.image.specs.declared.subprograms.Subprogram.{Subprogram}
use Rattle.types.specs.Evaluations.{Gives, and_then}
use Rattle.types.specs.Evaluating.{Calls, passed, value_with}
use Rattle.types.specs.Places.{Function, Place}
use Rattle.types.specs.Shapes.{value_words}
use Rattle.types.specs.Values.{Value}
use Rattle.program_soundness.specs.legality.specs.ProgramRules.{IsLegal}
use Rattle.ravenscar.specs.ProgramRules.{IsRestricted}
use Rattle.expr_soundness.specs.meaning.specs.Calls.{results}
use Rattle.expr_soundness.specs.meaning.specs.Programs.{Parameter, Procedure, Program, parameter, program_of}
use Rattle.program_soundness.proofs.Callables.{function_by, procedure_by, subprogram_body}
use Rattle.expr_code.specs.Computing.{ComputesChecked, IsFunctionCode, function_kind}
use Rattle.expr_code.specs.Seeing.{Package, Sees, library_of}
use Rattle.expr_code.specs.Views.{At, View}
use Rattle.step_simulation.specs.part_code.specs.Copying.{GivesBack, left_out}
use Rattle.step_simulation.specs.part_code.specs.Resting.{Framed}
use Rattle.step_simulation.specs.part_code.specs.Statements.{AreParametersDeclared, IsProcedureCode, IsRun, Numbers, procedure_kind}
use Rattle.step_simulation.specs.part_code.specs.Formals.{Placed, passed_end}
use Rattle.package_code.specs.Package.{HoldsAll, IsPackageOf}
use Rattle.package_code.proofs.BodyFronts.{IsEntrance}
use Rattle.package_code.proofs.Entered.{function_code, function_takes, procedure_code, procedure_takes}
use Rattle.package_code.proofs.InFront.{LawsOfNames, few_locals}
use Rattle.package_code.proofs.MadeFrames.{HasFrames}

module _ (laws : LawsOfNames) (t : ProgramTree) (legal : IsLegal t) (restricted : IsRestricted t) (i : Sections) (well_formed : IsWellFormed i) (g : Package)
    (of_program : IsPackageOf t i g) (numbers : Numbers) (owner : Option ℕ) (d : SubprogramTree) (b : BodyTree)
    (v : Framed) (before : IsEntrance t g owner v d b) (number : ℕ)
    (s : Subprogram) (there : called i number ≡ Some s) (room : s.locals ≡ v.room) where
  abbrev program : Program
  program = program_of t

  abbrev ps : List Parameter
  ps = map (parameter program.scope) d.formals

  own_object : (o : Option ℕ) → kind_object (function_kind o) ≡ o
  own_object (Some o) = refl
  own_object None = refl

  small : v.room ≤ 65536
  small = subst (λ n. n ≤ 65536) room (few_locals i well_formed number s there).1

  fits : (top : ℕ) → s.parameters ≡ top → top ≤ v.room
  fits top takes = subst (λ n. n ≤ v.room) takes (subst (λ n. s.parameters ≤ n) room (few_locals i well_formed number s there).0)

  -- ---- procedures

  module _ (middle : Framed) (xs : List Placed) (out : ℕ) (frames : HasFrames g v middle ps xs out)
      (takes : s.parameters ≡ passed_end v.names.scope 0 xs) where
    abbrev procedure : Procedure
    procedure = procedure_by program.scope (subprogram_body owner d b)

    abbrev top : ℕ
    top = passed_end v.names.scope 0 xs

    -- what the instructions do: they declare the `out` parameters, declare, run, and give back
    pub record DoesBody : Type 0 where
      pub first : ℕ
      pub stop : ℕ
      pub down : first_place i number ≤ first
      pub ready : AreParametersDeclared i program g numbers frames.begins (first_place i number) first frames.begun (left_out ps)
      pub runs : IsRun i program g numbers middle first stop b.declarations b.statements b.handlers
      pub gives : GivesBack i program g middle (results ps) number stop
      pub within : suc gives.back ≤ s.end_

    -- that of an entry has a barrier
    pub procedure_coded : (barrier : Option ExprTree) → s.kind ≡ procedure_kind owner barrier → DoesBody
        → IsProcedureCode i program g numbers (record procedure { barrier = barrier }) number
    procedure_coded barrier kind does = record {
      s = s;
      there = there;
      kind = kind;
      parameters = λ args addresses passed many.
          procedure_takes laws t legal restricted i g of_program owner d b v frames.begins before top frames.holds (fits top takes) small args addresses passed
          many
          ∙ sym takes;
      begins = frames.begins;
      begun = frames.begun;
      middle = middle;
      first = does.first;
      stop = does.stop;
      down = does.down;
      ready = does.ready;
      orders = frames.orders;
      runs = does.runs;
      gives = does.gives;
      within = does.within;
      enters = λ args addresses locals passed of many rest.
          procedure_code laws t legal restricted i g of_program owner d b v frames.begins before top frames.holds (fits top takes) small s takes room args
          addresses locals passed of many rest;
    }

  -- ---- functions

  module _ (r : Identifier) (some : d.result ≡ Some r) (value : ExprTree) (last : Framed) (top : ℕ) (holds : HoldsAll v 0 v.reserved ps last top)
      (takes : s.parameters ≡ top) (kind : s.kind ≡ function_kind owner) where
    abbrev function : Function
    function = function_by program.scope (subprogram_body owner d b) r value

    -- the value, checked, and a return
    pub record DoesFunction : Type 0 where
      pub mid : ℕ
      pub behind : first_place i number ≤ mid
      pub body : ComputesChecked i (library_of g) (Sees g last.names) (first_place i number) mid function.result function.value
      pub return : At i mid op.Return
      pub within : suc mid ≤ s.end_
      pub bare : (at_ x : ℕ) → first_place i number ≤ at_ → at_ ≤ mid → handler_of i.rows at_ x ≡ None
      pub sized : (calls : Calls) (p : Place) (view : View) (u : Value) → (library_of g).sound calls → Sees g last.names p view
          → and_then (value_with calls p function.value) (passed function.result) ≡ Gives u
          → length (value_words u) ≡ s.results

    pub function_coded : DoesFunction → IsFunctionCode i (library_of g) function number
    function_coded does = record {
      s = s;
      there = there;
      kind = kind;
      parameters = λ args passed.
          function_takes laws t legal restricted i g of_program owner d b v last before top holds (fits top takes) small r some value args passed ∙ sym takes;
      sight = Sees g last.names;
      mid = does.mid;
      behind = does.behind;
      body = does.body;
      return = does.return;
      within = does.within;
      bare = does.bare;
      sized = does.sized;
      enters = λ p view inner args left locals sees passed schedule now task memory words rest plain object frames.
          function_code laws t legal restricted i g of_program owner d b v last before top holds (fits top takes) small r some value s takes room
          (ap kind_object kind ∙ own_object owner) p view
          inner args left locals sees passed schedule now task memory words rest plain object frames;
    }
