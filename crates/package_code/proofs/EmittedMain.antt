-- Main, whose code a method has added, is that of a program, in each image that holds the code.
use Rattle.std.proofs.Common.{◌≡◌, ℕ, suc, ◌≤◌, List, [], ◌∷◌, None, Some, refl, sym, subst, arith}
use Rattle.ada_tree.specs.declared.program.MainStatement.{MainStatement}
use Rattle.ada_tree.specs.declared.program.MainStatement.TheVariants as main
use Rattle.image.specs.Sections.{Sections, first_place}
use Rattle.image.specs.declared.instruction.Operation.TheVariants as op
use Rattle.expr_soundness.specs.meaning.specs.Calls.{procedure_here}
use Rattle.expr_soundness.specs.meaning.specs.Programs.{Procedure, Program}
use Rattle.expr_code.specs.Code.{Holds, here}
use Rattle.expr_code.specs.Seeing.{Package, subprogram_of}
use Rattle.expr_code.specs.Views.{At}
use Rattle.expr_code.specs.declared.visible.Visible.{Visible}
use Rattle.expr_code.proofs.Growing.{added_at, added_extends, added_here, holds_before}
use Rattle.step_simulation.specs.part_code.specs.Statements.{Numbers}
use Rattle.stmt_code.specs.Subprograms.{AddsMain}
use Rattle.step_simulation.specs.part_code.specs.MainCalls.{AreCalls}
use Rattle.stmt_code.specs.declared.draft.Draft.{Draft}
use Rattle.stmt_code.specs.declared.subprogram.SubprogramWords.{SubprogramWords}
use Rattle.package_code.proofs.LinkedMain.{AreMain}

-- each call names a procedure without parameters, which has the number that is told
pub record IsMainCall (program : Program) (numbers : Numbers) (v : Visible) (name : List ℕ) : Type 0 where
  pub procedure : Procedure
  pub found : procedure_here program None name ≡ Some procedure
  pub bare : procedure.parameters ≡ []
  pub numbered : (number : ℕ) → subprogram_of v name ≡ Some number → numbers procedure ≡ Some number

abbrev pub AreMainCalls : Program → Numbers → Visible → List MainStatement → Type 0
AreMainCalls program numbers v [] = Unit {0}
AreMainCalls program numbers v (main.Null place ∷ rest) = AreMainCalls program numbers v rest
AreMainCalls program numbers v (main.Call package_ procedure ∷ rest) = IsMainCall program numbers v procedure.name × AreMainCalls program numbers v rest

module _ (i : Sections) (program : Program) (g : Package) (numbers : Numbers) (v : Visible) where
  calls_up : (all : List MainStatement) (from to : ℕ) → AreCalls i v from to all → from ≤ to
  calls_up [] from to h = omega (arith, h)
  calls_up (main.Null place ∷ rest) from to h = calls_up rest from to h
  calls_up (main.Call package_ procedure ∷ rest) from to h = let up = calls_up rest (suc from) to h.3 in omega (arith, up)

  pub main_calls : (all : List MainStatement) (from to : ℕ) → AreMainCalls program numbers v all → AreCalls i v from to all
      → AreMain i program g numbers from to all
  main_calls [] from to found h = h
  main_calls (main.Null place ∷ rest) from to found h =
      (from, omega arith, calls_up rest from to h, refl, main_calls rest from to found h)
  main_calls (main.Call package_ procedure ∷ rest) from to found h = (
    suc from,
    omega arith,
    calls_up rest (suc from) to h.3,
    (found.0.procedure, h.0, found.0.found, found.0.numbered h.0 h.1, found.0.bare, h.2, refl),
    main_calls rest (suc from) to found.1 h.3,
  )

  module _ (old new : Draft) (sizes : SubprogramWords) (all : List MainStatement) (adds : AddsMain v old all sizes new) (holds : Holds i (here old.code) new.code)
      (found : AreMainCalls program numbers v all) (number : ℕ) (first_is : first_place i number ≡ here old.code) where
    pub main_emitted : AreMain i program g numbers (first_place i number) (here adds.called) all
    main_emitted =
        subst (λ n. AreMain i program g numbers n (here adds.called) all) (sym first_is)
        (main_calls all (here old.code) (here adds.called) found
        (adds.calls.stands i (holds_before i (here old.code) adds.called new.code (added_extends adds.called new.code 0 op.Return adds.returns) holds)))

    pub main_returns : At i (here adds.called) op.Return
    main_returns = added_at adds.called new.code 0 op.Return adds.returns i (here old.code) adds.calls.extends.longer holds

    pub main_within : here new.code ≡ suc (here adds.called)
    main_within = added_here adds.called new.code 0 op.Return adds.returns
