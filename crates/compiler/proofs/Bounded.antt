-- Subprograms of the image that may be called are those of bodies of the text that may be.
use Rattle.std.proofs.Common.{◌≡◌, ◌⊎◌, ℕ, zero, suc, ◌<◌, ◌≤◌, List, [], ◌∷◌, length, Some, true, false, sym, ap, ◌∙◌, subst, ⊎_elim, arith, length-append}
use Rattle.std.specs.Prelude.{slice_get}
use Rattle.std.proofs.lemmas.Bool.{cases_lt}
use Rattle.ada_tree.specs.ProgramTree.{ProgramTree}
use Rattle.image.specs.Operations.{called}
use Rattle.image.specs.Rules.{is_task_body}
use Rattle.image.specs.Sections.{Sections}
use Rattle.image.specs.declared.subprograms.Subprogram.{Subprogram}
use Rattle.program_soundness.specs.Fronts.{declared_in}
use Rattle.program_soundness.proofs.Callables.{at_map}
use Rattle.program_soundness.proofs.Listing.{front_at}
use Rattle.expr_code.specs.Code.{here}
use Rattle.expr_code.specs.Coming.{size_of}
use Rattle.step_simulation.specs.part_code.specs.Bounds.{main_bound}
use Rattle.package_code.specs.Bodies.{Coded, bodies_of, or_zero}
use Rattle.package_code.specs.Counts.{bound_of, bounds_from, instructions_bound}
use Rattle.package_code.specs.Laws.{SectionsAreBounded}
use Rattle.package_code.specs.Program.{HasProgram}
use Rattle.package_code.specs.Walking.{row_of}
use Rattle.package_code.proofs.Coded.{bounds_are}
use Rattle.package_code.proofs.Counted.{owner_of}
use Rattle.package_code.proofs.Linking.{called_front, called_main, main_row}
use Rattle.compiler.specs.Compiled.{IsBounded, IsOfCallable}

got_less : {X : Type 0} (xs : List X) (n : ℕ) (x : X) → slice_get xs n ≡ Some x → n < length xs
got_less [] n x e = absurd cc
got_less (y ∷ ys) zero x e = omega arith
got_less (y ∷ ys) (suc n) x e = (let less = got_less ys n x e in omega (arith, less))

same_row : (a b : Subprogram) → Some a ≡ Some b → a ≡ b
same_row a b e = cc

module _ (each : SectionsAreBounded) (t : ProgramTree) (i : Sections) (h : HasProgram t i) where
  abbrev rows : List Subprogram
  rows = h.walk.subprograms.items

  -- the bound of a body stands at its number
  bound_there : (number : ℕ) (c : Coded) → slice_get (bodies_of t) number ≡ Some c → instructions_bound t number ≡ bound_of c
  bound_there number c there =
      ap or_zero (front_at (bounds_from t 0 (declared_in t.package_)) (main_bound t.main.statements ∷ []) number (bound_of c)
      (ap (λ l. slice_get l number) (bounds_are t 0 (declared_in t.package_)) ∙ at_map bound_of (bodies_of t) number c there))

  of_body : (number : ℕ) (s : Subprogram) → number < length rows → called i number ≡ Some s → is_task_body s.kind ≡ false
      → IsOfCallable t i number
  of_body number s less there callable =
      let x = owner_of t i h number less in
      let row = row_of x.code.kind x.body.words (here x.body.new.code) in
      let same : s ≡ row = same_row s row (sym there ∙ called_front t i h number row x.body.there) in
      record {
        body = x.code;
        there = x.is;
        callable = subst (λ r. is_task_body r.kind ≡ false) same callable;
        few = subst (λ n. size_of i number ≤ n) (bound_there number x.code x.is) (each t i h number);
      }

  -- main may not be called
  of_main : (number : ℕ) (s : Subprogram) → number ≡ length rows → called i number ≡ Some s → is_task_body s.kind ≡ false
      → IsOfCallable t i number
  of_main number s e there callable =
      let row = main_row h.words (here h.draft.code) in
      let same : s ≡ row = same_row s row (sym there ∙ (ap (called i) e ∙ called_main t i h)) in
      let task : true ≡ false = subst (λ r. is_task_body r.kind ≡ false) same callable in
      absurd cc

  pub bounded : IsBounded t i
  bounded = record {
    each = each t i h;
    callable = λ number s there callable. ⊎_elim
        (λ less. of_body number s less there callable)
        (λ le.
        let up = got_less i.subprograms number s there in
        let long = ap length h.subprograms ∙ length-append rows (main_row h.words (here h.draft.code) ∷ []) in
        of_main number s (omega (arith, le, up, long)) there callable)
        (cases_lt number (length rows));
  }
