-- The body of a task whose code a method has added begins with the work of the task, in each image that holds the code.
use Rattle.std.proofs.Common.{◌≡◌, ℕ, suc, ◌+◌, ◌≤◌, List, [], ◌∷◌, ◌++◌, map, None, Some, true, refl, sym, ap, ◌∙◌, subst, arith, append-nil}
use Rattle.std.specs.Prelude.{pos, replicate}
use Rattle.ada_tree.specs.ProgramTree.{BodyTree, ProgramTree}
use Rattle.image.specs.Operations.{called, results_of}
use Rattle.image.specs.Rules.{IsWellFormed}
use Rattle.image.specs.Frames.{Inner}
use Rattle.image.specs.Sections.{Sections, end_of, first_place}
use Rattle.image.specs.declared.instruction.Operation.TheVariants as op
use Rattle.image.specs.declared.subprograms.Subprogram.{Subprogram}
use Rattle.types.specs.Places.{Place, is_among}
use Rattle.types.specs.Scopes.{Scope}
use Rattle.types.specs.Statics.{static_place}
use Rattle.expr_soundness.specs.Agreeing.{Agrees}
use Rattle.program_soundness.specs.legality.specs.ProgramRules.{IsLegal}
use Rattle.ravenscar.specs.ProgramRules.{IsRestricted}
use Rattle.expr_soundness.specs.meaning.specs.Programs.{OfBody, Procedure, Program, program_of}
use Rattle.expr_soundness.specs.meaning.specs.Source.{duty_items}
use Rattle.expr_soundness.specs.meaning.specs.Works.{Sequence}
use Rattle.program_soundness.specs.Fronts.{front}
use Rattle.program_soundness.proofs.Listing.{same_some}
use Rattle.program_soundness.specs.step_soundness.specs.Holding.{inside}
use Rattle.program_soundness.specs.step_soundness.specs.Objects.{first_store}
use Rattle.expr_code.specs.Code.{Extends, Holds, here}
use Rattle.expr_code.specs.Seeing.{Package}
use Rattle.expr_code.specs.Views.{At}
use Rattle.expr_code.specs.declared.visible.Visible.{Visible}
use Rattle.expr_code.proofs.Growing.{holds_before, holds_later}
use Rattle.stmt_code.specs.Emitting.{HasLabels, IsHandled, Serves, TellPlaces}
use Rattle.stmt_code.specs.Placing.{body_within}
use Rattle.step_simulation.specs.part_code.specs.Formals.{AreInitial, AreReturned, StandInTurn, slot_for, no_subprogram, words_returned}
use Rattle.step_simulation.specs.part_code.specs.Handling.{unhandled}
use Rattle.step_simulation.specs.part_code.specs.Jumping.{Here, Jumps}
use Rattle.step_simulation.specs.part_code.specs.Layout.{EndsBelow}
use Rattle.step_simulation.specs.part_code.specs.Resting.{Framed, RestsWith}
use Rattle.step_simulation.specs.part_code.specs.Statements.{IsRun, Numbers}
use Rattle.step_simulation.specs.part_code.specs.declared.formals.PlacedFormal.{PlacedFormal}
use Rattle.step_simulation.specs.Standing.{Around, Follows, Inside, LeadsOut, Note, with_visible}
use Rattle.step_simulation.proofs.Going.{declares_follow, narrows_same}
use Rattle.stmt_code.specs.Subprograms.{AddsProcedure, fresh}
use Rattle.stmt_code.specs.declared.draft.Draft.{Draft}
use Rattle.stmt_code.specs.declared.subprogram.SubprogramWords.{SubprogramWords}
use Rattle.package_code.specs.Package.{IsInFront, IsPackageOf}
use Rattle.package_code.proofs.InFront.{LawsOfNames, bare_rests, few_locals, front_ends, front_laid, front_serves, memory}
use Rattle.package_code.proofs.PackageFronts.{front_entries, front_externals, here_named}

-- ---- code that runs a body and returns begins with its work

module _ (i : Sections) (program : Program) (g : Package) (numbers : Numbers) (v : Framed) (b : BodyTree) (number : ℕ) (s : Subprogram)
    (there : called i number ≡ Some s) (results : s.results ≡ 0) (stop : ℕ)
    (runs : IsRun i program g numbers v (first_place i number) stop b.declarations b.statements b.handlers) (return : At i stop op.Return)
    (within : suc stop ≤ s.end_) where
  abbrev pub around_task : Around i program g numbers
  around_task = record {
    visible = v;
    ways = record { exit = None; return = Some runs.out; handled = None };
    raised = unhandled;
    held = [];
    behind = v;
    ending = v;
    handling = v;
  }

  abbrev In : ℕ → Type 0
  In place = Inside i program g numbers number place

  all_in : (place : ℕ) → first_place i number ≤ place → place ≤ stop → In place
  all_in place low high =
      let ended : end_of (called i number) ≡ s.end_ = ap end_of there in
      (low, omega (arith, low, high, within, ended))

  -- the return is reached from all places in front of it
  leads_out : (now : Framed) (from : ℕ) → Jumps i from stop → In from
      → LeadsOut i program g numbers (with_visible i program g numbers now around_task) number from
  leads_out now from jumps inside = record {
    at = stop;
    jumps = jumps;
    return = return;
    results = ap results_of there ∙ results;
    outermost = record { exit = refl; handled = refl; raised = λ x. refl };
    from_inside = inside;
    to_inside = all_in stop (let up = runs.up in let down = runs.down in let over = runs.over in omega (arith, up, down, over)) (omega arith);
  }

  pub task_follows : (note : Note) → Follows i program g numbers note around_task number (first_place i number) (duty_items (OfBody b)) Inner [] []
  task_follows note =
      let up = runs.up in
      let down = runs.down in
      let over = runs.over in
      let below = runs.below in
      let first_in = all_in (first_place i number) (omega arith) (omega (arith, up, down, over)) in
      let mid_in = all_in runs.mid up (omega (arith, down, over)) in
      let way_in = all_in runs.out (omega (arith, up, below)) runs.high in
      let stop_in = all_in stop (omega (arith, up, down, over)) (omega arith) in
      let shown = (narrows_same g v).shows in
      declares_follow i program g numbers note b.declarations around_task v runs.later number (first_place i number) runs.mid
      (Sequence b.statements b.handlers ∷ []) Inner [] [] runs.declared runs.uncovered up first_in mid_in (shown, shown, shown)
      (λ nar. (
        runs.start,
        stop,
        runs.later,
        (record {
          jumps = runs.skip;
          narrows = narrows_same g runs.later;
          reaches = (nar.shows, nar.shows, nar.shows);
          from_inside = mid_in;
          up = over;
          to_inside = stop_in;
        }),
        runs.statements,
        (
          leads_out runs.later stop Here stop_in,
          (λ ret is.
              subst
              (λ n. (runs.later.reserved ≡ v.reserved) × LeadsOut i program g numbers (with_visible i program g numbers runs.later around_task) number n)
              (same_some runs.out ret is)
              (nar.reserved, leads_out runs.later runs.out runs.way way_in)),
          refl,
        ),
      ))

-- ---- the code of a body that was added without parameters

no_formals : (s : Scope) (xs : List PlacedFormal) (passed top : ℕ) → StandInTurn s 0 passed [] xs passed top → (xs ≡ []) × (passed ≡ 0) × (top ≡ 0)
no_formals s [] passed top h = let a = h.0 in let b = h.1 in (refl, omega (arith, a), omega (arith, a, b))
no_formals s (x ∷ xs) passed top h = absurd h

module _ (v : Visible) (old : Draft) (b : BodyTree) (sizes : SubprogramWords) (new : Draft) (adds : AddsProcedure v old [] b sizes new) where
  bare : (adds.placed.formals.items ≡ []) × (adds.placed.passed ≡ 0) × (adds.framed.taken ≡ 0)
  bare = no_formals v.scope adds.placed.formals.items adds.placed.passed adds.framed.taken adds.places.stand

  pub nothing_returned : sizes.results ≡ 0
  nothing_returned = adds.returns.high ∙ ap (words_returned adds.later.scope) bare.0

  same_names : v ≡ adds.later
  same_names =
      let scope = sym adds.places.scope in
      let slots = sym (adds.places.slots ∙ ap (λ xs. v.slots ++ map slot_for xs) bare.0 ∙ append-nil v.slots) in
      let subprograms = sym (adds.places.subprograms ∙ ap (λ xs. v.subprograms ++ map no_subprogram xs) bare.0 ∙ append-nil v.subprograms) in
      λ j. record { scope = scope j; slots = slots j; subprograms = subprograms j; operations = sym adds.places.operations j }

module _ (laws : LawsOfNames) (t : ProgramTree) (legal : IsLegal t) (restricted : IsRestricted t) (i : Sections) (well_formed : IsWellFormed i) (g : Package)
    (of_program : IsPackageOf t i g) (numbers : Numbers) (place : ℕ) (b : BodyTree) (seen : Visible) (old new : Draft) (sizes : SubprogramWords)
    (adds : AddsProcedure seen old [] b sizes new) (number : ℕ) (s : Subprogram) (there : called i number ≡ Some s)
    (first_is : first_place i number ≡ here old.code) (end_is : s.end_ ≡ here new.code) (results_are : s.results ≡ sizes.results)
    (locals_are : s.locals ≡ sizes.locals) (holds : Holds i (here old.code) new.code) (labels : HasLabels i new.labels)
    (handled : IsHandled i (program_of t) (record old { code = adds.initial; words = adds.framed }) adds.run adds.runs.rows unhandled)
    (numbered : (q : Procedure) (n : ℕ) → g.subprograms q.object q.name ≡ Some n → numbers q ≡ Some n) where
  abbrev program : Program
  program = program_of t

  abbrev v : Framed
  v = record { names = seen; room = s.locals; reserved = []; within = None }

  module _ (before : IsInFront (front t (suc place)) g None v) where
    -- some place of the program, where no body runs
    abbrev outside : Place
    outside = inside program (first_store program) (record { within = None; locals = [] }) (static_place program.scope)

    serves : Serves program g numbers v adds.framed.taken
    serves = record {
      finds = (front_serves laws t legal restricted v (suc place) before.scope).finds;
      numbered = λ name q n profile found told named none.
          let x = here_named program name q found in numbered q n ((λ j. g.subprograms (x.0 j) (x.1 j)) ∙ before.calls name n told);
      externals = λ name operation n o q told is found.
          let y = front_externals laws t legal restricted i g of_program v (suc place) before name operation q o n told is found in
          (numbered q n y.0, y.1);
      entries = λ name operation n o told is. front_entries laws t legal restricted i g of_program v (suc place) before name operation o n told is;
      scope = sym of_program.scope;
      place = outside;
      here = refl;
      agrees = subst (λ u. Agrees u outside) (sym before.scope)
          (laws.fronts t (first_store program) legal restricted (memory laws t legal restricted) (suc place) (static_place program.scope)).agrees;
      laid = front_laid laws t legal restricted i g of_program v (suc place) before;
      ends = subst (EndsBelow v) (sym (bare seen old b sizes new adds).2) (front_ends laws t legal restricted i g of_program v (suc place) before);
      below = λ n among. absurd (let none : true ≡ is_among [] n = sym among in cc);
    }

    grows_initial : Extends (fresh old.code) adds.initial
    grows_initial = adds.initialises.extends

    grows_run : Extends adds.initial adds.run.code
    grows_run = adds.runs.extends

    grows_new : Extends adds.run.code new.code
    grows_new = adds.returns.extends

    at_run : Holds i (here old.code) adds.run.code
    at_run = holds_before i (here old.code) adds.run.code new.code grows_new holds

    at_initial : Holds i (here old.code) adds.initial
    at_initial = holds_before i (here old.code) adds.initial adds.run.code grows_run at_run

    at_back : Holds i (here adds.run.code) new.code
    at_back =
        holds_later i (here old.code) (here adds.run.code) new.code
        (let a = grows_initial.longer in let c = grows_run.longer in omega (arith, a, c)) holds

    -- without parameters nothing stands in front of the declarations, and nothing is given back
    begins : here old.code ≡ here adds.initial
    begins =
        subst (λ xs. AreInitial i adds.later.scope (here old.code) (here adds.initial) xs) (bare seen old b sizes new adds).0
        (adds.initialises.stands i at_initial)

    returns : here adds.run.code ≡ adds.returns.back
    returns =
        subst (λ xs. AreReturned i adds.later.scope (here adds.run.code) adds.returns.back xs) (bare seen old b sizes new adds).0
        (adds.returns.stands i at_back)

    runs : IsRun i program g numbers v (first_place i number) (here adds.run.code) b.declarations b.statements b.handlers
    runs =
        subst (λ n. IsRun i program g numbers v n (here adds.run.code) b.declarations b.statements b.handlers) (sym (first_is ∙ begins))
        (adds.runs.stands i (holds_later i (here old.code) (here adds.initial) adds.run.code grows_initial.longer at_run)
        (subst (HasLabels i) adds.labels labels) program g numbers v (same_names seen old b sizes new adds) serves
        (let l = adds.locals in omega (arith, l, locals_are)) unhandled handled refl)

    -- the rows of places of its declarations and statements tell of them
    pub task_tells : TellPlaces i program g numbers adds.runs.rows.placed (body_within b.declarations b.statements b.handlers)
    task_tells =
        adds.runs.tells i (holds_later i (here old.code) (here adds.initial) adds.run.code grows_initial.longer at_run)
        (subst (HasLabels i) adds.labels labels) program g numbers v (same_names seen old b sizes new adds) serves
        (let l = adds.locals in omega (arith, l, locals_are)) unhandled handled

    pub task_begins : (around : Around i program g numbers)
        × ((note : Note) → Follows i program g numbers note around number (first_place i number) (duty_items (OfBody b)) Inner [] [])
        × RestsWith g around.visible around.held (record { within = None; locals = [] }) (replicate s.locals (pos 0))
    task_begins = (
      around_task i program g numbers v b number s there none (here adds.run.code) runs return within,
      task_follows i program g numbers v b number s there none (here adds.run.code) runs return within,
      bare_rests laws t legal restricted i g of_program v (suc place) before refl s.locals (omega arith) (few_locals i well_formed number s there).1,
    )
      where
        none : s.results ≡ 0
        none = results_are ∙ nothing_returned seen old b sizes new adds

        return : At i (here adds.run.code) op.Return
        return = subst (λ n. At i n op.Return) (sym returns) (adds.returns.returns i at_back)

        within : suc (here adds.run.code) ≤ s.end_
        within = (let e = adds.returns.end in let r = returns in omega (arith, e, r, end_is))
