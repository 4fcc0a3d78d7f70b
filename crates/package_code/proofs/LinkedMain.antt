-- The code of main begins with its work: what is left to show is what its instructions do.
use Rattle.std.proofs.Common.{◌≡◌, ℕ, suc, ◌≤◌, List, [], ◌∷◌, map, None, Some, refl, sym, ap, ◌∙◌, subst, arith}
use Rattle.std.specs.Prelude.{pos, replicate}
use Rattle.ada_tree.specs.declared.program.MainStatement.{MainStatement}
use Rattle.ada_tree.specs.ProgramTree.{ProgramTree}
use Rattle.image.specs.Operations.{called, results_of}
use Rattle.image.specs.Frames.{Inner}
use Rattle.image.specs.Sections.{Sections, end_of, first_place, object_of}
use Rattle.image.specs.declared.instruction.Operation.TheVariants as op
use Rattle.image.specs.declared.subprograms.Subprogram.{Subprogram}
use Rattle.image.specs.declared.tasks.Task as rows
use Rattle.expr_soundness.specs.meaning.specs.Programs.{OfMain, Program, Task, program_of}
use Rattle.expr_soundness.specs.meaning.specs.Source.{duty_items}
use Rattle.expr_soundness.specs.meaning.specs.Works.{DoesMain as DoesStatement}
use Rattle.expr_code.specs.Seeing.{Package}
use Rattle.expr_code.specs.Views.{At}
use Rattle.step_simulation.specs.part_code.specs.Handling.{GoesBy, unhandled}
use Rattle.step_simulation.specs.part_code.specs.Jumping.{Here}
use Rattle.step_simulation.specs.part_code.specs.Resting.{Framed, RestsWith, Shows}
use Rattle.step_simulation.specs.part_code.specs.Statements.{IsMainStatementCode, Numbers}
use Rattle.step_simulation.specs.Standing.{Around, Follows, Inside, Note}
use Rattle.step_simulation.specs.part_code.proofs.Handling.{goes_within}
use Rattle.package_code.specs.Linked.{IsLinkedTask}

-- the code of main's statements, one behind the other
abbrev pub AreMain : (i : Sections) (program : Program) (g : Package) (numbers : Numbers) (from to : ℕ) → List MainStatement → Type 0
AreMain i program g numbers from to [] = from ≡ to
AreMain i program g numbers from to (s ∷ rest) =
    (mid : ℕ) × (from ≤ mid) × (mid ≤ to) × IsMainStatementCode i program g numbers from mid s × AreMain i program g numbers mid to rest

-- the code of main, in the subprogram with this number
pub record DoesMain (t : ProgramTree) (i : Sections) (g : Package) (numbers : Numbers) : Type 0 where
  pub number : ℕ
  pub s : Subprogram
  pub there : called i number ≡ Some s
  pub object : object_of s.kind ≡ None
  pub results : s.results ≡ 0
  pub stop : ℕ
  pub up : first_place i number ≤ stop
  pub within : suc stop ≤ s.end_
  pub statements : AreMain i (program_of t) g numbers (first_place i number) stop t.main.statements
  pub return : At i stop op.Return
  pub uncovered : GoesBy i unhandled (first_place i number) stop

-- ---- the code of main begins with its work

module _ (t : ProgramTree) (i : Sections) (g : Package) (numbers : Numbers) (v : Framed) (does : DoesMain t i g numbers) where
  abbrev program : Program
  program = program_of t

  -- nothing of its own is visible in main
  abbrev around : Around i program g numbers
  around = record {
    visible = v;
    ways = record { exit = None; return = None; handled = None };
    raised = unhandled;
    held = [];
    behind = v;
    ending = v;
    handling = v;
  }

  abbrev In : ℕ → Type 0
  In place = Inside i program g numbers does.number place

  shown : Shows g v v
  shown q view h = h

  all_in : (place : ℕ) → first_place i does.number ≤ place → place ≤ does.stop → In place
  all_in place low high =
      let ended : end_of (called i does.number) ≡ does.s.end_ = ap end_of does.there in
      let within = does.within in
      let up = does.up in
      (low, omega (arith, low, high, within, up, ended))

  ends_here : (note : Note) → Follows i program g numbers note around does.number does.stop [] Inner [] []
  ends_here note = (
    record {
      at = does.stop;
      jumps = Here;
      return = does.return;
      results = ap results_of does.there ∙ does.results;
      outermost = record { exit = refl; handled = refl; raised = λ x. refl };
      from_inside = all_in does.stop does.up (omega arith);
      to_inside = all_in does.stop does.up (omega arith);
    },
    (λ ret is. let none : None ≡ Some ret = is in cc),
    refl,
  )

  main_follows : (note : Note) (all : List MainStatement) (from : ℕ) → AreMain i program g numbers from does.stop all → In from
      → Follows i program g numbers note around does.number from (map DoesStatement all) Inner [] []
  main_follows note [] from code x = subst (λ q. Follows i program g numbers note around does.number q [] Inner [] []) (sym code) (ends_here note)
  main_follows note (s ∷ rest) from code x =
      let le = code.1 in
      let up = code.2 in
      let mid_in = all_in code.0 (omega (arith, x.0, le)) (omega (arith, up)) in (
        from,
        code.0,
        v,
        record {
          jumps = Here;
          narrows = record { shows = shown; reserved = refl };
          reaches = (shown, shown, shown);
          from_inside = x;
          up = le;
          to_inside = mid_in;
        },
        code.3,
        main_follows note rest code.0 code.4 mid_in,
        goes_within i unhandled (first_place i does.number) from code.0 does.stop does.uncovered x.0 up,
      )

  pub linked_main : RestsWith g v [] (record { within = None; locals = [] }) (replicate does.s.locals (pos 0)) → (x : Task) (row : rows.Task)
      → x.duty ≡ OfMain t.main.statements
      → row.name ≡ x.name → row.priority ≡ x.priority → row.subprogram ≡ does.number → IsLinkedTask program i g numbers x row
  linked_main rests x row duty name priority number = record {
    name = name;
    priority = priority;
    s = does.s;
    there = ap (called i) number ∙ does.there;
    object = does.object;
    around = around;
    begins = λ note. subst (λ n. Follows i program g numbers note around n (first_place i n) (duty_items x.duty) Inner [] []) (sym number)
        (subst (λ d. Follows i program g numbers note around does.number (first_place i does.number) (duty_items d) Inner [] []) (sym duty)
        (main_follows note t.main.statements (first_place i does.number) does.statements
        (all_in (first_place i does.number) (omega arith) (let up = does.up in omega (arith, up)))));
    rests = rests;
  }
