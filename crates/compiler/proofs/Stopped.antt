-- Where the code of an accepted program stops: in its package, or with main by the limit of instructions.
use Rattle.std.proofs.Common.{◌≡◌, ◌<◌, ◌+◌, ℕ, length, inl, inr, arith}
use Rattle.base.specs.declared.limits.TheConstants.{INSTRUCTIONS}
use Rattle.ada_tree.specs.ProgramTree.{ProgramTree}
use Rattle.program_soundness.specs.Fronts.{declared_in}
use Rattle.expr_code.specs.Code.{here}
use Rattle.expr_code.specs.declared.refusal.ImageLimit.TheVariants as limits
use Rattle.expr_code.specs.declared.refusal.Refusal.{Refusal}
use Rattle.expr_code.specs.declared.refusal.Refusal.TheVariants as refusal
use Rattle.step_simulation.specs.part_code.specs.Bounds.{main_bound}
use Rattle.step_simulation.specs.part_code.specs.Needs.{RefusesMain}
use Rattle.package_code.specs.Stopping.{IsHalt, halt_for}
use Rattle.package_code.specs.Walking.{IsWalked}
use Rattle.package_code.specs.declared.directory.Directory.{Directory}
use Rattle.package_code.specs.declared.stopping.Halt.{Halt}
use Rattle.package_code.specs.declared.stopping.Halt.TheVariants as halt
use Rattle.package_code.specs.declared.stopping.Stop.TheVariants as stop
use Rattle.package_code.specs.declared.walk.Walk.{Walk}
use Rattle.compiler.specs.Stopped.{IsFirstHalt, StopsAtMain}

module _ (t : ProgramTree) where
  -- ---- of a body

  pub halts_in_package : (found : Halt) → IsHalt t found → IsFirstHalt t found
  halts_in_package (halt.Stopped (stop.Instructions place before)) s = inl s
  halts_in_package (halt.Stopped (stop.Frame place)) s = s
  halts_in_package (halt.Stopped (stop.Rows place rows)) s = s
  halts_in_package (halt.Refused why) s = tt

  -- ---- of main

  module _ (directory : Directory) (walk : Walk) (walked : IsWalked t directory walk) (whole : walk.place ≡ length (declared_in t.package_))
      (place before : ℕ) (place_is : place ≡ t.main.name.place) (before_is : before ≡ here walk.draft.code) where
    stops_at_main : INSTRUCTIONS < here walk.draft.code + main_bound t.main.statements → StopsAtMain t place before
    stops_at_main h = record {
      directory = directory;
      walk = walk;
      walked = walked;
      whole = whole;
      place_is = place_is;
      before_is = before_is;
      many = (let e = before_is in omega (arith, h, e));
    }

    pub halts_in_main : (why : Refusal) → RefusesMain walk.visible walk.draft.code t.main.statements (main_bound t.main.statements) why
        → IsFirstHalt t (halt_for why place before)
    halts_in_main (refusal.Limit limits.Instructions) r = inr (stops_at_main r)
    halts_in_main (refusal.Limit limits.Frame) r = absurd (omega (arith, r))
    halts_in_main why r = tt
