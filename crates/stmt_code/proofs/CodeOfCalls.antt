-- What the code of all calls has: the actual parameters, an instruction that calls, and what is copied back (RM 6.4, 6.4.1).
use Rattle.std.proofs.Common.{◌≡◌, ℕ, suc, ◌≤◌, List, length}
use Rattle.kernel.specs.Laws.{QuietStays}
use Rattle.image.specs.Sections.{Sections}
use Rattle.image.specs.declared.instruction.Operation.{Operation}
use Rattle.expr_soundness.specs.meaning.specs.Calls.{Callee, results}
use Rattle.expr_soundness.specs.meaning.specs.Programs.{Program}
use Rattle.expr_code.specs.Seeing.{Package, Sees, library_of}
use Rattle.expr_code.specs.Views.{At}
use Rattle.part_code.specs.Copying.{AreCopies}
use Rattle.part_code.specs.declared.call.Destination.{Destination}
use Rattle.part_code.specs.Resting.{Framed}
use Rattle.part_code.specs.Statements.{IsInvoked, Numbers}
use Rattle.part_code.proofs.Actuals.{ComputesActuals}
use Rattle.part_code.proofs.CopyingBack.{copies_up}
use Rattle.part_code.proofs.PassingWell.{PassAllWell}

module _ (quiet : QuietStays) (i : Sections) (program : Program) (g : Package) (scope_is : program.scope ≡ g.scope) (numbers : Numbers) (v : Framed) (c : Callee) where
  pub is_invoked : (call : Operation) (from mid to : ℕ) → from ≤ mid
      → ComputesActuals quiet i (library_of g) (Sees g v.names) v.names from mid c.procedure.parameters c.arguments
      → At i mid call
      → (ds : List Destination) → length ds ≡ length (results c.procedure.parameters) → AreCopies i program g v (suc mid) to ds
      → PassAllWell program g scope_is v c.procedure.parameters c.arguments ds
      → IsInvoked i program g numbers v from to c call
  is_invoked call from mid to up computes here ds many copies passes = record {
    mid = mid;
    up = up;
    over = copies_up i program g v ds (suc mid) to copies;
    computes = computes;
    calls = here;
    destinations = ds;
    many = many;
    copies = copies;
    passes = passes;
  }
