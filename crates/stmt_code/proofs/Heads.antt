-- The ways out of the statements of a loop: to its end, and those of what is around it.
use Rattle.std.proofs.Common.{◌≡◌, ℕ, Option, Some, None}
use Rattle.ada_tree.specs.StatementTree.{StmtTrees}
use Rattle.image.specs.Sections.{Sections}
use Rattle.image.specs.declared.subprograms.Subprogram.{Subprogram}
use Rattle.expr_soundness.specs.meaning.specs.Programs.{Program}
use Rattle.expr_code.specs.Seeing.{Package}
use Rattle.part_code.specs.Emitting.{IsReachable}
use Rattle.part_code.specs.Handling.{Handling}
use Rattle.part_code.specs.Resting.{Framed}
use Rattle.part_code.specs.Statements.{AreStatements, Numbers, Ways, with_exit, within_loop}
use Rattle.part_code.proofs.OpenWays.{opens_exit, statements_opened}
use Rattle.stmt_code.specs.Emitting.{Allows}

-- ---- the head

-- the way out of the loop, or its end, where there is none
abbrev pub way_of : Option ℕ → (to : ℕ) → ℕ
way_of (Some out) to = out
way_of None to = to

-- ---- the statements of the loop

-- they stand as the definitions of loops ask it, where an exit leads to the end if there is no way out
pub within_way : (i : Sections) (program : Program) (g : Package) (numbers : Numbers) (v : Framed) (w : Ways) (exit : Option ℕ) (to : ℕ) (r : Handling) (a b : ℕ)
    (body : StmtTrees) → AreStatements i program g numbers v (with_exit exit w) r a b body
    → AreStatements i program g numbers v (within_loop (way_of exit to) w) r a b body
within_way i program g numbers v w (Some out) to r a b body h = h
within_way i program g numbers v w None to r a b body h =
    statements_opened i program g numbers v (with_exit None w) (within_loop to w) (opens_exit to w) r a b body h

-- in a loop the way out, if there is one, is reached
pub allows_exit : (i : Sections) (s : Subprogram) (low high : ℕ) (exit : Option ℕ) (w : Ways) → Allows i s low high w
    → ((out : ℕ) → exit ≡ Some out → IsReachable i low high out) → Allows i s low high (with_exit exit w)
allows_exit i s low high exit w ways reached = record { exit = reached; return = ways.return; handled = ways.handled }
