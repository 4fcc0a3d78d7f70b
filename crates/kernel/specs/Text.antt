-- The text of lines and outcome, byte for byte.
use Rattle.std.specs.Prelude.{ℕ, List, [], ◌∷◌, ◌++◌, ℤ, Option, Some, None, codes}
use Rattle.std.specs.Fmt.{signed_decimal}
use Rattle.kernel.specs.State.{Kernel, Line, Outcome, Ended, WaitsForever, Unhandled, ImageFault}

-- the names of tasks, handlers among them, and of exceptions by their numbers, in upper case
pub record Names : Type 0 where
  pub task : ℕ → List ℕ
  pub exception : ℕ → List ℕ

-- `time TASK label value`
abbrev pub line_text : Names → Line → List ℕ
line_text names l = signed_decimal l.time ++ codes " " ++ names.task l.task ++ codes " " ++ l.label ++ codes " " ++ signed_decimal l.value ++ codes "\n"

abbrev pub lines_text : Names → List Line → List ℕ
lines_text names [] = []
lines_text names (l ∷ ls) = line_text names l ++ lines_text names ls

-- what the last line says before its time; without outcome the run was cut at its bound
abbrev pub outcome_text : Names → Option Outcome → List ℕ
outcome_text names (Some Ended) = codes "ended"
outcome_text names (Some WaitsForever) = codes "waits forever"
outcome_text names (Some (Unhandled x t)) = codes "unhandled " ++ names.exception x ++ codes " in " ++ names.task t
outcome_text names (Some ImageFault) = codes "image fault"
outcome_text names None = codes "step limit"

abbrev pub last_line : Names → Option Outcome → ℤ → List ℕ
last_line names outcome time = outcome_text names outcome ++ codes " at " ++ signed_decimal time ++ codes "\n"

-- all that a run writes
abbrev pub text : Names → Kernel → List ℕ
text names k = lines_text names k.lines ++ last_line names k.outcome k.now
