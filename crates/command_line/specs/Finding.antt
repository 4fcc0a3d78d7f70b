-- How clap is told of the commands, and what is read of its matches.
use Rattle.std.specs.Prelude.{ℕ, true, false, List, [], ◌∷◌, ◌++◌, map, Option, Some, None, if◌then◌else◌, bytes_eq, codes}
use Rattle.clap.specs.Words.{App, Row, Rule, Shape, Text, first_of, new_rule}
use Rattle.clap.specs.Simple.{new_shape}
use Rattle.command_line.specs.declared.TheConstants.{SIMULATED_STEPS}
use Rattle.command_line.specs.Words.{CheckText, Command, CompileText, ExplainFault, ExplainText, FormatText, GoText, ListImage, LowerText, Nothing, RunImage, ShowManual, ShowVersion, numeral_of, seen, simulated, within}
use Rattle.command_line.specs.declared.View.TheVariants as views

-- an argument that has to be given
abbrev pub required_rule : Text → Rule
required_rule id = record (new_rule id) { required = true }

-- a command with these arguments in their order
abbrev pub command_app : Text → List Text → App
command_app name ids = record { top = record (new_shape name) { rules = map required_rule ids }; subs = [] }

-- the command that explains: a source may stand behind the number
abbrev pub explain_app : App
explain_app =
    record { top = record (new_shape (codes "explain")) { rules = required_rule (codes "NUMBER") ∷ new_rule (codes "SRC") ∷ [] }; subs = [] }

-- the command that simulates: a schedule may stand behind the source, and a limit behind that
abbrev pub simulate_app : App
simulate_app = record {
  top = record (new_shape (codes "simulate")) {
    rules = required_rule (codes "SRC") ∷ new_rule (codes "SCHED") ∷ new_rule (codes "LIMIT") ∷ [];
  };
  subs = [];
}

-- the program before it has any command
abbrev pub bare_app : App
bare_app = record { top = record (new_shape (codes "adarun")) { no_binary_name = true; subcommand_required = true }; subs = [] }

abbrev pub program_shape : Shape
program_shape = record (new_shape (codes "adarun")) { no_binary_name = true; subcommand_required = true; is_leaf = false }

-- the commands that compile, list, run and trace
abbrev pub running_app : App
running_app = record {
  top = program_shape;
  subs = (command_app (codes "compile") (codes "SRC" ∷ codes "IMG" ∷ [])).top
      ∷ (command_app (codes "list") (codes "IMG" ∷ [])).top
      ∷ (command_app (codes "run") (codes "IMG" ∷ codes "SCHED" ∷ codes "LIMIT" ∷ [])).top
      ∷ (command_app (codes "go") (codes "SRC" ∷ codes "SCHED" ∷ codes "LIMIT" ∷ [])).top
      ∷ (command_app (codes "trace") (codes "SRC" ∷ codes "SCHED" ∷ codes "LIMIT" ∷ [])).top
      ∷ [];
}

-- with those that explain, check, format and lower
abbrev pub checking_app : App
checking_app = record {
  top = program_shape;
  subs = running_app.subs
      ++ explain_app.top
      ∷ (command_app (codes "check") (codes "SRC" ∷ [])).top
      ∷ (command_app (codes "format") (codes "SRC" ∷ [])).top
      ∷ (command_app (codes "lower") (codes "FILE" ∷ [])).top
      ∷ [];
}

-- the twelve commands
abbrev pub program_app : App
program_app = record {
  top = program_shape;
  subs = checking_app.subs
      ++ simulate_app.top
      ∷ (command_app (codes "manual") []).top
      ∷ (command_app (codes "version") []).top
      ∷ [];
}

abbrev pub of_one : (Text → Command) → Option Text → Command
of_one command (Some first) = command first
of_one command None = Nothing

abbrev pub of_two : (Text → Text → Command) → Option Text → Option Text → Command
of_two command (Some first) second = of_one (command first) second
of_two command None second = Nothing

abbrev pub by_numeral : (ℕ → Command) → Option Text → Command
by_numeral command (Some digits) = within command (numeral_of digits)
by_numeral command None = Nothing

abbrev pub of_three : (Text → Text → ℕ → Command) → Option Text → Option Text → Option Text → Command
of_three command (Some first) (Some second) limit = by_numeral (command first second) limit
of_three command first second limit = Nothing

-- a number, and a source or none
abbrev pub of_explain : Option Text → Option Text → Command
of_explain number (Some source) = by_numeral (λ n. ExplainText n source) number
of_explain number None = by_numeral ExplainFault number

-- a source, a schedule or none, and a limit or none
abbrev pub of_simulate : Option Text → Option Text → Option Text → Command
of_simulate (Some source) schedule (Some digits) = within (simulated source schedule) (numeral_of digits)
of_simulate (Some source) schedule None = simulated source schedule SIMULATED_STEPS
of_simulate None schedule limit = Nothing

-- what the command of this name asks for, where these are the words for its arguments
abbrev pub asked_in : Text → (Text → Option Text) → Command
asked_in name value =
    if bytes_eq name (codes "compile") then of_two CompileText (value (codes "SRC")) (value (codes "IMG"))
    else (if bytes_eq name (codes "list") then of_one ListImage (value (codes "IMG"))
    else (if bytes_eq name (codes "run") then of_three RunImage (value (codes "IMG")) (value (codes "SCHED")) (value (codes "LIMIT"))
    else (if bytes_eq name (codes "go") then of_three GoText (value (codes "SRC")) (value (codes "SCHED")) (value (codes "LIMIT"))
    else (if bytes_eq name (codes "trace") then of_three (seen views.Rows) (value (codes "SRC")) (value (codes "SCHED")) (value (codes "LIMIT"))
    else (if bytes_eq name (codes "explain") then of_explain (value (codes "NUMBER")) (value (codes "SRC"))
    else (if bytes_eq name (codes "check") then of_one CheckText (value (codes "SRC"))
    else (if bytes_eq name (codes "format") then of_one FormatText (value (codes "SRC"))
    else (if bytes_eq name (codes "lower") then of_one LowerText (value (codes "FILE"))
    else (if bytes_eq name (codes "simulate") then of_simulate (value (codes "SRC")) (value (codes "SCHED")) (value (codes "LIMIT"))
    else (if bytes_eq name (codes "manual") then ShowManual
    else (if bytes_eq name (codes "version") then ShowVersion
    else Nothing)))))))))))

-- what the command that clap found asks for, by its name and its matches
abbrev pub asked_by : Option (Text × List Row) → Command
asked_by (Some found) = asked_in found.0 (λ id. first_of id found.1)
asked_by None = Nothing
