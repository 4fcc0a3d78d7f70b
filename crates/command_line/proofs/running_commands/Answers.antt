use Rattle.std.proofs.Common.{[], ◌∷◌, ◌∙◌, ap, codes}
use Rattle.std.proofs.lemmas.Result.{IfOk-weaker}
use Rattle.clap.specs.Words.{App, with_subcommand}
use Rattle.command_line.specs.Finding.{command_app}
use Rattle.command_line.proofs.running_commands.Goals as goal

abbrev compile : App
compile = command_app (codes "compile") (codes "SRC" ∷ codes "IMG" ∷ [])

abbrev list : App
list = command_app (codes "list") (codes "IMG" ∷ [])

abbrev run : App
run = command_app (codes "run") (codes "IMG" ∷ codes "SCHED" ∷ codes "LIMIT" ∷ [])

abbrev go : App
go = command_app (codes "go") (codes "SRC" ∷ codes "SCHED" ∷ codes "LIMIT" ∷ [])

abbrev trace : App
trace = command_app (codes "trace") (codes "SRC" ∷ codes "SCHED" ∷ codes "LIMIT" ∷ [])

pub returns : goal.returns
returns c =
    let one = c.in_ok-command.ensures ∙ ap (λ a. with_subcommand a compile.top) c.program.ensures in
    let two = c.in_ok-command-2.ensures ∙ ap (λ a. with_subcommand a list.top) one in
    let three = c.in_ok-command-3.ensures ∙ ap (λ a. with_subcommand a run.top) two in
    let four = c.in_ok-command-4.ensures ∙ ap (λ a. with_subcommand a go.top) three in
    IfOk-weaker c.with_command-5.result _ _ (λ m adds. adds ∙ ap (λ a. with_subcommand a trace.top) four) c.with_command-5.ensures
