use Rattle.std.proofs.Common.{[], ◌∙◌, ap, ap₂, codes}
use Rattle.std.proofs.lemmas.Result.{IfOk-weaker}
use Rattle.clap.specs.Words.{App, Shape, with_subcommand}
use Rattle.command_line.specs.Finding.{command_app}
use Rattle.command_line.proofs.command.Goals as goal

abbrev manual : App
manual = command_app (codes "manual") []

abbrev version : App
version = command_app (codes "version") []

abbrev shape : App → Shape
shape a = a.top

pub returns : goal.returns
returns c =
    let one = c.in_ok-command.ensures.shape c.in_ok-simulate_command.ensures.local
    ∙ ap₂ with_subcommand c.in_ok-checking_commands.ensures (ap shape c.in_ok-simulate_command.ensures.app) in
    let two = c.in_ok-command-2.ensures ∙ ap (λ a. with_subcommand a manual.top) one in
    IfOk-weaker c.with_command-2.result _ _ (λ m adds. adds ∙ ap (λ a. with_subcommand a version.top) two) c.with_command-2.ensures
