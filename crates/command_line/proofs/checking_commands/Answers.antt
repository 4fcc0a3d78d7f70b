use Rattle.std.proofs.Common.{[], ◌∷◌, ◌∙◌, ap, ap₂, codes}
use Rattle.std.proofs.lemmas.Result.{IfOk-weaker}
use Rattle.clap.specs.Words.{App, Shape, with_subcommand}
use Rattle.command_line.specs.Finding.{command_app}
use Rattle.command_line.proofs.checking_commands.Goals as goal

abbrev check : App
check = command_app (codes "check") (codes "SRC" ∷ [])

abbrev format : App
format = command_app (codes "format") (codes "SRC" ∷ [])

abbrev lower : App
lower = command_app (codes "lower") (codes "FILE" ∷ [])

abbrev shape : App → Shape
shape a = a.top

pub returns : goal.returns
returns c =
    let one = c.in_ok-command.ensures.shape c.in_ok-explain_command.ensures.local
    ∙ ap₂ with_subcommand c.in_ok-running_commands.ensures (ap shape c.in_ok-explain_command.ensures.app) in
    let two = c.in_ok-command-2.ensures ∙ ap (λ a. with_subcommand a check.top) one in
    let three = c.in_ok-command-3.ensures ∙ ap (λ a. with_subcommand a format.top) two in
    IfOk-weaker c.with_command-3.result _ _ (λ m adds. adds ∙ ap (λ a. with_subcommand a lower.top) three) c.with_command-3.ensures
