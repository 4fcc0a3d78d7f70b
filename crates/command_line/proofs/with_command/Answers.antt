use Rattle.std.proofs.Common.{◌∙◌, ap}
use Rattle.std.proofs.lemmas.Result.{IfOk-weaker}
use Rattle.clap.specs.Words.{App, Shape, app_of, with_subcommand}
use Rattle.command_line.proofs.with_command.Goals as goal

abbrev shape : App → Shape
shape a = a.top

pub returns : goal.returns
returns c =
    IfOk-weaker c.subcommand.result _ _
    (λ m adds. adds.shape c.in_ok-command_with.ensures.local
    ∙ ap (with_subcommand (app_of c.args.program)) (ap shape c.in_ok-command_with.ensures.app))
    c.subcommand.ensures
