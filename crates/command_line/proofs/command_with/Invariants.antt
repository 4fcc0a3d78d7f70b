use Rattle.std.proofs.Common.{◌≡◌, map, take, false}
use Rattle.clap.specs.Words.{app_of}
use Rattle.clap.specs.declared.builder.command.Command.TheViews.{out-Command}
use Rattle.command_line.specs.Finding.{command_app}
use Rattle.command_line.proofs.command_with.Given as goal

abbrev pub invariant-loop-word : goal.invariant-loop-word
invariant-loop-word l =
    (app_of l.command ≡ command_app l.fn.name (map (λ w. w.now) (take l.word-index l.fn.words))) × ((out-Command l.command).has_globals ≡ false)
