use Rattle.std.proofs.Common.{◌≡◌, ◌+◌, ◌-◌, ◌++◌}
use Rattle.base.specs.declared.limits.TheConstants.{CHANNELS}
use Rattle.ada_tree.specs.ProgramTree.{program_tree}
use Rattle.expr_soundness.specs.meaning.specs.Programs.{program_of}
use Rattle.package_code.specs.Handlers.{attachments_from, attachments_of}
use Rattle.package_code.proofs.attaching.attachments.Given as goal

abbrev pub invariant-loop-channel : goal.invariant-loop-channel
invariant-loop-channel l =
    let t = program_tree l.accepted in
    l.attachments.items ++ attachments_from (program_of t).scope l.directory t.package_ l.channel (CHANNELS + 1 - l.channel) ≡ attachments_of t l.directory
