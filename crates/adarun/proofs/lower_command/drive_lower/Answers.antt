use Rattle.std.proofs.Common.{subst, sym}
use Rattle.file_limits.specs.declared.TheConstants.{SOURCE_BYTES}
use Rattle.adarun.specs.Reading.{IsBeginningRead, with_input}
use Rattle.adarun.proofs.lower_command.drive_lower.Goals as goal

pub returns-clause-leaves : goal.returns-clause-leaves
returns-clause-leaves g c =
    let contents = with_input (g.F.FileStore.standard_input c.args.files.now) (g.F.FileStore.contents c.args.files.now) in
    c.lower_text.ensures.leaves contents (subst (IsBeginningRead (contents c.args.source.now) SOURCE_BYTES) (sym c.deref.ensures.value) c.in-Ok.ensures)
