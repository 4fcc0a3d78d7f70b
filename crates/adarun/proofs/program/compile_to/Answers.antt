use Rattle.std.proofs.Common.{subst, sym}
use Rattle.file_limits.specs.declared.TheConstants.{SOURCE_BYTES}
use Rattle.adarun.specs.Reading.{IsBeginningRead}
use Rattle.adarun.proofs.program.compile_to.Goals as goal

pub returns : goal.returns
returns g c written =
    c.compile_text.ensures c.args.source.now written
    (subst (IsBeginningRead (g.F.FileStore.contents c.args.files.now c.args.source.now) SOURCE_BYTES) (sym c.deref.ensures.value) c.in-Ok.ensures)
