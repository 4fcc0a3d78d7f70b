use Rattle.std.proofs.Common.{subst, sym}
use Rattle.file_limits.specs.declared.TheConstants.{IMAGE_BYTES}
use Rattle.adarun.specs.Reading.{IsBeginningRead}
use Rattle.adarun.proofs.program.drive_list.Goals as goal

pub returns-clause-leaves : goal.returns-clause-leaves
returns-clause-leaves g c =
    c.list_bytes.ensures.leaves (g.F.FileStore.contents c.args.files.now) c.args.name.now
    (subst (IsBeginningRead (g.F.FileStore.contents c.args.files.now c.args.name.now) IMAGE_BYTES) (sym c.deref.ensures.value) c.in-Ok.ensures)
