use Rattle.std.proofs.Common.{subst, sym}
use Rattle.file_limits.specs.declared.TheConstants.{IMAGE_BYTES, SCHEDULE_BYTES}
use Rattle.adarun.specs.Reading.{IsBeginningRead}
use Rattle.adarun.proofs.program.drive_run.Goals as goal

pub returns-clause-leaves : goal.returns-clause-leaves
returns-clause-leaves g c =
    c.run_bytes.ensures.leaves (g.F.FileStore.contents c.args.files.now) c.args.name.now c.args.schedule.now
    (subst (IsBeginningRead (g.F.FileStore.contents c.args.files.now c.args.name.now) IMAGE_BYTES) (sym c.deref.ensures.value) c.in-Ok.ensures)
    (subst (IsBeginningRead (g.F.FileStore.contents c.args.files.now c.args.schedule.now) SCHEDULE_BYTES) (sym c.deref-2.ensures.value) c.in-Ok-read.ensures)
