use Rattle.std.proofs.Common.{subst, sym}
use Rattle.file_limits.specs.declared.TheConstants.{SCHEDULE_BYTES, SOURCE_BYTES}
use Rattle.adarun.specs.Reading.{IsBeginningRead}
use Rattle.adarun.proofs.views.drive_trace.Goals as goal

pub returns-clause-leaves : goal.returns-clause-leaves
returns-clause-leaves g c =
    c.trace_texts.ensures.leaves (g.F.FileStore.contents c.args.files.now) c.args.source.now c.args.schedule.now
    (subst (IsBeginningRead (g.F.FileStore.contents c.args.files.now c.args.source.now) SOURCE_BYTES) (sym c.deref.ensures.value) c.in-Ok.ensures)
    (subst (IsBeginningRead (g.F.FileStore.contents c.args.files.now c.args.schedule.now) SCHEDULE_BYTES) (sym c.deref-2.ensures.value) c.in-Ok-read.ensures)
