use Rattle.std.proofs.Common.{Err, ap, inr, refl}
use Rattle.adarun.proofs.Driving.{failed_keeps, image_loaded, image_run_leaves, image_schedule_leaves}
use Rattle.adarun.proofs.Reading.{schedule_whole}
use Rattle.adarun.proofs.program.run_bytes.Goals as goal

pub returns-in-Ok-run-clause-leaves : goal.returns-in-Ok-run-clause-leaves
returns-in-Ok-run-clause-leaves g c contents name schedule read read_too =
    image_run_leaves _ _ _ _ _ _ _ _ c.status_of.ensures.is
    (record {
      image = c.in-Ok.image;
      loaded = image_loaded contents name _ _ _ refl read c.in-Ok.ensures.bytes c.image_ends.ensures c.in-Ok.ensures.loaded;
      given = record { input = c.args.lines.now; read = schedule_whole _ _ _ refl c.in-Ok-read.schedule read_too c.in-Ok-read.ensures.read; lines = c.in-Ok-read.schedule; is_schedule = c.in-Ok-read.ensures.read };
      outcome = c.in-Ok-run.outcome;
      status_is = refl;
      written = c.in-Ok-run.ensures.text;
      ends = c.in-Ok-run.ensures.ends;
    })

pub returns-clause-leaves : goal.returns-clause-leaves
returns-clause-leaves g c contents name schedule read read_too =
    rw c.cannot_write.ensures
    (inr (record {
      image = c.in-Ok.image;
      loaded = image_loaded contents name _ _ _ refl read c.in-Ok.ensures.bytes c.image_ends.ensures c.in-Ok.ensures.loaded;
      given = record { input = c.args.lines.now; read = schedule_whole _ _ _ refl c.in-Ok-read.schedule read_too c.in-Ok-read.ensures.read; lines = c.in-Ok-read.schedule; is_schedule = c.in-Ok-read.ensures.read };
      begins = c.in-Err-Write.ensures.beginning;
    }))

pub returns-clause-sink : goal.returns-clause-sink
returns-clause-sink g c = failed_keeps _ _ _ _ c.cannot_write.ensures (c.in-Err-Write.ensures.failed (ap Err c.in-Err-Write.field-0-is))

pub returns-in-Err-read-clause-leaves : goal.returns-in-Err-read-clause-leaves
returns-in-Err-read-clause-leaves g c contents name schedule read read_too =
    image_schedule_leaves _ _ _ _ _ _ _ _ _ _ _ c.refuse_schedule.ensures
    (image_loaded contents name _ _ _ refl read c.in-Ok.ensures.bytes c.image_ends.ensures c.in-Ok.ensures.loaded) read_too refl c.in-Err-read.ensures.refused refl
