use Rattle.std.proofs.Common.{Err, ap, inr, refl}
use Rattle.std.specs.Io.KnownBytes.{Appends}
use Rattle.machine.specs.Written.{AppendsBeginning}
use Rattle.adarun.specs.Naming.{names_alone}
use Rattle.adarun.specs.declared.going.GoFault.TheVariants as faults
use Rattle.adarun.proofs.Driving.{failed_keeps, schedule_leaves, told_alike, trace_leaves, unscheduled_trace}
use Rattle.adarun.proofs.Reading.{schedule_whole, source_whole}
use Rattle.adarun.proofs.views.trace_texts.Goals as goal

pub returns-in-Ok-write_named-clause-leaves : goal.returns-in-Ok-write_named-clause-leaves
returns-in-Ok-write_named-clause-leaves g c contents source schedule read read_too =
    let compiles = c.in-Ok.ensures.means.compiles in
    let viewed = c.in-Ok-write_named.ensures.written in
    trace_leaves _ _ _ _ _ _ _ _ _ _ c.status_of.ensures.is
    (record {
      text = c.args.text.now;
      source_read = source_whole _ _ _ refl compiles.tree read compiles.accepted.is_tree;
      image = c.in-Ok.named.image;
      compiles = compiles;
      given = record { input = c.args.lines.now; read = schedule_whole _ _ _ refl c.in-Ok-read.schedule read_too c.in-Ok-read.ensures.read; lines = c.in-Ok-read.schedule; is_schedule = c.in-Ok-read.ensures.read };
      places = c.in-Ok.named.places;
      placed = c.in-Ok.ensures.means.placed;
      bound = viewed.bound;
      bounded = viewed.bounded;
      outcome = c.in-Ok-write_named.outcome;
      status_is = refl;
      written = told_alike c.args.view (Appends (g.O.Sink.bytes c.args.out.now) (g.O.Sink.bytes c.write_named.new.out)) c.in-Ok.named.image c.in-Ok.named.places
          c.in-Ok-read.schedule viewed.bound _ _ _ _ _ _ _ _ (ap names_alone c.in-Ok.ensures.means.names)
          (c.in-Ok.ensures.bodies compiles.tree compiles.accepted.is_tree) (c.in-Ok.ensures.scopes compiles.tree compiles.accepted.is_tree) refl viewed.written;
      ends = viewed.ends;
    })

pub returns-in-Err-read-clause-leaves : goal.returns-in-Err-read-clause-leaves
returns-in-Err-read-clause-leaves g c contents source schedule read read_too =
    unscheduled_trace _ _ _ _ _ _ _ _ _ _ c.refuse_schedule.ensures
    (schedule_leaves _ _ _ c.args.limit _ _ _ (faults.Schedule c.in-Err-read.fault) c.in-Err-read.fault _ _ _ _ c.refuse_schedule.ensures read refl read_too refl refl
    (record { image = c.in-Ok.named.image; compiles = c.in-Ok.ensures.means.compiles }, c.in-Err-read.ensures.refused) refl)

pub returns-clause-leaves : goal.returns-clause-leaves
returns-clause-leaves g c contents source schedule read read_too =
    let compiles = c.in-Ok.ensures.means.compiles in
    let begun = c.in-Err-Write.ensures.begins (ap Err c.in-Err-Write.field-0-is) in
    rw c.cannot_write.ensures
    (inr (record {
      text = c.args.text.now;
      source_read = source_whole _ _ _ refl compiles.tree read compiles.accepted.is_tree;
      image = c.in-Ok.named.image;
      compiles = compiles;
      given = record { input = c.args.lines.now; read = schedule_whole _ _ _ refl c.in-Ok-read.schedule read_too c.in-Ok-read.ensures.read; lines = c.in-Ok-read.schedule; is_schedule = c.in-Ok-read.ensures.read };
      places = c.in-Ok.named.places;
      placed = c.in-Ok.ensures.means.placed;
      bound = begun.bound;
      bounded = begun.bounded;
      begins = told_alike c.args.view (AppendsBeginning (g.O.Sink.bytes c.args.out.now) (g.O.Sink.bytes c.write_named.new.out)) c.in-Ok.named.image
          c.in-Ok.named.places c.in-Ok-read.schedule begun.bound _ _ _ _ _ _ _ _ (ap names_alone c.in-Ok.ensures.means.names)
          (c.in-Ok.ensures.bodies compiles.tree compiles.accepted.is_tree) (c.in-Ok.ensures.scopes compiles.tree compiles.accepted.is_tree) refl begun.begins;
    }))

pub returns-clause-sink : goal.returns-clause-sink
returns-clause-sink g c = failed_keeps _ _ _ _ c.cannot_write.ensures (c.in-Err-Write.ensures.failed (ap Err c.in-Err-Write.field-0-is))
