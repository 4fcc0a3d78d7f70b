use Rattle.std.proofs.Common.{Err, ap, inr, refl, subst, ◌∙◌}
use Rattle.std.specs.Prelude.{option_map}
use Rattle.adarun.specs.Driving.{input_of}
use Rattle.adarun.specs.Reading.{with_input}
use Rattle.adarun.specs.Stopping.{RefusesRunning}
use Rattle.adarun.specs.declared.going.GoFault.TheVariants as faults
use Rattle.adarun.proofs.Driving.{failed_keeps, refused_leaves, run_leaves, schedule_leaves}
use Rattle.adarun.proofs.Reading.{schedule_whole, source_whole}
use Rattle.adarun.proofs.program.simulate_whole.Goals as goal

pub returns-in-Ok-go-clause-leaves : goal.returns-in-Ok-go-clause-leaves
returns-in-Ok-go-clause-leaves g c =
    run_leaves (with_input (g.F.FileStore.standard_input c.args.files.now) (g.F.FileStore.contents c.args.files.now)) c.args.source.now
    (input_of (g.F.FileStore.contents c.args.files.now) (option_map (λ name. name.now) c.args.schedule)) c.args.limit _ _ _ _ _ _ _ _ c.status_of.ensures.is c.in-Ok.ensures c.deref.ensures.value c.in-Ok-read_schedule.ensures c.deref-2.ensures.value c.in-Ok-go.ensures.runs

pub returns-in-Err-Source-clause-leaves : goal.returns-in-Err-Source-clause-leaves
returns-in-Err-Source-clause-leaves g c =
    refused_leaves (with_input (g.F.FileStore.standard_input c.args.files.now) (g.F.FileStore.contents c.args.files.now)) c.args.source.now
    (input_of (g.F.FileStore.contents c.args.files.now) (option_map (λ name. name.now) c.args.schedule)) c.args.limit _ _ _ _ _ _ c.report_source.ensures c.in-Ok.ensures c.deref.ensures.value (subst (RefusesRunning _ _) c.in-Err-Source.field-0-is c.in-Err-Source.ensures.refused) (ap g.O.Sink.bytes (c.in-Err-Source.ensures.source c.in-Err-Source.fault (ap Err c.in-Err-Source.field-0-is)))

pub returns-in-Err-Schedule-clause-leaves : goal.returns-in-Err-Schedule-clause-leaves
returns-in-Err-Schedule-clause-leaves g c =
    schedule_leaves (with_input (g.F.FileStore.standard_input c.args.files.now) (g.F.FileStore.contents c.args.files.now)) c.args.source.now
    (input_of (g.F.FileStore.contents c.args.files.now) (option_map (λ name. name.now) c.args.schedule)) c.args.limit _ _ _ _ _ _ _ _ _ c.report_schedule.ensures c.in-Ok.ensures c.deref.ensures.value c.in-Ok-read_schedule.ensures c.deref-2.ensures.value c.in-Err-Schedule.field-0-is c.in-Err-Schedule.ensures.refused (ap g.O.Sink.bytes (c.in-Err-Schedule.ensures.schedule c.in-Err-Schedule.fault (ap Err c.in-Err-Schedule.field-0-is)))

pub returns-clause-sink : goal.returns-clause-sink
returns-clause-sink g c =
    failed_keeps _ _ _ _ refl (c.in-Err-Run-Write.ensures.failed (ap Err (c.in-Err-Run-Write.field-0-is ∙ ap faults.Run c.in-Err-Run-Write.field-0-0-is)))

pub returns-clause-leaves : goal.returns-clause-leaves
returns-clause-leaves g c =
    let begins = c.in-Err-Run-Write.ensures.beginning (ap Err (c.in-Err-Run-Write.field-0-is ∙ ap faults.Run c.in-Err-Run-Write.field-0-0-is)) in
    inr (record {
      text = c.deref.result.now;
      source_read = source_whole
          (with_input (g.F.FileStore.standard_input c.args.files.now) (g.F.FileStore.contents c.args.files.now) c.args.source.now) _ _ c.deref.ensures.value begins.compiles.tree c.in-Ok.ensures begins.compiles.accepted.is_tree;
      input = c.deref-2.result.now;
      input_read = schedule_whole
          (input_of (g.F.FileStore.contents c.args.files.now) (option_map (λ name. name.now) c.args.schedule)) _ _ c.deref-2.ensures.value begins.schedule c.in-Ok-read_schedule.ensures begins.is_schedule;
      begins = begins;
    })
