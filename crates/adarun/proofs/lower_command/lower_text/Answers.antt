use Rattle.std.proofs.Common.{inr, refl}
use Rattle.file_limits.specs.declared.TheConstants.{SOURCE_BYTES}
use Rattle.adarun.proofs.Lowering.{lowered_as, refused_lowering}
use Rattle.adarun.proofs.Reading.{whole}
use Rattle.adarun.proofs.lower_command.lower_text.Goals as goal

pub returns-in-Err-clause-leaves : goal.returns-in-Err-clause-leaves
returns-in-Err-clause-leaves g c contents read =
    refused_lowering contents c.args.source.now c.args.text.now _ _ read refl c.report_fault.result c.report_fault.ensures

pub returns-in-Ok-write_all-clause-leaves : goal.returns-in-Ok-write_all-clause-leaves
returns-in-Ok-write_all-clause-leaves g c contents read = record {
  text = c.args.text.now;
  source_read = whole (contents c.args.source.now) SOURCE_BYTES c.args.text.now read c.in-Ok.ensures.short;
  lowered = c.deref-2.result.now;
  is_lowered = lowered_as c.args.text.now c.in-Ok.lowered.text.items c.deref-2.result.now c.in-Ok.ensures.by_edits c.in-Ok.ensures.lines c.deref-2.ensures.value;
  written = c.in-Ok-write_all.ensures.whole;
}

pub returns-clause-leaves : goal.returns-clause-leaves
returns-clause-leaves g c contents read =
    rw c.cannot_write.ensures
    (inr (record {
      text = c.args.text.now;
      source_read = whole (contents c.args.source.now) SOURCE_BYTES c.args.text.now read c.in-Ok.ensures.short;
      lowered = c.deref-2.result.now;
      is_lowered = lowered_as c.args.text.now c.in-Ok.lowered.text.items c.deref-2.result.now c.in-Ok.ensures.by_edits c.in-Ok.ensures.lines c.deref-2.ensures.value;
      begins = c.write_all.ensures.beginning;
    }))
