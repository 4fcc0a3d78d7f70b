use Rattle.std.proofs.Common.{inr, refl}
use Rattle.adarun.proofs.Formatting.{laid_out, refused_format, spelled}
use Rattle.adarun.proofs.Reading.{spelled_whole}
use Rattle.adarun.proofs.format_command.format_text.Goals as goal

pub format-requires : goal.format-requires
format-requires g c = spelled c.args.text.now _ _ c.in-Ok.ensures.sound c.deref.ensures.value

pub returns-in-Err-clause-leaves : goal.returns-in-Err-clause-leaves
returns-in-Err-clause-leaves g c contents read =
    refused_format c.args.text.now c.in-Err.fault contents c.args.source.now _ _ read refl c.report_source.result c.report_source.ensures
    c.in-Err.ensures.fault c.in-Err.ensures.least

pub returns-in-Ok-write_all-clause-leaves : goal.returns-in-Ok-write_all-clause-leaves
returns-in-Ok-write_all-clause-leaves g c contents read = record {
  text = c.args.text.now;
  source_read = spelled_whole (contents c.args.source.now) _ _ refl c.in-Ok.tokens.items read c.in-Ok.ensures.sound;
  layout = c.deref-2.result.now;
  has_layout = laid_out c.args.text.now _ _ c.in-Ok.ensures.sound c.deref.ensures.value _ _ c.in-Ok-format.ensures c.deref-2.ensures.value;
  written = c.in-Ok-write_all.ensures.whole;
}

pub returns-clause-leaves : goal.returns-clause-leaves
returns-clause-leaves g c contents read =
    rw c.cannot_write.ensures
    (inr (record {
      text = c.args.text.now;
      source_read = spelled_whole (contents c.args.source.now) _ _ refl c.in-Ok.tokens.items read c.in-Ok.ensures.sound;
      layout = c.deref-2.result.now;
      has_layout = laid_out c.args.text.now _ _ c.in-Ok.ensures.sound c.deref.ensures.value _ _ c.in-Ok-format.ensures c.deref-2.ensures.value;
      begins = c.write_all.ensures.beginning;
    }))
