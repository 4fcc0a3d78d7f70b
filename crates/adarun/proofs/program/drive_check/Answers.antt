use Rattle.std.proofs.Common.{refl, subst}
use Rattle.std.specs.Io.KnownBytes.{Appends}
use Rattle.adarun.specs.Reading.{with_input}
use Rattle.adarun.specs.Reporting.{IsFaultReport}
use Rattle.adarun.specs.TextFaults.{AreTextFaults}
use Rattle.adarun.proofs.Every.{empty_of, filled_of}
use Rattle.adarun.proofs.Reading.{faultless_whole}
use Rattle.adarun.proofs.program.drive_check.Goals as goal

pub returns-then-is_empty : goal.returns-then-is_empty
returns-then-is_empty g c =
    let contents = with_input (g.F.FileStore.standard_input c.args.files.now) (g.F.FileStore.contents c.args.files.now) in
    let faults = c.in-Ok-text_faults.faults.items in
    let none =
    empty_of faults c.in-Ok-text_faults.faults.len c.is_empty.result c.in-Ok-text_faults.faults.ok.0 c.is_empty.ensures c.if-is_empty.true in
    record {
      leaves = record {
        text = c.deref.result.now;
        source_read = faultless_whole (contents c.args.source.now) c.in-Ok.text.items c.deref.result.now c.deref.ensures.value faults c.in-Ok.ensures
            c.in-Ok-text_faults.ensures.faults none;
        no_faults = subst (AreTextFaults c.deref.result.now) none c.in-Ok-text_faults.ensures.faults;
        unwritten = refl;
      };
    }

pub returns-in-Ok-write_all : goal.returns-in-Ok-write_all
returns-in-Ok-write_all g c =
    let faults = c.in-Ok-text_faults.faults.items in
    let report = c.in-Ok-fault_report.report.items in
    let any =
    filled_of faults c.in-Ok-text_faults.faults.len c.is_empty.result c.in-Ok-text_faults.faults.ok.0 c.is_empty.ensures c.if-is_empty.false in
    record {
      leaves = record {
        text = c.in-Ok.text.items;
        source_read = c.in-Ok.ensures;
        faults = faults;
        are_faults = subst (λ text. AreTextFaults text faults) c.deref.ensures.value c.in-Ok-text_faults.ensures.faults;
        are_any = any;
        report = report;
        is_report = subst (λ text. IsFaultReport c.args.source.now text faults report) c.deref-2.ensures.value
            (subst (λ found. IsFaultReport c.args.source.now c.deref-2.result.now found report) c.deref-3.ensures.value c.in-Ok-fault_report.ensures);
        written = subst (Appends (g.E.Sink.bytes c.args.err.now) (g.E.Sink.bytes c.write_all.new.sink)) c.deref-4.ensures.value
            c.in-Ok-write_all.ensures.whole;
      };
    }
