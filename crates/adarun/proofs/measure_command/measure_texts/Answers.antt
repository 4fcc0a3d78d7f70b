use Rattle.std.proofs.Common.{◌≡◌, ◌∙◌, Err, ap, inr, of_z, refl, rules, subst, to_z, w64}
use Rattle.std.specs.Io.KnownBytes.{Appends}
use Rattle.machine.specs.Written.{AppendsBeginning}
use Rattle.choices.specs.Faults.{RefusesChoicesText}
use Rattle.choices.specs.Sets.{IsChoicesText}
use Rattle.set_measures.specs.Sets.{IsMeasuredSet}
use Rattle.set_measures.specs.Text.{set_text}
use Rattle.command_line.specs.Words as words_of
use Rattle.adarun.specs.Driving.{AreMeasuresBegun, AreMeasuresWritten, form_of, measured_status}
use Rattle.adarun.specs.Naming.{names_alone}
use Rattle.adarun.specs.declared.exploring.SearchFault.TheVariants as faults
use Rattle.adarun.proofs.Driving.{failed_keeps}
use Rattle.adarun.proofs.MeasureCommand.{measures_leave, unchosen_measures}
use Rattle.adarun.proofs.Reading.{choices_whole, source_whole}
use Rattle.adarun.proofs.SearchCommand.{choices_leave}
use Rattle.adarun.proofs.measure_command.measure_texts.Goals as goal

pub returns-in-Ok-write_measures-clause-leaves : goal.returns-in-Ok-write_measures-clause-leaves
returns-in-Ok-write_measures-clause-leaves g c contents source choices read read_too =
    let u : to_z w64 (of_z w64 c.args.until) ≡ c.args.until = search rules in
    let compiles = c.in-Ok.ensures.means.compiles in
    let slots = c.in-Ok-read.choices in
    let are = subst (λ z. IsChoicesText z c.args.lines.now slots) u c.in-Ok-read.ensures.read in
    let written =
    subst
    (λ z. AreMeasuresWritten c.args.is_fields c.in-Ok.named slots z c.args.limit c.in-Ok-write_measures.cut (g.O.Sink.bytes c.args.out.now)
    (g.O.Sink.bytes c.write_measures.new.out))
    u c.in-Ok-write_measures.ensures.written in
    measures_leave c.args.is_fields contents source choices c.args.until c.args.limit _ _ _ c.in-Ok-write_measures.cut c.status_of.ensures.is
    (record {
      measures = record {
        text = c.args.text.now;
        source_read = source_whole _ _ _ refl compiles.tree read compiles.accepted.is_tree;
        image = c.in-Ok.named.image;
        compiles = compiles;
        input = c.args.lines.now;
        input_read = choices_whole _ _ _ refl c.args.until slots read_too are;
        slots = slots;
        are_slots = are;
        measures = written.measures;
        measured = written.measured;
      };
      status_is = ap measured_status written.cut_is;
      written = subst
          (λ names. Appends (g.O.Sink.bytes c.args.out.now) (g.O.Sink.bytes c.write_measures.new.out)
          (set_text (form_of c.args.is_fields) c.in-Ok.named.image (names_alone names) slots written.measures))
          c.in-Ok.ensures.means.names written.written;
    })

pub returns-in-Err-read-clause-leaves : goal.returns-in-Err-read-clause-leaves
returns-in-Err-read-clause-leaves g c contents source choices read read_too =
    let u : to_z w64 (of_z w64 c.args.until) ≡ c.args.until = search rules in
    let refused = subst (λ z. RefusesChoicesText z c.args.lines.now c.in-Err-read.fault) u c.in-Err-read.ensures.refused in
    unchosen_measures c.args.is_fields contents source choices c.args.until c.args.limit _ _ words_of.Unhandled words_of.whole _ _ c.refuse_choices.ensures
    (choices_leave contents source _ c.args.until c.args.limit words_of.Unhandled words_of.whole _ _ _ (faults.Choices c.in-Err-read.fault) c.in-Err-read.fault _ _ _ _
    c.refuse_choices.ensures read refl read_too refl refl (record { image = c.in-Ok.named.image; compiles = c.in-Ok.ensures.means.compiles }, refused) refl)

pub returns-clause-leaves : goal.returns-clause-leaves
returns-clause-leaves g c contents source choices read read_too =
    let u : to_z w64 (of_z w64 c.args.until) ≡ c.args.until = search rules in
    let compiles = c.in-Ok.ensures.means.compiles in
    let slots = c.in-Ok-read.choices in
    let are = subst (λ z. IsChoicesText z c.args.lines.now slots) u c.in-Ok-read.ensures.read in
    let begun =
    subst
    (λ z. AreMeasuresBegun c.args.is_fields c.in-Ok.named slots z c.args.limit (g.O.Sink.bytes c.args.out.now) (g.O.Sink.bytes c.write_measures.new.out))
    u (c.in-Err-Write.ensures.begins (ap Err c.in-Err-Write.field-0-is)) in
    rw c.cannot_write.ensures
    (inr (record {
      measures = record {
        text = c.args.text.now;
        source_read = source_whole _ _ _ refl compiles.tree read compiles.accepted.is_tree;
        image = c.in-Ok.named.image;
        compiles = compiles;
        input = c.args.lines.now;
        input_read = choices_whole _ _ _ refl c.args.until slots read_too are;
        slots = slots;
        are_slots = are;
        measures = begun.measures;
        measured = begun.measured;
      };
      begins = subst
          (λ names. AppendsBeginning (g.O.Sink.bytes c.args.out.now) (g.O.Sink.bytes c.write_measures.new.out)
          (set_text (form_of c.args.is_fields) c.in-Ok.named.image (names_alone names) slots begun.measures))
          c.in-Ok.ensures.means.names begun.begins;
    }))

pub returns-clause-sink : goal.returns-clause-sink
returns-clause-sink g c = failed_keeps _ _ _ _ c.cannot_write.ensures (c.in-Err-Write.ensures.failed (ap Err c.in-Err-Write.field-0-is))
