use Rattle.std.proofs.Common.{◌≡◌, ◌∙◌, Err, ap, of_z, rules, subst, to_z, w64}
use Rattle.std.specs.Io.KnownBytes.{Appends}
use Rattle.machine.specs.Written.{AppendsBeginning}
use Rattle.set_measures.specs.Sets.{IsMeasuredSet}
use Rattle.set_measures.specs.Text.{set_text}
use Rattle.adarun.specs.Naming.{names_alone}
use Rattle.adarun.proofs.measure_command.write_measures.Goals as goal

pub returns-in-Ok-write_all-clause-written : goal.returns-in-Ok-write_all-clause-written
returns-in-Ok-write_all-clause-written g c =
    let u : to_z w64 (of_z w64 c.args.until) ≡ c.args.until = search rules in
    let measures = c.in-Ok.measures in
    let names = c.deref-2.ensures.value ∙ c.in-Ok-names_alone.ensures ∙ ap names_alone c.deref.ensures.value in
    let is =
    c.deref-3.ensures.value ∙ c.in-Ok-report.ensures
    ∙ (λ j. set_text (c.form_of.ensures j) c.args.named.now.image (names j) c.args.choices.now measures) in
    record {
      measures = measures;
      measured = subst (λ z. IsMeasuredSet c.args.named.now.image c.args.choices.now z c.args.limit measures) u c.in-Ok.ensures.measures;
      cut_is = c.cut.ensures;
      written = subst (Appends (g.O.Sink.bytes c.args.out.now) (g.O.Sink.bytes c.write_all.new.sink)) is c.in-Ok-write_all.ensures.whole;
    }

pub returns-clause-begins : goal.returns-clause-begins
returns-clause-begins g c written =
    let u : to_z w64 (of_z w64 c.args.until) ≡ c.args.until = search rules in
    let measures = c.in-Ok.measures in
    let names = c.deref-2.ensures.value ∙ c.in-Ok-names_alone.ensures ∙ ap names_alone c.deref.ensures.value in
    let is =
    c.deref-3.ensures.value ∙ c.in-Ok-report.ensures
    ∙ (λ j. set_text (c.form_of.ensures j) c.args.named.now.image (names j) c.args.choices.now measures) in
    record {
      measures = measures;
      measured = subst (λ z. IsMeasuredSet c.args.named.now.image c.args.choices.now z c.args.limit measures) u c.in-Ok.ensures.measures;
      begins = subst (AppendsBeginning (g.O.Sink.bytes c.args.out.now) (g.O.Sink.bytes c.write_all.new.sink)) is c.in-Err-write_all.ensures.beginning;
    }
