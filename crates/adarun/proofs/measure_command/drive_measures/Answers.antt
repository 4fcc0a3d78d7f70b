use Rattle.std.proofs.Common.{◌≡◌, of_z, rules, subst, sym, to_z, w64}
use Rattle.file_limits.specs.declared.TheConstants.{CHOICES_BYTES, SOURCE_BYTES}
use Rattle.adarun.specs.Driving.{LeavesMeasures}
use Rattle.adarun.specs.Reading.{IsBeginningRead}
use Rattle.adarun.proofs.measure_command.drive_measures.Goals as goal

pub returns-clause-leaves : goal.returns-clause-leaves
returns-clause-leaves g c =
    let contents = g.F.FileStore.contents c.args.files.now in
    let u : to_z w64 (of_z w64 c.args.until) ≡ c.args.until = search rules in
    subst
    (λ z. LeavesMeasures c.args.is_fields contents c.args.source.now c.args.choices.now z c.args.limit c.measure_texts.result (g.O.Sink.bytes c.args.out.now)
    (g.O.Sink.bytes c.measure_texts.new.out))
    u
    (c.measure_texts.ensures.leaves contents c.args.source.now c.args.choices.now
    (subst (IsBeginningRead (contents c.args.source.now) SOURCE_BYTES) (sym c.deref.ensures.value) c.in-Ok.ensures)
    (subst (IsBeginningRead (contents c.args.choices.now) CHOICES_BYTES) (sym c.deref-2.ensures.value) c.in-Ok-read.ensures))
