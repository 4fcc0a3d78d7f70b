use Rattle.std.proofs.Common.{ap, refl, ◌∙◌}
use Rattle.std.specs.Prelude.{OnOk}
use Rattle.std.specs.Io.KnownBytes.{Appends}
use Rattle.machine.specs.Written.{AppendsBeginning}
use Rattle.adarun.specs.Naming.{names_alone}
use Rattle.adarun.proofs.Driving.{told_alike, viewed}
use Rattle.adarun.proofs.views.write_named.Goals as goal

pub returns-clause-written : goal.returns-clause-written
returns-clause-written g c =
    viewed _ _ _ _ _ _ _ _ _ c.in-Ok.ensures.bound c.write_view.result
    (told_alike c.args.view (λ text. OnOk c.write_view.result (Appends (g.O.Sink.bytes c.args.out.now) (g.O.Sink.bytes c.write_view.new.out) text))
    c.args.named.now.image c.args.named.now.places c.args.schedule.now c.in-Ok.bound _ _ _ _ _ _ _ _
    (c.deref-3.ensures.value ∙ c.in-Ok-names_alone.ensures ∙ ap names_alone c.deref-2.ensures.value) c.deref.ensures.value refl refl c.write_view.ensures.text)
    c.write_view.ensures.ends

pub returns-clause-begins : goal.returns-clause-begins
returns-clause-begins g c is = record {
  bound = c.in-Ok.bound;
  bounded = c.in-Ok.ensures.bound;
  begins = told_alike c.args.view (AppendsBeginning (g.O.Sink.bytes c.args.out.now) (g.O.Sink.bytes c.write_view.new.out)) c.args.named.now.image
      c.args.named.now.places c.args.schedule.now c.in-Ok.bound _ _ _ _ _ _ _ _
      (c.deref-3.ensures.value ∙ c.in-Ok-names_alone.ensures ∙ ap names_alone c.deref-2.ensures.value) c.deref.ensures.value refl refl c.write_view.ensures.beginning;
}
