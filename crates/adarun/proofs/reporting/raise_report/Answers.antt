use Rattle.std.proofs.lemmas.Result.{IfOk-weaker}
use Rattle.adarun.proofs.reporting.raise_report.Goals as goal

pub returns : goal.returns
returns g c =
    IfOk-weaker c.raised_in.result _ _
    (λ report is. record {
      image = c.in_ok-inputs.inputs.named.image;
      objects = c.in_ok-inputs.inputs.named.objects.items;
      places = c.in_ok-inputs.inputs.named.places;
      compiles = c.in_ok-inputs.ensures.means;
      lines = c.in_ok-inputs.inputs.schedule;
      is_schedule = c.in_ok-inputs.ensures.read;
      report_is = is;
    })
    c.raised_in.ensures
