use Rattle.std.proofs.lemmas.Result.{IfOk-weaker}
use Rattle.adarun.proofs.LastReports.{all_of_it}
use Rattle.adarun.proofs.last_reports.limit_report.Goals as goal

pub returns : goal.returns
returns g c =
    let told = c.running_in.ensures in
    IfOk-weaker c.running_in.result _ _
    (λ report says. record {
      left = record {
        image = c.in_ok-inputs.inputs.named.image;
        objects = c.in_ok-inputs.inputs.named.objects.items;
        places = c.in_ok-inputs.inputs.named.places;
        compiles = c.in_ok-inputs.ensures.means;
        lines = c.in_ok-inputs.inputs.schedule;
        is_schedule = c.in_ok-inputs.ensures.read;
        last = c.in_ok-last.last;
        is_last = c.in_ok-last.ensures;
      };
      moved = says.0;
      few = says.1.0;
      still = says.1.1;
    })
    (all_of_it c.running_in.result _ _ _ _ _ _ _ told.moved told.few told.still)
