use Rattle.std.proofs.Common.{◌++◌, sym, ap, ◌∙◌, codes}
use Rattle.tracing.specs.Traces.{event_text, row_names}
use Rattle.tracing.proofs.text.put_event.Goals as goal

pub returns-in-Preempted-clause-items : goal.returns-in-Preempted-clause-items
returns-in-Preempted-clause-items g c =
    let row = c.args.row.now.items in
    let name = c.as_slice.ensures.value ∙ c.actor_name.ensures.same in
    c.put_named.ensures.items
    ∙ ap (λ v. row ++ (codes "is preempted by " ++ v)) name
    ∙ ap (λ e. row ++ event_text (row_names c.args.image.now c.args.objects.now (g.O.Origins.known c.args.origins.now)) e) (sym c.in-Preempted.is)

pub returns-in-GivesWay-clause-items : goal.returns-in-GivesWay-clause-items
returns-in-GivesWay-clause-items g c =
    let row = c.args.row.now.items in
    let name = c.as_slice-in-GivesWay.ensures.value ∙ c.actor_name-in-GivesWay.ensures.same in
    c.put_named-in-GivesWay.ensures.items
    ∙ ap (λ v. row ++ (codes "gives way to " ++ v)) name
    ∙ ap (λ e. row ++ event_text (row_names c.args.image.now c.args.objects.now (g.O.Origins.known c.args.origins.now)) e) (sym c.in-GivesWay.is)
