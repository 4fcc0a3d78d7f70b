use Rattle.std.proofs.Common.{◌≡◌, subst}
use Rattle.adarun.specs.Accepted.{RefusesAccepted}
use Rattle.adarun.proofs.Running.{meant, runs}
use Rattle.adarun.proofs.going.go.Goals as goal

pub returns-in-Ok-run-clause-runs : goal.returns-in-Ok-run-clause-runs
returns-in-Ok-run-clause-runs g c =
    runs _ _ _ _ _ _ _ _ c.outcome_stays.ensures
    (record {
      leads = c.code_leads_on.ensures.leads_on;
      starts = c.steps_whole.ensures.starts;
      steps = c.steps_whole.ensures.steps;
      unseen = c.steps_whole.ensures.unseen;
      sound = c.steps_whole.ensures.runner;
    })
    c.in-Ok.ensures.means c.in-Ok-read.ensures.read c.in-Ok-run.ensures.text c.in-Ok-run.ensures.ends

pub returns-in-Ok-run-clause-meaning : goal.returns-in-Ok-run-clause-meaning
returns-in-Ok-run-clause-meaning g c = meant _ _ _ _ _ _ (returns-in-Ok-run-clause-runs g c)

pub returns-in-Err-clause-accepted : goal.returns-in-Err-clause-accepted
returns-in-Err-clause-accepted g c = λ tree fault is same.
    let told : c.in-Err.fault ≡ fault = cc in
    subst (RefusesAccepted c.args.source.now tree) told (c.in-Err.ensures.accepted tree is)
