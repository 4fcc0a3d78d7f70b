use Rattle.std.proofs.Common.{subst}
use Rattle.std.specs.Io.KnownBytes.{Appends}
use Rattle.image.specs.Code.{code, code_text}
use Rattle.machine.specs.Stands.{EndsBy}
use Rattle.adarun.proofs.Running.{runs}
use Rattle.adarun.proofs.laws.loaded_image_runs_as_its_source.Goals as goal

pub returns : goal.returns
returns c loaded text input schedule limit outcome old new is_loaded compiles is_schedule appends ends =
    let same = c.comes_back.ensures.only loaded is_loaded in
    runs outcome text input _ schedule limit old new c.outcome_stays.ensures
    (record {
      leads = c.code_leads_on.ensures.leads_on;
      starts = c.steps_whole.ensures.starts;
      steps = c.steps_whole.ensures.steps;
      unseen = c.steps_whole.ensures.unseen;
      sound = c.steps_whole.ensures.runner;
    })
    compiles is_schedule
    (subst (λ i. Appends old new (code_text i schedule limit)) same appends)
    (subst (λ i. EndsBy outcome (code i schedule limit)) same ends)
