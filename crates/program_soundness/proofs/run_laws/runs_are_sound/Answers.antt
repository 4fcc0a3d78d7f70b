use Rattle.program_soundness.proofs.Runs.{runs_are_sound}
use Rattle.program_soundness.proofs.run_laws.runs_are_sound.Goals as goal

pub returns : goal.returns
returns c =
    runs_are_sound (record {
      begins = c.begins_kept.ensures;
      starts = c.start_settles.ensures;
      every = c.kept_by_every_effect.ensures;
      next = record {
        settle = c.steps_settle.ensures;
        four = c.four_statements_hold.ensures;
        others = c.others_stay_sound.ensures;
        servers = c.servers_are_sound.ensures;
        callers = c.callers_go_on.ensures;
        alike = c.stores_are_alike.ensures;
      };
      steps = c.steps_are_sound.ensures;
      passes = c.effects_pass.ensures;
      typed = c.calls_are_typed.ensures;
      agreement = c.agreement_is_kept.ensures;
      added = c.names_are_added.ensures;
      targets = c.targets_are_variables.ensures;
      initial = c.initial_values_have_shape.ensures;
    })
