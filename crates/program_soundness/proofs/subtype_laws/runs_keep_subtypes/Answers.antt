use Rattle.program_soundness.proofs.LyingRuns.{runs_keep_subtypes}
use Rattle.program_soundness.proofs.subtype_laws.runs_keep_subtypes.Goals as goal

pub returns : goal.returns
returns c =
    runs_keep_subtypes c.steps_keep_subtypes.ensures c.runs_are_sound.ensures
    (λ program start.
    record {
      typed = c.calls_are_typed.ensures;
      kept = c.agreement_is_kept.ensures;
      added = c.names_are_added.ensures;
      targets = c.targets_are_variables.ensures;
      initial = c.initial_values_have_shape.ensures;
      sound = start.scope;
    })
