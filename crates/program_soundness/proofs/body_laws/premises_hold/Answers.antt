use Rattle.program_soundness.proofs.Known.{premises_hold}
use Rattle.program_soundness.proofs.body_laws.premises_hold.Goals as goal

pub returns : goal.returns
returns c =
    premises_hold c.calls_are_typed.ensures c.agreement_is_kept.ensures c.names_are_added.ensures c.targets_are_variables.ensures c.initial_values_have_shape.ensures
    c.scopes_are_sound.ensures
