use Rattle.program_soundness.proofs.LyingStarts.{starts_lie}
use Rattle.program_soundness.proofs.subtype_laws.starts_lie.Goals as goal

pub returns : goal.returns
returns c =
    starts_lie c.static_is_value.ensures c.initial_values_lie.ensures c.scopes_are_sound.ensures c.names_are_known.ensures c.premises_hold.ensures
    c.objects_are_sound.ensures
