use Rattle.program_soundness.proofs.Firsts.{objects_are_sound}
use Rattle.program_soundness.proofs.scope_laws.objects_are_sound.Goals as goal

pub returns : goal.returns
returns c = objects_are_sound c.static_is_value.ensures c.initial_values_have_shape.ensures
