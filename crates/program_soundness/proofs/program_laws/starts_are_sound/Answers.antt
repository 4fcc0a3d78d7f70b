use Rattle.program_soundness.proofs.Starts.{starts_are_sound}
use Rattle.program_soundness.proofs.program_laws.starts_are_sound.Goals as goal

pub returns : goal.returns
returns c =
    starts_are_sound (record {
      partitions = c.partitions_fit.ensures;
      barriers = c.barriers_are_their_own.ensures;
      objects = c.objects_are_sound.ensures;
      premises = c.premises_hold.ensures;
      functions = c.functions_are_sound.ensures;
      procedures = c.procedures_are_sound.ensures;
      handlers = c.handlers_are_sound.ensures;
      works = c.works_are_sound.ensures;
    })
