use Rattle.compiler.proofs.Meaning.{linked_keeps_count}
use Rattle.compiler.proofs.link_laws.linked_keeps_count.Goals as goal

pub returns : goal.returns
returns c =
    linked_keeps_count (record {
      starts_whole = c.steps_whole.ensures.starts;
      steps_whole = c.steps_whole.ensures.steps;
      grow = c.lines_grow.ensures;
      unmoved = c.left_unmoved.ensures;
      quiet = c.quiet_stays.ensures;
      reaches = c.reaches_callers.ensures;
      calm = c.runner_is_calm.ensures;
      premises = c.premises_hold.ensures;
      starts = c.starts_are_sound.ensures;
      runs = c.runs_are_sound.ensures;
      met = c.steps_are_met.ensures;
      effects = c.effects_are_met.ensures;
      subtypes = c.programs_keep_subtypes.ensures;
    })
