use Rattle.std.proofs.Common.{sym, ◌∙◌}
use Rattle.ada_tree.specs.ProgramTree.{program_tree}
use Rattle.compiler.proofs.ObjectLines.{as_many_objects}
use Rattle.compiler.proofs.Refusals.{limits_refused, texts_spelled}
use Rattle.compiler.proofs.program.within_tables.Goals as goal

pub returns-then-not-is_within_limits-clause-refused : goal.returns-then-not-is_within_limits-clause-refused
returns-then-not-is_within_limits-clause-refused c =
    limits_refused (program_tree c.args.accepted.now) c.in_ok-linked.linked.parts c.in_ok-linked.ensures.program c.in_ok-linked.ensures.labels c.in_ok-linked.ensures.rows
    (as_many_objects (record {
      sized = c.values_have_words.ensures;
      stay = c.shapes_stay.ensures;
      scopes = c.scopes_are_sound.ensures;
      names = c.names_are_known.ensures;
      premises = c.premises_hold.ensures;
      starts = c.starts_are_sound.ensures;
      fronts = c.fronts_fit.ensures;
    }) (program_tree c.args.accepted.now) c.program-program.ensures.legal c.program-program.ensures.restricted c.in_ok-linked.linked.parts c.in_ok-linked.ensures.program)
    c.passed_limit.result c.passed_limit.ensures

pub returns-clause-tables : goal.returns-clause-tables
returns-clause-tables c =
    record {
      texts = texts_spelled (program_tree c.args.accepted.now) c.in_ok-linked.linked.parts c.in_ok-linked.ensures.program c.in_ok-linked.ensures.labels
          c.in_ok-linked.ensures.rows
          (c.texts_are_spelled.ensures c.program-program.ensures.parsed.text c.program-program.ensures.parsed.tokens (program_tree c.args.accepted.now)
          c.program-program.ensures.parsed.is);
      limits = sym c.is_within_limits.ensures ∙ c.if-not-is_within_limits.false;
    }
