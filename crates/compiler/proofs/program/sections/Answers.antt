use Rattle.std.proofs.lemmas.Result.{IfErr-weaker}
use Rattle.ada_tree.specs.ProgramTree.{program_tree}
use Rattle.compiler.proofs.Refusals.{few_refused}
use Rattle.compiler.proofs.program.sections.Goals as goal

pub returns-clause-refused : goal.returns-clause-refused
returns-clause-refused c =
    IfErr-weaker _ _ _
    (λ why r. few_refused (program_tree c.args.accepted.now) (c.tables_are_small.ensures (program_tree c.args.accepted.now) c.program-program.ensures.legal
    c.program-program.ensures.restricted) why r) c.within_tables.ensures.refused
