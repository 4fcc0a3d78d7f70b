use Rattle.std.proofs.Common.{inr, sym, ap, ◌∙◌}
use Rattle.ada_tree.specs.ProgramTree.{program_tree}
use Rattle.expr_rules.specs.Faults.{least}
use Rattle.legality.proofs.SameFaults.{least_noted}
use Rattle.ravenscar.specs.ProgramRules.{restriction_faults}
use Rattle.ravenscar.proofs.accepted.restrict.Goals as goal

pub returns-in-Some-clause-refused : goal.returns-in-Some-clause-refused
returns-in-Some-clause-refused c =
    let t = program_tree c.args.checked in
    let one = least_noted c.found_is_all.ensures (restriction_faults (program_tree c.program.result.now)) c.new-found.result c.restriction_faults.new.found
    c.least.result c.new-found.ensures c.in_ok-restriction_faults.ensures c.least.ensures
    ∙ ap (λ p. least (restriction_faults (program_tree p))) c.program.ensures.same in
    inr (c.least_is_least.ensures.some (restriction_faults t) c.in-Some.fault (sym c.in-Some.is ∙ one))
