use Rattle.std.proofs.Common.{◌≡◌, drop}
use Rattle.std.specs.Prelude.{option_map}
use Rattle.ada_tree.specs.ProgramTree.{package_tree}
use Rattle.expr_rules.specs.Findings.{noted}
use Rattle.unit_rules.specs.MainRules.{main_statements_faults}
use Rattle.unit_rules.proofs.main_procedure.main_statements_faults.Given as goal

abbrev pub invariant-loop-statement : goal.invariant-loop-statement
invariant-loop-statement l =
    let package_ = option_map (λ p. package_tree p.now) l.package_ in
    noted l.found (main_statements_faults l.scope package_ (drop l.statement-index l.statements)) ≡ noted l.fn.found (main_statements_faults l.scope package_ l.statements)
