use Rattle.std.proofs.Common.{◌≡◌, drop}
use Rattle.ada_tree.specs.StatementTree.{alternative_trees}
use Rattle.stmt_rules.specs.CaseRules.{has_others}
use Rattle.stmt_rules.proofs.case.has_others.Given as goal

abbrev pub invariant-loop-alternative : goal.invariant-loop-alternative
invariant-loop-alternative l = has_others (alternative_trees (drop l.alternative-index l.all)) ≡ has_others (alternative_trees l.all)
