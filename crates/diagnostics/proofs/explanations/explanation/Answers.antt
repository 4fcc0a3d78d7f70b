use Rattle.std.proofs.Common.{arith, rules, tests}
use Rattle.std.proofs.lemmas.Bool.Decides.{nat_tests}
use Rattle.diagnostics.proofs.Untold.{none_told}
use Rattle.diagnostics.proofs.explanations.explanation.Goals as goal

pub returns-in-10-to-23-clause-numbered : goal.returns-in-10-to-23-clause-numbered
returns-in-10-to-23-clause-numbered c = first_of (grind (arith, nat_tests), search (tests, rules))

pub returns-in_default-clause-numbered : goal.returns-in_default-clause-numbered
returns-in_default-clause-numbered c = search rules

pub returns-in_default-clause-explained : goal.returns-in_default-clause-explained
returns-in_default-clause-explained c = none_told c.args.number (returns-in_default-clause-numbered c)

pub returns-in-82-to-86-clause-explained : goal.returns-in-82-to-86-clause-explained
returns-in-82-to-86-clause-explained c = first_of (grind (arith, nat_tests), search (tests, rules))
