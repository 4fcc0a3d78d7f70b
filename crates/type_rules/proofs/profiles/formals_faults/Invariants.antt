use Rattle.std.proofs.Common.{◌≡◌, [], drop, take}
use Rattle.types.specs.Seen.{AreNames}
use Rattle.expr_rules.specs.Findings.{noted}
use Rattle.type_rules.specs.ProfileRules.{formals_faults}
use Rattle.type_rules.proofs.profiles.formals_faults.Given as goal

abbrev pub invariant-loop-index : goal.invariant-loop-index
invariant-loop-index l =
    (noted l.found (formals_faults l.scope (take l.index l.formals) (drop l.index l.formals)) ≡ noted l.fn.found (formals_faults l.scope [] l.formals))
    × AreNames (λ f. f.name.name) (take l.index l.formals) l.names
