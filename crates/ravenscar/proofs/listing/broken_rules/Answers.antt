use Rattle.std.proofs.Common.{sym, subst}
use Rattle.std.specs.List.{Contains}
use Rattle.ada_tree.specs.ProgramTree.{program_tree}
use Rattle.ravenscar.proofs.Listed.{listed}
use Rattle.ravenscar.proofs.listing.broken_rules.Goals as goal

pub returns : goal.returns
returns c =
    let found = c.in_ok-faults.ensures in
    listed c.check_finds_what_is_broken.ensures (program_tree c.args.program.now) c.put_in_order.new.faults.items c.put_in_order.ensures.ordered
    (λ f h. subst (λ l. Contains l f) found (c.put_in_order.ensures.given f h))
    (λ f h. c.put_in_order.ensures.kept f (subst (λ l. Contains l f) (sym found) h))
