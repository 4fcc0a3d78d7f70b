use Rattle.std.proofs.Common.{sym, ◌∙◌}
use Rattle.ada_tree.specs.ProgramTree.{program_tree}
use Rattle.package_code.proofs.EntrySearch.{found_service, none_service}
use Rattle.package_code.proofs.services.service_within.Goals as goal

pub returns-in-Some : goal.returns-in-Some
returns-in-Some c =
    found_service (program_tree c.args.accepted.now) c.args.object c.args.items.now c.loop-item.item-index c.item-item.result c.loop-item-test.true
    c.item-item.is c.loop-item.invariant c.in-Some.service (sym c.service_in.ensures ∙ c.in-Some.is)

pub loop-item-preserved : goal.loop-item-preserved
loop-item-preserved c =
    none_service (program_tree c.args.accepted.now) c.args.object c.args.items.now c.loop-item.item-index c.item-item.result c.loop-item-test.true
    c.item-item.is c.loop-item.invariant (sym c.service_in.ensures ∙ c.in_default.is)
