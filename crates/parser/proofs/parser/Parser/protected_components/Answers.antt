use Rattle.std.proofs.Common.{rules, sym, ◌∙◌}
use Rattle.ada_tree.specs.StatementTree.{protected_component_tree}
use Rattle.parser.specs.MoreReading.{is_identifier}
use Rattle.parser.specs.DeclarationReading.{protected_component_at}
use Rattle.parser.proofs.general.Lists.{list_starts_empty, list_goes, list_ends, list_fails}
use Rattle.parser.proofs.declarations.Declarations.{component_turns}
use Rattle.parser.proofs.parser.Parser.protected_components.Goals as goal

pub loop-self-init : goal.loop-self-init
loop-self-init c =
    list_starts_empty protected_component_tree is_identifier (protected_component_at c.args.levels) (component_turns c.args.levels) c.args.self.now.rest.now
    c.new-all.result.items c.new-all.ensures.items

pub returns-in_err-next : goal.returns-in_err-next
returns-in_err-next c =
    let failed =
    list_fails protected_component_tree is_identifier (protected_component_at c.args.levels) (component_turns c.args.levels) c.loop-self.invariant.0
    c.loop-self.self.rest.now c.loop-self.all.items _ _ (sym c.at_identifier.ensures ∙ c.loop-self-test.true) c.in_err-next.ensures
    c.loop-self.invariant.1 c.loop-self.invariant.2 in search rules

pub loop-self-smaller : goal.loop-self-smaller
loop-self-smaller c = ((component_turns c.args.levels)).shrinks c.loop-self.self.rest.now _ _ c.in_ok-next.ensures

pub loop-self-preserved : goal.loop-self-preserved
loop-self-preserved c =
    list_goes protected_component_tree is_identifier (protected_component_at c.args.levels) (component_turns c.args.levels) c.loop-self.invariant.0
    c.loop-self.self.rest.now c.loop-self.all.items _ c.in_ok-next.next _ _ c.in_ok-push.ensures.items (sym c.at_identifier.ensures ∙ c.loop-self-test.true)
    c.in_ok-next.ensures c.loop-self.invariant.1 c.loop-self.invariant.2

pub returns : goal.returns
returns c =
    list_ends protected_component_tree is_identifier (protected_component_at c.args.levels) (component_turns c.args.levels) c.loop-self.invariant.0
    c.loop-self.self.rest.now c.loop-self.all.items _ (sym c.at_identifier.ensures ∙ c.loop-self-test.false) c.loop-self.invariant.2
