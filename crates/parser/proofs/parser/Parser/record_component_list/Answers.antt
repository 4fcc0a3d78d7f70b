use Rattle.std.proofs.Common.{rules, sym, ◌∙◌}
use Rattle.parser.specs.MoreReading.{is_identifier}
use Rattle.parser.specs.ProgramReading.{component_at}
use Rattle.parser.proofs.general.Lists.{plain_starts_behind, plain_goes, plain_ends, plain_fails}
use Rattle.parser.proofs.programs.Programs.{record_component_turns}
use Rattle.parser.proofs.parser.Parser.record_component_list.Goals as goal

pub loop-self-init : goal.loop-self-init
loop-self-init c =
    plain_starts_behind is_identifier component_at record_component_turns component_at c.args.self.now.rest.now c.in_ok-head.head _ _ _ c.in_ok-head.ensures
    c.new-all.ensures.items c.in_ok-push.ensures.items

pub returns-in_err-next : goal.returns-in_err-next
returns-in_err-next c =
    let failed =
    plain_fails is_identifier component_at record_component_turns c.loop-self.invariant.0 c.loop-self.self.rest.now c.loop-self.all.items _ _
    (sym c.at_identifier.ensures ∙ c.loop-self-test.true) c.in_err-next.ensures c.loop-self.invariant.1 c.loop-self.invariant.2 in search rules

pub loop-self-smaller : goal.loop-self-smaller
loop-self-smaller c = (record_component_turns).shrinks c.loop-self.self.rest.now _ _ c.in_ok-next.ensures

pub loop-self-preserved : goal.loop-self-preserved
loop-self-preserved c =
    plain_goes is_identifier component_at record_component_turns c.loop-self.invariant.0 c.loop-self.self.rest.now c.loop-self.all.items _ c.in_ok-next.next _ _
    c.in_ok-push-2.ensures.items (sym c.at_identifier.ensures ∙ c.loop-self-test.true) c.in_ok-next.ensures c.loop-self.invariant.1 c.loop-self.invariant.2

pub returns : goal.returns
returns c =
    plain_ends is_identifier component_at record_component_turns c.loop-self.invariant.0 c.loop-self.self.rest.now c.loop-self.all.items _
    (sym c.at_identifier.ensures ∙ c.loop-self-test.false) c.loop-self.invariant.2
