use Rattle.std.proofs.Common.{ap, ◌∙◌, ◌++◌, ℕ, List}
use Rattle.lowering.proofs.Rounds.{lowered_lines, next_round, started}
use Rattle.lowering.proofs.lowering.lower.Goals as goal

pub loop-init : goal.loop-init
loop-init c =
    started c.args.text.now c.extend_from_slice.new.self.items
    (c.in_ok-extend_from_slice.ensures.items ∙ ap (λ (l : List ℕ). l ++ c.args.text.now) c.new-now.ensures.items)

pub returns-in-None-clause-lines : goal.returns-in-None-clause-lines
returns-in-None-clause-lines c = lowered_lines {text = c.args.text.now} {new = c.loop.now.items} c.loop.invariant

pub loop-preserved : goal.loop-preserved
loop-preserved c =
    next_round c.args.text.now c.loop.now.items c.deref.result.now c.in_ok-new.field-0 c.in-Some.new c.loop.invariant c.in_ok-new.ensures c.in-Some.is c.deref.ensures.value
