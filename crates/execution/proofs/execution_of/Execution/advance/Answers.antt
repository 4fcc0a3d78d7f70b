use Rattle.std.proofs.Common.{◌≡◌, ◌+◌, ◌-◌, [], None, arith, rules, subst}
use Rattle.execution.specs.Held.{Leads, lines_of}
use Rattle.execution.proofs.Leading.{leads_on}
use Rattle.execution.proofs.execution_of.Execution.advance.Goals as goal

pub returns-then-is_some-clause-leads : goal.returns-then-is_some-clause-leads
returns-then-is_some-clause-leads g c =
    let led = c.loop-left.invariant.0 in
    let low = c.loop-left.invariant.1 in
    let fewer = c.advance_task-advance.ensures.left in
    let left = c.loop-left.left in
    let next = c.advance_task-advance.result.left in
    let sum : (c.args.limit - left) + (left - next) ≡ c.args.limit - next = omega (arith, low, fewer) in
    subst (λ n. Leads n c.args.self.now c.advance_task-advance.new.self (lines_of c.args.self.now.image c.advance_task-advance.result.line)) sum
    (leads_on (c.args.limit - left) (left - next) c.args.self.now c.loop-left.self c.advance_task-advance.new.self _ led
    (subst (λ i. Leads (left - next) c.loop-left.self c.advance_task-advance.new.self (lines_of i c.advance_task-advance.result.line)) led.image c.advance_task-advance.ensures.leads))

pub loop-left-preserved : goal.loop-left-preserved
loop-left-preserved g c =
    let led = c.loop-left.invariant.0 in
    let low = c.loop-left.invariant.1 in
    let fewer = c.advance_task-advance.ensures.left in
    let left = c.loop-left.left in
    let next = c.advance_task-advance.result.left in
    let sum : (c.args.limit - left) + (left - next) ≡ c.args.limit - next = omega (arith, low, fewer) in
    let none : c.advance_task-advance.result.line ≡ None = search rules in (
      subst (λ n. Leads n c.args.self.now c.advance_task-advance.new.self []) sum
          (leads_on (c.args.limit - left) (left - next) c.args.self.now c.loop-left.self c.advance_task-advance.new.self [] led
          (subst (λ l. Leads (left - next) c.loop-left.self c.advance_task-advance.new.self (lines_of c.loop-left.self.image l)) none c.advance_task-advance.ensures.leads)),
      omega (arith, low, fewer),
      omega (arith, low, fewer, c.loop-left.invariant.2, c.advance_task-advance.ensures.count),
    )

pub returns-then-is_some-clause-count : goal.returns-then-is_some-clause-count
returns-then-is_some-clause-count g c =
    omega (arith, c.loop-left.invariant.1, c.loop-left.invariant.2, c.advance_task-advance.ensures.left, c.advance_task-advance.ensures.count)
