use Rattle.std.proofs.Common.{◌≡◌, ◌+◌, ◌-◌, ◌≤◌, Some, None, inl, inr, arith, rules, subst, ◌∙◌, ⊎_elim}
use Rattle.kernel.specs.State as kernel
use Rattle.tasking.specs.Held.{kernel_of}
use Rattle.execution.specs.Held.{Leads, lines_of}
use Rattle.machine.proofs.Runs.{Ran, broken_line, ran_line, ran_none, ran_nothing, ran_over}
use Rattle.machine.proofs.running.Machine.run_on.Goals as goal

pub loop-left-init : goal.loop-left-init
loop-left-init g c =
    let none : 0 ≡ c.args.limit - c.args.limit = omega arith in (
      subst (λ n. Ran c.args.self.now.image c.args.self.now.schedule n c.args.self.now (g.S.Sink.bytes c.args.sink.now) (g.S.Sink.bytes c.args.sink.now) (g.S.Sink.failures c.args.sink.now) (g.S.Sink.failures c.args.sink.now)) none
          (ran_nothing c.left_unmoved.ensures c.args.self.now (g.S.Sink.bytes c.args.sink.now) (g.S.Sink.failures c.args.sink.now) c.requires.stands),
      omega arith,
      omega arith,
    )

pub loop-left-preserved : goal.loop-left-preserved
loop-left-preserved g c =
    let low = c.loop-left.invariant.1 in
    let fewer = c.advance-advance.ensures.left in
    let left = c.loop-left.left in
    let next = c.advance-advance.result.left in
    let sum : (c.args.limit - left) + (left - next) ≡ c.args.limit - next = omega (arith, low, fewer) in
    let leads = subst (λ h. Leads (left - next) h c.advance-advance.new.self (lines_of h.image c.advance-advance.result.line)) c.self.view_is c.advance-advance.ensures.leads in
    let some : c.advance-advance.result.line ≡ Some c.in-Some.line = search rules in
    let told = subst (λ l. Leads (left - next) c.loop-left.self c.advance-advance.new.self (lines_of c.loop-left.self.image l)) some leads in (
      subst (λ n. Ran c.args.self.now.image c.args.self.now.schedule n c.advance-advance.new.self (g.S.Sink.bytes c.args.sink.now) (g.S.Sink.bytes c.write_all.new.sink) (g.S.Sink.failures c.args.sink.now) (g.S.Sink.failures c.write_all.new.sink)) sum
          (ran_line _ _ _ _ _ _ _ _ _ c.loop-left.invariant.0 (left - next) c.in-Some.line told _ (c.as_slice.ensures.value ∙ c.text_of-text.ensures) _ _ c.in-Ok.ensures.whole c.in-Ok.ensures.kept),
      omega (arith, low, fewer),
      omega (arith, low, fewer, c.loop-left.invariant.2, c.advance-advance.ensures.count),
    )

pub returns-in-Err-clause-beginning : goal.returns-in-Err-clause-beginning
returns-in-Err-clause-beginning g c =
    let low = c.loop-left.invariant.1 in
    let fewer = c.advance-advance.ensures.left in
    let left = c.loop-left.left in
    let next = c.advance-advance.result.left in
    let leads = subst (λ h. Leads (left - next) h c.advance-advance.new.self (lines_of h.image c.advance-advance.result.line)) c.self.view_is c.advance-advance.ensures.leads in
    let some : c.advance-advance.result.line ≡ Some c.in-Some.line = search rules in
    let told = subst (λ l. Leads (left - next) c.loop-left.self c.advance-advance.new.self (lines_of c.loop-left.self.image l)) some leads in
    let within : (c.args.limit - left) + (left - next) ≤ c.args.limit = omega (arith, low, fewer) in
    broken_line _ _ _ _ _ _ _ _ _ c.loop-left.invariant.0 (left - next) c.in-Some.line told _ (c.as_slice.ensures.value ∙ c.text_of-text.ensures) c.lines_grow_on.ensures c.args.limit within _ c.in-Err.ensures.beginning

pub returns-in-None-clause-lines : goal.returns-in-None-clause-lines
returns-in-None-clause-lines g c =
    let low = c.loop-left.invariant.1 in
    let fewer = c.advance-advance.ensures.left in
    let left = c.loop-left.left in
    let next = c.advance-advance.result.left in
    let sum : (c.args.limit - left) + (left - next) ≡ c.args.limit - next = omega (arith, low, fewer) in
    let within : c.args.limit - next ≤ c.args.limit = omega arith in
    let none : c.advance-advance.result.line ≡ None = search rules in
    let leads = subst (λ h. Leads (left - next) h c.advance-advance.new.self (lines_of h.image c.advance-advance.result.line)) c.self.view_is c.advance-advance.ensures.leads in
    let quiet = subst (λ l. Leads (left - next) c.loop-left.self c.advance-advance.new.self (lines_of c.loop-left.self.image l)) none leads in
    let ran =
    subst (λ n. Ran c.args.self.now.image c.args.self.now.schedule n c.advance-advance.new.self (g.S.Sink.bytes c.args.sink.now) (g.S.Sink.bytes c.loop-left.sink) (g.S.Sink.failures c.args.sink.now) (g.S.Sink.failures c.loop-left.sink)) sum
    (ran_none _ _ _ _ _ _ _ _ _ c.loop-left.invariant.0 (left - next) quiet) in
    let why =
    ⊎_elim
    (λ (z : next ≡ 0). let at : c.args.limit - next ≡ c.args.limit = omega (arith, z) in inl at)
    (λ (o : (e : kernel.Outcome) × ((kernel_of c.advance-advance.new.self.tasking).outcome ≡ Some e)). inr o)
    (c.advance-advance.ensures.stops none) in
    (ran_over c.outcome_stays.ensures _ _ _ c.args.limit _ _ _ _ _ ran within why _ c.outcome_or_limit.ensures).written

pub returns-in-None-clause-ends : goal.returns-in-None-clause-ends
returns-in-None-clause-ends g c =
    let low = c.loop-left.invariant.1 in
    let fewer = c.advance-advance.ensures.left in
    let left = c.loop-left.left in
    let next = c.advance-advance.result.left in
    let sum : (c.args.limit - left) + (left - next) ≡ c.args.limit - next = omega (arith, low, fewer) in
    let within : c.args.limit - next ≤ c.args.limit = omega arith in
    let none : c.advance-advance.result.line ≡ None = search rules in
    let leads = subst (λ h. Leads (left - next) h c.advance-advance.new.self (lines_of h.image c.advance-advance.result.line)) c.self.view_is c.advance-advance.ensures.leads in
    let quiet = subst (λ l. Leads (left - next) c.loop-left.self c.advance-advance.new.self (lines_of c.loop-left.self.image l)) none leads in
    let ran =
    subst (λ n. Ran c.args.self.now.image c.args.self.now.schedule n c.advance-advance.new.self (g.S.Sink.bytes c.args.sink.now) (g.S.Sink.bytes c.loop-left.sink) (g.S.Sink.failures c.args.sink.now) (g.S.Sink.failures c.loop-left.sink)) sum
    (ran_none _ _ _ _ _ _ _ _ _ c.loop-left.invariant.0 (left - next) quiet) in
    let why =
    ⊎_elim
    (λ (z : next ≡ 0). let at : c.args.limit - next ≡ c.args.limit = omega (arith, z) in inl at)
    (λ (o : (e : kernel.Outcome) × ((kernel_of c.advance-advance.new.self.tasking).outcome ≡ Some e)). inr o)
    (c.advance-advance.ensures.stops none) in
    (ran_over c.outcome_stays.ensures _ _ _ c.args.limit _ _ _ _ _ ran within why _ c.outcome_or_limit.ensures).ends

pub returns-in-Err-clause-count : goal.returns-in-Err-clause-count
returns-in-Err-clause-count g c =
    omega (arith, c.loop-left.invariant.1, c.loop-left.invariant.2, c.advance-advance.ensures.left, c.advance-advance.ensures.count)

pub returns-in-None-clause-count : goal.returns-in-None-clause-count
returns-in-None-clause-count g c =
    omega (arith, c.loop-left.invariant.1, c.loop-left.invariant.2, c.advance-advance.ensures.left, c.advance-advance.ensures.count)

pub returns-clause-count : goal.returns-clause-count
returns-clause-count g c = omega (arith, c.loop-left.invariant.1, c.loop-left.invariant.2)
