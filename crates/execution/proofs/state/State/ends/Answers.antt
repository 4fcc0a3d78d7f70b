use Rattle.std.proofs.Common.{◌≡◌, ◌+◌, ℕ, [], Bool, length, sym, ap, subst, ◌∙◌}
use Rattle.image.specs.Rules.{IsWellFormed}
use Rattle.kernel.specs.Effects.{Ends, after, ending_of}
use Rattle.kernel.specs.Worlds.{is_handler_over}
use Rattle.task_steps.specs.Acting.{given_of}
use Rattle.task_steps.specs.declared.acts.Act.{Act}
use Rattle.task_steps.specs.declared.acts.Effect.TheVariants as acts
use Rattle.tasking.specs.Held.{ending_as, kernel_of}
use Rattle.tasking.specs.declared.reports.Ending.{Ending as Left}
use Rattle.execution.specs.Held.{HeldWorld}
use Rattle.execution.specs.Settling.{CanReceive, CanServe, KernelDoes, given_tasks, served_tasks}
use Rattle.execution.proofs.Ending.{can_receive, can_serve, caller_of, served_goes_on}
use Rattle.execution.proofs.RowsOf.{tasks_count}
use Rattle.execution.proofs.Settle.{does_give, does_seen, does_serve}
use Rattle.execution.proofs.Tasks.{there_in}
use Rattle.execution.proofs.state.State.ends.Goals as goal

-- how the action ends, by what is told of it
ending_is : (view h : HeldWorld) (t : ℕ) (b : Bool) (told e : Left) → view ≡ h
    → ending_as told ≡ ending_of b ((kernel_of view.tasking).actions t) (kernel_of view.tasking).queued → told ≡ e
    → ending_of b ((kernel_of h.tasking).actions t) (kernel_of h.tasking).queued ≡ ending_as e
ending_is view h t b told e same is named =
    ap {A = HeldWorld} (λ n. ending_of b ((kernel_of n.tasking).actions t) (kernel_of n.tasking).queued) (sym same) ∙ (sym is ∙ ap ending_as named)

pub serves-requires : goal.serves-requires
serves-requires g c =
    let now = c.args.self.now in
    let w = subst (λ h. IsWellFormed h.image) c.self.view_is c.self.invariant.0 in
    let size = subst (λ h. length h.tasks ≡ length h.image.tasks + 1) c.self.view_is (tasks_count c.self.inside.tasks.items ∙ c.self.invariant.1) in
    let there = there_in _ now c.args.task _ c.self.view_is c.handler-handler.ensures.same c.handler-handler.ensures.running c.requires.whole.partition c.requires.runs.running in
    let is = ending_is _ now c.args.task c.args.is_open _ _ c.self.view_is c.end_action-ended.ensures.ending c.in-TakesOver.is in
    subst (λ h. CanServe h.image h.tasks c.args.task c.in-TakesOver.object c.in-TakesOver.caller) (sym c.self.view_is)
    (can_serve c.reaches_callers.ensures c.steps_whole.ensures.owes c.code_leads_on.ensures.leads_on c.code_leads_on.ensures.size now w size c.args.task there c.args.is_open
    c.args.given c.requires c.in-TakesOver.object c.in-TakesOver.caller is)

pub hands_back-requires : goal.hands_back-requires
hands_back-requires g c =
    let now = c.args.self.now in
    let w = subst (λ h. IsWellFormed h.image) c.self.view_is c.self.invariant.0 in
    let size = subst (λ h. length h.tasks ≡ length h.image.tasks + 1) c.self.view_is (tasks_count c.self.inside.tasks.items ∙ c.self.invariant.1) in
    let there = there_in _ now c.args.task _ c.self.view_is c.handler-handler.ensures.same c.handler-handler.ensures.running c.requires.whole.partition c.requires.runs.running in
    let is = ending_is _ now c.args.task c.args.is_open _ _ c.self.view_is c.end_action-ended.ensures.ending c.in-HandsBack.is in
    subst (λ h. CanReceive h.image h.tasks c.in-HandsBack.caller (given_of h.memory.passed c.args.given)) (sym c.self.view_is)
    (can_receive c.reaches_callers.ensures c.steps_whole.ensures.owes c.code_leads_on.ensures.leads_on c.code_leads_on.ensures.size now w size c.args.task there c.args.is_open
    c.args.given c.requires c.in-HandsBack.caller is)

pub returns-in-Closes : goal.returns-in-Closes
returns-in-Closes g c =
    let now = c.args.self.now in
    let a : Act = record { effect = acts.Ends c.args.is_open; given = c.args.given } in
    let kernel = c.end_action-ended.ensures.kernel ∙ ap (λ h. after c.args.task (Ends c.args.is_open) (kernel_of h.tasking)) c.self.view_is in
    let over = c.end_action-ended.ensures.over ∙ ap (λ h. is_handler_over (kernel_of h.tasking) c.args.task (Ends c.args.is_open)) c.self.view_is in
    let is = ending_is _ now c.args.task c.args.is_open _ _ c.self.view_is c.end_action-ended.ensures.ending c.in-Closes.is in
    does_seen now c.args.task a c.end_action-ended.new.self _ c.end_action-ended.result.is_over c.self.view_is over kernel is

pub returns-in-TakesOver : goal.returns-in-TakesOver
returns-in-TakesOver g c =
    let now = c.args.self.now in
    let a : Act = record { effect = acts.Ends c.args.is_open; given = c.args.given } in
    let w = subst (λ h. IsWellFormed h.image) c.self.view_is c.self.invariant.0 in
    let size = subst (λ h. length h.tasks ≡ length h.image.tasks + 1) c.self.view_is (tasks_count c.self.inside.tasks.items ∙ c.self.invariant.1) in
    let there = there_in _ now c.args.task _ c.self.view_is c.handler-handler.ensures.same c.handler-handler.ensures.running c.requires.whole.partition c.requires.runs.running in
    let kernel = c.end_action-ended.ensures.kernel ∙ ap (λ h. after c.args.task (Ends c.args.is_open) (kernel_of h.tasking)) c.self.view_is in
    let over = c.end_action-ended.ensures.over ∙ ap (λ h. is_handler_over (kernel_of h.tasking) c.args.task (Ends c.args.is_open)) c.self.view_is in
    let is = ending_is _ now c.args.task c.args.is_open _ _ c.self.view_is c.end_action-ended.ensures.ending c.in-TakesOver.is in
    let can = can_serve c.reaches_callers.ensures c.steps_whole.ensures.owes c.code_leads_on.ensures.leads_on c.code_leads_on.ensures.size now w size c.args.task there
    c.args.is_open c.args.given c.requires c.in-TakesOver.object c.in-TakesOver.caller is in
    let x = c.end_action-ended.new.self in
    let whole = c.serves.ensures ∙ ap {A = HeldWorld} (λ h. record h { tasking = x; tasks = served_tasks h.image h.tasks c.args.task c.in-TakesOver.object c.in-TakesOver.caller }) c.self.view_is in
    subst (λ n. KernelDoes now n c.args.task a c.end_action-ended.result.is_over []) (sym whole)
    (does_serve now c.args.task a x c.end_action-ended.result.is_over there over size kernel c.in-TakesOver.object c.in-TakesOver.caller is can
    (served_goes_on (kernel_of now.tasking) c.args.task c.args.is_open c.in-TakesOver.object c.in-TakesOver.caller is))

pub returns-in-HandsBack : goal.returns-in-HandsBack
returns-in-HandsBack g c =
    let now = c.args.self.now in
    let a : Act = record { effect = acts.Ends c.args.is_open; given = c.args.given } in
    let w = subst (λ h. IsWellFormed h.image) c.self.view_is c.self.invariant.0 in
    let size = subst (λ h. length h.tasks ≡ length h.image.tasks + 1) c.self.view_is (tasks_count c.self.inside.tasks.items ∙ c.self.invariant.1) in
    let there = there_in _ now c.args.task _ c.self.view_is c.handler-handler.ensures.same c.handler-handler.ensures.running c.requires.whole.partition c.requires.runs.running in
    let kernel = c.end_action-ended.ensures.kernel ∙ ap (λ h. after c.args.task (Ends c.args.is_open) (kernel_of h.tasking)) c.self.view_is in
    let over = c.end_action-ended.ensures.over ∙ ap (λ h. is_handler_over (kernel_of h.tasking) c.args.task (Ends c.args.is_open)) c.self.view_is in
    let is = ending_is _ now c.args.task c.args.is_open _ _ c.self.view_is c.end_action-ended.ensures.ending c.in-HandsBack.is in
    let who = caller_of c.reaches_callers.ensures c.steps_whole.ensures.owes c.code_leads_on.ensures.leads_on c.code_leads_on.ensures.size now w size c.args.task there
    c.args.is_open c.args.given c.requires c.in-HandsBack.caller is in
    let x = c.end_action-ended.new.self in
    let whole = c.hands_back.ensures ∙ ap {A = HeldWorld} (λ h. record h { tasking = x; tasks = given_tasks h.image h.tasks c.in-HandsBack.caller (given_of h.memory.passed c.args.given) }) c.self.view_is in
    subst (λ n. KernelDoes now n c.args.task a c.end_action-ended.result.is_over []) (sym whole)
    (does_give now c.args.task a x c.end_action-ended.result.is_over there over size kernel c.in-HandsBack.caller is who.0 who.1)
