use Rattle.std.proofs.Common.{rules, ◌≡◌, ◌≤◌, Some, length, subst, sym, ◌∙◌}
use Rattle.image.specs.Frames.{Opened}
use Rattle.image.specs.Operations.{called, parameters_of}
use Rattle.image.specs.Steps.{enters, with_frame_left}
use Rattle.kernel.specs.Effects.{call_refusal}
use Rattle.processor.specs.Decoding.{words_in}
use Rattle.task_steps.specs.Acting.{effect_of}
use Rattle.task_steps.specs.Stepping.{IsExternal, opening}
use Rattle.tasking.specs.Held.{kernel_of}
use Rattle.task_steps.proofs.CallSteps.{calls_external, is_not_refused, is_refused}
use Rattle.task_steps.proofs.calls.protected_call.Goals as goal

pub returns-then-is_some-clause-does : goal.returns-then-is_some-clause-does
returns-then-is_some-clause-does g c = λ schedule.
    let i = c.args.program.now in
    let k = kernel_of c.args.tasking.now in
    let m = words_in i c.args.memory.now.shared in
    let f = c.args.state.now.task.frame in
    let fs = c.args.state.now.task.callers in
    let s = c.in-Some.subprogram in
    let o = c.external_object-object.result in
    let there : called i c.args.number ≡ Some s = search rules in
    let enough = subst (λ v. parameters_of v ≤ length f.stack) there c.requires.here.there in
    let external = subst (IsExternal i) there c.requires.here.callee.1 in
    calls_external i schedule k c.args.task m f fs c.args.number o s there enough external c.external_object-object.ensures
    ∙ (is_refused i schedule k c.args.task m f fs (call_refusal k c.args.task o) c.call_refusal.result _ c.call_refusal.ensures (search rules) ∙ c.raise_predefined.ensures.does)

pub returns-clause-does : goal.returns-clause-does
returns-clause-does g c = λ schedule.
    let i = c.args.program.now in
    let k = kernel_of c.args.tasking.now in
    let m = words_in i c.args.memory.now.shared in
    let f = c.args.state.now.task.frame in
    let fs = c.args.state.now.task.callers in
    let s = c.in-Some.subprogram in
    let o = c.external_object-object.result in
    let there : called i c.args.number ≡ Some s = search rules in
    let enough = subst (λ v. parameters_of v ≤ length f.stack) there c.requires.here.there in
    let external = subst (IsExternal i) there c.requires.here.callee.1 in
    calls_external i schedule k c.args.task m f fs c.args.number o s there enough external c.external_object-object.ensures
    ∙ (is_not_refused i schedule k c.args.task m f fs (call_refusal k c.args.task o) c.call_refusal.result (with_frame_left i schedule k c.args.task m f fs (enters i schedule k c.args.task m f fs (effect_of i (opening s.kind o)) (Opened o) c.args.number s)) c.call_refusal.ensures (search rules)
    ∙ (sym (λ j. with_frame_left i schedule k c.args.task m f fs (enters i schedule k c.args.task m f fs (effect_of i (c.opening-effect.ensures j)) (Opened (c.from.ensures j)) c.args.number s))
    ∙ c.enter.ensures.does schedule k c.args.task (sym c.is_task-is_task.ensures)))
