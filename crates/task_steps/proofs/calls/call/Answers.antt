use Rattle.std.proofs.Common.{rules, ◌≡◌, ◌≤◌, Some, length, subst, ◌∙◌}
use Rattle.image.specs.Operations.{called, parameters_of}
use Rattle.processor.specs.Decoding.{words_in}
use Rattle.processor.proofs.PlainCalls.{calls}
use Rattle.task_steps.proofs.calls.call.Goals as goal

pub returns-clause-does : goal.returns-clause-does
returns-clause-does c = λ schedule k t as_own.
    let i = c.args.program.now in
    let there : called i c.args.number ≡ Some c.in-Some.subprogram = search rules in
    calls i schedule k t (words_in i c.args.memory.now.shared) c.args.state.now.task.frame c.args.state.now.task.callers c.args.number c.in-Some.subprogram there (subst (λ o. parameters_of o ≤ length c.args.state.now.task.frame.stack) there c.requires.here.there)
    ∙ c.enter.ensures.does schedule k t as_own
