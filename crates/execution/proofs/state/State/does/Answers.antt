use Rattle.std.proofs.Common.{◌≡◌, of_z, rules, to_z, w64, refl, ap, ◌∙◌}
use Rattle.kernel.specs.Effects.{Delays, after}
use Rattle.task_steps.specs.Acting.{effect_of}
use Rattle.tasking.specs.Held.{kernel_of}
use Rattle.execution.specs.Held.{line_of}
use Rattle.execution.proofs.Settle.{does_effect, does_line, does_nothing}
use Rattle.execution.proofs.state.State.does.Goals as goal

pub returns-in-Quiet-clause-does : goal.returns-in-Quiet-clause-does
returns-in-Quiet-clause-does g c =
    does_nothing c.args.self.now c.args.task c.args.act c.runner_is_calm.ensures c.quiet_stays.ensures c.requires.owes (ap (effect_of c.args.self.now.image) c.in-Quiet.is)

pub returns-in-Says-clause-does : goal.returns-in-Says-clause-does
returns-in-Says-clause-does g c =
    let back : to_z w64 (of_z w64 c.in-Says.value) ≡ c.in-Says.value = search rules in
    does_line c.args.self.now c.args.task c.args.act c.runner_is_calm.ensures c.says_on.ensures c.requires.owes _ c.in-Says.value
    (ap (effect_of c.args.self.now.image) c.in-Says.is) _ back (line_of c.args.self.now.image c.line.result) (ap (line_of c.args.self.now.image) c.line.ensures)

pub returns-in-Finishes-clause-does : goal.returns-in-Finishes-clause-does
returns-in-Finishes-clause-does g c =
    does_effect c.args.self.now c.args.task c.args.act c.finish.new.self _ _ c.self.view_is c.finish.ensures (ap (effect_of c.args.self.now.image) c.in-Finishes.is) refl refl

pub returns-in-Breaks-clause-does : goal.returns-in-Breaks-clause-does
returns-in-Breaks-clause-does g c =
    does_effect c.args.self.now c.args.task c.args.act c.break_off.new.self _ _ c.self-in-Breaks.view_is (c.break_off.ensures c.args.task) (ap (effect_of c.args.self.now.image) c.in-Breaks.is) refl refl

pub returns-in-Delays-clause-does : goal.returns-in-Delays-clause-does
returns-in-Delays-clause-does g c =
    let back : to_z w64 (of_z w64 c.in-Delays.until) ≡ c.in-Delays.until = search rules in
    does_effect c.args.self.now c.args.task c.args.act c.delay_until.new.self _ (Delays c.in-Delays.until) c.self-in-Delays.view_is
    (c.delay_until.ensures ∙ ap (λ z. after c.args.task (Delays z) (kernel_of c.self-in-Delays.inside.tasking)) back) (ap (effect_of c.args.self.now.image) c.in-Delays.is) refl refl

pub returns-in-Opens-clause-does : goal.returns-in-Opens-clause-does
returns-in-Opens-clause-does g c =
    does_effect c.args.self.now c.args.task c.args.act c.open_to_write.new.self _ _ c.self-in-Opens.view_is c.open_to_write.ensures (ap (effect_of c.args.self.now.image) c.in-Opens.is) refl refl

pub returns-in-Views-clause-does : goal.returns-in-Views-clause-does
returns-in-Views-clause-does g c =
    does_effect c.args.self.now c.args.task c.args.act c.open_to_read.new.self _ _ c.self-in-Views.view_is c.open_to_read.ensures (ap (effect_of c.args.self.now.image) c.in-Views.is) refl refl

pub returns-in-Queues-clause-does : goal.returns-in-Queues-clause-does
returns-in-Queues-clause-does g c =
    does_effect c.args.self.now c.args.task c.args.act c.queue.new.self _ _ c.self-in-Queues.view_is c.queue.ensures (ap (effect_of c.args.self.now.image) c.in-Queues.is) refl refl

pub returns-in-Dies-clause-does : goal.returns-in-Dies-clause-does
returns-in-Dies-clause-does g c =
    does_effect c.args.self.now c.args.task c.args.act c.die.new.self _ _ c.self-in-Dies.view_is c.die.ensures (ap (effect_of c.args.self.now.image) c.in-Dies.is) refl refl
