use Rattle.std.proofs.Common.{sym}
use Rattle.tasking.specs.Held.{kernel_of}
use Rattle.task_steps.proofs.operations.operate.Goals as goal

pub returns-in-Call-clause-does : goal.returns-in-Call-clause-does
returns-in-Call-clause-does g c = rw c.in-Call.is (c.call.ensures.does c.args.schedule.now (kernel_of c.args.tasking.now) c.args.task (sym c.is_task.ensures))

pub returns-in-Return-clause-does : goal.returns-in-Return-clause-does
returns-in-Return-clause-does g c = rw c.in-Return.is (c.leave.ensures.does c.args.schedule.now (kernel_of c.args.tasking.now) c.args.task)

pub returns-in-CheckBlocking-clause-does : goal.returns-in-CheckBlocking-clause-does
returns-in-CheckBlocking-clause-does g c = rw c.in-CheckBlocking.is (c.check_blocking.ensures.does c.args.schedule.now)

pub returns-in-DelayUntil-clause-does : goal.returns-in-DelayUntil-clause-does
returns-in-DelayUntil-clause-does g c = rw c.in-DelayUntil.is (c.delay_until.ensures.does c.args.schedule.now)

pub returns-in-PutLine-clause-does : goal.returns-in-PutLine-clause-does
returns-in-PutLine-clause-does g c = rw c.in-PutLine.is (c.put_line.ensures.does c.args.schedule.now (kernel_of c.args.tasking.now) c.args.task)

pub returns-in-Clock-clause-does : goal.returns-in-Clock-clause-does
returns-in-Clock-clause-does g c = rw c.in-Clock.is (c.clock.ensures.does c.args.schedule.now c.args.task)
