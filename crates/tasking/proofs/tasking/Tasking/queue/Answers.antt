use Rattle.std.proofs.Common.{ap, ◌∙◌}
use Rattle.kernel.specs.Clock.{clock}
use Rattle.kernel.specs.Dispatching.{dispatch}
use Rattle.kernel.specs.Effects.{is_full, queues}
use Rattle.tasking.proofs.tasking.Tasking.queue.Goals as goal

pub queues-requires-clause-room : goal.queues-requires-clause-room
queues-requires-clause-room g c = ap (λ k. is_full k c.args.object) c.leaves.ensures.moved ∙ c.requires.room

pub returns : goal.returns
returns g c = c.settle.ensures ∙ ap (λ k. clock (dispatch k)) (c.queues.ensures ∙ ap (queues c.args.task c.args.object) c.leaves.ensures.moved)
