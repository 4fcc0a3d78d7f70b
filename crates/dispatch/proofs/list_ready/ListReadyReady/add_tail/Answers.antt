use Rattle.std.proofs.Common.{ap, ◌∙◌, ◌++◌, ◌∷◌, []}
use Rattle.dispatch.proofs.Lists.{put_queue, queue_at, within}
use Rattle.dispatch.proofs.list_ready.ListReadyReady.add_tail.Goals as goal

pub returns : goal.returns
returns c p =
    let below = within (λ l. l.items) c.self.inside.lists c.args.self.now 32 c.args.priority c.self.view_is c.self.invariant c.requires.priority in
    put_queue (λ l. l.items) c.self.inside.lists c.args.self.now c.from.result c.args.priority _ _ p c.self.view_is c.from.ensures below
    (c.push.ensures.items
    ∙ ap (λ l. l ++ c.args.task ∷ []) (queue_at (λ l. l.items) c.self.inside.lists c.args.self.now c.from.result c.args.priority _ c.self.view_is c.from.ensures below))
