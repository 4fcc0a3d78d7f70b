use Rattle.std.proofs.Common.{◌≡◌, ◌<◌, length, ap, ◌∙◌, sym, subst, drop, [], get_or, true}
use Rattle.dispatch.specs.Queues.{highest, is_occupied, without_head}
use Rattle.dispatch.proofs.Lists.{highest_full, occupied_length, put_queue, queue_at, where_some, within}
use Rattle.dispatch.proofs.list_ready.ListReadyReady.take_highest.Goals as goal

occupied : (c : goal.After-pop_at) → is_occupied (get_or c.args.self.now c.in_ok-priority.priority []) ≡ true
unfolding highest
occupied c = highest_full (λ n. get_or c.args.self.now n []) 32 c.in_ok-priority.priority (sym c.in_ok-priority.ensures.same)

pub returns-clause-left : goal.returns-clause-left
returns-clause-left c p =
    let priority = c.in_ok-priority.priority in
    let below = within (λ l. l.items) c.self.inside.lists c.args.self.now 32 priority c.self.view_is c.self.invariant c.in_ok-priority.ensures.below in
    let here = queue_at (λ l. l.items) c.self.inside.lists c.args.self.now c.from.result priority c.index-self-from.result c.self.view_is c.from.ensures below in
    let some = c.pop_at.ensures.variant.1 (subst (λ l. 0 < length l) (sym here) (occupied_length (get_or c.args.self.now priority []) (occupied c))) in
    put_queue (λ l. l.items) c.self.inside.lists c.args.self.now c.from.result priority _ _ p c.self.view_is c.from.ensures below
    (where_some c.pop_at.result some c.pop_at.ensures.items ∙ ap (drop 1) here)
    ∙ ap (λ q. without_head q (λ n. get_or c.args.self.now n []) p) c.in_ok-priority.ensures.same
