use Rattle.std.proofs.Common.{rules}
use Rattle.std.proofs.lemmas.List.Sorted.{IsNonDecreasingBy-from_sort_by_key}
use Rattle.clock.proofs.Adding.{sorted_is}
use Rattle.clock.proofs.heap_delays.sort.Goals as goal

pub returns-clause-order : goal.returns-clause-order
returns-clause-order c = sorted_is c.args.entries.now c.sort_unstable_by_key.new.self c.requires c.sort_unstable_by_key.ensures.permutation
    (IsNonDecreasingBy-from_sort_by_key (λ e. e.number) _ c.sort_unstable_by_key.ensures.sorted (λ a r q k. search rules))
