use Rattle.std.proofs.Common.{IsPermutation, rules, subst}
use Rattle.std.proofs.lemmas.List.Sorted.{IsNonDecreasingBy-from_sort_by_key, IsPermutation-trans}
use Rattle.handlers.proofs.nesting.in_order.Goals as goal

pub returns-clause-moved : goal.returns-clause-moved
returns-clause-moved c =
    subst (λ rows. IsPermutation rows c.sort_by_key-2.new.self.items) c.in_ok-sorted.ensures
    (IsPermutation-trans _ _ _ c.sort_by_key.ensures.permutation c.sort_by_key-2.ensures.permutation)

pub returns-clause-sorted : goal.returns-clause-sorted
returns-clause-sorted c = IsNonDecreasingBy-from_sort_by_key (λ r. r.start) _ c.in_ok-sort_by_key-2.ensures.sorted (λ a r q k. search rules)
