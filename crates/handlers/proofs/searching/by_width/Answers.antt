use Rattle.std.proofs.Common.{◌≡◌, IsPermutation, rules, subst}
use Rattle.std.specs.List.Sorted.{IsStableByKey}
use Rattle.std.specs.Ordering.{nat_cmp}
use Rattle.std.proofs.lemmas.Fn.{always_returns_same}
use Rattle.std.proofs.lemmas.List.Sorted.{IsNonDecreasingBy-from_sort_by_key}
use Rattle.handlers.specs.Innermost.{width}
use Rattle.handlers.proofs.searching.by_width.Goals as goal

pub returns-clause-moved : goal.returns-clause-moved
returns-clause-moved c = subst (λ rows. IsPermutation rows c.sort_by_key.new.self.items) c.in_ok-sorted.ensures c.sort_by_key.ensures.permutation

pub returns-clause-sorted : goal.returns-clause-sorted
returns-clause-sorted c = IsNonDecreasingBy-from_sort_by_key width _ c.in_ok-sort_by_key.ensures.sorted (λ a r q k. search rules)

pub returns-clause-stable : goal.returns-clause-stable
returns-clause-stable c =
    subst (λ rows. IsStableByKey width nat_cmp rows c.sort_by_key.new.self.items) c.in_ok-sorted.ensures
    (c.sort_by_key.ensures.stable width (always_returns_same _ (λ a r. r ≡ width a.0.now) _ (λ a r f k. search rules)))
