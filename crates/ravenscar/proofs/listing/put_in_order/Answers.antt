use Rattle.std.proofs.Common.{rules, ◌≡◌}
use Rattle.std.proofs.lemmas.Fn.{always_returns_same}
use Rattle.std.proofs.lemmas.List.Filters.{dedup_is}
use Rattle.std.proofs.lemmas.List.Kept.{Contains-dedup, Contains-from_dedup}
use Rattle.std.proofs.lemmas.List.Sorted.{Contains-permutation, IsPermutation-sym}
use Rattle.ravenscar.proofs.Ordered.{is_same, key, put_in_order, same_is_equal, equivalence}
use Rattle.ravenscar.proofs.listing.put_in_order.Goals as goal

pub returns-clause-ordered : goal.returns-clause-ordered
returns-clause-ordered c =
    let is = dedup_is _ _ _ c.dedup.ensures.filtered in
    let sorted = c.sort_unstable_by_key.ensures.sorted key (always_returns_same _ (λ a r. r ≡ key a.0.now) _ (λ a r q k. search rules)) in
    rw is (put_in_order is_same same_is_equal equivalence.refl _ sorted)

pub returns-clause-given : goal.returns-clause-given
returns-clause-given c =
    let is = dedup_is _ _ _ c.dedup.ensures.filtered in
    let moved = c.sort_unstable_by_key.ensures.permutation in
    λ f h. Contains-permutation _ _ f (IsPermutation-sym _ _ moved) (Contains-from_dedup is_same _ f (rw is at h))

pub returns-clause-kept : goal.returns-clause-kept
returns-clause-kept c =
    let is = dedup_is _ _ _ c.dedup.ensures.filtered in
    λ f h. rw is (Contains-dedup equivalence same_is_equal _ f (Contains-permutation _ _ f c.sort_unstable_by_key.ensures.permutation h))
