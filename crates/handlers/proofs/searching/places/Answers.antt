use Rattle.std.proofs.Common.{◌≡◌, ◌++◌, nat_eq, arith, sym, ap, ◌∙◌, subst}
use Rattle.std.specs.List.{Contains, dedup}
use Rattle.std.specs.List.Sorted.{IsStrictlyIncreasing}
use Rattle.std.proofs.lemmas.List.{append-nil, drop_all}
use Rattle.std.proofs.lemmas.List.Filters.{dedup_is}
use Rattle.std.proofs.lemmas.List.Kept.{Contains-dedup_nat, Contains-from_dedup}
use Rattle.std.proofs.lemmas.List.Sorted.{Contains-permutation, IsPermutation-sym}
use Rattle.std.proofs.lemmas.Map.Keys.{IsStrictlyIncreasing-dedup}
use Rattle.handlers.specs.Searching.{starts_and_ends}
use Rattle.handlers.proofs.searching.places.Goals as goal

pub returns : goal.returns
returns c =
    let before : c.loop-row.places.items ≡ starts_and_ends c.args.rows.now =
    sym (append-nil c.loop-row.places.items) ∙ (ap (λ rows. c.loop-row.places.items ++ starts_and_ends rows) (sym (drop_all c.loop-row.row-index c.args.rows.now (omega (arith, c.loop-row-test.false)))) ∙ c.loop-row.invariant) in
    let is : c.dedup.new.self.items ≡ dedup nat_eq c.sort_unstable.new.self.items = dedup_is nat_eq _ _ c.dedup.ensures.filtered in
    record {
      rising = subst IsStrictlyIncreasing (sym is) (IsStrictlyIncreasing-dedup _ c.sort_unstable.ensures.sorted);
      all = λ e has.
          subst (λ xs. Contains xs e) (sym is)
          (Contains-dedup_nat _ e (Contains-permutation _ _ e c.sort_unstable.ensures.permutation (subst (λ xs. Contains xs e) (sym before) has)));
      only = λ e has.
          subst (λ xs. Contains xs e) before
          (Contains-permutation _ _ e (IsPermutation-sym _ _ c.sort_unstable.ensures.permutation) (Contains-from_dedup nat_eq _ e (subst (λ xs. Contains xs e) is has)));
    }
