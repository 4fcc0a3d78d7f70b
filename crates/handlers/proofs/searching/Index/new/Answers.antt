use Rattle.std.proofs.Common.{sym, ap, ◌∙◌, subst}
use Rattle.handlers.specs.Searching.{AreByWidth, IsIndex, candidates_of, rows_in}
use Rattle.handlers.proofs.Indexed.{index}
use Rattle.handlers.proofs.Ordered.{in_order}
use Rattle.handlers.proofs.Searched.{rows_of_candidates}
use Rattle.handlers.proofs.searching.Index.new.Goals as goal

pub invariant_of-result : goal.invariant_of-result
invariant_of-result c =
    let sorted = c.in_ok-sorted.ensures in
    let edges = c.in_ok-edges.ensures ∙ c.deref.ensures.value in
    subst (λ e. IsIndex e c.in_ok-pieces.field-0.items c.in_ok-candidates.field-0.items) (sym edges)
    (index c.args.rows.now c.in_ok-sorted.sorted.items c.requires.nested c.requires.covering sorted.moved sorted.sorted c.in_ok-places.places.items c.in_ok-places.ensures _ _ _ _
    c.deref-2.ensures.value c.deref-3.ensures.value c.in_ok-pieces.ensures (c.in_ok-candidates.ensures ∙ ap (candidates_of 0) c.deref-4.ensures.value))

pub returns : goal.returns
returns c =
    let sorted = c.in_ok-sorted.ensures in
    subst (AreByWidth c.args.rows.now) (sym (ap rows_in (c.in_ok-candidates.ensures ∙ ap (candidates_of 0) c.deref-4.ensures.value) ∙ rows_of_candidates 0 c.in_ok-sorted.sorted.items))
    (in_order c.args.rows.now c.in_ok-sorted.sorted.items sorted.moved sorted.sorted sorted.stable)
