use Rattle.std.proofs.Common.{◌≡◌, None, [], map, arith, of_z, rules, subst, sym, ap, to_z, w64, ◌∙◌}
use Rattle.tasking.specs.Held.{kernel_of, lists_below}
use Rattle.tasking.specs.Orderly.{IsKeptOrderly}
use Rattle.base.specs.declared.limits.TheConstants.{PRIORITIES}
use Rattle.tasking.proofs.Moves.{seen}
use Rattle.tasking.proofs.Pausing.{copied_kept, held_with, same_kernel, still_kept}
use Rattle.tasking.proofs.tasking.Tasking.copied.Goals as goal

pub invariant_of-result : goal.invariant_of-result
invariant_of-result g c =
    let h = seen c.self.view_is in
    let none = lists_below PRIORITIES (λ p. []) in
    let rows = c.in_order.result.items in
    let kinds = map (λ l. l.items) c.copied_kinds.result in
    let time : to_z w64 (of_z w64 h.time) ≡ h.time = search rules in
    subst (λ t. IsKeptOrderly (held_with h.running h.handler t h.places none rows c.copy.result kinds None [] [])) (sym time)
    (copied_kept h.running h.handler h.time h.places none h.sleepers rows h.objects c.copy.result h.kinds kinds None [] [] c.in_order.ensures
    (c.copy.ensures ∙ ap (λ t. t.objects) c.deref-tables.ensures) (c.copied_kinds.ensures ∙ ap (λ t. map (λ l. l.items) t.kinds) c.deref-tables.ensures)
    (still_kept h.running h.handler h.time h.places h.ready none h.sleepers h.objects h.kinds h.outcome None h.attached [] h.ahead []
    (ap (λ v. v.ready) c.self.view_is ∙ c.requires.ready) c.self.invariant (omega arith) tt))

pub returns-clause-kernel : goal.returns-clause-kernel
returns-clause-kernel g c =
    let h = seen c.self.view_is in
    let none = lists_below PRIORITIES (λ p. []) in
    let rows = c.in_order.result.items in
    let kinds = map (λ l. l.items) c.copied_kinds.result in
    let time : to_z w64 (of_z w64 h.time) ≡ h.time = search rules in
    (λ j. kernel_of (held_with h.running h.handler (time j) h.places none rows c.copy.result kinds None [] []))
    ∙ (same_kernel h.running h.handler h.time h.places h.ready none h.sleepers rows h.objects c.copy.result h.kinds kinds h.outcome h.attached [] h.ahead []
    (ap (λ v. v.ready) c.self.view_is ∙ c.requires.ready) c.in_order.ensures
    (c.copy.ensures ∙ ap (λ t. t.objects) c.deref-tables.ensures) (c.copied_kinds.ensures ∙ ap (λ t. map (λ l. l.items) t.kinds) c.deref-tables.ensures)
    (ap (λ v. v.outcome) c.self.view_is ∙ c.requires.outcome)
    ∙ ap (λ v. record (kernel_of v) { pending = [] }) c.self.view_is)

pub returns-clause-handler : goal.returns-clause-handler
returns-clause-handler g c = ap (λ v. v.handler) c.self.view_is
