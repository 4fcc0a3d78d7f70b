use Rattle.std.proofs.Common.{◌≡◌, None, [], map, of_z, refl, rules, subst, sym, ap, to_z, w64, ◌∙◌}
use Rattle.kernel.specs.Invariant.{AreAttached}
use Rattle.tasking.specs.Held.{kernel_of, lists_below, pending_of}
use Rattle.tasking.specs.Orderly.{IsKeptOrderly}
use Rattle.base.specs.declared.limits.TheConstants.{PRIORITIES}
use Rattle.tasking.proofs.Moves.{seen}
use Rattle.tasking.proofs.Pausing.{copied_kept, held_with, new_lists, same_kernel, still_kept}
use Rattle.tasking.proofs.tasking.Tasking.resume.Goals as goal

pub invariant_of-result : goal.invariant_of-result
invariant_of-result g c =
    let h = seen c.pause.view_is in
    let q = g.R.Ready.queues c.new.result in
    let rows = g.D.Delays.sleepers c.sleeping.result in
    let objects = c.restore.new.self.objects in
    let kinds = map (λ l. l.items) c.restore.new.self.kinds in
    let objects_are = c.restore.ensures.objects ∙ ap (λ v. v.objects) (sym c.pause.view_is) in
    let kinds_are = c.restore.ensures.kinds ∙ ap (λ v. v.kinds) (sym c.pause.view_is) in
    let lines = c.args.lines.now in
    let time : to_z w64 (of_z w64 h.time) ≡ h.time = search rules in
    subst (λ t. IsKeptOrderly (held_with h.running h.handler t h.places (lists_below PRIORITIES q) rows objects kinds None c.args.attached lines)) (sym time)
    (copied_kept h.running h.handler h.time h.places (lists_below PRIORITIES q) h.sleepers rows h.objects objects h.kinds kinds None c.args.attached lines
    (c.sleeping.ensures ∙ c.as_slice.ensures.value) objects_are kinds_are
    (still_kept h.running h.handler h.time h.places (lists_below PRIORITIES (λ p. [])) (lists_below PRIORITIES q) h.sleepers h.objects h.kinds None None []
    c.args.attached [] lines (new_lists q c.new.ensures) c.pause.invariant c.requires.channels
    (subst (λ v. AreAttached (kernel_of v).partition (pending_of c.args.attached lines)) (sym c.pause.view_is) c.requires.attached)))

pub returns-clause-kernel : goal.returns-clause-kernel
returns-clause-kernel g c =
    let h = seen c.pause.view_is in
    let q = g.R.Ready.queues c.new.result in
    let rows = g.D.Delays.sleepers c.sleeping.result in
    let objects = c.restore.new.self.objects in
    let kinds = map (λ l. l.items) c.restore.new.self.kinds in
    let objects_are = c.restore.ensures.objects ∙ ap (λ v. v.objects) (sym c.pause.view_is) in
    let kinds_are = c.restore.ensures.kinds ∙ ap (λ v. v.kinds) (sym c.pause.view_is) in
    let lines = c.args.lines.now in
    let time : to_z w64 (of_z w64 h.time) ≡ h.time = search rules in
    (λ j. kernel_of (held_with h.running h.handler (time j) h.places (lists_below PRIORITIES q) rows objects kinds None c.args.attached lines))
    ∙ (same_kernel h.running h.handler h.time h.places (lists_below PRIORITIES (λ p. [])) (lists_below PRIORITIES q) h.sleepers rows h.objects objects h.kinds
    kinds None [] c.args.attached [] lines (new_lists q c.new.ensures) (c.sleeping.ensures ∙ c.as_slice.ensures.value) objects_are kinds_are refl
    ∙ ap (λ v. record (kernel_of v) { pending = pending_of c.args.attached lines }) c.pause.view_is)

pub returns-clause-handler : goal.returns-clause-handler
returns-clause-handler g c = ap (λ v. v.handler) c.pause.view_is
