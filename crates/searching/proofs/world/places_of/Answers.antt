use Rattle.std.proofs.Common.{◌≡◌, ◌≢◌, ℕ, ◌+◌, [], ◌∷◌, length, length-append, arith, ap, rules, subst, sym, ◌∙◌}
use Rattle.kernel.specs.State.{IsReady}
use Rattle.tasking.specs.Held.{kernel_of, place_at, place_of}
use Rattle.tasking.specs.declared.reports.Place.{Place as Stand}
use Rattle.tasking.specs.declared.reports.Place.TheVariants as places
use Rattle.searching.proofs.Kept.{more_each}
use Rattle.searching.proofs.world.places_of.Goals as goal

pub loop-task-preserved : goal.loop-task-preserved
loop-task-preserved g c =
    let l = c.loop-task in
    let stands = l.places.items in
    let place = c.place-place.result in
    let pushed = c.in_ok-push.ensures.items in
    let long = l.invariant.0 in
    let less = c.loop-task-test.true in
    let at : (u : ℕ) → Stand → Type 0 = λ u p. (place_of p ≡ (kernel_of c.args.tasking.now).place u) × (place_of p ≢ IsReady) in
    let here : at l.task place = (c.place-place.ensures, c.is_ready.ensures (search (rules, c.if-is_ready.false))) in (
      ap length pushed ∙ (length-append stands (place ∷ []) ∙ ap (λ n. n + 1) long),
      λ u lt.
          subst (λ xs. (place_at xs u ≡ (kernel_of c.args.tasking.now).place u) × (place_at xs u ≢ IsReady)) (sym pushed)
          (more_each places.Finished stands place at (λ v h. l.invariant.1 v (omega (arith, h, long)))
          (λ n e. let same : l.task ≡ n = omega (arith, e, long) in subst (λ m. at m place) same here) u (omega (arith, lt, long))),
      omega (arith, less),
    )

pub returns : goal.returns
returns g c =
    let l = c.loop-task in
    let long = l.invariant.0 in
    let low = l.invariant.2 in
    let past = c.loop-task-test.false in
    let count = c.task_count-count.ensures.same in
    record { count = omega (arith, long, low, past, count); each = λ u lt. l.invariant.1 u (omega (arith, lt, long)) }
