use Rattle.std.proofs.Common.{◌≡◌, ◌⊎◌, ◌+◌, [], ◌∷◌, drop, length, length-append, get_or, arith, ap, of_z, rules, subst, sym, to_z, w64, ◌∙◌}
use Rattle.base.specs.Schedule.{input}
use Rattle.searching.proofs.Kept.{more_each}
use Rattle.searching.specs.Following.{AreValues}
use Rattle.searching.specs.Meeting.{IsSetAnew}
use Rattle.searching.proofs.crossing.values_before.Goals as goal

pub loop-channel-preserved : goal.loop-channel-preserved
loop-channel-preserved c =
    let l = c.loop-channel in
    let tail = drop c.args.front c.args.slots.now in
    let values = l.values.items in
    let time = to_z w64 (of_z w64 c.args.time) in
    let last = to_z w64 (of_z w64 c.args.last) in
    let given = c.value_before.result in
    let v : to_z w64 (of_z w64 given) ≡ given = search rules in
    let value = to_z w64 (of_z w64 given) in
    let pushed = c.in_ok-push.ensures.items in
    let long = l.invariant.0 in
    let less = c.loop-channel-test.true in
    let is : IsSetAnew time (l.channel + 1) tail ⊎ (value ≡ input c.args.schedule.now (l.channel + 1) last) =
    subst (λ z. IsSetAnew time (l.channel + 1) tail ⊎ (z ≡ input c.args.schedule.now (l.channel + 1) last)) (sym v) c.value_before.ensures in (
      ap length pushed ∙ (length-append values (value ∷ []) ∙ ap (λ n. n + 1) long),
      λ place d lt.
          subst (λ xs. IsSetAnew time (place + 1) tail ⊎ (get_or xs place d ≡ input c.args.schedule.now (place + 1) last)) (sym pushed)
          (more_each d values value (λ n x. IsSetAnew time (n + 1) tail ⊎ (x ≡ input c.args.schedule.now (n + 1) last))
          (λ u h. l.invariant.1 u d (omega (arith, h, long)))
          (λ n e.
          let same : l.channel ≡ n = omega (arith, e, long) in
          subst (λ m. IsSetAnew time (m + 1) tail ⊎ (value ≡ input c.args.schedule.now (m + 1) last)) same is) place (omega (arith, lt, long))),
      omega (arith, less),
    )

pub returns : goal.returns
returns c =
    let l = c.loop-channel in
    let tail = drop c.args.front c.args.slots.now in
    let last = to_z w64 (of_z w64 c.args.last) in
    let t : to_z w64 (of_z w64 c.args.time) ≡ c.args.time = search rules in
    let u : last ≡ c.args.last = search rules in
    let long = l.invariant.0 in
    let low = l.invariant.2 in
    let past = c.loop-channel-test.false in
    subst (λ z. AreValues tail z c.args.schedule.now c.args.last l.values.items) t
    (subst (λ n. AreValues tail (to_z w64 (of_z w64 c.args.time)) c.args.schedule.now n l.values.items) u
    (record { count = omega (arith, long, low, past); each = λ place d lt. l.invariant.1 place d (omega (arith, lt, low, past)) }))
