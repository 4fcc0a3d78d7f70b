use Rattle.std.proofs.Common.{◌≡◌, ℕ, [], Option, Some, None, false, is_some, to_z, of_z, w64, refl, ap, sym, ◌∙◌}
use Rattle.std.proofs.lemmas.Bool.{true≢false}
use Rattle.tasking.specs.Held.{kernel_of}
use Rattle.tasking.proofs.Delivering.{woken_runs}
use Rattle.tasking.proofs.tasking.Tasking.clock.Goals as goal

no_some : (o : Option ℕ) → is_some o ≡ false → o ≡ None
no_some None e = refl
no_some (Some a) e = absurd (true≢false e)

pub deliver-requires : goal.deliver-requires
deliver-requires g c =
    let n = kernel_of c.next_time.new.self in
    ap (λ v. v.running) c.wake_due.ensures
    ∙ (woken_runs n.sleepers (record n { now = to_z w64 (of_z w64 c.in-Some.time); sleepers = [] })
    ∙ (ap (λ v. v.running) c.next_time.ensures.same ∙ (sym c.running.ensures.same ∙ no_some c.running.result c.if-is_none.ensures)))
