use Rattle.std.proofs.Common.{◌≡◌, rules, Some, true, false, cond, to_z, of_z, w64, ap, sym, ◌∙◌}
use Rattle.std.specs.Prelude.{int_lt}
use Rattle.kernel.specs.Clock.{some_queued}
use Rattle.tasking.specs.Held.{kernel_of}
use Rattle.tasking.proofs.Delivering.{wake_earlier}
use Rattle.tasking.proofs.tasking.Tasking.earlier.Goals as goal

pub returns-then-is_sooner : goal.returns-then-is_sooner
returns-then-is_sooner g c =
    let k = kernel_of c.args.self.now in
    let wake : to_z w64 (of_z w64 c.in-Some.wake) ≡ c.in-Some.wake = search rules in
    let sooner : int_lt c.in-Some.wake c.args.time ≡ true = search rules in
    ap Some wake
    ∙ (sym (ap (λ b. Some (cond b c.in-Some.wake c.args.time)) sooner)
    ∙ wake_earlier k.sleepers k.pending (some_queued k.queued k.partition.objects) c.args.time c.in-Some.wake c.requires (sym c.next_wake.ensures ∙ c.in-Some.is))

pub returns-else-is_sooner : goal.returns-else-is_sooner
returns-else-is_sooner g c =
    let k = kernel_of c.args.self.now in
    let time : to_z w64 (of_z w64 c.args.time) ≡ c.args.time = search rules in
    let later : int_lt c.in-Some.wake c.args.time ≡ false = search rules in
    ap Some time
    ∙ (sym (ap (λ b. Some (cond b c.in-Some.wake c.args.time)) later)
    ∙ wake_earlier k.sleepers k.pending (some_queued k.queued k.partition.objects) c.args.time c.in-Some.wake c.requires (sym c.next_wake.ensures ∙ c.in-Some.is))
