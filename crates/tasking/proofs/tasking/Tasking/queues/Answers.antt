use Rattle.std.proofs.Common.{◌≡◌, true, Result, Ok, Err}
use Rattle.std.specs.Prelude.{OnOk}
use Rattle.std.specs.Result.{is_ok}
use Rattle.protected.specs.declared.refusal.Refusal.{Refusal as Refused}
use Rattle.tasking.proofs.Moves.{lent_kept, lent_same, seen}
use Rattle.tasking.proofs.Objects.{queues_is}
use Rattle.tasking.proofs.tasking.Tasking.queues.Goals as goal

done : {P : Type 0} (answer : Result (Unit {0}) Refused) → true ≡ is_ok answer → OnOk answer P → P
done (Ok u) e promised = promised
done (Err refused) e promised = absurd (cc)

pub returns-then-is_ok : goal.returns-then-is_ok
returns-then-is_ok g c =
    let now = lent_same (seen c.self.view_is) c.deref_mut.ensures.value c.self.view_is in
    let kept = lent_kept (seen c.self.view_is) c.deref_mut.ensures.value c.self.invariant in
    queues_is (seen now) c.args.self.now now kept c.args.task c.args.object c.requires.task c.requires.object c.from.result
    c.queue.new.self c.from.ensures (done c.queue.result c.if-is_ok.ensures.value c.queue.ensures.waits)
