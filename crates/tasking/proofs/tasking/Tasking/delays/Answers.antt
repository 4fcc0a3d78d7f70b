use Rattle.std.proofs.Common.{◌≡◌, false, int_lt, rules, ap, sym, to_z, of_z, w64, ◌∙◌}
use Rattle.kernel.specs.Dispatching.{becomes_ready}
use Rattle.tasking.specs.Held.{kernel_of}
use Rattle.tasking.proofs.Waking.{late_is}
use Rattle.tasking.proofs.tasking.Tasking.delays.Goals as goal

pub returns-else-is_later : goal.returns-else-is_later
returns-else-is_later g c =
    let k = kernel_of c.args.self.now in
    let read : to_z w64 (of_z w64 c.self.inside.time) ≡ c.self.inside.time = search rules in
    let now : to_z w64 (of_z w64 c.self.inside.time) ≡ k.now = read ∙ ap (λ v. v.time) c.self.view_is in
    let until : to_z w64 (of_z w64 c.args.until) ≡ c.args.until = search rules in
    let late : int_lt k.now c.args.until ≡ false = (λ i. int_lt (sym now i) (sym until i)) ∙ c.if-is_later.false in
    c.becomes_ready.ensures ∙ (ap (becomes_ready c.args.task) c.leaves.ensures.moved ∙ late_is k c.args.task c.args.until late)
