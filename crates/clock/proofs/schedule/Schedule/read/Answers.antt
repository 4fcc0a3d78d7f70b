use Rattle.std.proofs.Common.{rules, length, vec_len, ◌≡◌, ◌<◌, sym, ◌∙◌, subst, IsTrue, int_le, pos, to_z, of_z, w64}
use Rattle.clock.proofs.Lines.{begins_more, last_of_more, schedule_more}
use Rattle.clock.proofs.schedule.Schedule.read.Goals as goal

pub loop-rest-preserved : goal.loop-rest-preserved
loop-rest-preserved c =
    let l = c.loop-rest in
    let line = c.in_ok-line.line in
    let next = c.in_ok-line.ensures.next in
    let within : vec_len l.lines < 4096 = subst (λ n. n < 4096) c.len.ensures next.1.0 in
    let few : length l.lines.items < 4096 = search (rules, within) in
    let same : to_z w64 (of_z w64 line.time) ≡ line.time = search rules in
    rw c.in_ok-push.ensures.items (
      begins_more c.args.text.now l.lines.items l.rest.now line c.in_ok-line.behind.now l.invariant.0 next.0,
      (
        schedule_more l.lines.items line l.invariant.1.0 few next.1.1.0 (subst (λ t. IsTrue (int_le t line.time)) l.invariant.1.1 next.1.1.1),
        same ∙ sym (last_of_more (pos 0) l.lines.items line),
      ),
    )
