use Rattle.std.proofs.Common.{◌≡◌, Some, of_z, rules, subst, to_z, w64}
use Rattle.machine.specs.Bounds.{IsBound}
use Rattle.adarun.specs.Timed.{WritesItsMeaningUntil}
use Rattle.adarun.proofs.WithinTime.{meant_until}
use Rattle.adarun.proofs.timed.go_until.Goals as goal

pub returns-in-Ok-run_within-clause-meaning : goal.returns-in-Ok-run_within-clause-meaning
returns-in-Ok-run_within-clause-meaning g c =
    let until = to_z w64 (of_z w64 c.args.until) in
    let u : until ≡ c.args.until = search rules in
    let bound = c.in-Ok-bound_of.bound in
    subst
    (λ z. WritesItsMeaningUntil c.args.source.now c.args.schedule.now z c.args.limit bound.cut c.in-Ok-run_within.outcome (g.S.Sink.bytes c.args.sink.now)
    (g.S.Sink.bytes c.run_within.new.sink))
    u
    (meant_until c.in-Ok-run_within.outcome _ _ _ _ until c.args.limit bound _ _ c.left_unmoved.ensures c.kernel_kept.ensures
    (record {
      leads = c.code_leads_on.ensures.leads_on;
      starts = c.steps_whole.ensures.starts;
      steps = c.steps_whole.ensures.steps;
      unseen = c.steps_whole.ensures.unseen;
      sound = c.steps_whole.ensures.runner;
    })
    c.in-Ok.ensures.means c.in-Ok-read.ensures.read c.in-Ok-bound_of.ensures.bound c.in-Ok-run_within.ensures.text c.in-Ok-run_within.ensures.ends)

pub returns-clause-beginning : goal.returns-clause-beginning
returns-clause-beginning g c = λ is.
    let until = to_z w64 (of_z w64 c.args.until) in
    let u : until ≡ c.args.until = search rules in
    record {
      schedule = c.in-Ok-read.schedule;
      is_schedule = c.in-Ok-read.ensures.read;
      image = c.in-Ok.image;
      compiles = c.in-Ok.ensures.means;
      bound = c.in-Ok-bound_of.bound;
      bounded = subst (λ z. IsBound c.in-Ok.image c.in-Ok-read.schedule (Some z) c.args.limit c.in-Ok-bound_of.bound) u c.in-Ok-bound_of.ensures.bound;
      begins = c.in-Err-run_within.ensures.beginning;
    }
