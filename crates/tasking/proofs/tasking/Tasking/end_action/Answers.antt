use Rattle.std.proofs.Common.{inr, ap, ◌∙◌}
use Rattle.kernel.specs.Clock.{clock}
use Rattle.kernel.specs.Dispatching.{dispatch}
use Rattle.kernel.specs.Effects.{Ends, ending_of, ends, goes_if, outer_of}
use Rattle.tasking.specs.Held.{ending_as, kernel_of}
use Rattle.tasking.specs.Orderly.{is_gone}
use Rattle.tasking.proofs.Ends.{ended_runs, gone_over, may_end}
use Rattle.tasking.proofs.tasking.Tasking.end_action.Goals as goal

pub ending-ending-requires : goal.ending-ending-requires
ending-ending-requires g c = inr c.requires.running

pub ends_by-requires-clause-task : goal.ends_by-requires-clause-task
ends_by-requires-clause-task g c = inr c.requires.running

pub ends_by-requires-clause-ready : goal.ends_by-requires-clause-ready
ends_by-requires-clause-ready g c =
    let k = kernel_of c.args.self.now in
    let t = c.args.task in
    may_end c.requires.kept.0 k t c.args.is_open c.ending-ending.result c.ending-ending.ensures.ending c.requires.running c.requires.kept.1
    (c.reaches_callers.ensures c.requires.kept.0 k t
    (Ends c.args.is_open) c.requires.running c.requires.kept.1) c.ending-ending.ensures.object

pub goes_if_over-is_over-requires : goal.goes_if_over-is_over-requires
goes_if_over-is_over-requires g c =
    let k = kernel_of c.args.self.now in
    let t = c.args.task in
    ap (λ v. v.running) c.ends_by.ensures ∙ (ended_runs t (ending_as c.ending-ending.result) (outer_of (k.actions t)) k ∙ c.requires.running)

pub returns-clause-kernel : goal.returns-clause-kernel
returns-clause-kernel g c =
    let k = kernel_of c.args.self.now in
    let t = c.args.task in
    let e = ending_of c.args.is_open (k.actions t) k.queued in
    let l = ends t e (outer_of (k.actions t)) k in
    c.settle.ensures
    ∙ ap (λ v. clock (dispatch v))
    (c.goes_if_over-is_over.ensures.kernel
    ∙ (ap (λ v. goes_if (is_gone v t) t v) (c.ends_by.ensures ∙ ap (λ x. ends t x (outer_of (k.actions t)) k) c.ending-ending.ensures.ending)
    ∙ ap (λ b. goes_if b t l) (gone_over c.requires.kept.0 k t e c.requires.kept.1 c.requires.running)))

pub returns-clause-over : goal.returns-clause-over
returns-clause-over g c =
    let k = kernel_of c.args.self.now in
    let t = c.args.task in
    let e = ending_of c.args.is_open (k.actions t) k.queued in
    c.goes_if_over-is_over.ensures.over
    ∙ (ap (λ v. is_gone v t) (c.ends_by.ensures ∙ ap (λ x. ends t x (outer_of (k.actions t)) k) c.ending-ending.ensures.ending)
    ∙ gone_over c.requires.kept.0 k t e c.requires.kept.1 c.requires.running)
