use Rattle.std.proofs.Common.{Some, arith, refl, sym, ap, ◌∙◌, subst}
use Rattle.handlers.proofs.Searched.{Stands, arrives, fewer_left, goes_on, left, takes_it}
use Rattle.handlers.proofs.searching.Index.target.Goals as goal

pub loop-next-init : goal.loop-next-init
loop-next-init g c = (
  subst (λ o. Stands c.args.self.now c.args.place c.args.exception c.args.probes.now.exceptions o c.first-next.new.probes.exceptions) (sym c.first-next.ensures.first)
      (arrives c.args.self.now c.args.place c.args.exception c.args.probes.now.exceptions 0 c.args.self.now _ refl refl (omega (arith, c.first-next.ensures.exceptions))),
  refl,
)

pub returns-then-handles-clause-target : goal.returns-then-handles-clause-target
returns-then-handles-clause-target g c =
    let stands = subst (λ o. Stands c.args.self.now c.args.place c.args.exception c.args.probes.now.exceptions o c.loop-next.probes.exceptions) c.in-Some.is c.loop-next.invariant.0 in
    ap Some c.target.ensures
    ∙ takes_it c.self.inside.candidates.items _ c.self.view_is c.self.invariant.linked c.self.invariant.onwards c.args.place c.args.exception _ _ c.in-Some.number stands
    _ c.index-candidate.ensures (sym c.handles.ensures.handles ∙ c.if-handles.true)

pub loop-next-smaller : goal.loop-next-smaller
loop-next-smaller g c =
    let stands = subst (λ o. Stands c.args.self.now c.args.place c.args.exception c.args.probes.now.exceptions o c.loop-next.probes.exceptions) c.in-Some.is c.loop-next.invariant.0 in
    let fewer =
    fewer_left c.self.inside.candidates.items _ c.self.view_is c.self.invariant.linked c.self.invariant.onwards c.args.place c.args.exception _ _ c.in-Some.number stands
    _ c.index-candidate.ensures in
    omega (arith, fewer, ap (left c.args.self.now) c.around-next.ensures, ap (left c.args.self.now) c.in-Some.is)

pub loop-next-preserved : goal.loop-next-preserved
loop-next-preserved g c =
    let stands = subst (λ o. Stands c.args.self.now c.args.place c.args.exception c.args.probes.now.exceptions o c.loop-next.probes.exceptions) c.in-Some.is c.loop-next.invariant.0 in
    let on =
    goes_on c.self.inside.candidates.items _ c.self.view_is c.self.invariant.linked c.self.invariant.onwards c.args.place c.args.exception _ _ c.in-Some.number stands
    _ c.index-candidate.ensures (sym c.handles.ensures.handles ∙ c.if-handles.false) in (
      subst (λ o. Stands c.args.self.now c.args.place c.args.exception c.args.probes.now.exceptions o c.handles.new.probes.exceptions) (sym c.around-next.ensures)
          (subst (Stands c.args.self.now c.args.place c.args.exception c.args.probes.now.exceptions _) (sym c.handles.ensures.exceptions) on),
      c.handles.ensures.places ∙ c.loop-next.invariant.1,
    )
