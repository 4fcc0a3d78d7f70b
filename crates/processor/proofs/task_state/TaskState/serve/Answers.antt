use Rattle.std.proofs.Common.{◌-◌, ◌<◌, ◌≤◌, ◌∷◌, ◌++◌, pos, replicate, length, length-append, take, sym, ap, subst, ◌∙◌, arith}
use Rattle.processor.specs.Layout.{AreStacked, HeaderStack, RowWords}
use Rattle.processor.specs.declared.header.Header.{Header}
use Rattle.processor.specs.declared.task_state.TheConstants.{CALLERS}
use Rattle.processor.proofs.Stacking.{call_fits, frames_count, served_stacked}
use Rattle.processor.proofs.task_state.TaskState.serve.Goals as goal

pub append-requires : goal.append-requires
append-requires c =
    let s = c.self.inside.headers in
    let many = frames_count (take s.running.base c.self.inside.row.words) s.waiting in
    let few = subst (λ v. length v.task.callers < CALLERS) (sym c.self.view_is) c.requires.left in
    let room = call_fits (length c.self.inside.row.words) s.running s.waiting c.self.invariant.0 (omega (arith, many, few)) in
    let there = c.requires.there in
    let fits = c.requires.fits in
    let whole = c.self.invariant.2 in
    let narrow = c.self.invariant.3 in
    let locals = subst (λ v. c.args.subprogram.now.locals ≤ v.width) (sym c.self.view_is) c.requires.room in
    omega (arith, room, there, fits, whole, narrow, locals)

pub begin-requires-clause-left : goal.begin-requires-clause-left
begin-requires-clause-left c =
    let s = c.self.inside.headers in
    let many = frames_count (take s.running.base c.self.inside.row.words) s.waiting in
    let few = subst (λ v. length v.task.callers < CALLERS) (sym c.self.view_is) c.requires.left in
    omega (arith, many, few)

pub begin-requires-clause-room : goal.begin-requires-clause-room
begin-requires-clause-room c =
    let s = c.self.inside.headers in
    let many = frames_count (take s.running.base c.self.inside.row.words) s.waiting in
    let few = subst (λ v. length v.task.callers < CALLERS) (sym c.self.view_is) c.requires.left in
    let room = call_fits (length c.self.inside.row.words) s.running s.waiting c.self.invariant.0 (omega (arith, many, few)) in
    let there = c.requires.there in
    let fits = c.requires.fits in
    let whole = ap {A = RowWords} (λ w. w.room) c.append.ensures ∙ c.self.invariant.2 in
    let narrow = c.self.invariant.3 in
    let locals = subst (λ v. c.args.subprogram.now.locals ≤ v.width) (sym c.self.view_is) c.requires.room in
    let words = ap {A = RowWords} (λ w. length w.words) c.append.ensures ∙ length-append c.self.inside.row.words c.args.parameters.now in
    omega (arith, room, there, fits, whole, narrow, locals, words)

pub invariant_of-self : goal.invariant_of-self
invariant_of-self c =
    let row = c.self.inside.row.words in
    let s = c.self.inside.headers in
    let most = c.self.inside.width in
    let n = c.args.subprogram.now.parameters in
    let locals = c.args.subprogram.now.locals in
    let parameters = c.args.parameters.now in
    let room = subst (λ v. locals ≤ v.width) (sym c.self.view_is) c.requires.room in
    let many = frames_count (take s.running.base row) s.waiting in
    let few = subst (λ v. length v.task.callers < CALLERS) (sym c.self.view_is) c.requires.left in
    let stacked = served_stacked row s c.self.inside.raising c.self.invariant.0.0 parameters n locals c.args.number c.args.place c.args.role c.requires.there c.requires.fits room c.self.invariant.0.1 in
    let all = ap {A = RowWords} (λ w. w.words) c.append.ensures in
    let words = ap {A = RowWords} (λ w. w.words) c.begin.ensures.words ∙ ap (λ w. w ++ replicate (locals - n) (pos 0)) all in
    let headers = c.begin.ensures.headers ∙ (λ j. record { running = record { subprogram = c.args.number; place = c.args.place; locals = locals; base = length (all j) - n; role = c.args.role }; waiting = s.running ∷ s.waiting }) in
    let more = ap {A = HeaderStack} (λ h. length h.waiting) headers in (
      subst (λ h. AreStacked most (length c.begin.new.row.words) (h.running ∷ h.waiting)) (sym headers)
          (subst (λ w. AreStacked most (length w) ((let callee : Header = record { subprogram = c.args.number; place = c.args.place; locals = locals; base = length (row ++ parameters) - n; role = c.args.role } in callee) ∷ s.running ∷ s.waiting)) (sym words) stacked),
      omega (arith, more, many, few),
      ap {A = RowWords} (λ w. w.room) c.begin.ensures.words ∙ (ap {A = RowWords} (λ w. w.room) c.append.ensures ∙ c.self.invariant.2),
      c.self.invariant.3,
    )
