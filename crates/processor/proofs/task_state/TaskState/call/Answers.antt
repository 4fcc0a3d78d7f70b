use Rattle.std.proofs.Common.{◌-◌, ◌<◌, ◌≤◌, [], ◌∷◌, ◌++◌, length, take, drop, replicate, pos, sym, ap, subst, ◌∙◌, arith}
use Rattle.image.specs.Frames.{arguments}
use Rattle.processor.specs.Layout.{AreStacked, HeaderStack, RowWords, TaskRow, frame_in, frames_in, role_of}
use Rattle.processor.specs.declared.header.Header.{Header}
use Rattle.processor.specs.declared.task_state.TheConstants.{CALLERS}
use Rattle.processor.proofs.Stacking.{call_fits, called_frame, called_stacked, caller_frames, frames_count, own_words}
use Rattle.processor.proofs.task_state.TaskState.call.Goals as goal

pub begin-requires-clause-left : goal.begin-requires-clause-left
begin-requires-clause-left c =
    let s = c.self.inside.headers in
    let many = frames_count (take s.running.base c.self.inside.row.words) s.waiting in
    let few = subst (λ v. length v.task.callers < CALLERS) (sym c.self.view_is) c.requires.left in
    omega (arith, many, few)

pub begin-requires-clause-room : goal.begin-requires-clause-room
begin-requires-clause-room c =
    let s = c.self.inside.headers in
    let many = frames_count (take s.running.base c.self.inside.row.words) s.waiting in
    let few = subst (λ v. length v.task.callers < CALLERS) (sym c.self.view_is) c.requires.left in
    let room = call_fits (length c.self.inside.row.words) s.running s.waiting c.self.invariant.0 (omega (arith, many, few)) in
    let whole = c.self.invariant.2 in
    let narrow = c.self.invariant.3 in
    let locals = subst (λ v. c.args.subprogram.now.locals ≤ v.width) (sym c.self.view_is) c.requires.room in
    omega (arith, room, whole, narrow, locals)

pub returns-clause-frame : goal.returns-clause-frame
returns-clause-frame c =
    let row = c.self.inside.row.words in
    let s = c.self.inside.headers in
    let n = c.args.subprogram.now.parameters in
    let locals = c.args.subprogram.now.locals in
    let there = subst (λ v. n ≤ length v.task.frame.stack) (sym c.self.view_is) c.requires.there in
    (λ j. frame_in (c.begin.ensures.words j).words (c.begin.ensures.headers j).running)
    ∙ (called_frame row s c.self.inside.raising c.self.invariant.0.0 n locals c.args.number c.args.place c.args.role there c.requires.fits
    ∙ (λ j. record {
      subprogram = c.args.number;
      place = c.args.place;
      locals = arguments n (c.self.view_is j).task.frame.stack ++ replicate (locals - n) (pos 0);
      stack = [];
      role = role_of c.args.role;
    }))

pub returns-clause-callers : goal.returns-clause-callers
returns-clause-callers c =
    let row = c.self.inside.row.words in
    let s = c.self.inside.headers in
    let n = c.args.subprogram.now.parameters in
    let locals = c.args.subprogram.now.locals in
    let there = subst (λ v. n ≤ length v.task.frame.stack) (sym c.self.view_is) c.requires.there in
    (λ j. frames_in (take (c.begin.ensures.headers j).running.base (c.begin.ensures.words j).words) (c.begin.ensures.headers j).waiting)
    ∙ (caller_frames row s c.self.inside.raising c.self.invariant.0.0 n locals c.args.number c.args.place c.args.role there c.requires.fits
    ∙ ap {A = TaskRow} (λ v. record v.task.frame { stack = drop n v.task.frame.stack } ∷ v.task.callers) c.self.view_is)

pub invariant_of-self : goal.invariant_of-self
invariant_of-self c =
    let row = c.self.inside.row.words in
    let s = c.self.inside.headers in
    let most = c.self.inside.width in
    let n = c.args.subprogram.now.parameters in
    let locals = c.args.subprogram.now.locals in
    let lies = c.self.invariant.0.0 in
    let there = subst (λ v. n ≤ length v.task.frame.stack) (sym c.self.view_is) c.requires.there in
    let room = subst (λ v. locals ≤ v.width) (sym c.self.view_is) c.requires.room in
    let own = own_words row s.running lies in
    let width = lies.few in
    let many = frames_count (take s.running.base row) s.waiting in
    let few = subst (λ v. length v.task.callers < CALLERS) (sym c.self.view_is) c.requires.left in
    let stacked = called_stacked row s c.self.inside.raising lies n locals c.args.number c.args.place c.args.role there c.requires.fits (omega (arith, own, width)) room c.self.invariant.0.1 in
    let more = ap {A = HeaderStack} (λ h. length h.waiting) c.begin.ensures.headers in (
      subst (λ h. AreStacked most (length c.begin.new.row.words) (h.running ∷ h.waiting)) (sym c.begin.ensures.headers)
          (subst (λ w. AreStacked most (length w.words) ((let callee : Header = record { subprogram = c.args.number; place = c.args.place; locals = locals; base = length row - n; role = c.args.role } in callee) ∷ s.running ∷ s.waiting)) (sym c.begin.ensures.words) stacked),
      omega (arith, more, many, few),
      ap {A = RowWords} (λ w. w.room) c.begin.ensures.words ∙ c.self.invariant.2,
      c.self.invariant.3,
    )
