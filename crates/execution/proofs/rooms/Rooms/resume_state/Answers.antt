use Rattle.std.proofs.Common.{◌+◌, drop, ap, subst, sym, ◌∙◌, length}
use Rattle.image.specs.Attachments.{interrupts}
use Rattle.image.specs.Code.{partition_of}
use Rattle.image_laws.specs.Room.{widest}
use Rattle.processor.specs.Decoding.{HasAllWords, words_in}
use Rattle.tasking.specs.Held.{kernel_of}
use Rattle.execution.specs.Held.{HeldWorld, RowsAreWide, tasks_in}
use Rattle.execution.specs.Saving.{HeldContents}
use Rattle.execution.proofs.Restoring.{restored_world}
use Rattle.execution.proofs.rooms.Rooms.resume_state.Goals as goal

pub restore-requires : goal.restore-requires
restore-requires g c =
    let image = c.image-image.ensures.same ∙ c.self.view_is in
    let words = c.as_slice.ensures.value ∙ ap {A = HeldContents} (λ v. v.words) c.contents.view_is in
    subst (λ l. HasAllWords c.image-image.result.now l) (sym words)
    (subst (λ i. HasAllWords i c.args.contents.now.words) (sym image) c.requires.fits.all)

pub restore_rows-requires-clause-count : goal.restore_rows-requires-clause-count
restore_rows-requires-clause-count g c =
    let tasks = c.as_slice-2.ensures.value ∙ ap {A = HeldContents} (λ v. v.tasks) c.contents.view_is in
    c.self.invariant.1 ∙ (ap (λ i. length i.tasks + 1) c.self.view_is ∙ (sym c.requires.fits.count ∙ sym (ap length tasks)))

pub restore_rows-requires-clause-wide : goal.restore_rows-requires-clause-wide
restore_rows-requires-clause-wide g c =
    let tasks = c.as_slice-2.ensures.value ∙ ap {A = HeldContents} (λ v. v.tasks) c.contents.view_is in (
      widest c.args.self,
      subst (λ i. RowsAreWide (widest i) c.self.inside.tasks.items) c.self.view_is c.self.invariant.2,
      subst (RowsAreWide (widest c.args.self)) (sym tasks) c.requires.fits.wide,
    )

pub resume_tasking-tasking-requires-clause-partition : goal.resume_tasking-tasking-requires-clause-partition
resume_tasking-tasking-requires-clause-partition g c =
    let image = c.image-image.ensures.same ∙ c.self.view_is in
    c.requires.whole.partition ∙ ap partition_of (sym image)

pub invariant_of-result : goal.invariant_of-result
invariant_of-result g c =
    let tasks = c.restore_rows.ensures ∙ (c.as_slice-2.ensures.value ∙ ap {A = HeldContents} (λ v. v.tasks) c.contents.view_is) in (
      c.self.invariant.0,
      ap length tasks ∙ (c.requires.fits.count ∙ ap (λ i. length i.tasks + 1) (sym c.self.view_is)),
      subst (λ i. RowsAreWide (widest i) c.restore_rows.new.rows.items) (sym c.self.view_is) (subst (RowsAreWide (widest c.args.self)) (sym tasks) c.requires.fits.wide),
    )

pub returns-clause-image : goal.returns-clause-image
returns-clause-image g c = c.self.view_is

pub returns-clause-world : goal.returns-clause-world
returns-clause-world g c =
    let image = c.image-image.ensures.same ∙ c.self.view_is in
    let words = c.as_slice.ensures.value ∙ ap {A = HeldContents} (λ v. v.words) c.contents.view_is in
    let tasks = c.restore_rows.ensures ∙ (c.as_slice-2.ensures.value ∙ ap {A = HeldContents} (λ v. v.tasks) c.contents.view_is) in
    let left = drop c.args.passed c.args.schedule.now in
    let pause = c.args.pause.now in
    let h : HeldWorld = record {
      image = c.self.inside.program;
      schedule = c.args.schedule.now;
      memory = c.restore.new.self;
      tasks = tasks_in c.restore_rows.new.rows.items;
      tasking = c.resume_tasking-tasking.result;
    } in
    restored_world h c.args.self c.args.contents.now pause (interrupts c.args.self left) c.self.view_is
    ((λ j. words_in (sym image j) c.restore.new.self.shared) ∙ (c.restore.ensures ∙ (λ j. words_in (image j) (words j))))
    (ap tasks_in tasks) c.resume_tasking-tasking.ensures.handler
    (c.resume_tasking-tasking.ensures.kernel ∙ ap (λ i. record (kernel_of pause) { pending = interrupts i left }) image)
