use Rattle.std.proofs.Common.{◌≡◌, ◌∙◌, ap, refl, subst, sym, take}
use Rattle.image_laws.specs.Room.{widest}
use Rattle.processor.specs.Decoding.{HasAllWords, words_in}
use Rattle.execution.specs.Encoding.{AreAdded}
use Rattle.execution.specs.Held.{HeldWorld, RowsAreWide, tasks_in}
use Rattle.execution.proofs.Added.{added, wide_taken}
use Rattle.execution.proofs.Restoring.{contents_are}
use Rattle.execution.proofs.state.State.add_contents.Goals as goal

pub add_rows-requires-clause-wide : goal.add_rows-requires-clause-wide
add_rows-requires-clause-wide g c =
    let program = c.self.inside.program in
    let rows = c.self.inside.tasks.items in
    let taken = c.first_rows-rows.ensures ∙ ap (take c.args.count) c.deref.ensures.value in
    subst (λ w. RowsAreWide w c.first_rows-rows.result.now) (sym c.width.ensures.is)
    (subst (RowsAreWide (widest program)) (sym taken) (wide_taken (widest program) c.args.count rows c.self.invariant.2))

pub returns : goal.returns
returns g c = λ e.
    let program = c.self.inside.program in
    let rows = c.self.inside.tasks.items in
    let image = c.image-image.ensures.same in
    let memory = c.self.inside.memory in
    let used = c.used_words-words.result.now in
    let h : HeldWorld = record {
      image = program;
      schedule = c.self.inside.schedule.now;
      memory = memory;
      tasks = tasks_in rows;
      tasking = c.self.inside.tasking;
    } in
    let are =
    contents_are h used used rows rows refl (subst (λ i. words_in i used ≡ words_in i memory.shared) image c.used_words-words.ensures.words)
    (subst (λ i. HasAllWords i used) image c.used_words-words.ensures.all) refl refl c.self.invariant.2 c.self.invariant.1 in
    let taken = c.first_rows-rows.ensures ∙ ap (take c.args.count) c.deref.ensures.value in
    let before = c.args.out.now.items in
    let after = c.add_rows.new.out.items in
    subst (λ v. AreAdded v c.args.count before after) c.self.view_is
    (added h c.args.count before c.add_counted.new.out.items after used rows c.first_rows-rows.result.now are c.in_ok-add_counted.ensures
    (c.in_ok-are_added.ensures e) taken)
