use Rattle.std.proofs.Common.{◌≡◌, ◌∙◌, refl, subst}
use Rattle.processor.specs.Decoding.{HasAllWords, words_in}
use Rattle.execution.specs.Held.{HeldWorld, tasks_in}
use Rattle.execution.specs.Saving.{AreContentsOf}
use Rattle.execution.proofs.Restoring.{contents_are}
use Rattle.execution.proofs.state.State.contents.Goals as goal

pub returns : goal.returns
returns g c =
    let program = c.self.inside.program in
    let rows = c.self.inside.tasks.items in
    let image = c.image.ensures.same in
    let memory = c.self.inside.memory in
    let used = c.used_words.result.now in
    let h : HeldWorld = record {
      image = program;
      schedule = c.self.inside.schedule.now;
      memory = memory;
      tasks = tasks_in rows;
      tasking = c.self.inside.tasking;
    } in
    subst (λ v. AreContentsOf v (record { words = c.in_ok-words.words.items; tasks = c.in_ok-tasks.tasks.items })) c.self.view_is
    (contents_are h c.in_ok-words.words.items used c.in_ok-tasks.tasks.items rows c.in_ok-words.ensures
    (subst (λ i. words_in i used ≡ words_in i memory.shared) image c.used_words.ensures.words) (subst (λ i. HasAllWords i used) image c.used_words.ensures.all)
    (c.in_ok-tasks.ensures ∙ c.as_slice.ensures.value) refl c.self.invariant.2 c.self.invariant.1)
