use Rattle.std.proofs.Common.{◌∙◌, ◌++◌, ap, codes}
use Rattle.image.specs.Texts.{names_of}
use Rattle.waveforms.proofs.Added.{both_added}
use Rattle.waveforms.proofs.declarations.add_label_name.Goals as goal

pub returns : goal.returns
returns c =
    let old = c.args.text.now.items in
    let named = c.extend_from_slice.new.self.items in
    let apart = c.extend_from_slice-2.new.self.items in
    let label = c.args.label.now in
    let task = (names_of c.args.image.now).task in
    let name_is = c.as_slice.ensures.value ∙ c.actor_name.ensures.same ∙ ap task c.task.ensures in
    both_added old apart c.extend_from_slice-3.new.self.items (task label.task ++ codes ".") label.label
    (both_added old named apart (task label.task) (codes ".") (c.in_ok-extend_from_slice.ensures.items ∙ ap (λ v. old ++ v) name_is) c.in_ok-extend_from_slice-2.ensures.items)
    (c.in_ok-extend_from_slice-3.ensures.items ∙ ap (λ v. apart ++ v) c.label.ensures)
