use Rattle.std.proofs.Common.{◌∙◌, ◌++◌, ap, codes}
use Rattle.image.specs.Texts.{names_of}
use Rattle.waveforms.specs.Waves.{label_name, signal_code}
use Rattle.waveforms.proofs.Added.{both_added}
use Rattle.waveforms.proofs.declarations.add_label.Goals as goal

pub returns : goal.returns
returns c =
    let old = c.args.text.now.items in
    let begun = c.extend_from_slice.new.self.items in
    let coded = c.extend_from_slice-2.new.self.items in
    let apart = c.extend_from_slice-3.new.self.items in
    let named = c.add_label_name.new.text.items in
    let name = label_name (names_of c.args.image.now).task c.args.label.now in
    let code = signal_code c.args.signal in
    let code_is = c.in_ok-extend_from_slice-2.ensures.items ∙ ap (λ v. begun ++ v) (c.as_slice.ensures.value ∙ c.signal_code.ensures) in
    both_added old named c.extend_from_slice-4.new.self.items (codes "$var integer 64 " ++ code ++ codes " \\" ++ name) (codes " $end\n")
    (both_added old apart named (codes "$var integer 64 " ++ code ++ codes " \\") name
    (both_added old coded apart (codes "$var integer 64 " ++ code) (codes " \\")
    (both_added old begun coded (codes "$var integer 64 ") code c.in_ok-extend_from_slice.ensures.items code_is)
    c.in_ok-extend_from_slice-3.ensures.items) c.in_ok-add_label_name.ensures) c.in_ok-extend_from_slice-4.ensures.items
