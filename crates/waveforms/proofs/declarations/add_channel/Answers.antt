use Rattle.std.proofs.Common.{◌∙◌, ◌++◌, ap, codes, decimal, rules}
use Rattle.waveforms.specs.Waves.{signal_code}
use Rattle.waveforms.proofs.Added.{both_added}
use Rattle.waveforms.proofs.declarations.add_channel.Goals as goal

pub returns : goal.returns
returns c =
    let old = c.args.text.now.items in
    let begun = c.extend_from_slice.new.self.items in
    let coded = c.extend_from_slice-2.new.self.items in
    let apart = c.extend_from_slice-3.new.self.items in
    let named = c.extend_from_slice-4.new.self.items in
    let code = signal_code c.args.signal in
    let number = decimal c.args.channel in
    let code_is = c.in_ok-extend_from_slice-2.ensures.items ∙ ap (λ v. begun ++ v) (c.as_slice.ensures.value ∙ c.signal_code.ensures) in
    both_added old named c.extend_from_slice-5.new.self.items (codes "$var integer 64 " ++ code ++ codes " CHANNEL_" ++ number) (codes " $end\n")
    (both_added old apart named (codes "$var integer 64 " ++ code ++ codes " CHANNEL_") number
    (both_added old coded apart (codes "$var integer 64 " ++ code) (codes " CHANNEL_")
    (both_added old begun coded (codes "$var integer 64 ") code c.in_ok-extend_from_slice.ensures.items code_is)
    c.in_ok-extend_from_slice-3.ensures.items) (search rules)) c.in_ok-extend_from_slice-5.ensures.items
