use Rattle.std.proofs.Common.{◌≡◌, ◌∙◌, ◌+◌, ◌++◌, OnOk, ap, append_assoc, codes, subst}
use Rattle.waveforms.specs.Signals.{components}
use Rattle.waveforms.specs.Waves.{declaration_text, variables_text}
use Rattle.waveforms.proofs.Added.{both_added}
use Rattle.waveforms.proofs.declarations.add_object_signals.Goals as goal

pub returns : goal.returns
returns c =
    let old = c.args.text.now.items in
    let one = c.extend_from_slice.new.self.items in
    let inside = declaration_text (codes "8") c.args.first (codes "inside") in
    let queued = declaration_text (codes "8") (c.args.first + 1) (codes "queued") in
    let two_is = c.as_slice-2.ensures.value ∙ c.declaration-2.ensures ∙ ap (λ s. declaration_text (codes "8") s (codes "queued")) c.in_ok-second.ensures in
    let both = both_added old one c.extend_from_slice-2.new.self.items inside queued
    (c.in_ok-extend_from_slice.ensures.items ∙ ap (λ v. old ++ v) (c.as_slice.ensures.value ∙ c.declaration.ensures))
    (c.in_ok-extend_from_slice-2.ensures.items ∙ ap (λ v. one ++ v) two_is) in
    subst (λ l. OnOk c.add_variables.result (c.add_variables.new.text.items ≡ l))
    ((λ j. both j ++ variables_text (c.in_ok-sum.ensures j) (c.components.ensures j))
    ∙ append_assoc old (inside ++ queued) (variables_text (c.args.first + 2) (components c.args.scopes.now c.args.object)))
    c.add_variables.ensures
