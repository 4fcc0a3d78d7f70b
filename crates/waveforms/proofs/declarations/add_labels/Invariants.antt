use Rattle.std.proofs.Common.{◌≡◌, ◌+◌, ◌++◌, drop}
use Rattle.image.specs.Texts.{names_of}
use Rattle.waveforms.specs.Waves.{labels_text}
use Rattle.waveforms.proofs.declarations.add_labels.Given as goal

-- the declarations of the labels that are left are still to come
abbrev pub invariant-loop-label : goal.invariant-loop-label
invariant-loop-label l =
    (l.text.items ++ labels_text (names_of l.image).task l.signal (drop l.label-index l.labels) ≡ l.fn.text.items ++ labels_text (names_of l.image).task l.fn.first l.labels)
    × (l.signal ≡ l.fn.first + l.label-index)
