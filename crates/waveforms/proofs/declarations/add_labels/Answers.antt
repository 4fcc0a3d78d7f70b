use Rattle.image.specs.Texts.{names_of}
use Rattle.waveforms.proofs.Declared.{labels_next}
use Rattle.waveforms.proofs.declarations.add_labels.Goals as goal

pub loop-label-preserved : goal.loop-label-preserved
loop-label-preserved c =
    let l = c.loop-label in
    labels_next (names_of c.args.image.now).task c.args.text.now.items l.text.items c.add_label.new.text.items c.args.first l.signal c.in_ok-signal.signal c.args.labels.now l.label-index
    c.label-item.result c.loop-label-test.true c.label-item.is l.invariant c.in_ok-add_label.ensures c.in_ok-signal.ensures
