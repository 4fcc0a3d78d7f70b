use Rattle.waveforms.proofs.Declared.{variables_next}
use Rattle.waveforms.proofs.declarations.add_variables.Goals as goal

pub loop-variable-preserved : goal.loop-variable-preserved
loop-variable-preserved c =
    let l = c.loop-variable in
    variables_next c.args.text.now.items l.text.items c.add_variable.new.text.items c.args.first l.signal c.in_ok-signal.signal c.args.variables.now l.variable-index
    c.variable-item.result c.loop-variable-test.true c.variable-item.is l.invariant c.in_ok-add_variable.ensures c.in_ok-signal.ensures
