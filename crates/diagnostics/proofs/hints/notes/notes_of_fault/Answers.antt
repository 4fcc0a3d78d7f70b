use Rattle.std.proofs.lemmas.Result.{IfOk-weaker}
use Rattle.diagnostics.proofs.Unexpected.{at_fault}
use Rattle.diagnostics.proofs.hints.notes.notes_of_fault.Goals as goal

pub returns-then-fault-eq-UNEXPECTED_TOKEN : goal.returns-then-fault-eq-UNEXPECTED_TOKEN
returns-then-fault-eq-UNEXPECTED_TOKEN c =
    IfOk-weaker c.notes_of_tokens.result _ _
    (λ notes at. at_fault c.args.text.now notes.items c.args.list.now c.args.fault.now c.requires.spells c.requires.faulty c.if-fault-eq-UNEXPECTED_TOKEN.true at)
    c.notes_of_tokens.ensures
